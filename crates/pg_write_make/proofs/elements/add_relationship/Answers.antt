use Rattle.std.proofs.Common.{refl, sym, ap, ◌∙◌}
use Rattle.std.proofs.lemmas.Result.{IfOk-from_err}
use Rattle.pg_expr.proofs.ExitLemmas.{fault_passed}
use Rattle.pg_meaning.specs.Entries.{set_keys}
use Rattle.pg_meaning.specs.Graph.{Graph}
use Rattle.pg_meaning.specs.Meters.{test_counter}
use Rattle.pg_meaning.specs.Patterns.{types_of, way_of}
use Rattle.pg_meaning.specs.Updates.{add_between, first_text}
use Rattle.pg_meaning.specs.Value.{Entries, no_entries}
use Rattle.pg_meaning.specs.declared.fault.Fault.TheVariants.{OutOfMemory}
use Rattle.pg_store.specs.Stores.{pairs_of}
use Rattle.pg_syntax_tree.specs.View.{relationship_view}
use Rattle.pg_write_make.proofs.RoomLemmas.{all_there, few_elements, id_left, none_new, no_properties}
use Rattle.pg_write_make.specs.Outcomes.{outcome_view, room_and_id, room_for}
use Rattle.pg_write_make.proofs.elements.add_relationship.Goals as goal

pub returns-in_err-properties-clause-ok : goal.returns-in_err-properties-clause-ok
returns-in_err-properties-clause-ok g c = IfOk-from_err c.from_residual.result _ c.from_residual.ensures.0

pub returns-in_err-properties-clause-id : goal.returns-in_err-properties-clause-id
returns-in_err-properties-clause-id g c = IfOk-from_err c.from_residual.result _ c.from_residual.ensures.0

pub returns-in_err-properties-clause-err : goal.returns-in_err-properties-clause-err
returns-in_err-properties-clause-err g c =
    let graph = c.args.live.now.graph in
    let make : Entries → Graph = λ es. add_between (way_of (relationship_view c.args.pattern.now)) (first_text (types_of (relationship_view c.args.pattern.now))) c.args.left.0 c.args.right.0 es graph in
    fault_passed _ c.in_err-properties.field-0.0 c.from_residual.result c.from_residual.ensures.1 (λ other. no_properties (outcome_view c.args.outcome) (room_for c.args.query.now.max_elements graph) (test_counter graph.next_relationship) make c.in_err-properties.field-0.0 (ap outcome_view c.in_err-properties.was))

pub returns-in_err-properties-clause-aside : goal.returns-in_err-properties-clause-aside
returns-in_err-properties-clause-aside g c = refl

pub returns-in_err-test_new-clause-ok : goal.returns-in_err-test_new-clause-ok
returns-in_err-test_new-clause-ok g c = IfOk-from_err c.from_residual-in_err-test_new.result _ c.from_residual-in_err-test_new.ensures.0

pub returns-in_err-test_new-clause-id : goal.returns-in_err-test_new-clause-id
returns-in_err-test_new-clause-id g c = IfOk-from_err c.from_residual-in_err-test_new.result _ c.from_residual-in_err-test_new.ensures.0

pub returns-in_err-test_new-clause-err : goal.returns-in_err-test_new-clause-err
returns-in_err-test_new-clause-err g c =
    let graph = c.args.live.now.graph in
    let make : Entries → Graph = λ es. add_between (way_of (relationship_view c.args.pattern.now)) (first_text (types_of (relationship_view c.args.pattern.now))) c.args.left.0 c.args.right.0 es graph in
    fault_passed _ c.in_err-test_new.field-0.0 c.from_residual-in_err-test_new.result c.from_residual-in_err-test_new.ensures.1 (λ other. none_new (outcome_view c.args.outcome) (room_for c.args.query.now.max_elements graph) (test_counter graph.next_relationship) make (set_keys (pairs_of c.in_ok-properties.properties.items) no_entries) (ap outcome_view c.in_ok-properties.was) c.in_err-test_new.field-0.0 (sym (c.in_err-test_new.ensures.is ∙ (λ i. room_and_id c.args.query.now.max_elements (c.next_ids.ensures.relationship i) (c.graph.ensures.is i)))))

pub returns-in_err-test_new-clause-aside : goal.returns-in_err-test_new-clause-aside
returns-in_err-test_new-clause-aside g c = refl

pub returns-in_err-add_between-clause-ok : goal.returns-in_err-add_between-clause-ok
returns-in_err-add_between-clause-ok g c = IfOk-from_err c.from_residual-in_err-add_between.result _ c.from_residual-in_err-add_between.ensures.0

pub returns-in_err-add_between-clause-id : goal.returns-in_err-add_between-clause-id
returns-in_err-add_between-clause-id g c = IfOk-from_err c.from_residual-in_err-add_between.result _ c.from_residual-in_err-add_between.ensures.0

pub returns-in_err-add_between-clause-err : goal.returns-in_err-add_between-clause-err
returns-in_err-add_between-clause-err g c = fault_passed _ OutOfMemory c.from_residual-in_err-add_between.result c.from_residual-in_err-add_between.ensures.1 (λ other. absurd (other refl))

pub returns-in_err-add_between-clause-aside : goal.returns-in_err-add_between-clause-aside
returns-in_err-add_between-clause-aside g c = c.add_between.ensures.aside

pub add_between-requires-clause-room : goal.add_between-requires-clause-room
add_between-requires-clause-room g c = id_left c.next_ids.result.rel c.args.live.now.graph.next_relationship c.next_ids.ensures.relationship c.in_ok-test_new.ensures.below

pub add_between-requires-clause-count : goal.add_between-requires-clause-count
add_between-requires-clause-count g c = few_elements c.graph.result c.args.live.now.graph c.graph.ensures.is c.in_ok-test_new.ensures.left

pub add_between-requires-clause-left : goal.add_between-requires-clause-left
add_between-requires-clause-left g c = c.requires.left

pub add_between-requires-clause-right : goal.add_between-requires-clause-right
add_between-requires-clause-right g c = c.requires.right

pub returns-clause-ok : goal.returns-clause-ok
returns-clause-ok g c =
    let graph = c.args.live.now.graph in
    let make : Entries → Graph = λ es. add_between (way_of (relationship_view c.args.pattern.now)) (first_text (types_of (relationship_view c.args.pattern.now))) c.args.left.0 c.args.right.0 es graph in
    all_there (outcome_view c.args.outcome) (room_for c.args.query.now.max_elements graph) (test_counter graph.next_relationship) make (set_keys (pairs_of c.in_ok-properties.properties.items) no_entries) (ap outcome_view c.in_ok-properties.was) c.add_between.new.live.graph
    (sym (c.in_ok-test_new.ensures.is ∙ (λ i. room_and_id c.args.query.now.max_elements (c.next_ids.ensures.relationship i) (c.graph.ensures.is i)))) (sym c.in_ok-add_between.ensures.ok)

pub returns-clause-id : goal.returns-clause-id
returns-clause-id g c = c.in_ok-add_between.ensures.id

pub returns-clause-err : goal.returns-clause-err
returns-clause-err g c = tt

pub returns-clause-aside : goal.returns-clause-aside
returns-clause-aside g c = c.add_between.ensures.aside
