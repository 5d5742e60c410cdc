use Rattle.std.proofs.Common.{refl, sym, ap, ◌∙◌}
use Rattle.std.proofs.lemmas.Result.{IfOk-from_err}
use Rattle.pg_expr.proofs.ExitLemmas.{fault_passed}
use Rattle.pg_meaning.specs.Entries.{set_keys}
use Rattle.pg_meaning.specs.Graph.{Graph, add_node}
use Rattle.pg_meaning.specs.Meters.{test_counter}
use Rattle.pg_meaning.specs.Value.{Entries, no_entries}
use Rattle.pg_meaning.specs.declared.fault.Fault.TheVariants.{OutOfMemory}
use Rattle.pg_store.specs.Stores.{pairs_of, texts_of}
use Rattle.pg_write_make.proofs.RoomLemmas.{all_there, few_elements, id_left, none_new, no_properties}
use Rattle.pg_write_make.specs.Outcomes.{outcome_view, room_and_id, room_for}
use Rattle.pg_write_make.proofs.elements.add_labelled.Goals as goal

pub returns-in_err-properties-clause-ok : goal.returns-in_err-properties-clause-ok
returns-in_err-properties-clause-ok g c = IfOk-from_err c.from_residual.result _ c.from_residual.ensures.0

pub returns-in_err-properties-clause-id : goal.returns-in_err-properties-clause-id
returns-in_err-properties-clause-id g c = IfOk-from_err c.from_residual.result _ c.from_residual.ensures.0

pub returns-in_err-properties-clause-err : goal.returns-in_err-properties-clause-err
returns-in_err-properties-clause-err g c =
    let graph = c.args.live.now.graph in
    let make : Entries → Graph = λ es. add_node (texts_of c.args.labels.now.items) es graph in
    fault_passed _ c.in_err-properties.field-0.0 c.from_residual.result c.from_residual.ensures.1 (λ other. no_properties (outcome_view c.args.outcome) (room_for c.args.query.now.max_elements graph) (test_counter graph.next_node) make c.in_err-properties.field-0.0 (ap outcome_view c.in_err-properties.was))

pub returns-in_err-properties-clause-aside : goal.returns-in_err-properties-clause-aside
returns-in_err-properties-clause-aside g c = refl

pub returns-in_err-test_new-clause-ok : goal.returns-in_err-test_new-clause-ok
returns-in_err-test_new-clause-ok g c = IfOk-from_err c.from_residual-in_err-test_new.result _ c.from_residual-in_err-test_new.ensures.0

pub returns-in_err-test_new-clause-id : goal.returns-in_err-test_new-clause-id
returns-in_err-test_new-clause-id g c = IfOk-from_err c.from_residual-in_err-test_new.result _ c.from_residual-in_err-test_new.ensures.0

pub returns-in_err-test_new-clause-err : goal.returns-in_err-test_new-clause-err
returns-in_err-test_new-clause-err g c =
    let graph = c.args.live.now.graph in
    let make : Entries → Graph = λ es. add_node (texts_of c.args.labels.now.items) es graph in
    fault_passed _ c.in_err-test_new.field-0.0 c.from_residual-in_err-test_new.result c.from_residual-in_err-test_new.ensures.1 (λ other. none_new (outcome_view c.args.outcome) (room_for c.args.query.now.max_elements graph) (test_counter graph.next_node) make (set_keys (pairs_of c.in_ok-properties.properties.items) no_entries) (ap outcome_view c.in_ok-properties.was) c.in_err-test_new.field-0.0 (sym (c.in_err-test_new.ensures.is ∙ (λ i. room_and_id c.args.query.now.max_elements (c.next_ids.ensures.node i) (c.graph.ensures.is i)))))

pub returns-in_err-test_new-clause-aside : goal.returns-in_err-test_new-clause-aside
returns-in_err-test_new-clause-aside g c = refl

pub returns-in_err-create_node-clause-ok : goal.returns-in_err-create_node-clause-ok
returns-in_err-create_node-clause-ok g c = IfOk-from_err c.from_residual-in_err-create_node.result _ c.from_residual-in_err-create_node.ensures.0

pub returns-in_err-create_node-clause-id : goal.returns-in_err-create_node-clause-id
returns-in_err-create_node-clause-id g c = IfOk-from_err c.from_residual-in_err-create_node.result _ c.from_residual-in_err-create_node.ensures.0

pub returns-in_err-create_node-clause-err : goal.returns-in_err-create_node-clause-err
returns-in_err-create_node-clause-err g c = fault_passed _ OutOfMemory c.from_residual-in_err-create_node.result c.from_residual-in_err-create_node.ensures.1 (λ other. absurd (other refl))

pub returns-in_err-create_node-clause-aside : goal.returns-in_err-create_node-clause-aside
returns-in_err-create_node-clause-aside g c = c.create_node.ensures.aside

pub create_node-requires-clause-room : goal.create_node-requires-clause-room
create_node-requires-clause-room g c = id_left c.next_ids.result.node c.args.live.now.graph.next_node c.next_ids.ensures.node c.in_ok-test_new.ensures.below

pub create_node-requires-clause-count : goal.create_node-requires-clause-count
create_node-requires-clause-count g c = few_elements c.graph.result c.args.live.now.graph c.graph.ensures.is c.in_ok-test_new.ensures.left

pub returns-clause-ok : goal.returns-clause-ok
returns-clause-ok g c =
    let graph = c.args.live.now.graph in
    let make : Entries → Graph = λ es. add_node (texts_of c.args.labels.now.items) es graph in
    all_there (outcome_view c.args.outcome) (room_for c.args.query.now.max_elements graph) (test_counter graph.next_node) make (set_keys (pairs_of c.in_ok-properties.properties.items) no_entries) (ap outcome_view c.in_ok-properties.was) c.create_node.new.self.graph
    (sym (c.in_ok-test_new.ensures.is ∙ (λ i. room_and_id c.args.query.now.max_elements (c.next_ids.ensures.node i) (c.graph.ensures.is i)))) c.in_ok-create_node.ensures.ok

pub returns-clause-id : goal.returns-clause-id
returns-clause-id g c = c.in_ok-create_node.ensures.id

pub returns-clause-err : goal.returns-clause-err
returns-clause-err g c = tt

pub returns-clause-aside : goal.returns-clause-aside
returns-clause-aside g c = c.create_node.ensures.aside
