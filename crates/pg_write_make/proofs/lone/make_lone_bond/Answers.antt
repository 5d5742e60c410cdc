use Rattle.std.proofs.Common.{◌∷◌, ◌++◌, [], false, List, Ok, map, refl, sym, ap, ◌∙◌}
use Rattle.std.proofs.lemmas.Result.{IfOk-from_err}
use Rattle.pg_expr.proofs.ExitLemmas.{fault_passed}
use Rattle.pg_meaning.specs.Graph.{Graph}
use Rattle.pg_meaning.specs.Patterns.{node_name}
use Rattle.pg_meaning.specs.Reading.{test_bound, test_nodes}
use Rattle.pg_meaning.specs.Rows.{Row}
use Rattle.pg_meaning.specs.Updates.{given_properties}
use Rattle.pg_meaning.specs.Walks.{bound_value}
use Rattle.pg_syntax_tree.specs.View.{hop_view, node_view, path_view}
use Rattle.pg_syntax_tree.specs.declared.patterns.NodePattern.{NodePattern}
use Rattle.pg_syntax_tree.specs.declared.patterns.RelationshipPattern.{RelationshipPattern}
use Rattle.pg_write_make.proofs.GrowthLemmas.{both_passed}
use Rattle.pg_write_make.proofs.LoneLemmas.{bond_comes, first_unfit, last_unfit, none_bound, on_bond}
use Rattle.pg_write_make.proofs.LoopLemmas.{first_is_tested, others_tested}
use Rattle.pg_write_make.proofs.PathLemmas.{none_named}
use Rattle.pg_write_make.specs.Makings.{bindings, making_with, others_view}
use Rattle.pg_write_make.specs.Outcomes.{node_of, outcome_view, trail_of}
use Rattle.pg_write_make.specs.Scenes.{max_elements_in, parameters_in, row_at}
use Rattle.pg_write_make.proofs.lone.make_lone_bond.Goals as goal

pub returns-in_err-first-clause-ok : goal.returns-in_err-first-clause-ok
returns-in_err-first-clause-ok g c = IfOk-from_err c.from_residual.result _ c.from_residual.ensures.0

pub returns-in_err-first-clause-err : goal.returns-in_err-first-clause-err
returns-in_err-first-clause-err g c = fault_passed _ c.in_err-first.field-0.0 c.from_residual.result c.from_residual.ensures.1 (λ other. absurd (other c.in_err-first.ensures.err))

pub returns-in_err-first-clause-aside : goal.returns-in_err-first-clause-aside
returns-in_err-first-clause-aside g c = refl

pub returns-in_err-last-clause-ok : goal.returns-in_err-last-clause-ok
returns-in_err-last-clause-ok g c = IfOk-from_err c.from_residual-in_err-last.result _ c.from_residual-in_err-last.ensures.0

pub returns-in_err-last-clause-err : goal.returns-in_err-last-clause-err
returns-in_err-last-clause-err g c = fault_passed _ c.in_err-last.field-0.0 c.from_residual-in_err-last.result c.from_residual-in_err-last.ensures.1 (λ other. absurd (other c.in_err-last.ensures.err))

pub returns-in_err-last-clause-aside : goal.returns-in_err-last-clause-aside
returns-in_err-last-clause-aside g c = refl

pub returns-in_err-between-clause-ok : goal.returns-in_err-between-clause-ok
returns-in_err-between-clause-ok g c = IfOk-from_err c.from_residual-in_err-between.result _ c.from_residual-in_err-between.ensures.0

pub returns-in_err-between-clause-err : goal.returns-in_err-between-clause-err
returns-in_err-between-clause-err g c = fault_passed _ c.in_err-between.field-0.0 c.from_residual-in_err-between.result c.from_residual-in_err-between.ensures.1 (λ other. absurd (other c.in_err-between.ensures.err))

pub returns-in_err-between-clause-aside : goal.returns-in_err-between-clause-aside
returns-in_err-between-clause-aside g c = refl

pub place_node-requires-clause-tested : goal.place_node-requires-clause-tested
place_node-requires-clause-tested g c = first_is_tested c.args.live.now.graph (row_at c.args.row.now) c.args.path.now c.requires.tested

pub place_node-requires-clause-there : goal.place_node-requires-clause-there
place_node-requires-clause-there g c = none_named c.args.live.now.graph c.new-named.result.items c.new-named.ensures.items

pub returns-in_err-left-clause-ok : goal.returns-in_err-left-clause-ok
returns-in_err-left-clause-ok g c = IfOk-from_err c.from_residual-in_err-left.result _ c.from_residual-in_err-left.ensures.0

pub returns-in_err-left-clause-err : goal.returns-in_err-left-clause-err
returns-in_err-left-clause-err g c =
    let p = path_view c.args.path.now in
    let scene = c.args.row.now.scene.now in
    let parameters = parameters_in scene in
    let max = max_elements_in scene in
    let row = row_at c.args.row.now in
    let graph = c.args.live.now.graph in
    let h = hop_view c.args.hop.now in
    let alone = ap (map hop_view) c.requires.alone in
    let unbound = none_bound row c.new-named.result.items c.new-named.ensures.items in
    let one = outcome_view c.in_ok-first.first in
    let same = ap (λ (gr : Graph). given_properties parameters gr row p.first.properties) (sym c.graph.ensures.is) ∙ c.in_ok-first.ensures.kept in
    fault_passed _ c.in_err-left.field-0.0 c.from_residual-in_err-left.result c.from_residual-in_err-left.ensures.1
    (λ other. first_unfit parameters max p graph row h alone one c.in_err-left.field-0.0 same (ap (λ (r : Row). node_of max one p.first (record { graph = graph; bound = r; ids = [] })) unbound ∙ c.in_err-left.ensures.err other []))

pub returns-in_err-left-clause-aside : goal.returns-in_err-left-clause-aside
returns-in_err-left-clause-aside g c = c.place_node.ensures.aside

pub place_node-requires-2-clause-tested : goal.place_node-requires-2-clause-tested
place_node-requires-2-clause-tested g c =
    let row = row_at c.args.row.now in
    let after = c.place_node.new.live.graph in
    let all = others_tested c.args.live.now.graph after row c.args.path.now c.in_ok-left.ensures.grows c.requires.tested in
    let last = sym (ap (λ (hs : List (RelationshipPattern × NodePattern)). test_nodes false after row (others_view hs)) c.requires.alone) ∙ all in
    (both_passed (test_bound false after (bound_value (node_name (node_view c.args.hop.now.1)) row)) (Ok tt) last).0

pub place_node-requires-2-clause-there : goal.place_node-requires-2-clause-there
place_node-requires-2-clause-there g c = c.in_ok-left.ensures.named

pub returns-in_err-right-clause-ok : goal.returns-in_err-right-clause-ok
returns-in_err-right-clause-ok g c = IfOk-from_err c.from_residual-in_err-right.result _ c.from_residual-in_err-right.ensures.0

pub returns-in_err-right-clause-err : goal.returns-in_err-right-clause-err
returns-in_err-right-clause-err g c =
    let p = path_view c.args.path.now in
    let scene = c.args.row.now.scene.now in
    let parameters = parameters_in scene in
    let max = max_elements_in scene in
    let row = row_at c.args.row.now in
    let graph = c.args.live.now.graph in
    let h = hop_view c.args.hop.now in
    let alone = ap (map hop_view) c.requires.alone in
    let unbound = none_bound row c.new-named.result.items c.new-named.ensures.items in
    let one = outcome_view c.in_ok-first.first in
    let same = ap (λ (gr : Graph). given_properties parameters gr row p.first.properties) (sym c.graph.ensures.is) ∙ c.in_ok-first.ensures.kept in
    let two = outcome_view c.in_ok-last.last in
    let same' = ap (λ (gr : Graph). given_properties parameters gr row h.1.properties) (sym c.graph-2.ensures.is) ∙ c.in_ok-last.ensures.kept in
    let first = ap (λ (r : Row). node_of max one p.first (record { graph = graph; bound = r; ids = [] })) unbound ∙ c.in_ok-left.ensures.ok [] in
    let after = c.place_node.new.live.graph in
    let made = making_with after row c.place_node.new.named.items (c.in_ok-left.left.0 ∷ []) in
    fault_passed _ c.in_err-right.field-0.0 c.from_residual-in_err-right.result c.from_residual-in_err-right.ensures.1
    (λ other. last_unfit parameters max p graph row h alone one made same first two c.in_err-right.field-0.0 same' (c.in_err-right.ensures.err other (c.in_ok-left.left.0 ∷ [])))

pub returns-in_err-right-clause-aside : goal.returns-in_err-right-clause-aside
returns-in_err-right-clause-aside g c = c.place_node-2.ensures.aside ∙ c.place_node.ensures.aside

pub add_relationship-requires-clause-left : goal.add_relationship-requires-clause-left
add_relationship-requires-clause-left g c = c.in_ok-right.ensures.grows c.in_ok-left.left.0 c.in_ok-left.ensures.there

pub add_relationship-requires-clause-right : goal.add_relationship-requires-clause-right
add_relationship-requires-clause-right g c = c.in_ok-right.ensures.there

pub returns-in_err-id-clause-ok : goal.returns-in_err-id-clause-ok
returns-in_err-id-clause-ok g c = IfOk-from_err c.from_residual-in_err-id.result _ c.from_residual-in_err-id.ensures.0

pub returns-in_err-id-clause-err : goal.returns-in_err-id-clause-err
returns-in_err-id-clause-err g c =
    let p = path_view c.args.path.now in
    let scene = c.args.row.now.scene.now in
    let parameters = parameters_in scene in
    let max = max_elements_in scene in
    let row = row_at c.args.row.now in
    let graph = c.args.live.now.graph in
    let h = hop_view c.args.hop.now in
    let alone = ap (map hop_view) c.requires.alone in
    let unbound = none_bound row c.new-named.result.items c.new-named.ensures.items in
    let one = outcome_view c.in_ok-first.first in
    let same = ap (λ (gr : Graph). given_properties parameters gr row p.first.properties) (sym c.graph.ensures.is) ∙ c.in_ok-first.ensures.kept in
    let two = outcome_view c.in_ok-last.last in
    let same' = ap (λ (gr : Graph). given_properties parameters gr row h.1.properties) (sym c.graph-2.ensures.is) ∙ c.in_ok-last.ensures.kept in
    let first = ap (λ (r : Row). node_of max one p.first (record { graph = graph; bound = r; ids = [] })) unbound ∙ c.in_ok-left.ensures.ok [] in
    let after = c.place_node.new.live.graph in
    let made = making_with after row c.place_node.new.named.items (c.in_ok-left.left.0 ∷ []) in
    let three = outcome_view c.in_ok-between.between in
    let same'' = ap (λ (gr : Graph). on_bond parameters max p gr row h.0) (sym c.graph-3.ensures.is) ∙ sym c.in_ok-between.ensures.kept in
    let later = c.place_node-2.new.live.graph in
    let bound = row ++ bindings c.place_node-2.new.named.items in
    fault_passed _ c.in_err-id.field-0.0 c.from_residual-in_err-id.result c.from_residual-in_err-id.ensures.1
    (λ other. bond_comes parameters max p graph row h alone one made same first two three later bound c.in_ok-left.left.0 c.in_ok-right.right.0 _ same' (c.in_ok-right.ensures.ok (c.in_ok-left.left.0 ∷ [])) same'' (c.in_err-id.ensures.err other))

pub returns-in_err-id-clause-aside : goal.returns-in_err-id-clause-aside
returns-in_err-id-clause-aside g c = c.add_relationship.ensures.aside ∙ c.place_node-2.ensures.aside ∙ c.place_node.ensures.aside

pub returns-clause-ok : goal.returns-clause-ok
returns-clause-ok g c =
    let p = path_view c.args.path.now in
    let scene = c.args.row.now.scene.now in
    let parameters = parameters_in scene in
    let max = max_elements_in scene in
    let row = row_at c.args.row.now in
    let graph = c.args.live.now.graph in
    let h = hop_view c.args.hop.now in
    let alone = ap (map hop_view) c.requires.alone in
    let unbound = none_bound row c.new-named.result.items c.new-named.ensures.items in
    let one = outcome_view c.in_ok-first.first in
    let same = ap (λ (gr : Graph). given_properties parameters gr row p.first.properties) (sym c.graph.ensures.is) ∙ c.in_ok-first.ensures.kept in
    let two = outcome_view c.in_ok-last.last in
    let same' = ap (λ (gr : Graph). given_properties parameters gr row h.1.properties) (sym c.graph-2.ensures.is) ∙ c.in_ok-last.ensures.kept in
    let first = ap (λ (r : Row). node_of max one p.first (record { graph = graph; bound = r; ids = [] })) unbound ∙ c.in_ok-left.ensures.ok [] in
    let after = c.place_node.new.live.graph in
    let made = making_with after row c.place_node.new.named.items (c.in_ok-left.left.0 ∷ []) in
    let three = outcome_view c.in_ok-between.between in
    let same'' = ap (λ (gr : Graph). on_bond parameters max p gr row h.0) (sym c.graph-3.ensures.is) ∙ sym c.in_ok-between.ensures.kept in
    let later = c.place_node-2.new.live.graph in
    let bound = row ++ bindings c.place_node-2.new.named.items in
    bond_comes parameters max p graph row h alone one made same first two three later bound c.in_ok-left.left.0 c.in_ok-right.right.0 _ same' (c.in_ok-right.ensures.ok (c.in_ok-left.left.0 ∷ [])) same'' c.in_ok-id.ensures.ok
    ∙ ap (λ n. Ok (c.add_relationship.new.live.graph, trail_of (c.in_ok-left.left.0 ∷ c.in_ok-right.right.0 ∷ []) (n ∷ []))) (sym c.in_ok-id.ensures.id)

pub returns-clause-err : goal.returns-clause-err
returns-clause-err g c = tt

pub returns-clause-aside : goal.returns-clause-aside
returns-clause-aside g c = c.add_relationship.ensures.aside ∙ c.place_node-2.ensures.aside ∙ c.place_node.ensures.aside
