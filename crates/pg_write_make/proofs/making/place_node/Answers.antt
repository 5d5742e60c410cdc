use Rattle.std.proofs.Common.{◌++◌, ◌∷◌, [], Ok, option_map, ap, ◌∙◌, refl}
use Rattle.std.proofs.lemmas.Result.{err_from_is_err_and, IfOk-from_err}
use Rattle.pg_meaning.specs.Graph.{has_node}
use Rattle.pg_meaning.specs.Patterns.{node_name}
use Rattle.pg_meaning.specs.Walks.{bound_value}
use Rattle.pg_syntax_tree.specs.View.{node_view}
use Rattle.pg_value_core.specs.declared.ids.NodeId.{NodeId}
use Rattle.pg_write_make.proofs.BoundLemmas.{found_there, new_bound, none_found, of_fault, of_found, of_new, of_new_fault}
use Rattle.pg_write_make.proofs.GrowthLemmas.{added_grows, added_there, bound_there}
use Rattle.pg_write_make.specs.Makings.{bindings, making_with, named_ids}
use Rattle.pg_write_make.specs.Outcomes.{outcome_view}
use Rattle.pg_write_make.specs.Scenes.{max_elements_in, row_at}
use Rattle.pg_write_make.proofs.making.place_node.Goals as goal

pub returns-in_err-id-clause-ok : goal.returns-in_err-id-clause-ok
returns-in_err-id-clause-ok g c = IfOk-from_err c.from_residual.result _ c.from_residual.ensures.0

pub returns-in_err-id-clause-err : goal.returns-in_err-id-clause-err
returns-in_err-id-clause-err g c =
    let row = row_at c.args.row.now in
    let before = c.args.live.now.graph in
    let p = err_from_is_err_and c.from_residual.result c.from_residual.ensures.1 in
    rw (p.1, p.2) (λ other ids. of_fault (max_elements_in c.args.row.now.scene.now) (outcome_view c.args.outcome) (node_view c.args.pattern.now) (making_with before row c.args.named.now.items ids) c.in_err-id.field-0.0 c.in_err-id.ensures.err)

pub returns-in_err-id-clause-aside : goal.returns-in_err-id-clause-aside
returns-in_err-id-clause-aside g c = refl

pub returns-in_err-id-clause-grows : goal.returns-in_err-id-clause-grows
returns-in_err-id-clause-grows g c = IfOk-from_err c.from_residual.result _ c.from_residual.ensures.0

pub returns-in_err-id-clause-there : goal.returns-in_err-id-clause-there
returns-in_err-id-clause-there g c = IfOk-from_err c.from_residual.result _ c.from_residual.ensures.0

pub returns-in_err-id-clause-named : goal.returns-in_err-id-clause-named
returns-in_err-id-clause-named g c = IfOk-from_err c.from_residual.result _ c.from_residual.ensures.0

pub returns-in-Some-clause-ok : goal.returns-in-Some-clause-ok
returns-in-Some-clause-ok g c =
    let found = c.in_ok-id.ensures.ok ∙ ap (λ o. Ok (option_map (λ (i : NodeId). i.0) o)) c.in-Some.is in
    λ ids. of_found (max_elements_in c.args.row.now.scene.now) (outcome_view c.args.outcome) (node_view c.args.pattern.now) (making_with c.args.live.now.graph (row_at c.args.row.now) c.args.named.now.items ids) c.in-Some.id.0 found

pub returns-in-Some-clause-err : goal.returns-in-Some-clause-err
returns-in-Some-clause-err g c = tt

pub returns-in-Some-clause-aside : goal.returns-in-Some-clause-aside
returns-in-Some-clause-aside g c = refl

pub returns-in-Some-clause-grows : goal.returns-in-Some-clause-grows
returns-in-Some-clause-grows g c = λ n there. there

pub returns-in-Some-clause-there : goal.returns-in-Some-clause-there
returns-in-Some-clause-there g c =
    found_there c.args.live.now.graph (node_name (node_view c.args.pattern.now)) (row_at c.args.row.now) c.args.named.now.items c.in-Some.id.0 c.requires.tested c.requires.there (c.in_ok-id.ensures.ok ∙ ap (λ o. Ok (option_map (λ (i : NodeId). i.0) o)) c.in-Some.is)

pub returns-in-Some-clause-named : goal.returns-in-Some-clause-named
returns-in-Some-clause-named g c = c.requires.there

pub returns-in_err-new-in-None-clause-ok : goal.returns-in_err-new-in-None-clause-ok
returns-in_err-new-in-None-clause-ok g c = IfOk-from_err c.from_residual-in_err-new-in-None.result _ c.from_residual-in_err-new-in-None.ensures.0

pub returns-in_err-new-in-None-clause-grows : goal.returns-in_err-new-in-None-clause-grows
returns-in_err-new-in-None-clause-grows g c = IfOk-from_err c.from_residual-in_err-new-in-None.result _ c.from_residual-in_err-new-in-None.ensures.0

pub returns-in_err-new-in-None-clause-there : goal.returns-in_err-new-in-None-clause-there
returns-in_err-new-in-None-clause-there g c = IfOk-from_err c.from_residual-in_err-new-in-None.result _ c.from_residual-in_err-new-in-None.ensures.0

pub returns-in_err-new-in-None-clause-named : goal.returns-in_err-new-in-None-clause-named
returns-in_err-new-in-None-clause-named g c = IfOk-from_err c.from_residual-in_err-new-in-None.result _ c.from_residual-in_err-new-in-None.ensures.0

pub returns-in_err-new-in-None-clause-err : goal.returns-in_err-new-in-None-clause-err
returns-in_err-new-in-None-clause-err g c =
    let row = row_at c.args.row.now in
    let before = c.args.live.now.graph in
    let found = c.in_ok-id.ensures.ok ∙ ap (λ o. Ok (option_map (λ (i : NodeId). i.0) o)) c.in-None.is in
    let p = err_from_is_err_and c.from_residual-in_err-new-in-None.result c.from_residual-in_err-new-in-None.ensures.1 in
    rw (p.1, p.2) (λ other ids. of_new_fault (max_elements_in c.args.row.now.scene.now) (outcome_view c.args.outcome) (node_view c.args.pattern.now) (making_with before row c.args.named.now.items ids) c.in_err-new-in-None.field-0.0 found (c.in_err-new-in-None.ensures.err other))

pub returns-in_err-new-in-None-clause-aside : goal.returns-in_err-new-in-None-clause-aside
returns-in_err-new-in-None-clause-aside g c = c.add_node.ensures.aside

pub returns-in_err-bind_new-in-None-clause-ok : goal.returns-in_err-bind_new-in-None-clause-ok
returns-in_err-bind_new-in-None-clause-ok g c = IfOk-from_err c.from_residual-in_err-bind_new-in-None.result _ c.from_residual-in_err-bind_new-in-None.ensures.0

pub returns-in_err-bind_new-in-None-clause-grows : goal.returns-in_err-bind_new-in-None-clause-grows
returns-in_err-bind_new-in-None-clause-grows g c = IfOk-from_err c.from_residual-in_err-bind_new-in-None.result _ c.from_residual-in_err-bind_new-in-None.ensures.0

pub returns-in_err-bind_new-in-None-clause-there : goal.returns-in_err-bind_new-in-None-clause-there
returns-in_err-bind_new-in-None-clause-there g c = IfOk-from_err c.from_residual-in_err-bind_new-in-None.result _ c.from_residual-in_err-bind_new-in-None.ensures.0

pub returns-in_err-bind_new-in-None-clause-named : goal.returns-in_err-bind_new-in-None-clause-named
returns-in_err-bind_new-in-None-clause-named g c = IfOk-from_err c.from_residual-in_err-bind_new-in-None.result _ c.from_residual-in_err-bind_new-in-None.ensures.0

pub returns-in_err-bind_new-in-None-clause-err : goal.returns-in_err-bind_new-in-None-clause-err
returns-in_err-bind_new-in-None-clause-err g c =
    let p = err_from_is_err_and c.from_residual-in_err-bind_new-in-None.result c.from_residual-in_err-bind_new-in-None.ensures.1 in
    rw (p.1, p.2) (λ other. absurd (other refl))

pub returns-in_err-bind_new-in-None-clause-aside : goal.returns-in_err-bind_new-in-None-clause-aside
returns-in_err-bind_new-in-None-clause-aside g c = c.add_node.ensures.aside

pub returns-in_ok-bind_new-in-None-clause-ok : goal.returns-in_ok-bind_new-in-None-clause-ok
returns-in_ok-bind_new-in-None-clause-ok g c =
    let max = max_elements_in c.args.row.now.scene.now in
    let o = outcome_view c.args.outcome in
    let n = node_view c.args.pattern.now in
    let row = row_at c.args.row.now in
    let before = c.args.live.now.graph in
    let after = c.add_node.new.live.graph in
    let id = c.in_ok-new-in-None.new in
    let named = bindings c.args.named.now.items in
    let more = bindings c.bind_new.new.named.items in
    let found = c.in_ok-id.ensures.ok ∙ ap (λ o. Ok (option_map (λ (i : NodeId). i.0) o)) c.in-None.is in
    λ ids.
    of_new max o n (making_with before row c.args.named.now.items ids) (making_with after row c.bind_new.new.named.items (ids ++ id.0 ∷ [])) found
    (new_bound max o n before after named more id.0 c.in_ok-new-in-None.ensures.ok c.in_ok-new-in-None.ensures.id (λ none. ap bindings (c.in_ok-bind_new-in-None.ensures.none none)) c.in_ok-bind_new-in-None.ensures.bound
    row ids (none_found (bound_value (node_name n) (row ++ named)) found))

pub returns-in_ok-bind_new-in-None-clause-err : goal.returns-in_ok-bind_new-in-None-clause-err
returns-in_ok-bind_new-in-None-clause-err g c = tt

pub returns-in_ok-bind_new-in-None-clause-aside : goal.returns-in_ok-bind_new-in-None-clause-aside
returns-in_ok-bind_new-in-None-clause-aside g c = c.add_node.ensures.aside

pub returns-in_ok-bind_new-in-None-clause-grows : goal.returns-in_ok-bind_new-in-None-clause-grows
returns-in_ok-bind_new-in-None-clause-grows g c =
    added_grows (max_elements_in c.args.row.now.scene.now) (outcome_view c.args.outcome) (node_view c.args.pattern.now) c.args.live.now.graph c.add_node.new.live.graph c.in_ok-new-in-None.ensures.ok

pub returns-in_ok-bind_new-in-None-clause-there : goal.returns-in_ok-bind_new-in-None-clause-there
returns-in_ok-bind_new-in-None-clause-there g c =
    let before = c.args.live.now.graph in
    let after = c.add_node.new.live.graph in
    ap (has_node after) c.in_ok-new-in-None.ensures.id ∙ added_there (max_elements_in c.args.row.now.scene.now) (outcome_view c.args.outcome) (node_view c.args.pattern.now) before after c.in_ok-new-in-None.ensures.ok

pub returns-in_ok-bind_new-in-None-clause-named : goal.returns-in_ok-bind_new-in-None-clause-named
returns-in_ok-bind_new-in-None-clause-named g c =
    let max = max_elements_in c.args.row.now.scene.now in
    let o = outcome_view c.args.outcome in
    let n = node_view c.args.pattern.now in
    let before = c.args.live.now.graph in
    let after = c.add_node.new.live.graph in
    let grows = added_grows max o n before after c.in_ok-new-in-None.ensures.ok in
    let now = ap (has_node after) c.in_ok-new-in-None.ensures.id ∙ added_there max o n before after c.in_ok-new-in-None.ensures.ok in
    bound_there (node_name n) before after (named_ids c.args.named.now.items) (named_ids c.bind_new.new.named.items) c.in_ok-new-in-None.new.0 grows now
    (λ none. ap named_ids (c.in_ok-bind_new-in-None.ensures.none none)) c.in_ok-bind_new-in-None.ensures.ids c.requires.there
