use Rattle.std.proofs.Common.{Ok, map, option_map, refl, sym, ap, ◌∙◌}
use Rattle.std.proofs.lemmas.Result.{IfOk-from_err}
use Rattle.pg_expr.proofs.ExitLemmas.{fault_passed}
use Rattle.pg_meaning.specs.Graph.{Graph}
use Rattle.pg_meaning.specs.Patterns.{node_name}
use Rattle.pg_meaning.specs.Rows.{Row}
use Rattle.pg_meaning.specs.Updates.{given_properties}
use Rattle.pg_meaning.specs.Walks.{bound_value}
use Rattle.pg_store.specs.Stores.{texts_of}
use Rattle.pg_syntax_tree.specs.View.{hop_view, path_view}
use Rattle.pg_value_core.specs.declared.ids.NodeId.{NodeId}
use Rattle.pg_write_make.proofs.LoneLemmas.{node_added_alone, node_refused_alone, node_stays, node_unfit, none_bound}
use Rattle.pg_write_make.specs.Outcomes.{node_found, outcome_view}
use Rattle.pg_write_make.specs.Scenes.{max_elements_in, parameters_in, row_at}
use Rattle.pg_write_make.proofs.lone.make_lone_node.Goals as goal

pub returns-in_err-properties-clause-ok : goal.returns-in_err-properties-clause-ok
returns-in_err-properties-clause-ok g c = IfOk-from_err c.from_residual.result _ c.from_residual.ensures.0

pub returns-in_err-properties-clause-err : goal.returns-in_err-properties-clause-err
returns-in_err-properties-clause-err g c = fault_passed _ c.in_err-properties.field-0.0 c.from_residual.result c.from_residual.ensures.1 (λ other. absurd (other c.in_err-properties.ensures.err))

pub returns-in_err-properties-clause-aside : goal.returns-in_err-properties-clause-aside
returns-in_err-properties-clause-aside g c = refl

pub returns-in_err-id-clause-ok : goal.returns-in_err-id-clause-ok
returns-in_err-id-clause-ok g c = IfOk-from_err c.from_residual-in_err-id.result _ c.from_residual-in_err-id.ensures.0

pub returns-in_err-id-clause-err : goal.returns-in_err-id-clause-err
returns-in_err-id-clause-err g c =
    let p = path_view c.args.path.now in
    let row = row_at c.args.row.now in
    let seen = ap (λ (r : Row). node_found (bound_value (node_name p.first) r)) (none_bound row c.new-none.result.items c.new-none.ensures.items) in
    fault_passed _ c.in_err-id.field-0.0 c.from_residual-in_err-id.result c.from_residual-in_err-id.ensures.1
    (λ other. node_unfit (parameters_in c.args.row.now.scene.now) (max_elements_in c.args.row.now.scene.now) p c.args.live.now.graph row (ap (map hop_view) c.requires.alone) c.in_err-id.field-0.0 (seen ∙ c.in_err-id.ensures.err))

pub returns-in_err-id-clause-aside : goal.returns-in_err-id-clause-aside
returns-in_err-id-clause-aside g c = refl

pub returns-in-Some-clause-ok : goal.returns-in-Some-clause-ok
returns-in-Some-clause-ok g c =
    let p = path_view c.args.path.now in
    let row = row_at c.args.row.now in
    let seen = ap (λ (r : Row). node_found (bound_value (node_name p.first) r)) (none_bound row c.new-none.result.items c.new-none.ensures.items) in
    node_stays (parameters_in c.args.row.now.scene.now) (max_elements_in c.args.row.now.scene.now) p c.args.live.now.graph row (ap (map hop_view) c.requires.alone) c.in-Some.id.0 (seen ∙ c.in_ok-id.ensures.ok ∙ ap (λ o. Ok (option_map (λ (i : NodeId). i.0) o)) c.in-Some.is)

pub returns-in-Some-clause-err : goal.returns-in-Some-clause-err
returns-in-Some-clause-err g c = tt

pub returns-in-Some-clause-aside : goal.returns-in-Some-clause-aside
returns-in-Some-clause-aside g c = refl

pub returns-in-None-clause-ok : goal.returns-in-None-clause-ok
returns-in-None-clause-ok g c =
    let p = path_view c.args.path.now in
    let parameters = parameters_in c.args.row.now.scene.now in
    let max = max_elements_in c.args.row.now.scene.now in
    let graph = c.args.live.now.graph in
    let row = row_at c.args.row.now in
    let seen = ap (λ (r : Row). node_found (bound_value (node_name p.first) r)) (none_bound row c.new-none.result.items c.new-none.ensures.items) in
    let found = seen ∙ c.in_ok-id.ensures.ok ∙ ap (λ o. Ok (option_map (λ (i : NodeId). i.0) o)) c.in-None.is in
    let kept = ap (λ (gr : Graph). given_properties parameters gr row p.first.properties) (sym c.graph.ensures.is) ∙ c.in_ok-properties.ensures.kept in
    node_added_alone parameters max p graph row (ap (map hop_view) c.requires.alone) (outcome_view c.in_ok-properties.properties) (texts_of c.args.labels.now.items) found kept c.requires.labels c.add_labelled.new.live.graph c.add_labelled.result c.add_labelled.ensures.ok c.add_labelled.ensures.id

pub returns-in-None-clause-err : goal.returns-in-None-clause-err
returns-in-None-clause-err g c =
    let p = path_view c.args.path.now in
    let parameters = parameters_in c.args.row.now.scene.now in
    let max = max_elements_in c.args.row.now.scene.now in
    let graph = c.args.live.now.graph in
    let row = row_at c.args.row.now in
    let seen = ap (λ (r : Row). node_found (bound_value (node_name p.first) r)) (none_bound row c.new-none.result.items c.new-none.ensures.items) in
    let found = seen ∙ c.in_ok-id.ensures.ok ∙ ap (λ o. Ok (option_map (λ (i : NodeId). i.0) o)) c.in-None.is in
    let kept = ap (λ (gr : Graph). given_properties parameters gr row p.first.properties) (sym c.graph.ensures.is) ∙ c.in_ok-properties.ensures.kept in
    node_refused_alone parameters max p graph row (ap (map hop_view) c.requires.alone) (outcome_view c.in_ok-properties.properties) (texts_of c.args.labels.now.items) found kept c.requires.labels c.add_labelled.result c.add_labelled.ensures.err

pub returns-in-None-clause-aside : goal.returns-in-None-clause-aside
returns-in-None-clause-aside g c = c.add_labelled.ensures.aside
