use Rattle.std.proofs.Common.{false, map, sym, ap, refl, ◌∙◌}
use Rattle.std.proofs.lemmas.Result.{err_from_is_err_and}
use Rattle.pg_meaning.specs.Reading.{test_paths}
use Rattle.pg_rows.specs.Named.{row_of}
use Rattle.pg_value_core.specs.View.{view}
use Rattle.pg_write_make.proofs.BindingLemmas.{match_bound}
use Rattle.pg_write_make.proofs.CreatedRowLemmas.{paths_refused, row_bound}
use Rattle.pg_write_make.proofs.ShapeLemmas.{ready_row}
use Rattle.pg_write_make.proofs.TrailLemmas.{bind_named}
use Rattle.pg_write_make.specs.Bindings.{match_bindings}
use Rattle.pg_write_make.specs.Lent.{kept_view, paths_view, trail_view}
use Rattle.pg_write_make.specs.Outcomes.{path_outcomes, paths_made}
use Rattle.pg_write_make.specs.Scenes.{max_elements_in, parameters_in, reading, row_in}
use Rattle.pg_write_make.proofs.short.make_trails.Goals as goal

pub bind_row-requires : goal.bind_row-requires
bind_row-requires g c =
    ready_row (max_elements_in c.args.scene.now) (reading (parameters_in c.args.scene.now)) c.graph.result c.args.live.now.graph
    c.make_paths.new.live.graph c.graph-2.result c.args.scene.now.names.now c.args.values.now.items
    (map kept_view c.in_ok-kept.kept.items) (paths_view c.args.paths.now) (map trail_view c.in_ok-trails.trails.items)
    c.requires.ready.within c.requires.ready.names c.graph.ensures.is c.graph-2.ensures.is
    (c.in_ok-kept.ensures.ok ∙ ap (λ values. map (path_outcomes (reading (parameters_in c.args.scene.now)) c.graph.result (row_in c.args.scene.now values)) (paths_view c.args.paths.now)) c.deref.ensures.value)
    (ap (λ values. paths_made (max_elements_in c.args.scene.now) (map kept_view c.in_ok-kept.kept.items) (paths_view c.args.paths.now) (c.args.live.now.graph, row_in c.args.scene.now values)) (sym c.deref-2.ensures.value) ∙ c.in_ok-trails.ensures.ok)

pub returns-in_err-kept-clause-err : goal.returns-in_err-kept-clause-err
returns-in_err-kept-clause-err g c =
    let p = err_from_is_err_and c.from_residual.result c.from_residual.ensures.1 in
    rw (p.1, p.2) (λ other. absurd (other c.in_err-kept.ensures.err))

pub returns-in_err-kept-clause-aside : goal.returns-in_err-kept-clause-aside
returns-in_err-kept-clause-aside g c = refl

pub make_paths-requires : goal.make_paths-requires
make_paths-requires g c = record {
  tested = ap (λ values. test_paths false c.args.live.now.graph (row_in c.args.scene.now values) (paths_view c.args.paths.now)) c.deref-2.ensures.value ∙ c.requires.tested;
}

pub returns-in_err-trails-clause-err : goal.returns-in_err-trails-clause-err
returns-in_err-trails-clause-err g c =
    let scene = c.args.scene.now in
    let ps = paths_view c.args.paths.now in
    let graph = c.args.live.now.graph in
    let kept = c.in_ok-kept.ensures.ok ∙ ap (λ values. map (path_outcomes (reading (parameters_in scene)) c.graph.result (row_in scene values)) ps) c.deref.ensures.value in
    let p = err_from_is_err_and c.from_residual-in_err-trails.result c.from_residual-in_err-trails.ensures.1 in
    rw (p.1, p.2) (λ other. paths_refused (parameters_in scene) (max_elements_in c.args.scene.now) ps c.graph.result graph (row_in scene c.deref-2.result.now) (row_in scene c.args.values.now.items) (map kept_view c.in_ok-kept.kept.items)
    c.graph.ensures.is (ap (row_in scene) c.deref-2.ensures.value) kept c.in_err-trails.field-0.0 (c.in_err-trails.ensures.err other))

pub returns-in_err-trails-clause-aside : goal.returns-in_err-trails-clause-aside
returns-in_err-trails-clause-aside g c = c.make_paths.ensures.aside

pub returns-in_err-bind_row-clause-err : goal.returns-in_err-bind_row-clause-err
returns-in_err-bind_row-clause-err g c =
    let p = err_from_is_err_and c.from_residual-in_err-bind_row.result c.from_residual-in_err-bind_row.ensures.1 in
    rw (p.1, p.2) (λ other. absurd (other refl))

pub returns-in_err-bind_row-clause-aside : goal.returns-in_err-bind_row-clause-aside
returns-in_err-bind_row-clause-aside g c = c.make_paths.ensures.aside

pub returns-clause-ok : goal.returns-clause-ok
returns-clause-ok g c =
    let scene = c.args.scene.now in
    let ps = paths_view c.args.paths.now in
    let graph = c.args.live.now.graph in
    let kept = c.in_ok-kept.ensures.ok ∙ ap (λ values. map (path_outcomes (reading (parameters_in scene)) c.graph.result (row_in scene values)) ps) c.deref.ensures.value in
    let trails = map trail_view c.in_ok-trails.trails.items in
    let row = row_in scene c.args.values.now.items in
    let bound =
    c.in_ok-bind_row.ensures.bound
    ∙ bind_named (match_bindings c.graph-2.result ps trails) row ∙ sym (match_bound c.graph-2.result ps trails row) in
    row_bound (parameters_in scene) (max_elements_in c.args.scene.now) ps c.graph.result graph (row_in scene c.deref-2.result.now) (row_in scene c.args.values.now.items) (map kept_view c.in_ok-kept.kept.items)
    c.graph.ensures.is (ap (row_in scene) c.deref-2.ensures.value) kept c.make_paths.new.live.graph c.graph-2.result (map trail_view c.in_ok-trails.trails.items)
    (row_of scene.names.now (map view c.bind_row.new.values.items)) c.in_ok-trails.ensures.ok c.graph-2.ensures.is bound

pub returns-clause-whole : goal.returns-clause-whole
returns-clause-whole g c = c.in_ok-bind_row.ensures.whole

pub returns-clause-aside : goal.returns-clause-aside
returns-clause-aside g c = c.make_paths.ensures.aside
