use Rattle.std.proofs.Common.{Err, refl, ap, ◌∙◌}
use Rattle.std.proofs.lemmas.Result.{IfOk-from_err}
use Rattle.pg_expr.proofs.ExitLemmas.{fault_passed}
use Rattle.pg_meaning.specs.Graph.{Graph}
use Rattle.pg_syntax_tree.specs.View.{path_view}
use Rattle.pg_write_make.proofs.LoneLemmas.{graph_alone, long_left}
use Rattle.pg_write_make.proofs.PathLemmas.{none_named}
use Rattle.pg_write_make.specs.Lent.{kept_view}
use Rattle.pg_write_make.specs.Outcomes.{path_outcomes}
use Rattle.pg_write_make.specs.Scenes.{max_elements_in, parameters_in, reading, row_at}
use Rattle.pg_write_make.proofs.lone.make_long.Goals as goal

pub returns-in_err-kept-clause-ok : goal.returns-in_err-kept-clause-ok
returns-in_err-kept-clause-ok g c = IfOk-from_err c.from_residual.result _ c.from_residual.ensures.0

pub returns-in_err-kept-clause-err : goal.returns-in_err-kept-clause-err
returns-in_err-kept-clause-err g c = fault_passed _ c.in_err-kept.field-0.0 c.from_residual.result c.from_residual.ensures.1 (λ other. absurd (other c.in_err-kept.ensures.err))

pub returns-in_err-kept-clause-aside : goal.returns-in_err-kept-clause-aside
returns-in_err-kept-clause-aside g c = refl

pub make_path-requires-clause-tested : goal.make_path-requires-clause-tested
make_path-requires-clause-tested g c = c.requires.tested

pub make_path-requires-clause-there : goal.make_path-requires-clause-there
make_path-requires-clause-there g c = none_named c.args.live.now.graph c.new-named.result.items c.new-named.ensures.items

pub returns-in_err-make_path-clause-ok : goal.returns-in_err-make_path-clause-ok
returns-in_err-make_path-clause-ok g c = IfOk-from_err c.from_residual-in_err-make_path.result _ c.from_residual-in_err-make_path.ensures.0

pub returns-in_err-make_path-clause-err : goal.returns-in_err-make_path-clause-err
returns-in_err-make_path-clause-err g c =
    let p = path_view c.args.path.now in
    let scene = c.args.row.now.scene.now in
    let row = row_at c.args.row.now in
    let kept = c.in_ok-kept.ensures.ok ∙ ap (λ (gr : Graph). path_outcomes (reading (parameters_in scene)) gr row p) c.graph.ensures.is in
    fault_passed _ c.in_err-make_path.field-0.0 c.from_residual-in_err-make_path.result c.from_residual-in_err-make_path.ensures.1
    (λ other. graph_alone _ _ (long_left (parameters_in scene) (max_elements_in scene) p c.args.live.now.graph row (kept_view c.in_ok-kept.kept) c.new-named.result.items kept c.new-named.ensures.items (Err c.in_err-make_path.field-0.0) (c.in_err-make_path.ensures.err other)))

pub returns-in_err-make_path-clause-aside : goal.returns-in_err-make_path-clause-aside
returns-in_err-make_path-clause-aside g c = c.make_path.ensures.aside

pub returns-clause-ok : goal.returns-clause-ok
returns-clause-ok g c =
    let p = path_view c.args.path.now in
    let scene = c.args.row.now.scene.now in
    let row = row_at c.args.row.now in
    let kept = c.in_ok-kept.ensures.ok ∙ ap (λ (gr : Graph). path_outcomes (reading (parameters_in scene)) gr row p) c.graph.ensures.is in
    graph_alone _ _ (long_left (parameters_in scene) (max_elements_in scene) p c.args.live.now.graph row (kept_view c.in_ok-kept.kept) c.new-named.result.items kept c.new-named.ensures.items _ c.in_ok-make_path.ensures.ok)

pub returns-clause-err : goal.returns-clause-err
returns-clause-err g c = tt

pub returns-clause-aside : goal.returns-clause-aside
returns-clause-aside g c = c.make_path.ensures.aside
