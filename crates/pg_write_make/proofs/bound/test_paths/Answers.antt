use Rattle.std.proofs.Common.{Err, false, refl, sym, ap, ◌∙◌}
use Rattle.std.proofs.lemmas.List.{drop_all}
use Rattle.std.proofs.lemmas.Result.{err_from_is_err_and}
use Rattle.pg_meaning.specs.Reading.{test_paths}
use Rattle.pg_write_make.proofs.BoundLemmas.{path_passed, path_refused}
use Rattle.pg_write_make.specs.Lent.{paths_view}
use Rattle.pg_write_make.specs.Scenes.{row_in}
use Rattle.pg_write_make.proofs.bound.test_paths.Goals as goal

pub loop-path-init : goal.loop-path-init
loop-path-init g c = refl

pub returns-in_err-test_path : goal.returns-in_err-test_path
returns-in_err-test_path g c =
    let row = row_in c.args.scene.now c.args.row.now in
    let p = err_from_is_err_and c.from_residual.result c.from_residual.ensures.1 in
    p.1 ∙ ap Err p.2
    ∙ sym (c.loop-path.invariant ∙ path_refused c.args.graph.now row c.args.paths.now c.loop-path.path-index c.path-item.result c.path-item.is c.loop-path-test.true c.in_err-test_path.field-0.0 (sym c.in_err-test_path.ensures))

pub loop-path-preserved : goal.loop-path-preserved
loop-path-preserved g c =
    let row = row_in c.args.scene.now c.args.row.now in
    c.loop-path.invariant ∙ path_passed c.args.graph.now row c.args.paths.now c.loop-path.path-index c.path-item.result c.path-item.is c.loop-path-test.true (sym c.in_ok-test_path.ensures)

pub returns : goal.returns
returns g c =
    let row = row_in c.args.scene.now c.args.row.now in
    sym (c.loop-path.invariant ∙ ap (λ ps. test_paths false c.args.graph.now row (paths_view ps)) (drop_all c.loop-path.path-index c.args.paths.now c.loop-path-test.false))
