use Rattle.std.proofs.Common.{Ok, Err, refl, sym}
use Rattle.std.proofs.lemmas.Result.{IfOk-from_err}
use Rattle.pg_expr.proofs.ExitLemmas.{fault_passed}
use Rattle.pg_write_make.proofs.CreatedRowLemmas.{row_passed, row_refused, tests_read}
use Rattle.pg_write_make.proofs.LoopLemmas.{err_onto, ok_onto}
use Rattle.pg_write_make.specs.Creations.{row_created, row_made}
use Rattle.pg_write_make.specs.Lent.{paths_view}
use Rattle.pg_write_make.specs.Scenes.{max_elements_in, parameters_in, row_at}
use Rattle.pg_write_make.proofs.bare.create_at.Goals as goal

pub returns-in_err-test_paths-clause-ok : goal.returns-in_err-test_paths-clause-ok
returns-in_err-test_paths-clause-ok g c = IfOk-from_err c.from_residual.result _ c.from_residual.ensures.0

pub returns-in_err-test_paths-clause-err : goal.returns-in_err-test_paths-clause-err
returns-in_err-test_paths-clause-err g c =
    let scene = c.args.row.now.scene.now in
    let row = row_at c.args.row.now in
    let ps = paths_view c.args.paths.now in
    let graph = c.args.live.now.graph in
    let e = c.in_err-test_paths.field-0.0 in
    let tested = tests_read c.graph.result graph row row ps (Err e) c.graph.ensures.is refl c.in_err-test_paths.ensures in
    fault_passed _ e c.from_residual.result c.from_residual.ensures.1 (λ other. row_refused (parameters_in scene) (max_elements_in scene) ps graph row e tested)

pub returns-in_err-test_paths-clause-aside : goal.returns-in_err-test_paths-clause-aside
returns-in_err-test_paths-clause-aside g c = refl

pub make_all-requires-clause-bare : goal.make_all-requires-clause-bare
make_all-requires-clause-bare g c = c.requires.bare

pub make_all-requires-clause-labels : goal.make_all-requires-clause-labels
make_all-requires-clause-labels g c = c.requires.labels

pub make_all-requires-clause-tested : goal.make_all-requires-clause-tested
make_all-requires-clause-tested g c =
    let row = row_at c.args.row.now in
    tests_read c.graph.result c.args.live.now.graph row row (paths_view c.args.paths.now) (Ok tt) c.graph.ensures.is refl c.in_ok-test_paths.ensures

pub returns-clause-ok : goal.returns-clause-ok
returns-clause-ok g c =
    let scene = c.args.row.now.scene.now in
    let row = row_at c.args.row.now in
    let ps = paths_view c.args.paths.now in
    let graph = c.args.live.now.graph in
    let tested = tests_read c.graph.result graph row row ps (Ok tt) c.graph.ensures.is refl c.in_ok-test_paths.ensures in
    ok_onto c.make_all.result (λ _. Ok (c.make_all.new.live.graph, row)) (row_created (parameters_in scene) (max_elements_in scene) ps graph row) (row_made (parameters_in scene) (max_elements_in scene) ps graph row)
    (sym (row_passed (parameters_in scene) (max_elements_in scene) ps graph row tested)) c.make_all.ensures.ok

pub returns-clause-err : goal.returns-clause-err
returns-clause-err g c =
    let scene = c.args.row.now.scene.now in
    let row = row_at c.args.row.now in
    let ps = paths_view c.args.paths.now in
    let graph = c.args.live.now.graph in
    let tested = tests_read c.graph.result graph row row ps (Ok tt) c.graph.ensures.is refl c.in_ok-test_paths.ensures in
    err_onto c.make_all.result (row_created (parameters_in scene) (max_elements_in scene) ps graph row) (row_made (parameters_in scene) (max_elements_in scene) ps graph row)
    (sym (row_passed (parameters_in scene) (max_elements_in scene) ps graph row tested)) c.make_all.ensures.err

pub returns-clause-aside : goal.returns-clause-aside
returns-clause-aside g c = c.make_all.ensures.aside
