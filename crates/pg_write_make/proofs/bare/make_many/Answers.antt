use Rattle.std.proofs.Common.{map, refl, sym}
use Rattle.std.proofs.lemmas.Result.{IfOk-from_err}
use Rattle.pg_expr.proofs.ExitLemmas.{fault_passed}
use Rattle.pg_write_make.proofs.BareLemmas.{bound_alike}
use Rattle.pg_write_make.proofs.CreatedRowLemmas.{paths_refused, row_bound}
use Rattle.pg_write_make.specs.Lent.{kept_view, paths_view, trail_view}
use Rattle.pg_write_make.specs.Scenes.{max_elements_in, parameters_in, reading, row_at}
use Rattle.pg_write_make.proofs.bare.make_many.Goals as goal

pub returns-in_err-kept-clause-ok : goal.returns-in_err-kept-clause-ok
returns-in_err-kept-clause-ok g c = IfOk-from_err c.from_residual.result _ c.from_residual.ensures.0

pub returns-in_err-kept-clause-err : goal.returns-in_err-kept-clause-err
returns-in_err-kept-clause-err g c = fault_passed _ c.in_err-kept.field-0.0 c.from_residual.result c.from_residual.ensures.1 (λ other. absurd (other c.in_err-kept.ensures.err))

pub returns-in_err-kept-clause-aside : goal.returns-in_err-kept-clause-aside
returns-in_err-kept-clause-aside g c = refl

pub make_paths-requires : goal.make_paths-requires
make_paths-requires g c = record { tested = c.requires.tested }

pub returns-in_err-make_paths-clause-ok : goal.returns-in_err-make_paths-clause-ok
returns-in_err-make_paths-clause-ok g c = IfOk-from_err c.from_residual-in_err-make_paths.result _ c.from_residual-in_err-make_paths.ensures.0

pub returns-in_err-make_paths-clause-err : goal.returns-in_err-make_paths-clause-err
returns-in_err-make_paths-clause-err g c =
    let scene = c.args.row.now.scene.now in
    let row = row_at c.args.row.now in
    fault_passed _ c.in_err-make_paths.field-0.0 c.from_residual-in_err-make_paths.result c.from_residual-in_err-make_paths.ensures.1
    (λ other. paths_refused (parameters_in scene) (max_elements_in scene) (paths_view c.args.paths.now) c.graph.result c.args.live.now.graph row row (map kept_view c.in_ok-kept.kept.items) c.graph.ensures.is refl c.in_ok-kept.ensures.ok c.in_err-make_paths.field-0.0 (c.in_err-make_paths.ensures.err other))

pub returns-in_err-make_paths-clause-aside : goal.returns-in_err-make_paths-clause-aside
returns-in_err-make_paths-clause-aside g c = c.make_paths.ensures.aside

pub returns-clause-ok : goal.returns-clause-ok
returns-clause-ok g c =
    let scene = c.args.row.now.scene.now in
    let row = row_at c.args.row.now in
    let ps = paths_view c.args.paths.now in
    let after = c.make_paths.new.live.graph in
    let ts = map trail_view c.in_ok-make_paths.field-0.items in
    let os = map kept_view c.in_ok-kept.kept.items in
    row_bound (parameters_in scene) (max_elements_in scene) ps c.graph.result c.args.live.now.graph row row os c.graph.ensures.is refl c.in_ok-kept.ensures.ok after after ts row c.in_ok-make_paths.ensures.ok refl
    (sym (bound_alike (max_elements_in scene) scene.names.now c.args.row.now.values.now ps c.requires.bare.wide c.requires.bare.names (reading (parameters_in scene)) c.graph.result c.args.live.now.graph after os ts c.graph.ensures.is c.in_ok-kept.ensures.ok c.in_ok-make_paths.ensures.ok))

pub returns-clause-err : goal.returns-clause-err
returns-clause-err g c = tt

pub returns-clause-aside : goal.returns-clause-aside
returns-clause-aside g c = c.make_paths.ensures.aside
