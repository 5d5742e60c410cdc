use Rattle.std.proofs.Common.{◌≤◌, map, take, refl, ap, subst, ◌∙◌}
use Rattle.std.proofs.lemmas.Result.{IfOk-from_err}
use Rattle.pg_expr.proofs.ExitLemmas.{fault_passed}
use Rattle.pg_meaning.specs.Patterns.{add_path_names}
use Rattle.pg_meaning.specs.declared.fault.Fault.TheVariants.{OutOfMemory}
use Rattle.pg_rows.specs.Tables.{table}
use Rattle.pg_value_core.specs.View.{view}
use Rattle.pg_write_make.proofs.BareLemmas.{bare_begun, bare_done, bare_failed, bare_over, values_wide}
use Rattle.pg_write_make.specs.Lent.{paths_view}
use Rattle.pg_write_make.specs.Scenes.{max_elements_in, parameters_in}
use Rattle.pg_write_make.proofs.bare.create_bare.Goals as goal

pub returns-in_err-labels-clause-ok : goal.returns-in_err-labels-clause-ok
returns-in_err-labels-clause-ok g c = IfOk-from_err c.from_residual.result _ c.from_residual.ensures.0

pub returns-in_err-labels-clause-err : goal.returns-in_err-labels-clause-err
returns-in_err-labels-clause-err g c = fault_passed _ OutOfMemory c.from_residual.result c.from_residual.ensures.1 (λ other. absurd (other refl))

pub returns-in_err-labels-clause-aside : goal.returns-in_err-labels-clause-aside
returns-in_err-labels-clause-aside g c = refl

pub loop-at-init : goal.loop-at-init
loop-at-init g c =
    let scene = c.args.scene.now in
    record {
      rest = bare_begun (parameters_in scene) (max_elements_in scene) (paths_view c.args.paths.now) scene.names.now (table c.args.rows.now) c.args.live.now.graph;
      aside = refl;
    }

pub create_at-requires-clause-bare : goal.create_at-requires-clause-bare
create_at-requires-clause-bare g c =
    let names = c.args.scene.now.names.now in
    let wide = values_wide c.args.rows.now c.loop-at.at c.row.result.now c.row.ensures in
    record {
      wide = wide ∙ c.requires.wide;
      names = ap (λ n. add_path_names (paths_view c.args.paths.now) (take n names)) wide ∙ c.requires.names;
    }

pub create_at-requires-clause-labels : goal.create_at-requires-clause-labels
create_at-requires-clause-labels g c = c.in_ok-labels.ensures

pub returns-in_err-create_at-clause-ok : goal.returns-in_err-create_at-clause-ok
returns-in_err-create_at-clause-ok g c = IfOk-from_err c.from_residual-in_err-create_at.result _ c.from_residual-in_err-create_at.ensures.0

pub returns-in_err-create_at-clause-err : goal.returns-in_err-create_at-clause-err
returns-in_err-create_at-clause-err g c =
    let scene = c.args.scene.now in
    let l = c.loop-at in
    fault_passed _ c.in_err-create_at.field-0.0 c.from_residual-in_err-create_at.result c.from_residual-in_err-create_at.ensures.1
    (λ other. bare_failed (parameters_in scene) (max_elements_in scene) (paths_view c.args.paths.now) scene.names.now (table c.args.rows.now) l.at l.live.graph _ l.invariant.rest (map view c.row.result.now) c.row.ensures c.in_err-create_at.field-0.0 (c.in_err-create_at.ensures.err other))

pub returns-in_err-create_at-clause-aside : goal.returns-in_err-create_at-clause-aside
returns-in_err-create_at-clause-aside g c = c.create_at.ensures.aside ∙ c.loop-at.invariant.aside

pub loop-at-preserved : goal.loop-at-preserved
loop-at-preserved g c =
    let scene = c.args.scene.now in
    let l = c.loop-at in
    record {
      rest = bare_done (parameters_in scene) (max_elements_in scene) (paths_view c.args.paths.now) scene.names.now (table c.args.rows.now) l.at l.live.graph _ l.invariant.rest (map view c.row.result.now) c.row.ensures c.create_at.new.live.graph c.in_ok-create_at.ensures.ok;
      aside = c.create_at.ensures.aside ∙ l.invariant.aside;
    }

pub returns-clause-ok : goal.returns-clause-ok
returns-clause-ok g c =
    let scene = c.args.scene.now in
    let l = c.loop-at in
    bare_over (parameters_in scene) (max_elements_in scene) (paths_view c.args.paths.now) scene.names.now (table c.args.rows.now) l.at l.live.graph _ l.invariant.rest (subst (λ n. n ≤ l.at) c.len-at-end.ensures c.loop-at-test.false)

pub returns-clause-err : goal.returns-clause-err
returns-clause-err g c = tt

pub returns-clause-aside : goal.returns-clause-aside
returns-clause-aside g c = c.loop-at.invariant.aside
