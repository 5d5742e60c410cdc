use Rattle.std.proofs.Common.{◌≡◌, ◌≤◌, map, Ok, refl, subst, ◌∙◌}
use Rattle.std.proofs.lemmas.Result.{IfOk-from_err}
use Rattle.pg_expr.proofs.ExitLemmas.{fault_passed}
use Rattle.pg_expr.specs.Prepared.{tree_of}
use Rattle.pg_meaning.specs.Answer.{each_step}
use Rattle.pg_rows.specs.Named.{row_of, rows_named}
use Rattle.pg_rows.specs.Tables.{table}
use Rattle.pg_value_core.specs.View.{view}
use Rattle.pg_write.specs.Gathered.{put_row}
use Rattle.pg_write_make.proofs.RowLemmas.{step_on, step_fault, steps_done}
use Rattle.pg_write_make.specs.Scenes.{parameters_in}
use Rattle.pg_write.proofs.gathering.gather_rows.Goals as goal

pub loop-at-init : goal.loop-at-init
loop-at-init g c = refl

pub loop-at-preserved : goal.loop-at-preserved
loop-at-preserved g c =
    let scene = c.args.scene.now in
    let l = c.loop-at in
    l.invariant
    ∙ step_on (put_row (parameters_in scene) c.args.graph.now (map (tree_of scene.names.now) c.args.elements.now.items)) (row_of scene.names.now) (table c.args.rows.now) l.at l.doomed c.gather_row.new.doomed (map view c.row.result.now) c.row.ensures c.in_ok-gather_row.ensures.ok

pub returns-in_err-gather_row : goal.returns-in_err-gather_row
returns-in_err-gather_row g c =
    let scene = c.args.scene.now in
    let l = c.loop-at in
    let step = put_row (parameters_in scene) c.args.graph.now (map (tree_of scene.names.now) c.args.elements.now.items) in
    let all = each_step step c.args.doomed.now (rows_named scene.names.now (table c.args.rows.now)) in
    record {
      ok = IfOk-from_err c.from_residual.result (λ u. all ≡ Ok c.gather_row.new.doomed) c.from_residual.ensures.0;
      err =
          fault_passed all c.in_err-gather_row.field-0.0 c.from_residual.result c.from_residual.ensures.1
          (λ other. l.invariant ∙ step_fault step (row_of scene.names.now) (table c.args.rows.now) l.at l.doomed c.in_err-gather_row.field-0.0 (map view c.row.result.now) c.row.ensures (c.in_err-gather_row.ensures.err other));
    }

pub returns : goal.returns
returns g c =
    let scene = c.args.scene.now in
    let l = c.loop-at in
    record {
      ok =
          l.invariant
          ∙ steps_done (put_row (parameters_in scene) c.args.graph.now (map (tree_of scene.names.now) c.args.elements.now.items)) (row_of scene.names.now) (table c.args.rows.now) l.at l.doomed (subst (λ n. n ≤ l.at) c.len-at-end.ensures c.loop-at-test.false);
      err = tt;
    }
