use Rattle.std.proofs.Common.{◌≤◌, map, refl, subst, ◌∙◌}
use Rattle.std.proofs.lemmas.Result.{err_from_is_err_and}
use Rattle.pg_meaning.specs.Updates.{set_row}
use Rattle.pg_rows.specs.Named.{row_of}
use Rattle.pg_rows.specs.Tables.{table}
use Rattle.pg_value_core.specs.View.{view}
use Rattle.pg_write.specs.Items.{item_of}
use Rattle.pg_write_make.proofs.RowLemmas.{step_fault, step_on, steps_done}
use Rattle.pg_write_make.specs.Scenes.{parameters_in, reading}
use Rattle.pg_write.proofs.setting.set_rows.Goals as goal

pub loop-at-init : goal.loop-at-init
loop-at-init g c = record { rest = refl; aside = refl }

pub returns-in_err-set_row-clause-err : goal.returns-in_err-set_row-clause-err
returns-in_err-set_row-clause-err g c =
    let p = err_from_is_err_and c.from_residual.result c.from_residual.ensures.1 in
    let scene = c.args.scene.now in
    let l = c.loop-at in
    rw (p.1, p.2)
    (λ other.
    l.invariant.rest
    ∙ step_fault (set_row (reading (parameters_in scene)) (map (item_of scene.names.now) c.args.items.now.items)) (row_of scene.names.now) (table c.args.rows.now) l.at l.live.graph c.in_err-set_row.field-0.0 (map view c.row.result.now) c.row.ensures (c.in_err-set_row.ensures.err other))

pub returns-in_err-set_row-clause-aside : goal.returns-in_err-set_row-clause-aside
returns-in_err-set_row-clause-aside g c =
    c.set_row.ensures.aside ∙ c.loop-at.invariant.aside

pub loop-at-preserved : goal.loop-at-preserved
loop-at-preserved g c =
    let scene = c.args.scene.now in
    let l = c.loop-at in
    record {
      rest =
          l.invariant.rest
          ∙ step_on (set_row (reading (parameters_in scene)) (map (item_of scene.names.now) c.args.items.now.items)) (row_of scene.names.now) (table c.args.rows.now) l.at l.live.graph c.set_row.new.live.graph (map view c.row.result.now) c.row.ensures c.in_ok-set_row.ensures.ok;
      aside = c.set_row.ensures.aside ∙ l.invariant.aside;
    }

pub returns-clause-ok : goal.returns-clause-ok
returns-clause-ok g c =
    let scene = c.args.scene.now in
    let l = c.loop-at in
    l.invariant.rest
    ∙ steps_done (set_row (reading (parameters_in scene)) (map (item_of scene.names.now) c.args.items.now.items)) (row_of scene.names.now) (table c.args.rows.now) l.at l.live.graph (subst (λ n. n ≤ l.at) c.len-at-end.ensures c.loop-at-test.false)

pub returns-clause-aside : goal.returns-clause-aside
returns-clause-aside g c = c.loop-at.invariant.aside
