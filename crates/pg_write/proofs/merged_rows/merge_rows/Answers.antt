use Rattle.std.proofs.Common.{ℕ, [], map, refl, ap, ◌∙◌}
use Rattle.std.proofs.lemmas.Result.{err_from_is_err_and}
use Rattle.pg_meaning.specs.Answer.{each_step}
use Rattle.pg_rows.specs.Left.{rows_left}
use Rattle.pg_rows.specs.Named.{row_of, rows_named}
use Rattle.pg_rows.specs.Tables.{table}
use Rattle.pg_value_core.specs.View.{view}
use Rattle.pg_write.proofs.MergeLemmas.{one_fewer, rows_begun, rows_over, step_err, step_next, with_rows}
use Rattle.pg_write.specs.Mergings.{row_merged}
use Rattle.pg_write.specs.Ready.{created_in, matched_in, names_in, path_in, setting_in, state_in}
use Rattle.pg_write.proofs.merged_rows.merge_rows.Goals as goal

pub loop-left-init : goal.loop-left-init
loop-left-init g c =
    let m = c.args.merging.now in
    record {
      rest =
          rows_begun (row_merged (setting_in m c.args.meter.now.limit) (path_in m) (created_in m) (matched_in m)) (names_in m) c.args.live.now.graph c.args.meter.now.used
          (table c.args.rows) (rows_left c.into_left-left.result) (table c.new-merged.result) c.into_left-left.ensures.rows c.new-merged.ensures.rows;
      width = c.new-merged.ensures.width ∙ c.len.ensures;
      narrow = c.into_left-left.ensures.width;
      limit = refl;
      aside = refl;
    }

pub returns-in_err-row-clause-err : goal.returns-in_err-row-clause-err
returns-in_err-row-clause-err g c =
    let p = err_from_is_err_and c.from_residual.result c.from_residual.ensures.1 in
    rw (p.1, p.2) (λ other. absurd (other refl))

pub returns-in_err-row-clause-aside : goal.returns-in_err-row-clause-aside
returns-in_err-row-clause-aside g c = c.loop-left.invariant.aside

pub returns-in_err-row-clause-limit : goal.returns-in_err-row-clause-limit
returns-in_err-row-clause-limit g c = c.loop-left.invariant.limit

pub merge_row-requires-clause-ready : goal.merge_row-requires-clause-ready
merge_row-requires-clause-ready g c = c.requires.ready

pub merge_row-requires-clause-bound : goal.merge_row-requires-clause-bound
merge_row-requires-clause-bound g c = (rw c.in-Some.is at c.in_ok-row.ensures.len) ∙ c.loop-left.invariant.narrow ∙ c.requires.bound

pub merge_row-requires-clause-wide : goal.merge_row-requires-clause-wide
merge_row-requires-clause-wide g c = c.loop-left.invariant.width

pub returns-in_err-merge_row-clause-err : goal.returns-in_err-merge_row-clause-err
returns-in_err-merge_row-clause-err g c =
    let m = c.args.merging.now in
    let l = c.loop-left in
    let step = λ (limit : ℕ). row_merged (setting_in m limit) (path_in m) (created_in m) (matched_in m) in
    let first = rw c.in-Some.is at c.in_ok-row.ensures.row in
    let p = err_from_is_err_and c.from_residual-in_err-merge_row.result c.from_residual-in_err-merge_row.ensures.1 in
    rw (p.1, p.2) (λ other. step_err step l.meter.limit c.args.meter.now.limit l.invariant.limit
    (each_step (step c.args.meter.now.limit) (with_rows c.args.live.now.graph [] c.args.meter.now.used) (rows_named (names_in m) (table c.args.rows)))
    (state_in m l.live.graph l.merged l.meter.used)
    (row_of (names_in m) (map view c.in-Some.row.items)) (rows_named (names_in m) (rows_left c.next_row.new.self)) (rows_named (names_in m) (rows_left l.left)) c.in_err-merge_row.field-0.0
    l.invariant.rest (ap (rows_named (names_in m)) first) (c.in_err-merge_row.ensures.err other))

pub returns-in_err-merge_row-clause-aside : goal.returns-in_err-merge_row-clause-aside
returns-in_err-merge_row-clause-aside g c =
    c.merge_row.ensures.aside ∙ c.loop-left.invariant.aside

pub returns-in_err-merge_row-clause-limit : goal.returns-in_err-merge_row-clause-limit
returns-in_err-merge_row-clause-limit g c = c.merge_row.ensures.limit ∙ c.loop-left.invariant.limit

pub loop-left-smaller : goal.loop-left-smaller
loop-left-smaller g c = one_fewer (rows_left c.loop-left.left) (rows_left c.next_row.new.self) (map view c.in-Some.row.items) (rw c.in-Some.is at c.in_ok-row.ensures.row)

pub loop-left-preserved : goal.loop-left-preserved
loop-left-preserved g c =
    let m = c.args.merging.now in
    let l = c.loop-left in
    let step = λ (limit : ℕ). row_merged (setting_in m limit) (path_in m) (created_in m) (matched_in m) in
    let first = rw c.in-Some.is at c.in_ok-row.ensures.row in
    record {
      rest =
          step_next step l.meter.limit c.args.meter.now.limit l.invariant.limit
          (each_step (step c.args.meter.now.limit) (with_rows c.args.live.now.graph [] c.args.meter.now.used) (rows_named (names_in m) (table c.args.rows)))
          (state_in m l.live.graph l.merged l.meter.used)
          (state_in m c.merge_row.new.live.graph c.merge_row.new.merged c.merge_row.new.meter.used)
          (row_of (names_in m) (map view c.in-Some.row.items)) (rows_named (names_in m) (rows_left c.next_row.new.self)) (rows_named (names_in m) (rows_left l.left))
          l.invariant.rest (ap (rows_named (names_in m)) first) c.in_ok-merge_row.ensures.ok;
      width = c.merge_row.ensures.width ∙ l.invariant.width;
      narrow = c.next_row.ensures.width ∙ l.invariant.narrow;
      limit = c.merge_row.ensures.limit ∙ l.invariant.limit;
      aside = c.merge_row.ensures.aside ∙ l.invariant.aside;
    }

pub returns-clause-ok : goal.returns-clause-ok
returns-clause-ok g c =
    let m = c.args.merging.now in
    let l = c.loop-left in
    let step = row_merged (setting_in m c.args.meter.now.limit) (path_in m) (created_in m) (matched_in m) in
    rows_over step (names_in m)
    (each_step step (with_rows c.args.live.now.graph [] c.args.meter.now.used) (rows_named (names_in m) (table c.args.rows)))
    (state_in m l.live.graph l.merged l.meter.used) (rows_left l.left) l.invariant.rest (rw c.in_default.is at c.in_ok-row.ensures.none)

pub returns-clause-width : goal.returns-clause-width
returns-clause-width g c = c.loop-left.invariant.width

pub returns-clause-aside : goal.returns-clause-aside
returns-clause-aside g c = c.loop-left.invariant.aside

pub returns-clause-limit : goal.returns-clause-limit
returns-clause-limit g c = c.loop-left.invariant.limit
