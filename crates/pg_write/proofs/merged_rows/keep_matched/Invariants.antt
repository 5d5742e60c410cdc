use Rattle.std.proofs.Common.{◌≡◌, length}
use Rattle.pg_meaning.specs.Answer.{each_step}
use Rattle.pg_meaning.specs.Updates.{merged_row}
use Rattle.pg_rows.specs.Left.{rows_left}
use Rattle.pg_rows.specs.Named.{rows_named}
use Rattle.pg_rows.specs.Tables.{table}
use Rattle.pg_write.specs.Ready.{matched_in, names_in, setting_in, state_in}
use Rattle.pg_write.proofs.merged_rows.keep_matched.Given as goal

abbrev pub invariant-loop-left : goal.invariant-loop-left
invariant-loop-left g l =
    let m = l.merging in
    let step = merged_row (setting_in m l.fn.meter.limit) (matched_in m) in
    record {
      rest : each_step step (state_in m l.fn.live.graph l.fn.merged l.fn.meter.used) (rows_named (names_in m) (table l.fn.found))
          ≡ each_step step (state_in m l.live.graph l.merged l.meter.used) (rows_named (names_in m) (rows_left l.left));
      width : l.merged.width ≡ l.fn.merged.width;
      narrow : l.left.rows.width ≡ l.fn.found.width;
      limit : l.meter.limit ≡ l.fn.meter.limit;
      aside : l.live.aside ≡ l.fn.live.aside;
    }

abbrev pub decreases-loop-left : goal.decreases-loop-left
decreases-loop-left g l = length (rows_left l.left)
