use Rattle.std.proofs.Common.{◌≡◌, [], length}
use Rattle.pg_meaning.specs.Answer.{each_step}
use Rattle.pg_rows.specs.Left.{rows_left}
use Rattle.pg_rows.specs.Named.{rows_named}
use Rattle.pg_rows.specs.Tables.{table}
use Rattle.pg_write.specs.Mergings.{row_merged}
use Rattle.pg_write.specs.Ready.{created_in, matched_in, names_in, path_in, setting_in, state_in}
use Rattle.pg_write.proofs.merged_rows.merge_rows.Given as goal

abbrev pub invariant-loop-left : goal.invariant-loop-left
invariant-loop-left g l =
    let m = l.merging in
    let step = row_merged (setting_in m l.fn.meter.limit) (path_in m) (created_in m) (matched_in m) in
    record {
      rest : each_step step (record { graph = l.fn.live.graph; rows = []; steps = l.fn.meter.used }) (rows_named (names_in m) (table l.fn.rows))
          ≡ each_step step (state_in m l.live.graph l.merged l.meter.used) (rows_named (names_in m) (rows_left l.left));
      width : l.merged.width ≡ length (names_in m);
      narrow : l.left.rows.width ≡ l.fn.rows.width;
      limit : l.meter.limit ≡ l.fn.meter.limit;
      aside : l.live.aside ≡ l.fn.live.aside;
    }

abbrev pub decreases-loop-left : goal.decreases-loop-left
decreases-loop-left g l = length (rows_left l.left)
