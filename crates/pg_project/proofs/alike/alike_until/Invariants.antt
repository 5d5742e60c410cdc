use Rattle.std.proofs.Common.{◌-◌, length, map}
use Rattle.pg_project.specs.AlikeRows.{AlikeUntil}
use Rattle.pg_rows.specs.Tables.{table}
use Rattle.pg_value_core.specs.View.{view}
use Rattle.pg_project.proofs.alike.alike_until.Given as goal

abbrev pub invariant-loop-at : goal.invariant-loop-at
invariant-loop-at l = AlikeUntil l.columns (table l.rows) l.from l.at (map view l.before)

abbrev pub decreases-loop-at : goal.decreases-loop-at
decreases-loop-at l = length (table l.rows) - l.at
