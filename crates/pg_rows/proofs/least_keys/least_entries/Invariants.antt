use Rattle.std.proofs.Common.{map, take}
use Rattle.pg_rows.specs.LeastKeys.{HoldsLeast}
use Rattle.pg_rows.specs.Sorts.{numbered, picked}
use Rattle.pg_rows.specs.Tables.{table}
use Rattle.pg_rows.proofs.least_keys.least_entries.Given as goal

abbrev pub invariant-loop-at : goal.invariant-loop-at
invariant-loop-at l = HoldsLeast l.most l.sorts l.least (take l.at (numbered 0 (map (picked l.sorts) (table l.rows))))
