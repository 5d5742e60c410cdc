use Rattle.std.proofs.Common.{◌≡◌, List, map, take}
use Rattle.pg_rows.specs.Sorts.{entries_view, numbered, picked}
use Rattle.pg_rows.specs.Tables.{table}
use Rattle.pg_rows.specs.declared.sort_by.SortBy.{SortBy}
use Rattle.pg_rows.proofs.sorts.entries_of.Given as goal

abbrev pub invariant-loop-at : goal.invariant-loop-at
invariant-loop-at l = (sorts : List SortBy) → entries_view sorts l.entries.items ≡ take l.at (numbered 0 (map (picked sorts) (table l.rows)))
