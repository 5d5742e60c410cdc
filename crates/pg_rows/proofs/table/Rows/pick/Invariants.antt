use Rattle.std.proofs.Common.{◌≡◌, ◌*◌, ◌++◌, length, map, drop}
use Rattle.pg_value_core.specs.View.{view}
use Rattle.pg_rows.specs.Tables.{rows_of, table, moved_rows}
use Rattle.pg_rows.proofs.table.Rows.pick.Given as goal

abbrev pub invariant-loop-place : goal.invariant-loop-place
invariant-loop-place l =
    (rows_of l.self.width l.place-index (map view l.moved.items) ++ moved_rows l.self.width (table l.self) (drop l.place-index l.places) ≡ moved_rows l.fn.self.width (table l.fn.self) l.places)
    × (length l.moved.items ≡ l.place-index * l.self.width)
    × (l.self.width ≡ l.fn.self.width)
    × (l.self.count ≡ l.fn.self.count)
