use Rattle.std.proofs.Common.{◌≡◌, ◌+◌, ◌++◌, length, map, take}
use Rattle.pg_value_core.specs.View.{view}
use Rattle.pg_rows.proofs.moves.copy_row.Given as goal

abbrev pub invariant-loop-value : goal.invariant-loop-value
invariant-loop-value l =
    (map view l.values.items ≡ map view l.fn.values.items ++ map view (take l.value-index l.row))
    × (take (length l.fn.values.items) l.values.items ≡ l.fn.values.items)
    × (length l.values.items ≡ length l.fn.values.items + l.value-index)
