use Rattle.std.proofs.Common.{◌≡◌, ◌+◌, ◌++◌, length, take, drop, replicate}
use Rattle.pg_value_core.specs.declared.value.Value.TheVariants.{Null}
use Rattle.pg_rows.proofs.moves.move_row.Given as goal

abbrev pub invariant-loop-offset : goal.invariant-loop-offset
invariant-loop-offset l =
    (l.moved.items ≡ l.fn.moved.items ++ take l.offset (drop l.start l.fn.values.items))
    × (l.values.items ≡ take l.start l.fn.values.items ++ (replicate l.offset Null ++ drop (l.start + l.offset) l.fn.values.items))
    × (length l.values.items ≡ length l.fn.values.items)
