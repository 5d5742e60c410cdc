use Rattle.std.proofs.Common.{◌≡◌, ◌++◌}
use Rattle.std.specs.Vec.Iter.{into_iter_items}
use Rattle.pg_project.specs.Unwound.{lists_view, rows_unwound}
use Rattle.pg_rows.specs.Left.{rows_left}
use Rattle.pg_rows.specs.Tables.{table}
use Rattle.pg_project.proofs.lists.each_unwound.Given as goal

abbrev pub invariant-loop-items : goal.invariant-loop-items
invariant-loop-items l =
    (table l.found ++ rows_unwound l.has_column (rows_left l.left) (lists_view (into_iter_items l.items-iterator)) ≡ rows_unwound l.has_column (table l.fn.rows) (lists_view l.fn.lists.items))
    × (l.found.width ≡ l.width)
    × (l.left.rows.width ≡ l.fn.rows.width)
