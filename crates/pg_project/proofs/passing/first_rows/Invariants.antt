use Rattle.std.proofs.Common.{◌≡◌, ◌≤◌, [], take}
use Rattle.pg_expr.specs.Prepared.{condition_of, names_of, parameters_of}
use Rattle.pg_project.proofs.InTurn.{after}
use Rattle.pg_project.specs.Given.{passing_given}
use Rattle.pg_rows.specs.Left.{rows_left}
use Rattle.pg_rows.specs.Tables.{table}
use Rattle.pg_project.proofs.passing.first_rows.Given as goal

abbrev pub invariant-loop-more : goal.invariant-loop-more
invariant-loop-more g l =
    (passing_given (parameters_of l.wanted) l.graph (names_of l.wanted) (condition_of l.wanted) l.width (take l.most (rows_left l.fn.left)) ≡ after (table l.found) (passing_given (parameters_of l.wanted) l.graph (names_of l.wanted) (condition_of l.wanted) l.width (take l.more (rows_left l.left))))
    × (l.found.width ≡ l.width)
    × (l.width ≤ l.left.rows.width)
    × (l.values.items ≡ [])

abbrev pub decreases-loop-more : goal.decreases-loop-more
decreases-loop-more g l = l.more
