use Rattle.std.proofs.Common.{◌≡◌, length}
use Rattle.pg_meaning.specs.Expressions.{all_signed}
use Rattle.pg_expr.specs.Contexts.{found_view}
use Rattle.pg_expr.proofs.operators.signed_value.Given as goal

abbrev pub invariant-loop-sign : goal.invariant-loop-sign
invariant-loop-sign l = all_signed l.signs.items (found_view l.fn.v) ≡ all_signed l.left (found_view l.signed)

abbrev pub decreases-loop-sign : goal.decreases-loop-sign
decreases-loop-sign l = length l.left
