use Rattle.std.proofs.Common.{◌≡◌, drop}
use Rattle.pg_meaning.specs.Expressions.{all_compared}
use Rattle.pg_expr.proofs.Comparisons.{together}
use Rattle.pg_expr.specs.Contexts.{found_view, pairs_view}
use Rattle.pg_value_core.specs.View.{view}
use Rattle.pg_expr.proofs.operators.all_compared.Given as goal

abbrev pub invariant-loop-operator : goal.invariant-loop-operator
invariant-loop-operator l =
    all_compared (found_view l.first) (pairs_view l.operator-items) ≡ together l.all (all_compared (view l.left) (pairs_view (drop l.operator-index l.operator-items)))
