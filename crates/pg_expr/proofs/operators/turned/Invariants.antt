use Rattle.std.proofs.Common.{◌≡◌}
use Rattle.pg_meaning.specs.Logic.{negated}
use Rattle.pg_expr.proofs.operators.turned.Given as goal

abbrev pub invariant-loop-k : goal.invariant-loop-k
invariant-loop-k l = l.turned ≡ negated l._k l.fn.t
