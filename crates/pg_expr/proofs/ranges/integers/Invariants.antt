use Rattle.std.proofs.Common.{◌≡◌, drop}
use Rattle.pg_expr.proofs.Integers.{joined_integers}
use Rattle.pg_expr.specs.Contexts.{founds_view}
use Rattle.pg_meaning.specs.Functions.{integers_of}
use Rattle.pg_expr.proofs.ranges.integers.Given as goal

abbrev pub invariant-loop-argument : goal.invariant-loop-argument
invariant-loop-argument l = integers_of (founds_view l.argument-items) ≡ joined_integers l.integers.items (integers_of (founds_view (drop l.argument-index l.argument-items)))
