use Rattle.std.proofs.Common.{◌≡◌, drop}
use Rattle.pg_meaning.specs.Functions.{has_null}
use Rattle.pg_expr.specs.Contexts.{founds_view}
use Rattle.pg_expr.proofs.calls.has_null.Given as goal

abbrev pub invariant-loop-argument : goal.invariant-loop-argument
invariant-loop-argument l = has_null (founds_view l.argument-items) ≡ has_null (founds_view (drop l.argument-index l.argument-items))
