use Rattle.std.proofs.Common.{◌≡◌, drop}
use Rattle.pg_meaning.specs.Functions.{has_deleted}
use Rattle.pg_expr.specs.Contexts.{founds_view}
use Rattle.pg_expr.proofs.calls.has_deleted.Given as goal

abbrev pub invariant-loop-argument : goal.invariant-loop-argument
invariant-loop-argument g l = has_deleted l.graph (founds_view l.argument-items) ≡ has_deleted l.graph (founds_view (drop l.argument-index l.argument-items))
