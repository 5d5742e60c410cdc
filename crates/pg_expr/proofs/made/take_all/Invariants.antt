use Rattle.std.proofs.Common.{◌≡◌, map}
use Rattle.pg_expr.specs.Contexts.{found_view}
use Rattle.pg_value_core.specs.View.{view}
use Rattle.pg_expr.proofs.made.take_all.Given as goal

abbrev pub invariant-loop-item : goal.invariant-loop-item
invariant-loop-item l = map view l.values.items ≡ map found_view l.yielded
