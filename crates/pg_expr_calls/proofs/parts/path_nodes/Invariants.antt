use Rattle.std.proofs.Common.{◌≡◌, length}
use Rattle.pg_meaning.specs.Arithmetic.{appended}
use Rattle.pg_meaning.specs.Functions.{path_nodes}
use Rattle.pg_value_core.specs.View.{values_view}
use Rattle.pg_expr_calls.proofs.parts.path_nodes.Given as goal

-- the nodes so far and those that are left make all
abbrev pub invariant-loop-rest : goal.invariant-loop-rest
invariant-loop-rest l = appended (values_view l.nodes.items) (path_nodes l.rest) ≡ path_nodes l.ids

abbrev pub decreases-loop-rest : goal.decreases-loop-rest
decreases-loop-rest l = length l.rest
