use Rattle.std.proofs.Common.{◌≡◌, drop, None, Option}
use Rattle.pg_expr.proofs.Walks.{chain_of, true_of}
use Rattle.pg_expr.specs.Scalars.{scalar_view, ThenTells}
use Rattle.pg_meaning.specs.Value.{Value as Datum}
use Rattle.pg_expr.proofs.scalar_evaluation.+scalar.Given as goal

abbrev pub invariant-joined-loop-operator : goal.invariant-joined-loop-operator
invariant-joined-loop-operator g l =
    (told : Option Datum) → ThenTells (scalar_view l.left) told (λ v. chain_of l.context l.graph v (drop l.operator-index l.operands.items))
    → ThenTells (scalar_view l.fn.first) told (λ v. chain_of l.context l.graph v l.operands.items)

abbrev pub invariant-case-loop-condition : goal.invariant-case-loop-condition
invariant-case-loop-condition g l = true_of l.context l.graph None l.condition-items ≡ true_of l.context l.graph None (drop l.condition-index l.condition-items)
