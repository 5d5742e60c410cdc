use Rattle.std.proofs.Common.{◌≡◌, drop}
use Rattle.pg_expr.proofs.ChainLemmas.{conjuncts_from}
use Rattle.pg_expr.specs.Conditions.{all_met_by}
use Rattle.pg_expr.proofs.conditions.operands_met.Given as goal

abbrev pub invariant-loop-operand : goal.invariant-loop-operand
invariant-loop-operand g l = all_met_by l.context l.graph (conjuncts_from l.operands) ≡ all_met_by l.context l.graph (conjuncts_from (drop l.operand-index l.operands))
