use Rattle.std.proofs.Common.{refl}
use Rattle.pg_expr.proofs.ChainLemmas.{conjuncts_from, fault_at}
use Rattle.pg_expr.proofs.ExitLemmas.{fault_passed}
use Rattle.pg_expr.specs.Conditions.{all_met_by}
use Rattle.pg_expr.proofs.conditions.operands_met.Goals as goal

pub returns-in_err-is_met-clause-err : goal.returns-in_err-is_met-clause-err
returns-in_err-is_met-clause-err g c =
    let s = c.args.context.now in
    let graph = c.args.graph.now in
    let os = c.args.operands.now in
    let all = all_met_by s graph (conjuncts_from os) in
    let l = c.loop-operand in
    fault_passed all c.in_err-is_met.field-0.0 c.from_residual.result c.from_residual.ensures.1
    (λ other. fault_at s graph all os os refl l.operand-index l.invariant c.loop-operand-item.result c.loop-operand-test.true c.loop-operand-item.is c.in_err-is_met.field-0.0 (c.in_err-is_met.ensures.err other))
