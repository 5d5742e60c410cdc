use Rattle.std.proofs.lemmas.Result.{IfOk-from_err}
use Rattle.std.proofs.Common.{◌≡◌, ◌∷◌, Ok}
use Rattle.pg_expr.proofs.ChainLemmas.{conjuncts_from}
use Rattle.pg_expr.proofs.Conjuncts.{next_unmet, next_fault}
use Rattle.pg_expr.proofs.ExitLemmas.{fault_passed}
use Rattle.pg_expr.specs.Conditions.{all_met_by}
use Rattle.pg_syntax_tree.specs.View.{expression_view}
use Rattle.pg_expr.proofs.conditions.chain_met.Goals as goal

pub returns-in_err-is_met-clause-ok : goal.returns-in_err-is_met-clause-ok
returns-in_err-is_met-clause-ok g c =
    let all = all_met_by c.args.context.now c.args.graph.now (expression_view c.args.first.now ∷ conjuncts_from c.args.operands.now.items) in
    IfOk-from_err c.from_residual.result (λ b. all ≡ Ok b) c.from_residual.ensures.0

pub returns-in_err-is_met-clause-err : goal.returns-in_err-is_met-clause-err
returns-in_err-is_met-clause-err g c =
    let s = c.args.context.now in
    let graph = c.args.graph.now in
    let first = expression_view c.args.first.now in
    let others = conjuncts_from c.args.operands.now.items in
    fault_passed (all_met_by s graph (first ∷ others)) c.in_err-is_met.field-0.0 c.from_residual.result c.from_residual.ensures.1
    (λ other. next_fault s graph first others c.in_err-is_met.field-0.0 (c.in_err-is_met.ensures.err other))

pub returns-then-not-branch-clause-ok : goal.returns-then-not-branch-clause-ok
returns-then-not-branch-clause-ok g c =
    next_unmet c.args.context.now c.args.graph.now (expression_view c.args.first.now) (conjuncts_from c.args.operands.now.items) c.in_ok-is_met.field-0 c.in_ok-is_met.ensures.ok c.if-not-branch.true

pub returns-then-not-branch-clause-err : goal.returns-then-not-branch-clause-err
returns-then-not-branch-clause-err g c = tt
