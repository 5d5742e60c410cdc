use Rattle.std.proofs.Common.{◌≡◌, Bool, Result, sym, ap, subst, ◌∙◌}
use Rattle.std.specs.Prelude.{◌≢◌, IfErr, Err}
use Rattle.pg_expr.proofs.Conjuncts.{alone}
use Rattle.pg_expr.specs.Conditions.{all_met_by}
use Rattle.pg_meaning.specs.declared.fault.Fault.{Fault}
use Rattle.pg_meaning.specs.declared.fault.Fault.TheVariants.{OutOfMemory}
use Rattle.pg_syntax_tree.specs.View.{expression_view}
use Rattle.pg_expr.proofs.conditions.conjuncts_met.Goals as goal

pub returns-in-None-clause-err : goal.returns-in-None-clause-err
returns-in-None-clause-err g c =
    let s = c.args.context.now in
    let graph = c.args.graph.now in
    let whole = ap (all_met_by s graph) c.in-None.ensures.none ∙ alone s graph (expression_view c.args.expression.now) in
    subst (λ (r : Result Bool Fault). IfErr c.is_met.result (λ e. e ≢ OutOfMemory → r ≡ Err e)) (sym whole) c.is_met.ensures.err
