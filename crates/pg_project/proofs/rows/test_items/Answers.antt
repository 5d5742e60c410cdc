use Rattle.std.proofs.lemmas.Result.{IfOk-from_err}
use Rattle.pg_expr.proofs.ExitLemmas.{fault_passed}
use Rattle.pg_project.proofs.ExitLemmas.{memory_passed}
use Rattle.pg_project.proofs.RowLemmas.{all_pass, item_fails, item_passes}
use Rattle.pg_project.specs.Items.{expressions_view}
use Rattle.pg_project.specs.Kept.{items_tested}
use Rattle.pg_project.specs.ReadyItems.{item_view}
use Rattle.pg_expr.specs.Contexts.{given}
use Rattle.pg_project.proofs.rows.test_items.Goals as goal

pub returns-in_err-item-clause-ok : goal.returns-in_err-item-clause-ok
returns-in_err-item-clause-ok g c = IfOk-from_err c.from_residual.result _ c.from_residual.ensures.0

pub returns-in_err-item-clause-err : goal.returns-in_err-item-clause-err
returns-in_err-item-clause-err g c = memory_passed _ c.from_residual.result c.from_residual.ensures.1

pub returns-in_err-test_item-clause-ok : goal.returns-in_err-test_item-clause-ok
returns-in_err-test_item-clause-ok g c = IfOk-from_err c.from_residual-in_err-test_item.result _ c.from_residual-in_err-test_item.ensures.0

pub returns-in_err-test_item-clause-err : goal.returns-in_err-test_item-clause-err
returns-in_err-test_item-clause-err g c =
    let at = given c.args.context.now c.args.graph.now in
    let es = c.args.expressions.now.items in
    let l = c.loop-expression in
    let f = c.in_err-test_item.field-0.0 in
    fault_passed _ f c.from_residual-in_err-test_item.result c.from_residual-in_err-test_item.ensures.1
    (λ other. item_fails at c.deref-expression-items.result.now es c.deref-expression-items.ensures.value l.expression-index (items_tested at (expressions_view es)) l.invariant c.expression-item.result c.loop-expression-test.true c.expression-item.is
    (item_view c.args.context.now.names.now c.in_ok-item.item) c.in_ok-item.ensures f (c.in_err-test_item.ensures.err other))

pub loop-expression-preserved : goal.loop-expression-preserved
loop-expression-preserved g c =
    let at = given c.args.context.now c.args.graph.now in
    let es = c.args.expressions.now.items in
    let l = c.loop-expression in
    item_passes at c.deref-expression-items.result.now es c.deref-expression-items.ensures.value l.expression-index (items_tested at (expressions_view es)) l.invariant c.expression-item.result c.loop-expression-test.true c.expression-item.is
    (item_view c.args.context.now.names.now c.in_ok-item.item) c.in_ok-item.ensures c.in_ok-test_item.ensures.ok

pub returns-clause-ok : goal.returns-clause-ok
returns-clause-ok g c =
    let at = given c.args.context.now c.args.graph.now in
    let es = c.args.expressions.now.items in
    all_pass at c.deref-expression-items.result.now es c.deref-expression-items.ensures.value c.loop-expression.expression-index (items_tested at (expressions_view es)) c.loop-expression.invariant c.loop-expression-test.false

pub returns-clause-err : goal.returns-clause-err
returns-clause-err g c = tt
