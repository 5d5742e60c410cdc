use Rattle.std.proofs.Common.{◌++◌, map, refl, sym, ap}
use Rattle.std.proofs.lemmas.Result.{IfOk-from_err}
use Rattle.pg_project.proofs.ColumnViews.{all_named, tree_pushed, trees_over}
use Rattle.pg_project.specs.Columns.{trees_in, values_in_items}
use Rattle.pg_project.specs.Items.{columns_of, expressions_view}
use Rattle.pg_syntax_tree.specs.View.{item_view}
use Rattle.pg_project.proofs.projection_columns.ProjectionColumns.expressions.Goals as goal

pub loop-expression-init : goal.loop-expression-init
loop-expression-init c = ap (λ es. expressions_view es ++ trees_in c.args.self.now.starred.items) c.new-found.ensures.items

pub loop-expression-preserved : goal.loop-expression-preserved
loop-expression-preserved c =
    let l = c.loop-expression in
    let trees = trees_in c.args.self.now.starred.items in
    tree_pushed c.deref-expression-items.result.now c.args.self.now.starred.items c.deref-expression-items.ensures.value trees_in l.expression-index l.found.items trees l.invariant
    c.expression-item.result c.loop-expression-test.true c.expression-item.is c.push.new.self.items _ c.in_ok-push.ensures.items refl

pub loop-item-init : goal.loop-item-init
loop-item-init c =
    let l = c.loop-expression in
    let trees = trees_in c.args.self.now.starred.items in
    ap (λ es. es ++ values_in_items (map item_view c.args.self.now.items.now.items))
    (trees_over c.deref-expression-items.result.now c.args.self.now.starred.items c.deref-expression-items.ensures.value trees_in l.expression-index l.found.items trees l.invariant refl c.loop-expression-test.false)

pub loop-item-preserved : goal.loop-item-preserved
loop-item-preserved c =
    let l = c.loop-item in
    let items = c.args.self.now.items.now.items in
    tree_pushed c.deref-item-items.result.now items c.deref-item-items.ensures.value (λ is. values_in_items (map item_view is)) l.item-index l.found.items
    (trees_in c.args.self.now.starred.items ++ values_in_items (map item_view items)) l.invariant c.item-item.result c.loop-item-test.true c.item-item.is c.push-in-loop-item.new.self.items _ c.in_ok-push-2.ensures.items refl

pub returns-in_err-push : goal.returns-in_err-push
returns-in_err-push c = record {
  trees = IfOk-from_err c.from_residual.result _ c.from_residual.ensures.0;
  len = IfOk-from_err c.from_residual.result _ c.from_residual.ensures.0;
}

pub returns-in_err-push-2 : goal.returns-in_err-push-2
returns-in_err-push-2 c = record {
  trees = IfOk-from_err c.from_residual-in_err-push-2.result _ c.from_residual-in_err-push-2.ensures.0;
  len = IfOk-from_err c.from_residual-in_err-push-2.result _ c.from_residual-in_err-push-2.ensures.0;
}

pub returns : goal.returns
returns c =
    let l = c.loop-item in
    let s = c.args.self.now in
    let items = s.items.now.items in
    let all = trees_over c.deref-item-items.result.now items c.deref-item-items.ensures.value (λ is. values_in_items (map item_view is)) l.item-index l.found.items
    (trees_in s.starred.items ++ values_in_items (map item_view items)) l.invariant refl c.loop-item-test.false in
    record {
      trees = ap (columns_of s.names) (sym all);
      len = all_named s l.found.items all;
    }
