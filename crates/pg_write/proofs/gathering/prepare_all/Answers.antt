use Rattle.std.proofs.Common.{◌++◌, map, ap}
use Rattle.pg_expr.specs.Prepared.{tree_of}
use Rattle.pg_syntax_tree.specs.View.{expression_view}
use Rattle.pg_write.proofs.MovedLemmas.{item_moved, items_moved}
use Rattle.pg_write.proofs.gathering.prepare_all.Goals as goal

pub loop-element-init : goal.loop-element-init
loop-element-init c = ap (λ rs. map (tree_of c.args.names.now) rs ++ map expression_view c.args.elements.now.items) c.in_ok-ready.ensures.items

pub loop-element-preserved : goal.loop-element-preserved
loop-element-preserved c =
    let elements = c.args.elements.now.items in
    let l = c.loop-element in
    item_moved (tree_of c.args.names.now) expression_view l.ready.items c.deref-element-items.result.now elements c.deref-element-items.ensures.value l.element-index (map expression_view elements) l.invariant
    c.element-item.result c.loop-element-test.true c.element-item.is c.push.new.self.items c.in_ok-prepare.field-0 c.in_ok-push.ensures.items c.in_ok-prepare.ensures

pub returns : goal.returns
returns c =
    let elements = c.args.elements.now.items in
    let l = c.loop-element in
    items_moved (tree_of c.args.names.now) expression_view l.ready.items c.deref-element-items.result.now elements c.deref-element-items.ensures.value l.element-index (map expression_view elements) l.invariant c.loop-element-test.false
