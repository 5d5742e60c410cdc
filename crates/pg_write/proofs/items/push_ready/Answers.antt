use Rattle.std.proofs.Common.{◌++◌, map}
use Rattle.pg_syntax_tree.specs.View.{set_item_view}
use Rattle.pg_write.proofs.MovedLemmas.{item_moved, items_moved}
use Rattle.pg_write.specs.Items.{item_of}
use Rattle.pg_write.proofs.items.push_ready.Goals as goal

pub loop-item-preserved : goal.loop-item-preserved
loop-item-preserved c =
    let items = c.args.items.now.items in
    let l = c.loop-item in
    item_moved (item_of c.args.names.now) set_item_view l.ready.items c.deref-item-items.result.now items c.deref-item-items.ensures.value l.item-index (map (item_of c.args.names.now) c.args.ready.now.items ++ map set_item_view items) l.invariant
    c.item-item.result c.loop-item-test.true c.item-item.is c.push.new.self.items c.in_ok-ready_set.field-0 c.in_ok-push.ensures.items c.in_ok-ready_set.ensures

pub returns : goal.returns
returns c =
    let items = c.args.items.now.items in
    let l = c.loop-item in
    items_moved (item_of c.args.names.now) set_item_view l.ready.items c.deref-item-items.result.now items c.deref-item-items.ensures.value l.item-index (map (item_of c.args.names.now) c.args.ready.now.items ++ map set_item_view items) l.invariant c.loop-item-test.false
