use Rattle.std.proofs.Common.{◌≡◌, ◌++◌, map, drop}
use Rattle.pg_syntax_tree.specs.View.{set_item_view}
use Rattle.pg_write.specs.Items.{item_of}
use Rattle.pg_write.proofs.items.push_ready.Given as goal

abbrev pub invariant-loop-item : goal.invariant-loop-item
invariant-loop-item l = map (item_of l.names) l.ready.items ++ map set_item_view (drop l.item-index l.items.items) ≡ map (item_of l.names) l.fn.ready.items ++ map set_item_view l.items.items
