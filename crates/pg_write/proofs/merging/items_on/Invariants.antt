use Rattle.std.proofs.Common.{◌≡◌, ◌++◌, drop, map}
use Rattle.pg_meaning.specs.Updates.{items_on}
use Rattle.pg_syntax_tree.specs.View.{on_view}
use Rattle.pg_write.specs.Items.{item_of}
use Rattle.pg_write.proofs.merging.items_on.Given as goal

abbrev pub invariant-loop-part : goal.invariant-loop-part
invariant-loop-part l = map (item_of l.names) l.ready.items ++ items_on l.on_create (map on_view (drop l.part-index l.parts.items)) ≡ items_on l.on_create (map on_view l.parts.items)
