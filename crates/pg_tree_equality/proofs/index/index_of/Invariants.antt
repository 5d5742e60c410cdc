use Rattle.std.proofs.Common.{map, drop}
use Rattle.pg_tree_equality.proofs.IndexLemmas.{Holds}
use Rattle.pg_syntax_tree.specs.View.{item_view}
use Rattle.pg_tree_equality.proofs.index.index_of.Given as goal

abbrev pub invariant-loop-item : goal.invariant-loop-item
invariant-loop-item l = Holds l.index (map item_view (drop l.item-index l.items.items)) (map item_view l.items.items)
