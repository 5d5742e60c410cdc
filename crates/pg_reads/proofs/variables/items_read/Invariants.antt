use Rattle.std.proofs.Common.{◌≡◌, drop, map}
use Rattle.std.specs.List.{list_any}
use Rattle.pg_reads.specs.Reads.{reads}
use Rattle.pg_syntax_tree.specs.View.{item_view}
use Rattle.pg_reads.proofs.variables.items_read.Given as goal

abbrev pub invariant-loop-item : goal.invariant-loop-item
invariant-loop-item l = list_any (λ i. reads l.name i.value) (map item_view l.items) ≡ list_any (λ i. reads l.name i.value) (map item_view (drop l.item-index l.items))
