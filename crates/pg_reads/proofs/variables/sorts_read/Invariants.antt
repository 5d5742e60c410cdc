use Rattle.std.proofs.Common.{◌≡◌, drop, map}
use Rattle.std.specs.List.{list_any}
use Rattle.pg_reads.specs.Reads.{reads}
use Rattle.pg_syntax_tree.specs.View.{sort_item_view}
use Rattle.pg_reads.proofs.variables.sorts_read.Given as goal

abbrev pub invariant-loop-sort : goal.invariant-loop-sort
invariant-loop-sort l = list_any (λ o. reads l.name o.key) (map sort_item_view l.sorts) ≡ list_any (λ o. reads l.name o.key) (map sort_item_view (drop l.sort-index l.sorts))
