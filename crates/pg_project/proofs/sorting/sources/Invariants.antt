use Rattle.std.proofs.Common.{◌≡◌, length, map, take}
use Rattle.pg_project.specs.Items.{expressions_view}
use Rattle.pg_project.specs.Given.{sort_source}
use Rattle.pg_project.specs.Sources.{source_directions, sources_view}
use Rattle.pg_rows.specs.Sorts.{directions}
use Rattle.pg_syntax_tree.specs.View.{sort_item_view}
use Rattle.pg_project.proofs.sorting.sources.Given as goal

abbrev pub invariant-loop-item : goal.invariant-loop-item
invariant-loop-item l =
    (sources_view l.names l.found.items ≡ map (λ o. sort_source (expressions_view l.items.items) o.key) (map sort_item_view (take l.item-index l.order.items)))
    × (source_directions l.found.items ≡ directions (map sort_item_view (take l.item-index l.order.items)))
    × (length l.found.items ≡ l.item-index)
