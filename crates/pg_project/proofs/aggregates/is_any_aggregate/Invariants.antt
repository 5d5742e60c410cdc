use Rattle.std.proofs.Common.{◌≡◌, drop, is_some, map}
use Rattle.std.specs.List.{list_any}
use Rattle.pg_meaning.specs.Aggregates.{aggregate_of}
use Rattle.pg_syntax_tree.specs.View.{item_view}
use Rattle.pg_project.proofs.aggregates.is_any_aggregate.Given as goal

abbrev pub invariant-loop-item : goal.invariant-loop-item
invariant-loop-item l =
    list_any (λ i. is_some (aggregate_of i.value)) (map item_view l.items.items) ≡ list_any (λ i. is_some (aggregate_of i.value)) (map item_view (drop l.item-index l.items.items))
