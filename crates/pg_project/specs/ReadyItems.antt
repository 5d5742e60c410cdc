-- What items that were made ready stand for, over columns of some names.
use Rattle.std.specs.Prelude.{◌≡◌, ℕ, List, map, option_map}
use Rattle.pg_expr.specs.Prepared.{tree_of}
use Rattle.pg_expr.specs.declared.prepared.Prepared.{Prepared}
use Rattle.pg_project.specs.Items as items
use Rattle.pg_project.specs.Items.{keys_in, aggregates_in, are_aggregates}
use Rattle.pg_project.specs.declared.items.Aggregate.{Aggregate}
use Rattle.pg_project.specs.declared.items.Item.{Item}
use Rattle.pg_project.specs.declared.items.Item.TheVariants as item
use Rattle.pg_project.specs.declared.items.Items.{Items}
use Rattle.pg_meaning.specs.Aggregates as meaning
use Rattle.pg_meaning.specs.Tree.{Expression}
use Rattle.pg_scope.specs.Calls.{summary_view}

module _ (names : List (List ℕ)) where
  abbrev pub keys_of : List Prepared → List Expression
  keys_of ps = map (tree_of names) ps

  abbrev pub aggregate_view : Aggregate → meaning.Aggregate
  aggregate_view a = record { summary = summary_view a.summary; distinct = a.distinct; argument = option_map (tree_of names) a.argument }

  abbrev pub aggregates_view : List Aggregate → List meaning.Aggregate
  aggregates_view aggregates = map aggregate_view aggregates

  abbrev pub item_view : Item → items.Item
  item_view (item.Key p) = items.grouping (tree_of names p)
  item_view (item.Aggregate a) = items.aggregate (aggregate_view a)

pub record AreReady (names : List (List ℕ)) (es : List Expression) (ready : Items) : Type 0 where
  pub keys : keys_of names ready.keys.items ≡ keys_in es
  pub aggregates : aggregates_view names ready.aggregates.items ≡ aggregates_in es
  pub kinds : ready.are_aggregates.items ≡ are_aggregates es
