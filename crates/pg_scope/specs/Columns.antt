-- How a clause names its columns, and what stands behind them.
use Rattle.std.specs.Prelude.{Bool, true, false, ◌||◌, ◌&&◌, List, [], ◌++◌, flat_map, Option, is_some, is_none}
use Rattle.std.specs.List.{list_any}
use Rattle.pg_meaning.specs.Aggregates.{aggregate_of}
use Rattle.pg_meaning.specs.Names.{Names}
use Rattle.pg_meaning.specs.Scopes.{Column, with_column, return_column}
use Rattle.pg_meaning.specs.StaticFaults.{PlacedFault, faults_of, faults_if_any}
use Rattle.pg_meaning.specs.Tree.{Expression, Item, SortItem, Projection}
use Rattle.pg_meaning.specs.Trees.{same_expression}
use Rattle.pg_scope.specs.First.{IsFirst}
use Rattle.pg_scope.specs.declared.columns.Naming.{Naming}
use Rattle.pg_scope.specs.declared.columns.Naming.TheVariants.{Variable, Source}

abbrev pub column_of : Naming → Item → Column
column_of Variable = with_column
column_of Source = return_column

-- what `*` stands for, where it is written
abbrev pub starred : Bool → Names → Names
starred true scope = scope
starred false scope = []

-- what stands behind the items sees the columns alone
abbrev pub narrow : Projection → Bool
narrow p = is_none p.star && (p.distinct || list_any (λ x. is_some (aggregate_of x.value)) p.items)

-- a sort that is no item's expression
abbrev pub sorts : List Item → Names → SortItem → List PlacedFault
sorts items visible x = elim (list_any (λ i. same_expression i.value x.key) items) [ true ↦ [] | false ↦ faults_of visible x.key ]

-- behind any faults: those of what stands behind the items
pub record IsTail (p : Projection) (condition : Option Expression) (visible : Names) (next last : Option PlacedFault) : Type 0 where
  pub is : (first : Option PlacedFault) (front : List PlacedFault) → IsFirst first front next
      → IsFirst first (front ++ flat_map (sorts p.items visible) p.order ++ faults_if_any [] p.skip ++ faults_if_any [] p.limit ++ faults_if_any visible condition) last
