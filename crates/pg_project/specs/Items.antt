-- The items of a projection: those that group, and aggregates.
use Rattle.std.specs.Borrow.{Bor}
use Rattle.std.specs.Prelude.{ℕ, Bool, true, false, List, [], ◌∷◌, map, Option, Some, None}
use Rattle.pg_meaning.specs.Aggregates.{Aggregate, aggregate_of}
use Rattle.pg_meaning.specs.Projections.{Projected}
use Rattle.pg_meaning.specs.Scopes.{Column}
use Rattle.pg_meaning.specs.Tree.{Expression}
use Rattle.pg_meaning.specs.Value.{Value}
use Rattle.pg_rows.specs.Named.{row_of}
use Rattle.pg_syntax_tree.specs.View.{expression_view}
use Rattle.pg_syntax_tree.specs.declared.expression.Expression.{Expression as Code}

abbrev pub expressions_view : List (Bor Code) → List Expression
expressions_view es = map (λ e. expression_view e.now) es

abbrev pub columns_of : (names : List (List ℕ)) → List Expression → List Column
columns_of [] es = []
columns_of (n ∷ ns) [] = []
columns_of (n ∷ ns) (e ∷ es) = record { name = n; value = e } ∷ columns_of ns es

-- a row of columns alone
abbrev pub of_columns : (columns : List (List ℕ)) → List Value → Projected
of_columns columns values = record { columns = row_of columns values; earlier = [] }

pub data Item : Type 0 where
  grouping : Expression → Item
  aggregate : Aggregate → Item

abbrev pub item_by : Expression → Option Aggregate → Item
item_by e None = grouping e
item_by e (Some a) = aggregate a

abbrev pub item_of : Expression → Item
item_of e = item_by e (aggregate_of e)

abbrev pub before_keys : Item → List Expression → List Expression
before_keys (grouping e) es = e ∷ es
before_keys (aggregate a) es = es

abbrev pub keys_in : List Expression → List Expression
keys_in [] = []
keys_in (e ∷ es) = before_keys (item_of e) (keys_in es)

abbrev pub before_aggregates : Item → List Aggregate → List Aggregate
before_aggregates (grouping e) aggregates = aggregates
before_aggregates (aggregate a) aggregates = a ∷ aggregates

abbrev pub aggregates_in : List Expression → List Aggregate
aggregates_in [] = []
aggregates_in (e ∷ es) = before_aggregates (item_of e) (aggregates_in es)

abbrev pub is_aggregate : Item → Bool
is_aggregate (grouping e) = false
is_aggregate (aggregate a) = true

abbrev pub are_aggregates : List Expression → List Bool
are_aggregates es = map (λ e. is_aggregate (item_of e)) es
