-- Rows that come one after the other and are alike, and how they are counted.
use Rattle.std.specs.Prelude.{◌≡◌, ◌≤◌, ◌<◌, ℕ, ℤ, pos, ◌+ℤ◌, List, [], ◌∷◌, ◌++◌, drop, length, map, Result, Some, None, IfSome, slice_get}
use Rattle.pg_expr.specs.Contexts.{given}
use Rattle.pg_expr.specs.declared.row_context.RowContext.{RowContext}
use Rattle.pg_meaning.specs.Aggregates.{Aggregate}
use Rattle.pg_meaning.specs.Graph.{Graph}
use Rattle.pg_meaning.specs.Value.{Value as Datum}
use Rattle.pg_meaning.specs.declared.fault.Fault.{Fault}
use Rattle.pg_project.specs.Alike.{AreAlike, IsGroupOf, ReadEach}
use Rattle.pg_project.specs.Items.{expressions_view, keys_in}
use Rattle.pg_project.specs.Kept.{Kept, kept_rows}
use Rattle.pg_project.specs.KeptGroups.{Paired, groups_view}
use Rattle.pg_project.specs.ReadyItems.{AreReady, keys_of}
use Rattle.pg_project.specs.Summaries.{Taken, count}
use Rattle.pg_project.specs.declared.groups.Groups.{Groups}
use Rattle.pg_project.specs.declared.rows.Grouping.{Grouping}
use Rattle.pg_rows.specs.Tables.{table}
use Rattle.pg_value_core.specs.Given.{parameters_view}
use Rattle.pg_value_core.specs.View.{view}

-- each row from one place on up to another is like one before in these columns
pub record AlikeUntil (columns : List ℕ) (rows : List (List Datum)) (from end : ℕ) (before : List Datum) : Type 0 where
  pub begins : from ≤ end
  pub ends : from ≤ length rows → end ≤ length rows
  pub alike : (i : ℕ) (row : List Datum) → from ≤ i → i < end → slice_get rows i ≡ Some row → AreAlike columns row before

-- one aggregate, which takes no argument
abbrev pub CountsRows : List Aggregate → Type 0
CountsRows [] = ⊥
CountsRows (a ∷ others) = (a.argument ≡ None) × (others ≡ [])

abbrev pub plain_count : ℤ → Taken
plain_count n = record { different = None; held = count n }

pub record CountsMore (more : ℕ) (old new : Taken) : Type 0 where
  pub before : ℤ
  pub was : old ≡ plain_count before
  pub is : new ≡ plain_count (before +ℤ pos more)

-- the same of one among others
pub record CountsMoreAt (n more : ℕ) (old new : List Taken) : Type 0 where
  pub front : List Taken
  pub back : List Taken
  pub before : ℤ
  pub place : n ≡ length front
  pub was : old ≡ front ++ plain_count before ∷ back
  pub is : new ≡ front ++ plain_count (before +ℤ pos more) ∷ back

-- rows that are grouped, of which one stands at the context
module _ (context : RowContext) (graph : Graph) (grouping : Grouping) where
  -- it stands at this place, and has the key of the group of this number
  pub record StandsIn (groups : Groups) (at number : ℕ) : Type 0 where
    pub ready : AreReady context.names.now (expressions_view grouping.expressions.now.items) grouping.items.now
    pub columns : IfSome grouping.columns (λ columns. ReadEach context.names.now (keys_of context.names.now grouping.items.now.keys.items) columns.items)
    pub paired : Paired (length grouping.items.now.aggregates.items) groups
    pub group : IsGroupOf (given context graph) (keys_in (expressions_view grouping.expressions.now.items)) groups.keys.keys number
    pub here : slice_get (table grouping.rows.now) at ≡ Some (map view context.row.now)

  -- what groups come to with the rows from a place on
  abbrev pub kept_from : Groups → (at : ℕ) → Result (List Kept) Fault
  kept_from groups at =
      kept_rows (parameters_view context.parameters.now) graph context.names.now (expressions_view grouping.expressions.now.items)
      (groups_view (length grouping.items.now.aggregates.items) groups) (drop at (table grouping.rows.now))
