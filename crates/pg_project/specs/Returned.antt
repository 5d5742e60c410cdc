-- RETURN whose rows come in turn, and RETURN that only counts rows.
use Rattle.std.specs.List.{list_any}
use Rattle.std.specs.Prelude.{◌≡◌, false, List, [], length, Result, None, Some}
use Rattle.pg_meaning.specs.Aggregates.{Aggregate, aggregate_of}
use Rattle.pg_meaning.specs.Meters.{Setting, State}
use Rattle.pg_meaning.specs.Names.{Names}
use Rattle.pg_meaning.specs.Projections.{project_clause}
use Rattle.pg_meaning.specs.Rows.{Row}
use Rattle.pg_meaning.specs.Scopes.{Column, is_aggregate, return_columns}
use Rattle.pg_meaning.specs.Tree.{Expression, Projection}
use Rattle.pg_meaning.specs.declared.fault.Fault.{Fault}

-- each by itself, in their order
pub record ComeInTurn (p : Projection) (columns : List Column) : Type 0 where
  pub distinct : p.distinct ≡ false
  pub order : p.order ≡ []
  pub apart : list_any is_aggregate columns ≡ false

-- an aggregate that takes no argument: it looks at no variable
pub record CountsRows (e : Expression) : Type 0 where
  pub aggregate : Aggregate
  pub is : aggregate_of e ≡ Some aggregate
  pub alone : aggregate.argument ≡ None

abbrev pub return_clause : Setting → Projection → State → Result State Fault
return_clause s p state = project_clause s (return_columns s.scope p) p None state

-- it gives the same over any other rows of which there are as many, of whichever names
pub record OnlyCounts (p : Projection) : Type 0 where
  pub columns : (names others : Names) → return_columns names p ≡ return_columns others p
  pub rows : (s : Setting) (names : Names) (state : State) (rows : List Row) → length rows ≡ length state.rows
      → return_clause (record s { scope = names }) p (record state { rows = rows }) ≡ return_clause s p state
