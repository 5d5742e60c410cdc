-- RETURN as the last clause, and what its rows are answered.
use Rattle.std.specs.Prelude.{◌≡◌, Bool, ℕ, cond, List, [], ◌∷◌, ◌++◌, map, Result, Ok, None}
use Rattle.serde_json.specs.Data.{Items, string}
use Rattle.pg_json.specs.Pages.{QueryText}
use Rattle.pg_json.specs.Replies.{items_of}
use Rattle.pg_meaning.specs.Answer.{◌>>=◌}
use Rattle.pg_meaning.specs.Graph.{Graph}
use Rattle.pg_meaning.specs.Meters.{Setting, State}
use Rattle.pg_meaning.specs.Projections.{project_clause}
use Rattle.pg_meaning.specs.Queries.{output_rows}
use Rattle.pg_meaning.specs.Rows.{values_in}
use Rattle.pg_meaning.specs.Scopes.{column_names, return_columns}
use Rattle.pg_meaning.specs.Tree.{Projection}
use Rattle.pg_meaning.specs.Value.{Value}
use Rattle.pg_meaning.specs.declared.fault.Fault.{Fault}
use Rattle.pg_project.specs.Given.{Cut, cut_of, trees_of, values_given}
use Rattle.pg_project.specs.Returned.{return_clause}
use Rattle.pg_rows.specs.States.{Named, state_of}
use Rattle.pg_run.specs.Telling.{IsTelling, IsTellingRow, told}
use Rattle.pg_run.specs.declared.rows.ReadyItems.{ReadyItems}
use Rattle.pg_run.specs.declared.reply_writer.ReplyWriter.{ReplyWriter}
use Rattle.pg_value_core.specs.Given.{parameters_view}

abbrev pub named_items : List (List ℕ) → Items
named_items names = items_of (map string names)

-- what the items give at a row
abbrev pub items_given : ReadyItems → Graph → List Value → Result (List Value) Fault
items_given i graph = values_given (parameters_view i.query.now.parameters.now) graph i.names.now (trees_of i.names.now i.ready.now)

-- the clause, then the reply of its rows
abbrev pub returned : (notes : Bool) → Setting → Projection → State → Result QueryText Fault
returned notes s p state =
    project_clause s (return_columns s.scope p) p None state >>= λ last. told notes last.graph (named_items (column_names (return_columns s.scope p))) (map values_in last.rows) last.steps

-- the clauses leave a state over which RETURN gives what it gives over these rows
pub record Leaves (run : Result State Fault) (p : Projection) (names : List (List ℕ)) (graph : Graph) (t : Named) (steps : ℕ) : Type 0 where
  pub last : State
  pub ran : run ≡ Ok last
  pub columns : return_columns t.names p ≡ return_columns names p
  pub clause : (s : Setting) → s.scope ≡ names → return_clause (record s { scope = t.names }) p (state_of graph t steps) ≡ return_clause s p last

-- the reply of the rows that all clauses leave
abbrev pub replied : (notes returns : Bool) → (names : List (List ℕ)) → State → Result QueryText Fault
replied notes returns names last = told notes last.graph (named_items (cond returns names [])) (output_rows returns last.rows) last.steps

-- the value that an item gives at a row is told
pub record ValueTold (graph : Graph) (given : Result Value Fault) (old new : ReplyWriter) : Type 0 where
  pub value : Value
  pub is : given ≡ Ok value
  pub telling : (notes : Bool) (columns : Items) (rows : List (List Value)) (row : List Value) → IsTellingRow notes graph columns rows row old → IsTellingRow notes graph columns rows (row ++ value ∷ []) new

-- the values that the items give at a row are told
pub record RowTold (graph : Graph) (given : Result (List Value) Fault) (old new : ReplyWriter) : Type 0 where
  pub values : List Value
  pub are : given ≡ Ok values
  pub telling : (notes : Bool) (columns : Items) (rows : List (List Value)) → IsTelling notes graph columns rows old → IsTellingRow notes graph columns rows values new

-- no fault comes in place of the values
pub record IsGiven (given : Result (List Value) Fault) : Type 0 where
  pub values : List Value
  pub are : given ≡ Ok values

-- the values at a row are told where it is let in
pub record RowPassed (graph : Graph) (is_in : Bool) (given : Result (List Value) Fault) (old new : ReplyWriter) : Type 0 where
  pub values : List Value
  pub are : given ≡ Ok values
  pub telling : (notes : Bool) (columns : Items) (rows : List (List Value)) → IsTelling notes graph columns rows old → IsTelling notes graph columns (rows ++ cond is_in (values ∷ []) []) new

-- the rows that they give are told, as far as they are let in
pub record RowsTold (graph : Graph) (c : Cut) (given : Result (List (List Value)) Fault) (old new : ReplyWriter) : Type 0 where
  pub rows : List (List Value)
  pub are : given ≡ Ok rows
  pub telling : (notes : Bool) (columns : Items) → IsTelling notes graph columns [] old → IsTelling notes graph columns (cut_of c rows) new
