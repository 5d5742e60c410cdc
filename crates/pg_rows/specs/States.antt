-- The state of a query between two clauses, and what a clause is given beside it.
use Rattle.std.specs.Prelude.{◌≡◌, ℕ, List}
use Rattle.pg_meaning.specs.Graph.{Graph}
use Rattle.pg_meaning.specs.Meters.{Setting, State}
use Rattle.pg_meaning.specs.Rows.{Row}
use Rattle.pg_meaning.specs.Value.{Value, Entries}
use Rattle.pg_rows.specs.Named.{rows_named}
use Rattle.pg_rows.specs.Tables.{table}
use Rattle.pg_rows.specs.declared.named.BindingTable.{BindingTable}

-- rows of values, and the names of their columns
pub record Named : Type 0 where
  pub names : List (List ℕ)
  pub rows : List (List Value)

abbrev pub seen : BindingTable → Named
seen t = record { names = t.names; rows = table t.rows }

abbrev pub named_rows : Named → List Row
named_rows t = rows_named t.names t.rows

abbrev pub state_of : Graph → Named → (steps : ℕ) → State
state_of graph t steps = record { graph = graph; rows = named_rows t; steps = steps }

-- the setting of a clause over columns of these names
pub record Suits (s : Setting) (parameters : Entries) (max_steps : ℕ) (names : List (List ℕ)) : Type 0 where
  pub parameters_are : s.parameters ≡ parameters
  pub steps_are : s.quota.max_steps ≡ max_steps
  pub scope_is : s.scope ≡ names
