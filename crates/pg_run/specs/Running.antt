-- The clauses of a query from its beginning on, and the reply of what they leave.
use Rattle.std.specs.Prelude.{◌≡◌, ℕ, Bool, List, [], ◌∷◌, Result, Ok, OnOk}
use Rattle.pg_json.specs.Pages.{QueryText}
use Rattle.pg_meaning.specs.Answer.{◌>>=◌}
use Rattle.pg_meaning.specs.Graph.{Graph}
use Rattle.pg_meaning.specs.Meters.{State}
use Rattle.pg_meaning.specs.Plans.{Plan}
use Rattle.pg_meaning.specs.Queries.{clauses_run}
use Rattle.pg_meaning.specs.Tree.{Clause}
use Rattle.pg_meaning.specs.Value.{Entries}
use Rattle.pg_meaning.specs.declared.fault.Fault.{Fault}
use Rattle.pg_run.specs.Returning.{replied}
use Rattle.pg_rows.specs.States.{state_of}
use Rattle.pg_run.specs.Runs.{quota_of}
use Rattle.pg_value_core.specs.Gives.{Gives}

-- from one row without columns on
abbrev pub ran : Entries → (max_steps max_elements : ℕ) → Graph → (used : ℕ) → Plan → List Clause → Result State Fault
ran parameters max_steps max_elements graph used plan clauses = clauses_run parameters (quota_of max_steps max_elements) [] plan clauses (state_of graph (record { names = []; rows = [] ∷ [] }) used)

-- the reply of the state that the clauses leave, under these columns, and its graph
pub record Replies (result : Result QueryText Fault) (run : Result State Fault) (notes returns : Bool) (names : List (List ℕ)) (left : Graph) : Type 0 where
  pub gives : Gives result (run >>= replied notes returns names) (λ reply. reply)
  pub graph : OnOk result ((last : State) → run ≡ Ok last → last.graph ≡ left)
