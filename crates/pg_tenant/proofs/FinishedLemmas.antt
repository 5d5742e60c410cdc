-- A query answers what its clauses leave.
use Rattle.std.proofs.Common.{◌≡◌, ℕ, Bool, List, [], ◌∷◌, Result, Ok, sym, subst}
use Rattle.std.specs.Prelude.{flat_map}
use Rattle.pg_meaning.specs.Answer.{◌>>=◌, ◌>>◌, each_step}
use Rattle.pg_meaning.specs.Graph.{Graph}
use Rattle.pg_meaning.specs.Meters.{State}
use Rattle.pg_meaning.specs.Names.{Names}
use Rattle.pg_meaning.specs.Plans.{IsPlanFrom, IsPlanOf, Plan}
use Rattle.pg_meaning.specs.Queries.{Outcome, clauses_run, output_rows, returns, test_output, under_plan}
use Rattle.pg_meaning.specs.Scopes.{columns}
use Rattle.pg_meaning.specs.Tree.{Clause, Query}
use Rattle.pg_meaning.specs.Value.{Entries}
use Rattle.pg_meaning.specs.declared.fault.Fault.{Fault}
use Rattle.pg_meter.specs.Quotas.{Steps}
use Rattle.pg_rows.specs.States.{state_of}

-- the output of the last rows under these columns
abbrev pub output : Bool → Names → State → Result Outcome Fault
output b names last =
    each_step (λ done v. test_output last.graph v) tt (flat_map (λ r. r) (output_rows b last.rows))
    >> Ok (record { columns = names; rows = output_rows b last.rows; graph = last.graph; steps = last.steps })

module _ (plan : Plan) (q : Query) (parameters : Entries) (graph : Graph) (max_steps max_elements : ℕ) where
  abbrev answer : Result Outcome Fault
  answer = under_plan plan q parameters graph max_steps max_elements

  abbrev pub run : Plan → List Clause → Steps → Result State Fault
  run p cs m = clauses_run parameters (record { max_steps = m.limit; max_elements = max_elements }) [] p cs (state_of graph (record { names = []; rows = [] ∷ [] }) m.used)

  -- these clauses, from these anchors and steps on
  module _ (cs : List Clause) (p : Plan) (m : Steps) (clauses_are : cs ≡ q.clauses) (plan_is : p ≡ plan) (steps_are : m ≡ record { used = 0; limit = max_steps }) where
    pub planned : IsPlanOf plan q → IsPlanFrom [] cs p
    planned h = subst (λ r. IsPlanFrom [] cs r) (sym plan_is) (subst (λ ds. IsPlanFrom [] ds plan) (sym clauses_are) h)

    pub answer_run : answer ≡ (run p cs m >>= output (returns q.clauses) (columns q))
    answer_run = sym (λ i. run (plan_is i) (clauses_are i) (steps_are i) >>= output (returns q.clauses) (columns q))
