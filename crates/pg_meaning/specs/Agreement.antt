-- How the one answer and the meaning agree: what is said of a clause, and of a whole query.
use Rattle.std.specs.Prelude.{◌≡◌, ℕ, true, ◌⊎◌, List, [], Result, Ok, Err, is_some}
use Rattle.std.specs.List.{AllByRecursion}
use Rattle.pg_meaning.specs.Entries.{at_key}
use Rattle.pg_meaning.specs.Grammar.{clause_parameters, parameters_of}
use Rattle.pg_meaning.specs.Graph.{Graph, IsGraph}
use Rattle.pg_meaning.specs.Meaning.{Step, StepFaults, Means, MayFault}
use Rattle.pg_meaning.specs.Meters.{Setting, State}
use Rattle.pg_meaning.specs.Names.{Names, is_among}
use Rattle.pg_meaning.specs.Plans.{Catalogue, Plan, plan_over, ArePlanned, IsPlanOf}
use Rattle.pg_meaning.specs.Queries.{Outcome, clause_step, under_plan}
use Rattle.pg_meaning.specs.Rows.{Row, value_in}
use Rattle.pg_meaning.specs.Scopes.{scope_after}
use Rattle.pg_meaning.specs.StaticFaults.{clause_faults, static_faults}
use Rattle.pg_meaning.specs.Tree.{Clause, Query}
use Rattle.pg_meaning.specs.Turns.{Given}
use Rattle.pg_meaning.specs.Value.{Entries}
use Rattle.pg_meaning.specs.declared.fault.Fault.{Fault}
use Rattle.pg_meaning.specs.declared.fault.Fault.TheVariants.{StepQuota}

-- what the meaning is given of a clause's setting: neither steps nor anchors
abbrev pub given_in : Setting → Given
given_in s = record { parameters = s.parameters; max_elements = s.quota.max_elements; scope = s.scope }

-- each row binds the names in scope and no other
abbrev pub AreRowsOf : Names → List Row → Type 0
AreRowsOf scope rows = AllByRecursion (λ row. (name : List ℕ) → is_some (value_in name row) ≡ is_among scope name) rows

-- the rows and the graph are ones that the clause may give, and a fault but the quota of steps is one in which it may end
abbrev pub AnswerAgrees : Setting → Clause → State → Result State Fault → Type 0
AnswerAgrees s c state (Ok next) = Step (given_in s) c state.graph state.rows next.graph next.rows × IsGraph next.graph × AreRowsOf (scope_after s.scope c) next.rows
AnswerAgrees s c state (Err f) = (f ≡ StepQuota) ⊎ StepFaults (given_in s) c state.graph state.rows f

-- the request gives each of these parameters, which is tested before anything runs
abbrev pub AreGiven : Names → Entries → Type 0
AreGiven names parameters = AllByRecursion (λ name. is_some (at_key name parameters) ≡ true) names

-- so it is at every state, for every plan of the clause; each kind of clause joins by a law of this form
abbrev pub ClauseAgrees : Clause → Type 0
ClauseAgrees c =
    (s : Setting) (state : State) → clause_faults s.scope c ≡ [] → AreGiven (clause_parameters c) s.parameters → ArePlanned s.scope c s.anchors → IsGraph state.graph → AreRowsOf s.scope state.rows
    → AnswerAgrees s c state (clause_step s c state)

abbrev pub OutcomeAgrees : Query → (parameters : Entries) → (max_elements : ℕ) → Graph → Result Outcome Fault → Type 0
OutcomeAgrees q parameters max_elements graph (Ok o) = Means q parameters max_elements graph o.columns o.rows o.graph × IsGraph o.graph
OutcomeAgrees q parameters max_elements graph (Err f) = (f ≡ StepQuota) ⊎ MayFault q parameters max_elements graph f

-- for every plan of the query, whatever indexes there are
abbrev pub QueryAgrees : Query → Type 0
QueryAgrees q =
    (plan : Plan) (catalogue : Catalogue) (parameters : Entries) (graph : Graph) (max_steps max_elements : ℕ) → static_faults q ≡ [] → AreGiven (parameters_of q) parameters → IsPlanOf plan q → IsGraph graph
    → OutcomeAgrees q parameters max_elements graph (under_plan (plan_over catalogue plan) q parameters graph max_steps max_elements)

-- a query agrees whose clauses do
abbrev pub ClausesMakeQueries : Type 0
ClausesMakeQueries = (q : Query) → AllByRecursion ClauseAgrees q.clauses → QueryAgrees q
