-- In which faults what runs may end.
use Rattle.std.specs.Prelude.{◌≡◌, ℕ, nat_le, ◌&&◌, Bool, true, List, [], Result, Ok, Err, is_some}
use Rattle.std.specs.List.{AllByRecursion}
use Rattle.pg_meaning.specs.Agreement.{AreGiven, AreRowsOf}
use Rattle.pg_meaning.specs.AgreementLaws.{named_in}
use Rattle.pg_meaning.specs.Codes.{code_of}
use Rattle.pg_meaning.specs.Expressions.{evaluate}
use Rattle.pg_meaning.specs.Grammar.{marks, clause_parameters, parameters_of, IsWellFormed, IsClause}
use Rattle.pg_meaning.specs.Graph.{Graph}
use Rattle.pg_meaning.specs.Meters.{Setting, State}
use Rattle.pg_meaning.specs.Names.{Names, is_among}
use Rattle.pg_meaning.specs.Plans.{Catalogue, Plan, plan_over, ArePlanned, IsPlanOf}
use Rattle.pg_meaning.specs.Queries.{clause_step, under_plan}
use Rattle.pg_meaning.specs.Rows.{Row, value_in}
use Rattle.pg_meaning.specs.Scopes.{scope_after}
use Rattle.pg_meaning.specs.StaticFaults.{faults_of, clause_faults, static_faults}
use Rattle.pg_meaning.specs.Tree.{Expression, Clause, Query}
use Rattle.pg_meaning.specs.Value.{Entries}
use Rattle.pg_meaning.specs.declared.fault.Fault.{Fault}

-- TypeFault 16 to IdsExhausted 27
abbrev pub is_of_run : Fault → Bool
is_of_run f = nat_le 16 (code_of f) && nat_le (code_of f) 27

-- an expression without static faults, over rows that bind what it sees
abbrev pub FaultsOfExpressions : Type 0
FaultsOfExpressions =
    (visible : Names) (row : Row) (parameters : Entries) (graph : Graph) (e : Expression)
    → ((name : List ℕ) → is_among visible name ≡ true → is_some (value_in name row) ≡ true)
    → IsWellFormed e → faults_of visible e ≡ [] → AreGiven (named_in (marks e)) parameters
    → (f : Fault) → evaluate row parameters graph e ≡ Err f → is_of_run f ≡ true

-- rows that bind the scope, or such a fault
abbrev pub EndsWell : Names → Result State Fault → Type 0
EndsWell scope (Ok next) = AreRowsOf scope next.rows
EndsWell scope (Err f) = is_of_run f ≡ true

-- a clause of a well-formed tree, without static faults, with its parameters given, over any plan
abbrev pub ClauseEndsWell : Clause → Type 0
ClauseEndsWell c =
    (s : Setting) (state : State) → IsClause c → clause_faults s.scope c ≡ [] → AreGiven (clause_parameters c) s.parameters → ArePlanned s.scope c s.anchors → AreRowsOf s.scope state.rows
    → EndsWell (scope_after s.scope c) (clause_step s c state)

abbrev pub QueryEndsWell : Query → Type 0
QueryEndsWell q =
    (plan : Plan) (catalogue : Catalogue) (parameters : Entries) (graph : Graph) (max_steps max_elements : ℕ) → AllByRecursion IsClause q.clauses → static_faults q ≡ [] → AreGiven (parameters_of q) parameters → IsPlanOf plan q
    → (f : Fault) → under_plan (plan_over catalogue plan) q parameters graph max_steps max_elements ≡ Err f → is_of_run f ≡ true

-- a query ends so whose clauses do
abbrev pub ClausesEndQueries : Type 0
ClausesEndQueries = (q : Query) → AllByRecursion ClauseEndsWell q.clauses → QueryEndsWell q

-- so it is for every query
abbrev pub FaultsOfQueries : Type 0
FaultsOfQueries = (q : Query) → QueryEndsWell q
