-- A query whose clauses leave neither an order of rows nor an id open has one answer, and no fault beside it.
use Rattle.std.specs.Prelude.{◌≡◌, ⊤, ℕ, false, List, [], ◌∷◌}
use Rattle.std.specs.List.{list_any}
use Rattle.pg_meaning.specs.Agreement.{AreRowsOf}
use Rattle.pg_meaning.specs.Graph.{Graph, IsGraph}
use Rattle.pg_meaning.specs.Meaning.{given_of, Step, StepFaults, Means, MayFault}
use Rattle.pg_meaning.specs.Names.{Names}
use Rattle.pg_meaning.specs.Rows.{Row}
use Rattle.pg_meaning.specs.Scopes.{Column, is_aggregate, with_columns, return_columns, scope_after}
use Rattle.pg_meaning.specs.StaticFaults.{clause_faults, static_faults}
use Rattle.pg_meaning.specs.Tree.{Projection, Clause, match_paths, unwind, create, merge, set_items, remove_items, delete, with_rows, return_rows, Query}
use Rattle.pg_meaning.specs.Turns.{Given}
use Rattle.pg_meaning.specs.Value.{Value, Entries, no_entries}
use Rattle.pg_meaning.specs.declared.fault.Fault.{Fault}
use Rattle.pg_relations.specs.Exact.{MakesFew}

-- no ORDER BY, no DISTINCT, no aggregate
abbrev pub IsPlain : List Column → Projection → Type 0
IsPlain columns p = (p.order ≡ []) × (p.distinct ≡ false) × (list_any is_aggregate columns ≡ false)

-- MATCH and MERGE find rows in any order
abbrev pub LeavesNothingOpen : Names → Clause → Type 0
LeavesNothingOpen scope (match_paths is_optional paths where_) = ⊥
LeavesNothingOpen scope (unwind e name) = ⊤
LeavesNothingOpen scope (create paths) = MakesFew (given_of no_entries 0 scope) paths
LeavesNothingOpen scope (merge p parts) = ⊥
LeavesNothingOpen scope (set_items items) = ⊤
LeavesNothingOpen scope (remove_items items) = ⊤
LeavesNothingOpen scope (delete is_detach es) = ⊤
LeavesNothingOpen scope (with_rows p where_) = IsPlain (with_columns scope p) p
LeavesNothingOpen scope (return_rows p) = IsPlain (return_columns scope p) p

abbrev pub LeaveNothingOpen : Names → List Clause → Type 0
LeaveNothingOpen scope [] = ⊤
LeaveNothingOpen scope (c ∷ cs) = LeavesNothingOpen scope c × LeaveNothingOpen (scope_after scope c) cs

abbrev pub ClosedStepGivesOne : Type 0
ClosedStepGivesOne =
    (c : Clause) (g : Given) (graph after other : Graph) (rows results others : List Row) → LeavesNothingOpen g.scope c → AreRowsOf g.scope rows → IsGraph graph
    → Step g c graph rows after results → Step g c graph rows other others → (after ≡ other) × (results ≡ others)

abbrev pub ClosedStepIsOne : Type 0
ClosedStepIsOne =
    (c : Clause) (g : Given) (graph after : Graph) (rows results : List Row) (f : Fault) → LeavesNothingOpen g.scope c → AreRowsOf g.scope rows → IsGraph graph → clause_faults g.scope c ≡ []
    → Step g c graph rows after results → StepFaults g c graph rows f → ⊥

abbrev pub ClosedQueryMeansOne : Type 0
ClosedQueryMeansOne =
    (q : Query) (parameters : Entries) (max_elements : ℕ) (graph : Graph) (columns names : List (List ℕ)) (rows others : List (List Value)) (after other : Graph) → LeaveNothingOpen [] q.clauses → IsGraph graph
    → Means q parameters max_elements graph columns rows after → Means q parameters max_elements graph names others other → (columns ≡ names) × (rows ≡ others) × (after ≡ other)

-- so with an answer under a quota no fault may be told under it
abbrev pub ClosedQueryIsOne : Type 0
ClosedQueryIsOne =
    (q : Query) (parameters : Entries) (max_elements : ℕ) (graph : Graph) (columns : List (List ℕ)) (rows : List (List Value)) (after : Graph) (f : Fault) → LeaveNothingOpen [] q.clauses → static_faults q ≡ [] → IsGraph graph
    → Means q parameters max_elements graph columns rows after → MayFault q parameters max_elements graph f → ⊥
