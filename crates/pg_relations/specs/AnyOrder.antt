-- Queries that read and delete, without SKIP, LIMIT and aggregates: in whatever order the rows stand between their clauses, they have the same rows and leave one graph, and have no fault beside an answer.
use Rattle.std.specs.Prelude.{◌≡◌, ⊤, ℕ, false, List, [], ◌∷◌, None}
use Rattle.std.specs.List.{list_any}
use Rattle.pg_meaning.specs.Graph.{Graph, IsGraph}
use Rattle.pg_meaning.specs.Lists.{IsIn}
use Rattle.pg_meaning.specs.Meaning.{Step, StepFaults, Means, MayFault}
use Rattle.pg_meaning.specs.Names.{Names}
use Rattle.pg_meaning.specs.Rows.{Row}
use Rattle.pg_meaning.specs.Scopes.{Column, is_aggregate, with_columns, return_columns, scope_after}
use Rattle.pg_meaning.specs.Tree.{Projection, Clause, match_paths, unwind, create, merge, set_items, remove_items, delete, with_rows, return_rows, Query}
use Rattle.pg_meaning.specs.Turns.{Given}
use Rattle.pg_meaning.specs.Value.{Value, Entries}
use Rattle.pg_meaning.specs.declared.fault.Fault.{Fault}

abbrev pub SameMembers : {X : Type 0} → List X → List X → Type 0
SameMembers {X} xs ys = ((x : X) → IsIn x xs → IsIn x ys) × ((x : X) → IsIn x ys → IsIn x xs)

abbrev pub IsUncut : List Column → Projection → Type 0
IsUncut columns p = (p.skip ≡ None) × (p.limit ≡ None) × (list_any is_aggregate columns ≡ false)

-- DISTINCT, ORDER BY and WHERE may stand there
abbrev pub TakesAnyOrder : Names → Clause → Type 0
TakesAnyOrder scope (match_paths is_optional paths where_) = ⊤
TakesAnyOrder scope (unwind e name) = ⊤
TakesAnyOrder scope (create paths) = ⊥
TakesAnyOrder scope (merge p parts) = ⊥
TakesAnyOrder scope (set_items items) = ⊥
TakesAnyOrder scope (remove_items items) = ⊥
TakesAnyOrder scope (delete is_detach es) = ⊤
TakesAnyOrder scope (with_rows p where_) = IsUncut (with_columns scope p) p
TakesAnyOrder scope (return_rows p) = IsUncut (return_columns scope p) p

abbrev pub TakeAnyOrder : Names → List Clause → Type 0
TakeAnyOrder scope [] = ⊤
TakeAnyOrder scope (c ∷ cs) = TakesAnyOrder scope c × TakeAnyOrder (scope_after scope c) cs

abbrev pub AnyOrderStepGivesOne : Type 0
AnyOrderStepGivesOne =
    (c : Clause) (g : Given) (graph after other : Graph) (rows those results others : List Row) → TakesAnyOrder g.scope c → SameMembers rows those → IsGraph graph
    → Step g c graph rows after results → Step g c graph those other others → (after ≡ other) × SameMembers results others

abbrev pub AnyOrderStepIsOne : Type 0
AnyOrderStepIsOne =
    (c : Clause) (g : Given) (graph after : Graph) (rows those results : List Row) (f : Fault) → TakesAnyOrder g.scope c → SameMembers rows those → IsGraph graph
    → Step g c graph rows after results → StepFaults g c graph those f → ⊥

abbrev pub AnyOrderQueryMeansOne : Type 0
AnyOrderQueryMeansOne =
    (q : Query) (parameters : Entries) (max_elements : ℕ) (graph : Graph) (columns names : List (List ℕ)) (rows others : List (List Value)) (after other : Graph) → TakeAnyOrder [] q.clauses → IsGraph graph
    → Means q parameters max_elements graph columns rows after → Means q parameters max_elements graph names others other → (columns ≡ names) × SameMembers rows others × (after ≡ other)

abbrev pub AnyOrderQueryIsOne : Type 0
AnyOrderQueryIsOne =
    (q : Query) (parameters : Entries) (max_elements : ℕ) (graph : Graph) (columns : List (List ℕ)) (rows : List (List Value)) (after : Graph) (f : Fault) → TakeAnyOrder [] q.clauses → IsGraph graph
    → Means q parameters max_elements graph columns rows after → MayFault q parameters max_elements graph f → ⊥
