-- Where at most one node and one relationship are made for a row, CREATE gives one graph and one list of rows, and MERGE one graph and the same rows in some order; neither has a fault beside these.
use Rattle.std.specs.Prelude.{◌≡◌, ◌≤◌, Bool, false, List, [], ◌∷◌, IsPermutation}
use Rattle.pg_meaning.specs.Agreement.{AreRowsOf}
use Rattle.pg_meaning.specs.Graph.{Graph, IsGraph}
use Rattle.pg_meaning.specs.Meaning.{Step, StepFaults, new_nodes, new_relationships}
use Rattle.pg_meaning.specs.Rows.{Row}
use Rattle.pg_meaning.specs.StaticFaults.{clause_faults}
use Rattle.pg_meaning.specs.Tree.{PathPattern, SetItem, create, merge}
use Rattle.pg_meaning.specs.Turns.{Given}
use Rattle.pg_meaning.specs.Updates.{items_on}
use Rattle.pg_meaning.specs.declared.fault.Fault.{Fault}

abbrev pub MakesFew : Given → List PathPattern → Type 0
MakesFew g paths = (new_nodes g paths ≤ 1) × (new_relationships paths ≤ 1)

abbrev pub CreateGivesOne : Type 0
CreateGivesOne =
    (paths : List PathPattern) (g : Given) (graph after other : Graph) (rows results others : List Row) → MakesFew g paths → AreRowsOf g.scope rows
    → Step g (create paths) graph rows after results → Step g (create paths) graph rows other others → (after ≡ other) × (results ≡ others)

abbrev pub CreateIsOne : Type 0
CreateIsOne =
    (paths : List PathPattern) (g : Given) (graph after : Graph) (rows results : List Row) (f : Fault) → MakesFew g paths → AreRowsOf g.scope rows → IsGraph graph → clause_faults g.scope (create paths) ≡ []
    → Step g (create paths) graph rows after results → StepFaults g (create paths) graph rows f → ⊥

-- ON CREATE may have items; those of ON MATCH would go over rows in any order
abbrev pub MergeGivesOne : Type 0
MergeGivesOne =
    (p : PathPattern) (parts : List (Bool × List SetItem)) (g : Given) (graph after other : Graph) (rows results others : List Row) → MakesFew g (p ∷ []) → items_on false parts ≡ [] → AreRowsOf g.scope rows → IsGraph graph
    → Step g (merge p parts) graph rows after results → Step g (merge p parts) graph rows other others → (after ≡ other) × IsPermutation results others

abbrev pub MergeIsOne : Type 0
MergeIsOne =
    (p : PathPattern) (parts : List (Bool × List SetItem)) (g : Given) (graph after : Graph) (rows results : List Row) (f : Fault) → MakesFew g (p ∷ []) → items_on false parts ≡ [] → AreRowsOf g.scope rows → IsGraph graph
    → clause_faults g.scope (merge p parts) ≡ [] → Step g (merge p parts) graph rows after results → StepFaults g (merge p parts) graph rows f → ⊥
