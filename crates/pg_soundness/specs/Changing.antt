-- SET, REMOVE and DELETE agree with their meaning, which their functions compute.
use Rattle.std.specs.Prelude.{◌≡◌, Bool, ◌⊎◌, List, [], Ok, Err}
use Rattle.pg_meaning.specs.Turns.{Given, AtSomeRow}
use Rattle.pg_meaning.specs.Agreement.{given_in, ClauseAgrees}
use Rattle.pg_meaning.specs.Answer.{each_step}
use Rattle.pg_meaning.specs.Graph.{Graph, IsGraph, remove_elements}
use Rattle.pg_meaning.specs.Meaning.{Step, StepFaults}
use Rattle.pg_meaning.specs.Meters.{Setting}
use Rattle.pg_meaning.specs.Rows.{Row}
use Rattle.pg_meaning.specs.Tree.{Expression, SetItem, RemoveItem, Clause, set_items, remove_items, delete}
use Rattle.pg_meaning.specs.Updates.{set_row, remove_row, Doomed, doom_row, doomed_nodes, doomed_relationships, test_unconnected}
use Rattle.pg_meaning.specs.declared.fault.Fault.{Fault}
use Rattle.pg_meaning.specs.Changes.{Sets, SetFaults, Removes, RemoveFaults, ElementsGo, GoFaults}

-- ---- the one answer

abbrev pub SetAgrees : Type 0
SetAgrees = (items : List SetItem) → ClauseAgrees (set_items items)

abbrev pub RemoveAgrees : Type 0
RemoveAgrees = (items : List RemoveItem) → ClauseAgrees (remove_items items)

abbrev pub DeleteAgrees : Type 0
DeleteAgrees = (is_detach : Bool) (es : List Expression) → ClauseAgrees (delete is_detach es)

-- ---- the functions compute the meaning

abbrev pub Both : Type 0 → Type 0 → Type 0
Both A B = (A → B) × (B → A)

abbrev pub SetIsComputed : Type 0
SetIsComputed = (s : Setting) (items : List SetItem) (graph after : Graph) (rows : List Row) → IsGraph graph → Both (each_step (set_row s items) graph rows ≡ Ok after) (Sets (given_in s) items graph rows after)

abbrev pub SetFaultIsComputed : Type 0
SetFaultIsComputed = (s : Setting) (items : List SetItem) (graph : Graph) (rows : List Row) (f : Fault) → IsGraph graph → Both (each_step (set_row s items) graph rows ≡ Err f) (SetFaults (given_in s) items graph rows f)

abbrev pub RemoveIsComputed : Type 0
RemoveIsComputed = (items : List RemoveItem) (graph after : Graph) (rows : List Row) → IsGraph graph → Both (each_step (remove_row items) graph rows ≡ Ok after) (Removes items graph rows after)

abbrev pub RemoveFaultIsComputed : Type 0
RemoveFaultIsComputed = (items : List RemoveItem) (graph : Graph) (rows : List Row) (f : Fault) → IsGraph graph → Both (each_step (remove_row items) graph rows ≡ Err f) (RemoveFaults items graph rows f)

-- what DELETE computes: the ids that are named, that none of them stays connected, and the graph without them
pub record Removal (s : Setting) (is_detach : Bool) (es : List Expression) (graph : Graph) (rows : List Row) (after : Graph) : Type 0 where
  pub doomed : Doomed
  pub named : each_step (doom_row s graph es) ([], []) rows ≡ Ok doomed
  pub connected : test_unconnected (remove_elements [] (doomed_relationships is_detach graph doomed) graph) (doomed_nodes graph doomed) ≡ Ok tt
  pub removed : after ≡ remove_elements (doomed_nodes graph doomed) (doomed_relationships is_detach graph doomed) graph

abbrev pub RemovalFaults : Setting → (is_detach : Bool) → List Expression → Graph → List Row → Fault → Type 0
RemovalFaults s is_detach es graph rows f =
    AtSomeRow (λ row e. doom_row s graph es ([], []) row ≡ Err e) rows f
    ⊎ ((d : Doomed) × (each_step (doom_row s graph es) ([], []) rows ≡ Ok d) × (test_unconnected (remove_elements [] (doomed_relationships is_detach graph d) graph) (doomed_nodes graph d) ≡ Err f))

abbrev pub DeleteIsComputed : Type 0
DeleteIsComputed = (s : Setting) (is_detach : Bool) (es : List Expression) (graph after : Graph) (rows : List Row) → IsGraph graph → Both (Removal s is_detach es graph rows after) (ElementsGo (given_in s) is_detach es graph rows after)

abbrev pub DeleteFaultIsComputed : Type 0
DeleteFaultIsComputed = (s : Setting) (is_detach : Bool) (es : List Expression) (graph : Graph) (rows : List Row) (f : Fault) → IsGraph graph → Both (RemovalFaults s is_detach es graph rows f) (GoFaults (given_in s) is_detach es graph rows f)

-- the meaning leaves one graph at most
abbrev pub OneChange : Type 0
OneChange = (g : Given) (items : List SetItem) (graph after other : Graph) (rows : List Row) → IsGraph graph → Sets g items graph rows after → Sets g items graph rows other → after ≡ other

abbrev pub OneRemoval : Type 0
OneRemoval = (items : List RemoveItem) (graph after other : Graph) (rows : List Row) → IsGraph graph → Removes items graph rows after → Removes items graph rows other → after ≡ other

abbrev pub OneDeletion : Type 0
OneDeletion =
    (g : Given) (is_detach : Bool) (es : List Expression) (graph after other : Graph) (rows : List Row) → IsGraph graph
    → ElementsGo g is_detach es graph rows after → ElementsGo g is_detach es graph rows other → after ≡ other

-- at every graph and rows the clause has a result or a fault, and not both
abbrev pub IsDecided : Clause → Type 0
IsDecided c =
    (g : Given) (graph : Graph) (rows : List Row) → IsGraph graph
    → (((after : Graph) × (results : List Row) × Step g c graph rows after results) ⊎ ((f : Fault) × StepFaults g c graph rows f))
    × ((after : Graph) (results : List Row) (f : Fault) → Step g c graph rows after results → StepFaults g c graph rows f → ⊥)

abbrev pub SetIsDecided : Type 0
SetIsDecided = (items : List SetItem) → IsDecided (set_items items)

abbrev pub RemoveIsDecided : Type 0
RemoveIsDecided = (items : List RemoveItem) → IsDecided (remove_items items)

abbrev pub DeleteIsDecided : Type 0
DeleteIsDecided = (is_detach : Bool) (es : List Expression) → IsDecided (delete is_detach es)
