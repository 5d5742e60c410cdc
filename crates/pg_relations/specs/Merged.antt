-- From the same row MERGE finds or makes the same, but for the order of what it finds and which id is whose.
use Rattle.std.proofs.Common.{inl, inr}
use Rattle.std.specs.Prelude.{◌≡◌, Bool, true, false, ◌⊎◌, List, [], ◌∷◌, IsPermutation}
use Rattle.pg_meaning.specs.Changes.{SetFaults}
use Rattle.pg_meaning.specs.Graph.{Graph, IsGraph}
use Rattle.pg_meaning.specs.Meaning.{MergeMatched, MergeMade, MergeRow}
use Rattle.pg_meaning.specs.Rows.{Row}
use Rattle.pg_meaning.specs.Tree.{PathPattern, SetItem}
use Rattle.pg_meaning.specs.Turns.{Given}
use Rattle.pg_meaning.specs.Updates.{items_on}
use Rattle.pg_meaning.specs.declared.fault.Fault.{Fault}
use Rattle.pg_relations.specs.Created.{MakesAlike}

module _ (g : Given) (p : PathPattern) (parts : List (Bool × List SetItem)) (graph : Graph) (row : Row) where
  abbrev pub One : Graph → List Row → Type 0
  One after results = MergeMatched g p (items_on false parts) graph row after results ⊎ MergeMade g p (items_on true parts) graph row after results

  -- both find, and the same rows in some order; or both make, and the same but for ids. Of these rows in one order, and of one creation, the items leave one graph, and without items they leave it as it was
  abbrev pub MergesAlike : (after other : Graph) (results others : List Row) → One after results → One other others → Type 0
  MergesAlike after other results others (inl m) (inl n) =
      IsPermutation m.found n.found × IsPermutation results others × (results ≡ others → after ≡ other) × (items_on false parts ≡ [] → (after ≡ graph) × (other ≡ graph))
  MergesAlike after other results others (inr m) (inr n) =
      MakesAlike g (p ∷ []) graph row m.made n.made results others m.creation n.creation
      × (m.made ≡ n.made → results ≡ others → after ≡ other) × (items_on true parts ≡ [] → (after ≡ m.made) × (other ≡ n.made))
  MergesAlike after other results others h k = ⊥

  -- a fault of its items at the rows that it gives, in their order
  abbrev pub OwnItemFaults : (after : Graph) (results : List Row) → One after results → Fault → Type 0
  OwnItemFaults after results (inl m) f = SetFaults g (items_on false parts) graph results f
  OwnItemFaults after results (inr m) f = SetFaults g (items_on true parts) m.made results f

abbrev pub MergeRowMakesOne : Type 0
MergeRowMakesOne =
    (g : Given) (p : PathPattern) (parts : List (Bool × List SetItem)) (graph : Graph) (row : Row) (after other : Graph) (results others : List Row) → IsGraph graph
    → (m : MergeRow g p parts graph row after results) → (n : MergeRow g p parts graph row other others) → MergesAlike g p parts graph row after other results others m.one n.one

abbrev pub MergeItemsAreOne : Type 0
MergeItemsAreOne =
    (g : Given) (p : PathPattern) (parts : List (Bool × List SetItem)) (graph : Graph) (row : Row) (after : Graph) (results : List Row) (f : Fault) → IsGraph graph
    → (m : MergeRow g p parts graph row after results) → OwnItemFaults g p parts graph row after results m.one f → ⊥
