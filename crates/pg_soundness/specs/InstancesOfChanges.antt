-- Small instances of SET a.k = 2, REMOVE a.k and DELETE a: of each one that holds and one that doesn't.
use Rattle.std.specs.Prelude.{ℕ, true, false, List, [], ◌∷◌, codes, pos}
use Rattle.pg_meaning.specs.ExampleTrees.{named, var, number}
use Rattle.pg_meaning.specs.ExamplesOfFits.{bare_node, pair_graph}
use Rattle.pg_meaning.specs.ExamplesOfSteps.{within, row_a}
use Rattle.pg_meaning.specs.Graph.{Graph}
use Rattle.pg_meaning.specs.Meaning.{Step}
use Rattle.pg_meaning.specs.Rows.{Row}
use Rattle.pg_meaning.specs.Tree.{Expression, SetItem, set_property, RemoveItem, remove_property, set_items, remove_items, delete}
use Rattle.pg_meaning.specs.Value.{integer, node, no_entries, entry}

abbrev pub with_k : ℕ → Graph
with_k n = record pair_graph { nodes = (0, record { labels = codes "L" ∷ []; properties = entry (codes "k") (integer (pos n)) no_entries }) ∷ (1, bare_node) ∷ [] }

abbrev pub without_k : Graph
without_k = record pair_graph { nodes = (0, record { labels = codes "L" ∷ []; properties = no_entries }) ∷ (1, bare_node) ∷ [] }

abbrev pub second_alone : Graph
second_alone = record pair_graph { nodes = (1, bare_node) ∷ []; relationships = [] }

abbrev pub set_k : List SetItem
set_k = set_property (named "a") (named "k") (number 2) ∷ []

abbrev pub remove_k : List RemoveItem
remove_k = remove_property (named "a") (named "k") ∷ []

abbrev pub a_alone : List Expression
a_alone = var "a" ∷ []

abbrev pub at_zero : List Row
at_zero = row_a (node 0) ∷ []

-- a node that keeps a relationship is not deleted without DETACH
abbrev pub InstancesOfChanges : Type 0
InstancesOfChanges =
    Step (within (codes "a" ∷ [])) (set_items set_k) pair_graph at_zero (with_k 2) at_zero
    × (Step (within (codes "a" ∷ [])) (set_items set_k) pair_graph at_zero pair_graph at_zero → ⊥)
    × Step (within (codes "a" ∷ [])) (remove_items remove_k) pair_graph at_zero without_k at_zero
    × (Step (within (codes "a" ∷ [])) (remove_items remove_k) pair_graph at_zero pair_graph at_zero → ⊥)
    × Step (within (codes "a" ∷ [])) (delete true a_alone) pair_graph at_zero second_alone at_zero
    × (Step (within (codes "a" ∷ [])) (delete false a_alone) pair_graph at_zero second_alone at_zero → ⊥)
