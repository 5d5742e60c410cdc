-- What no clause gives over several rows, and what no step gives whatever it does to the graph: rows of its own, a fault of output under another code.
use Rattle.std.specs.Prelude.{◌≡◌, ℕ, false, List, [], ◌∷◌, codes}
use Rattle.pg_meaning.specs.ExamplesOfSteps.{within, unnamed}
use Rattle.pg_meaning.specs.Graph.{Graph, empty_graph, add_node}
use Rattle.pg_meaning.specs.Meaning.{Step, StepsFault}
use Rattle.pg_meaning.specs.Names.{Names}
use Rattle.pg_meaning.specs.Rows.{Row}
use Rattle.pg_meaning.specs.Tree.{create, merge, set_items, remove_items, delete, Query}
use Rattle.pg_meaning.specs.Value.{no_entries, Entries}
use Rattle.pg_meaning.specs.declared.fault.Fault.{Fault}
use Rattle.pg_meaning.specs.declared.fault.Fault.TheVariants.{DeletedEntity}
use Rattle.pg_relations.specs.RefusedSteps.{made_with}

-- (:L), (:L)
abbrev pub made_twice : Graph
made_twice = add_node (codes "L" ∷ []) no_entries (made_with (codes "L" ∷ []) no_entries)

abbrev pub two_rows : List Row
two_rows = [] ∷ [] ∷ []

-- CREATE for the first of two rows alone; MERGE that doesn't find what it made for the first; SET, REMOVE and DELETE that lose or make a row; a fault of output but DeletedEntity
abbrev pub RefusedTurns : Type 0
RefusedTurns =
    ((results : List Row) → Step (within []) (create (unnamed ∷ [])) empty_graph two_rows (made_with (codes "L" ∷ []) no_entries) results → ⊥)
    × ((results : List Row) → Step (within []) (merge unnamed []) empty_graph two_rows made_twice results → ⊥)
    × (Step (within []) (set_items []) empty_graph ([] ∷ []) empty_graph [] → ⊥)
    × (Step (within []) (remove_items []) empty_graph ([] ∷ []) empty_graph two_rows → ⊥)
    × (Step (within []) (delete false []) empty_graph ([] ∷ []) empty_graph [] → ⊥)
    × ((q : Query) (parameters : Entries) (most : ℕ) (scope : Names) (graph : Graph) (rows : List Row) (f : Fault) → StepsFault parameters most q scope [] graph rows f → f ≡ DeletedEntity)
