-- The node places of a CREATE: what is charged for is what is made, and the variables that places bind are those of the places.
use Rattle.std.specs.Prelude.{◌≡◌, ℕ, ◌+◌, List, [], ◌∷◌, flat_map, Some, None}
use Rattle.pg_meaning.specs.Graph.{Graph}
use Rattle.pg_meaning.specs.Meaning.{CreateRow, all_placed}
use Rattle.pg_meaning.specs.Patterns.{node_name, Assignment, all_named}
use Rattle.pg_meaning.specs.Rows.{Row}
use Rattle.pg_meaning.specs.Tree.{NodePattern, PathPattern}
use Rattle.pg_meaning.specs.Turns.{Given}
use Rattle.pg_meaning.specs.Updates.{count_new}

-- as many ids are handed out for a row as steps are charged for it
abbrev pub CreationIsCharged : Type 0
CreationIsCharged =
    (g : Given) (paths : List PathPattern) (graph : Graph) (row : Row) (after : Graph) (results : List Row)
    → CreateRow g paths graph row after results → after.next_node + after.next_relationship ≡ graph.next_node + graph.next_relationship + count_new g.scope paths

-- the variable of a place, if any, with its id
abbrev pub named_place : NodePattern × ℕ → List (List ℕ × ℕ)
named_place p = elim (node_name p.0) [ None ↦ [] | Some name ↦ (name, p.1) ∷ [] ]

abbrev pub NamesAreOfPlaces : Type 0
NamesAreOfPlaces = (paths : List PathPattern) (assignment : Assignment) → all_named paths assignment ≡ flat_map named_place (all_placed paths assignment)
