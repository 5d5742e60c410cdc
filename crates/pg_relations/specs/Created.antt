-- From the same row CREATE makes the same, but for which id is whose.
use Rattle.std.specs.Prelude.{◌≡◌, ℕ, ◌<◌, ◌≤◌, List, map, length, Some}
use Rattle.std.specs.List.{AllZip}
use Rattle.pg_meaning.specs.Graph.{Graph, Relationship, node_at, relationship_at}
use Rattle.pg_meaning.specs.Lists.{IsIn}
use Rattle.pg_meaning.specs.Meaning.{all_placed, new_places, Made, all_made, HasEnds, CreateRow}
use Rattle.pg_meaning.specs.Patterns.{way_of}
use Rattle.pg_meaning.specs.Rows.{Row}
use Rattle.pg_meaning.specs.Tree.{NodePattern, PathPattern}
use Rattle.pg_meaning.specs.Turns.{Given}

-- one place, and one node but for its id
abbrev pub SameNode : (after other : Graph) → NodePattern × ℕ → NodePattern × ℕ → Type 0
SameNode after other p q = (p.0 ≡ q.0) × (node_at after p.1 ≡ node_at other q.1)

-- one hop, and one relationship but for its id, between the ends of the hop
abbrev pub SameRelationship : (after other : Graph) → Made → Made → Type 0
SameRelationship after other m n =
    (m.pattern ≡ n.pattern) × (r : Relationship) × (s : Relationship) × (relationship_at after m.id ≡ Some r) × (relationship_at other n.id ≡ Some s)
    × (r.type ≡ s.type) × (r.properties ≡ s.properties) × HasEnds (way_of m.pattern) m r × HasEnds (way_of n.pattern) n s

pub record MakesAlike (g : Given) (paths : List PathPattern) (graph : Graph) (row : Row) (after other : Graph) (results others : List Row)
    (c : CreateRow g paths graph row after results) (d : CreateRow g paths graph row other others) : Type 0 where
  pub nodes : AllZip (SameNode after other) (new_places g.scope (all_placed paths c.assignment)) (new_places g.scope (all_placed paths d.assignment))
  pub relationships : AllZip (SameRelationship after other) (all_made paths c.assignment) (all_made paths d.assignment)
  pub no_other_node : (n : ℕ) → graph.next_node ≤ n → n < after.next_node → IsIn n (map (λ p. p.1) (new_places g.scope (all_placed paths c.assignment)))
  pub no_other_relationship : (r : ℕ) → graph.next_relationship ≤ r → r < after.next_relationship → IsIn r (map (λ m. m.id) (all_made paths c.assignment))
  pub next_node : after.next_node ≡ other.next_node
  pub next_relationship : after.next_relationship ≡ other.next_relationship
  pub old_nodes : (n : ℕ) → n < graph.next_node → node_at after n ≡ node_at other n
  pub old_relationships : (r : ℕ) → r < graph.next_relationship → relationship_at after r ≡ relationship_at other r
  pub rows : length results ≡ length others

abbrev pub CreateRowMakesOne : Type 0
CreateRowMakesOne =
    (g : Given) (paths : List PathPattern) (graph : Graph) (row : Row) (after other : Graph) (results others : List Row)
    → (c : CreateRow g paths graph row after results) → (d : CreateRow g paths graph row other others) → MakesAlike g paths graph row after other results others c d
