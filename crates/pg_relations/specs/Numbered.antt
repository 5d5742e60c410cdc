-- Over however many rows CREATE makes the same, but for which id is whose, and has no fault beside it: where what it gives its elements is read of what was there before.
use Rattle.std.specs.Prelude.{◌≡◌, ⊤, ℕ, ◌<◌, List, [], ◌∷◌, map, flat_map, length}
use Rattle.std.specs.List.{AllZip, AllByRecursion}
use Rattle.pg_meaning.specs.Graph.{Graph, IsGraph, node_at, relationship_at, has_node, has_relationship, element_count}
use Rattle.pg_meaning.specs.Lists.{IsIn}
use Rattle.pg_meaning.specs.Meaning.{Step, StepFaults, all_nodes, all_placed, new_places, all_made, CreateRow}
use Rattle.pg_meaning.specs.Patterns.{relationship_properties}
use Rattle.pg_meaning.specs.Rows.{Row}
use Rattle.pg_meaning.specs.StaticFaults.{clause_faults}
use Rattle.pg_meaning.specs.Tree.{NodePattern, RelationshipPattern, PathPattern, create}
use Rattle.pg_meaning.specs.Turns.{Given, RowByRow}
use Rattle.pg_meaning.specs.Updates.{given_properties}
use Rattle.pg_meaning.specs.declared.fault.Fault.{Fault}
use Rattle.pg_relations.specs.Created.{SameNode, SameRelationship}

-- what a graph had handed out is as it was
pub record Keeps (before after : Graph) : Type 0 where
  pub nodes : (n : ℕ) → n < before.next_node → node_at after n ≡ node_at before n
  pub relationships : (r : ℕ) → r < before.next_relationship → relationship_at after r ≡ relationship_at before r

abbrev pub all_hops : List PathPattern → List RelationshipPattern
all_hops paths = map (λ h. h.0) (flat_map (λ p. p.hops) paths)

-- the properties of the paths are read of what was there before
pub record SeesTheOld (g : Given) (paths : List PathPattern) (before : Graph) (row : Row) : Type 0 where
  pub nodes : (a b : Graph) (n : NodePattern) → Keeps before a → Keeps before b → IsIn n (all_nodes paths) → given_properties g.parameters a row n.properties ≡ given_properties g.parameters b row n.properties
  pub hops : (a b : Graph) (h : RelationshipPattern) → Keeps before a → Keeps before b → IsIn h (all_hops paths) → given_properties g.parameters a row (relationship_properties h) ≡ given_properties g.parameters b row (relationship_properties h)

-- row for row the same nodes and relationships but for ids, as they are in the end
abbrev pub RowsMakeAlike : (g : Given) (paths : List PathPattern) (last least : Graph) (rows : List Row) (graph other after end : Graph) (results others : List Row)
    → RowByRow (CreateRow g paths) graph rows after results → RowByRow (CreateRow g paths) other rows end others → Type 0
RowsMakeAlike g paths last least [] graph other after end results others s t = ⊤
RowsMakeAlike g paths last least (row ∷ rows) graph other after end results others s t =
    AllZip (SameNode last least) (new_places g.scope (all_placed paths s.3.assignment)) (new_places g.scope (all_placed paths t.3.assignment))
    × AllZip (SameRelationship last least) (all_made paths s.3.assignment) (all_made paths t.3.assignment)
    × RowsMakeAlike g paths last least rows s.0 t.0 after end s.2 t.2 s.4 t.4

-- as many ids are handed out, and there is an element at the same ones; what was there is as it was
pub record SameButNew (before a b : Graph) : Type 0 where
  pub next_node : a.next_node ≡ b.next_node
  pub next_relationship : a.next_relationship ≡ b.next_relationship
  pub nodes : (n : ℕ) → has_node a n ≡ has_node b n
  pub relationships : (r : ℕ) → has_relationship a r ≡ has_relationship b r
  pub elements : element_count a ≡ element_count b
  pub first : Keeps before a
  pub second : Keeps before b

abbrev pub CreateMakesOne : Type 0
CreateMakesOne =
    (paths : List PathPattern) (g : Given) (graph after other : Graph) (rows results others : List Row) → IsGraph graph → AllByRecursion (SeesTheOld g paths graph) rows
    → (s : Step g (create paths) graph rows after results) → (t : Step g (create paths) graph rows other others)
    → RowsMakeAlike g paths after other rows graph graph after other results others s t × SameButNew graph after other × (length results ≡ length others)

abbrev pub CreateOfRowsIsOne : Type 0
CreateOfRowsIsOne =
    (paths : List PathPattern) (g : Given) (graph after : Graph) (rows results : List Row) (f : Fault) → IsGraph graph → AllByRecursion (SeesTheOld g paths graph) rows → clause_faults g.scope (create paths) ≡ []
    → Step g (create paths) graph rows after results → StepFaults g (create paths) graph rows f → ⊥
