-- Values whose ids a graph has handed out: expressions over them read nothing that is made later.
use Rattle.std.specs.Prelude.{◌≡◌, ⊤, ℕ, ◌<◌, List, [], ◌∷◌, Some}
use Rattle.std.specs.List.{AllByRecursion}
use Rattle.pg_meaning.specs.Grammar.{IsWellFormed, IsPath}
use Rattle.pg_meaning.specs.Expressions.{evaluate}
use Rattle.pg_meaning.specs.Graph.{Graph, Node, Relationship, node_at, relationship_at}
use Rattle.pg_meaning.specs.Rows.{Row}
use Rattle.pg_meaning.specs.Tree.{Expression, PathPattern}
use Rattle.pg_meaning.specs.Turns.{Given}
use Rattle.pg_meaning.specs.Value.{Value, list, mapping, node, relationship, path, Values, no_items, item, Entries, no_entries, entry}
use Rattle.pg_relations.specs.Numbered.{Keeps, SeesTheOld}

-- the ids of a path: node, relationship, node and so on
abbrev mutual
  pub PathHandedOut : Graph → List ℕ → Type 0
  PathHandedOut graph [] = ⊤
  PathHandedOut graph (n ∷ ids) = (n < graph.next_node) × RestHandedOut graph ids

  pub RestHandedOut : Graph → List ℕ → Type 0
  RestHandedOut graph [] = ⊤
  RestHandedOut graph (r ∷ ids) = (r < graph.next_relationship) × PathHandedOut graph ids

abbrev mutual
  pub IsHandedOut : Graph → Value → Type 0
  IsHandedOut graph (node n) = n < graph.next_node
  IsHandedOut graph (relationship r) = r < graph.next_relationship
  IsHandedOut graph (path ids) = PathHandedOut graph ids
  IsHandedOut graph (list vs) = ItemsHandedOut graph vs
  IsHandedOut graph (mapping es) = EntriesHandedOut graph es
  IsHandedOut graph v = ⊤

  pub ItemsHandedOut : Graph → Values → Type 0
  ItemsHandedOut graph no_items = ⊤
  ItemsHandedOut graph (item v vs) = IsHandedOut graph v × ItemsHandedOut graph vs

  pub EntriesHandedOut : Graph → Entries → Type 0
  EntriesHandedOut graph no_entries = ⊤
  EntriesHandedOut graph (entry k v es) = IsHandedOut graph v × EntriesHandedOut graph es

abbrev pub RowHandedOut : Graph → Row → Type 0
RowHandedOut graph row = AllByRecursion (λ b. IsHandedOut graph b.1) row

-- what is stored, and the ends of relationships
pub record StoresHandedOut (graph : Graph) : Type 0 where
  pub nodes : (n : ℕ) (e : Node) → node_at graph n ≡ Some e → EntriesHandedOut graph e.properties
  pub relationships : (r : ℕ) (e : Relationship) → relationship_at graph r ≡ Some e → (e.source < graph.next_node) × (e.target < graph.next_node) × EntriesHandedOut graph e.properties

-- a well-formed expression has one value in all graphs that keep what was there
abbrev pub EvaluatesAlike : Type 0
EvaluatesAlike =
    (before after : Graph) (row : Row) (parameters : Entries) (e : Expression) → Keeps before after → StoresHandedOut before → RowHandedOut before row → EntriesHandedOut before parameters → IsWellFormed e
    → evaluate row parameters after e ≡ evaluate row parameters before e

abbrev pub PathsSeeTheOld : Type 0
PathsSeeTheOld =
    (g : Given) (paths : List PathPattern) (before : Graph) (row : Row) → StoresHandedOut before → RowHandedOut before row → EntriesHandedOut before g.parameters → AllByRecursion IsPath paths → SeesTheOld g paths before row
