-- What a row binds behind what it has, one variable after the other.
use Rattle.std.specs.Prelude.{◌≡◌, ◌≤◌, ℕ, List, [], ◌∷◌, ◌++◌, map, length, Option, Some, None}
use Rattle.pg_meaning.specs.Graph.{Graph}
use Rattle.pg_meaning.specs.Patterns.{node_name, relationship_name, text_of, add_if_named, bond_value, path_value, Bond, Trail, Assignment}
use Rattle.pg_meaning.specs.Rows.{Row, bind_if_named}
use Rattle.pg_meaning.specs.Tree.{NodePattern, RelationshipPattern, PathPattern}
use Rattle.pg_meaning.specs.Value.{Value, node}
use Rattle.pg_rows.specs.Named.{row_of}

-- a variable, if there is one, and its value
abbrev pub Binding : Type 0
Binding = Option (List ℕ) × Value

abbrev pub bind_each : List Binding → Row → Row
bind_each [] row = row
bind_each (b ∷ bs) row = bind_each bs (bind_if_named b.0 b.1 row)

abbrev pub add_each : List (Option (List ℕ)) → List (List ℕ) → List (List ℕ)
add_each [] names = names
add_each (n ∷ ns) names = add_each ns (add_if_named n names)

abbrev pub hop_bindings : List (RelationshipPattern × NodePattern) → List Bond → List ℕ → List Binding
hop_bindings [] bs ns = []
hop_bindings (h ∷ hs) [] ns = []
hop_bindings (h ∷ hs) (b ∷ bs) [] = []
hop_bindings (h ∷ hs) (b ∷ bs) (n ∷ ns) = (relationship_name h.0, bond_value b) ∷ (node_name h.1, node n) ∷ hop_bindings hs bs ns

abbrev pub node_bindings : PathPattern → Trail → List Binding
node_bindings p t = elim t.nodes [ [] ↦ [] | n ∷ ns ↦ (node_name p.first, node n) ∷ hop_bindings p.hops t.bonds ns ]

abbrev pub path_bindings : Graph → PathPattern → Trail → List Binding
path_bindings graph p t = (text_of p.variable, path_value graph t) ∷ node_bindings p t

abbrev pub match_bindings : Graph → List PathPattern → Assignment → List Binding
match_bindings graph [] ts = []
match_bindings graph (p ∷ ps) [] = []
match_bindings graph (p ∷ ps) (t ∷ ts) = path_bindings graph p t ++ match_bindings graph ps ts

-- those that have a variable
abbrev pub named : List Binding → List Binding
named [] = []
named (b ∷ bs) = elim b.0 [ None ↦ named bs | Some name ↦ (Some name, b.1) ∷ named bs ]

abbrev pub hop_names : List (RelationshipPattern × NodePattern) → List (Option (List ℕ))
hop_names [] = []
hop_names (h ∷ hs) = relationship_name h.0 ∷ node_name h.1 ∷ hop_names hs

abbrev pub path_names : PathPattern → List (Option (List ℕ))
path_names p = text_of p.variable ∷ node_name p.first ∷ hop_names p.hops

abbrev pub names_in : Row → List (List ℕ)
names_in row = map (λ b. b.0) row

-- values that stand under the first of the names, which end with what is still to be bound
pub record EndsWith (names : List (List ℕ)) (values : List Value) (bs : List Binding) : Type 0 where
  pub within : length values ≤ length names
  pub ends : add_each (map (λ b. b.0) bs) (names_in (row_of names values)) ≡ names
