-- The nodes of a path by their places, and the names of nodes.
use Rattle.std.specs.Prelude.{◌≡◌, ℕ, ◌+◌, Bool, ◌||◌, cond, bytes_eq, flat_map, List, [], ◌∷◌, map, Option, Some, None, is_some, position, slice_get, unwrap_or}
use Rattle.std.specs.Borrow.{Bor}
use Rattle.pg_meaning.specs.Names.{Names, is_among}
use Rattle.pg_meaning.specs.Plans as plans
use Rattle.pg_meaning.specs.Tree as tree
use Rattle.pg_syntax_tree.specs.View.{hop_view, node_view}
use Rattle.pg_syntax_tree.specs.declared.patterns.NodePattern.{NodePattern}
use Rattle.pg_syntax_tree.specs.declared.patterns.RelationshipPattern.{RelationshipPattern}
use Rattle.pg_plan.specs.Leads.{text_pair}

abbrev pub nodes_in : List (Bor NodePattern) → List tree.NodePattern
nodes_in ns = map (λ n. node_view n.now) ns

abbrev pub hop_nodes : List (RelationshipPattern × NodePattern) → List tree.NodePattern
hop_nodes hs = map (λ h. h.1) (map hop_view hs)

-- the names, with those of some nodes
pub record HasMore (names : Names) (nodes : List tree.NodePattern) (all : Names) : Type 0 where
  pub is : (name : List ℕ) → is_among all name ≡ (is_among (plans.node_names nodes) name || is_among names name)

-- the names of some nodes, in any order
pub record HasNames (nodes : List tree.NodePattern) (names : Names) : Type 0 where
  pub is : (name : List ℕ) → is_among names name ≡ is_among (plans.node_names nodes) name

-- the names with those of the nodes that are left make as many as the old names with those of all nodes
pub record AreLeft (names : Names) (rest : List tree.NodePattern) (old : Names) (all : List tree.NodePattern) : Type 0 where
  pub is : (name : List ℕ) → (is_among (plans.node_names rest) name || is_among names name) ≡ (is_among (plans.node_names all) name || is_among old name)

-- the keys that leading conjuncts fix for a variable
abbrev pub lead_keys : List plans.Fixed → Option (List ℕ) → List (List ℕ)
lead_keys leads None = []
lead_keys leads (Some name) = flat_map (λ f. cond (bytes_eq f.name name) (f.key ∷ []) []) leads

-- the first node that is served, its place and by what
abbrev pub served_from : {I : Type 0} → (tree.NodePattern → Option I) → ℕ → List tree.NodePattern → Option (ℕ × I)
served_from serves place [] = None
served_from serves place (n ∷ ns) = elim (serves n) [ None ↦ served_from serves (place + 1) ns | Some i ↦ Some (place, i) ]

abbrev pub served_view : ℕ × (Bor (List ℕ) × Bor (List ℕ)) → ℕ × (List ℕ × List ℕ)
served_view s = (s.0, text_pair s.1)

-- ---- the anchor of a path whose nodes are these, by the place of the first that is bound

abbrev pub at_label : List tree.NodePattern → plans.Anchor
at_label ns = record { place = unwrap_or (position plans.is_labelled ns) 0; index = None }

abbrev pub at_index : plans.Catalogue → List plans.Fixed → List tree.NodePattern → Option ℕ → plans.Anchor
at_index catalogue leads ns found = elim found [
  | None ↦ at_label ns
  | Some i ↦ record { place = i; index = elim (slice_get ns i) [ None ↦ None | Some n ↦ plans.serving catalogue leads n ] }
]

abbrev pub serves : plans.Catalogue → List plans.Fixed → tree.NodePattern → Bool
serves catalogue leads n = is_some (plans.serving catalogue leads n)

abbrev pub at_bound : plans.Anchor → Option ℕ → plans.Anchor
at_bound otherwise found = elim found [ None ↦ otherwise | Some i ↦ record { place = i; index = None } ]

abbrev pub make : ℕ → Option (List ℕ × List ℕ) → plans.Anchor
make i index = record { place = i; index = index }
