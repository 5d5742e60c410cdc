-- The definition's making is that from the outcomes.
use Rattle.std.proofs.Common.{◌≡◌, ℕ, List, [], ◌∷◌, map, Option, Some, None, Result, Ok, Err, refl, sym, ap, ◌∙◌}
use Rattle.pg_meaning.specs.Answer.{◌>>=◌, ◌>>◌}
use Rattle.pg_meaning.specs.Graph.{Graph, add_node}
use Rattle.pg_meaning.specs.Meters.{Setting, test_room, test_counter}
use Rattle.pg_meaning.specs.Patterns.{nodes_of, node_name, texts_of, Bond, single, Trail, Assignment}
use Rattle.pg_meaning.specs.Rows.{Row}
use Rattle.pg_meaning.specs.Tree.{NodePattern, RelationshipPattern, PathPattern}
use Rattle.pg_meaning.specs.Updates.{Making, make_nodes, make_new_node, make_relationship, make_hops, make_bonds, make_path, make_paths}
use Rattle.pg_meaning.specs.Value.{Value, null, boolean, integer, text, list, mapping, node, relationship, path}
use Rattle.pg_meaning.specs.Walks.{bound_value}
use Rattle.pg_meaning.specs.declared.fault.Fault.{Fault}
use Rattle.pg_meaning.specs.declared.fault.Fault.TheVariants.{TypeFault}
use Rattle.pg_write_make.specs.Outcomes.{Outcome, node_added, node_found, with_id, with_new, node_of, nodes_made, hops_made, bonds_made, relationships_of, trail_of, path_made, paths_made, node_outcome, relationship_outcome, path_outcomes}

-- with the bonds of the relationships
abbrev bonded : Graph × List ℕ → Graph × List Bond
bonded made = (made.0, map single made.1)

module _ {X Y : Type 0} where
  in_turn : {Z : Type 0} (r : Result X Fault) (f : X → Result Y Fault) (g : Y → Result Z Fault) → ((r >>= f) >>= g) ≡ (r >>= λ x. f x >>= g)
  in_turn (Ok x) f g = refl
  in_turn (Err e) f g = refl

  same_after : (r : Result X Fault) (f g : X → Result Y Fault) → ((x : X) → f x ≡ g x) → (r >>= f) ≡ (r >>= g)
  same_after (Ok x) f g e = e x
  same_after (Err e) f g h = refl

module _ (s : Setting) (before : Graph) (row : Row) where
  abbrev max : ℕ
  max = s.quota.max_elements

  node_tested : (r : Outcome) (n : NodePattern) (m : Making) → ◌≡◌ {A = Result Making Fault} (r >>= λ properties. test_room s m.graph >> (test_counter m.graph.next_node >> Ok (with_new n m (add_node (texts_of n.labels) properties m.graph)))) ((r >>= λ properties. test_room s m.graph >> (test_counter m.graph.next_node >> Ok (add_node (texts_of n.labels) properties m.graph))) >>= λ after. Ok (with_new n m after))
  node_tested (Err e) n m = refl
  node_tested (Ok properties) n m = by_tests (test_room s m.graph) (test_counter m.graph.next_node)
    where
      by_tests : (a b : Result (Unit {0}) Fault) → ◌≡◌ {A = Result Making Fault} (a >> (b >> Ok (with_new n m (add_node (texts_of n.labels) properties m.graph)))) ((a >> (b >> Ok (add_node (texts_of n.labels) properties m.graph))) >>= λ after. Ok (with_new n m after))
      by_tests (Ok u) (Ok v) = refl
      by_tests (Ok u) (Err e) = refl
      by_tests (Err e) b = refl

  node_is : (n : NodePattern) (m : Making) (v : Option Value) → (elim v [
    | Some w ↦ elim w [ node id ↦ Ok (with_id id m) | _ ↦ Err TypeFault ]
    | None ↦ make_new_node s before row n m
  ]) ≡ (node_found v >>= λ found. elim found [
    | Some id ↦ Ok (with_id id m)
    | None ↦ node_added max (node_outcome s before row n) n m.graph >>= λ after. Ok (with_new n m after)
  ])
  node_is n m None = node_tested (node_outcome s before row n) n m
  node_is n m (Some null) = refl
  node_is n m (Some (boolean b)) = refl
  node_is n m (Some (integer b)) = refl
  node_is n m (Some (text b)) = refl
  node_is n m (Some (list b)) = refl
  node_is n m (Some (mapping b)) = refl
  node_is n m (Some (node b)) = refl
  node_is n m (Some (relationship b)) = refl
  node_is n m (Some (path b)) = refl

  nodes_are : (ns : List NodePattern) (m : Making) → make_nodes s before row m ns ≡ nodes_made max (map (node_outcome s before row) ns) ns m
  nodes_are [] m = refl
  nodes_are (n ∷ ns) m =
      ap (λ r. r >>= λ t. make_nodes s before row t ns) (node_is n m (bound_value (node_name n) m.bound))
      ∙ same_after (node_of max (node_outcome s before row n) n m) (λ t. make_nodes s before row t ns) (nodes_made max (map (node_outcome s before row) ns) ns) (nodes_are ns)

  one_bonded : (next : ℕ) (r : Result (Graph × List ℕ) Fault) → ((r >>= λ made. Ok (bonded made)) >>= λ (made : Graph × List Bond). Ok (made.0, single next ∷ made.1)) ≡ ((r >>= λ made. Ok (made.0, next ∷ made.1)) >>= λ made. Ok (bonded made))
  one_bonded next (Ok made) = refl
  one_bonded next (Err e) = refl

  hops_are : (hs : List (RelationshipPattern × NodePattern)) (left : ℕ) (ns : List ℕ) (graph : Graph)
      → make_hops s before row hs left ns graph ≡ (hops_made max (map (relationship_outcome s before row) (map (λ h. h.0) hs)) (map (λ h. h.0) hs) left ns graph >>= λ made. Ok (bonded made))
  hops_are [] left ns graph = refl
  hops_are (h ∷ hs) left [] graph = refl
  hops_are (h ∷ hs) left (n ∷ ns) graph =
      let os = map (relationship_outcome s before row) (map (λ h. h.0) hs) in
      let rs = map (λ h. h.0) hs in
      same_after (make_relationship s before row h.0 left n graph)
      (λ after. make_hops s before row hs n ns after >>= λ made. Ok (made.0, single graph.next_relationship ∷ made.1))
      (λ after. (hops_made max os rs n ns after >>= λ made. Ok (made.0, graph.next_relationship ∷ made.1)) >>= λ made. Ok (bonded made))
      (λ after. ap (λ r. r >>= λ (made : Graph × List Bond). Ok (made.0, single graph.next_relationship ∷ made.1)) (hops_are hs n ns after) ∙ one_bonded graph.next_relationship (hops_made max os rs n ns after))
      ∙ sym (in_turn (make_relationship s before row h.0 left n graph) (λ after. hops_made max os rs n ns after >>= λ made. Ok (made.0, graph.next_relationship ∷ made.1)) (λ made. Ok (bonded made)))

  bonds_are : (p : PathPattern) (ns : List ℕ) (graph : Graph) → make_bonds s before row p.hops ns graph ≡ (bonds_made max (map (relationship_outcome s before row) (relationships_of p)) (relationships_of p) ns graph >>= λ made. Ok (bonded made))
  bonds_are p [] graph = refl
  bonds_are p (n ∷ ns) graph = hops_are p.hops n ns graph

  path_ends : (m : Making) (r : Result (Graph × List ℕ) Fault) → ◌≡◌ {A = Result (Graph × Row × Trail) Fault} ((r >>= λ made. Ok (bonded made)) >>= λ (made : Graph × List Bond). let trail : Trail = record { nodes = m.ids; bonds = made.1 } in Ok (made.0, m.bound, trail)) (r >>= λ made. Ok (made.0, m.bound, trail_of m.ids made.1))
  path_ends m (Ok made) = refl
  path_ends m (Err e) = refl

  path_is : (p : PathPattern) (so_far : Graph × Row) → make_path s before row so_far p ≡ path_made max (path_outcomes s before row p) p so_far
  path_is p so_far =
      let none : Making = record { graph = so_far.0; bound = so_far.1; ids = [] } in
      ap (λ r. r >>= λ (m : Making). make_bonds s before row p.hops m.ids m.graph >>= λ made. let trail : Trail = record { nodes = m.ids; bonds = made.1 } in Ok (made.0, m.bound, trail)) (nodes_are (nodes_of p) none)
      ∙ same_after (nodes_made max (map (node_outcome s before row) (nodes_of p)) (nodes_of p) none)
      (λ m. make_bonds s before row p.hops m.ids m.graph >>= λ made. let trail : Trail = record { nodes = m.ids; bonds = made.1 } in Ok (made.0, m.bound, trail))
      (λ m. bonds_made max (map (relationship_outcome s before row) (relationships_of p)) (relationships_of p) m.ids m.graph >>= λ made. Ok (made.0, m.bound, trail_of m.ids made.1))
      (λ m. ap (λ r. r >>= λ (made : Graph × List Bond). let trail : Trail = record { nodes = m.ids; bonds = made.1 } in Ok (made.0, m.bound, trail)) (bonds_are p m.ids m.graph)
      ∙ path_ends m (bonds_made max (map (relationship_outcome s before row) (relationships_of p)) (relationships_of p) m.ids m.graph))

  pub paths_are : (ps : List PathPattern) (so_far : Graph × Row) → make_paths s before row so_far ps ≡ paths_made max (map (path_outcomes s before row) ps) ps so_far
  paths_are [] so_far = refl
  paths_are (p ∷ ps) so_far =
      ap (λ r. r >>= λ (made : Graph × Row × Trail). make_paths s before row (made.0, made.1) ps >>= λ (others : Graph × Assignment). Ok (others.0, made.2 ∷ others.1)) (path_is p so_far)
      ∙ same_after (path_made max (path_outcomes s before row p) p so_far)
      (λ made. make_paths s before row (made.0, made.1) ps >>= λ (others : Graph × Assignment). Ok (others.0, made.2 ∷ others.1))
      (λ made. paths_made max (map (path_outcomes s before row) ps) ps (made.0, made.1) >>= λ (others : Graph × Assignment). Ok (others.0, made.2 ∷ others.1))
      (λ made. ap (λ r. r >>= λ (others : Graph × Assignment). Ok (others.0, made.2 ∷ others.1)) (paths_are ps (made.0, made.1)))
