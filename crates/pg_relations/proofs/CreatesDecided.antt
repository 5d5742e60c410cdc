-- A row of CREATE has a result or a fault, never both; so has a row of MERGE, but for its items.
use Rattle.std.proofs.Common.{◌≡◌, ◌≢◌, ℕ, ◌+◌, ◌<◌, ◌≤◌, max, Bool, true, false, ◌⊎◌, inl, inr, List, [], ◌∷◌, map, flat_map, length, Some, Result, Ok, Err, refl, sym, ap, subst, ◌∙◌, arith}
use Rattle.std.proofs.lemmas.List.{length-map}
use Rattle.std.specs.List.{AllByRecursion}
use Rattle.pg_soundness.proofs.ChangesOptions.{ok_or_err}
use Rattle.pg_meaning.specs.Changes.{SetFaults}
use Rattle.pg_meaning.specs.Expressions.{evaluate}
use Rattle.pg_meaning.specs.Graph.{Graph, Relationship, Node, IsGraph, node_at, relationship_at}
use Rattle.pg_meaning.specs.Lists.{IsIn}
use Rattle.pg_meaning.specs.ListsLaws.{all_at, in_mapped, pairs_mapped}
use Rattle.pg_meaning.specs.Meaning.{BoundNodesLive, BoundNodeFaults, all_nodes, all_pairs, all_placed, new_places, Made, all_made, IsMadeNode, IsMadeRelationship, CreateRow, MadePropertyFaults, new_nodes, new_relationships, CreateFaults, MergeMatched, MergeMade, MergeRow, MergeItemFaults, MergeFaults}
use Rattle.pg_meaning.specs.Meters.{greatest_id}
use Rattle.pg_meaning.specs.Patterns.{Assignment, Fits, nodes_of, node_name, relationship_properties}
use Rattle.pg_meaning.specs.Reading.{test_bound}
use Rattle.pg_meaning.specs.Rows.{Row}
use Rattle.pg_meaning.specs.Tree.{Properties, no_properties, NodePattern, RelationshipPattern, PathPattern, SetItem}
use Rattle.pg_meaning.specs.Turns.{Given}
use Rattle.pg_meaning.specs.Updates.{given_properties, items_on}
use Rattle.pg_meaning.specs.Value.{Value, null, Entries, no_entries}
use Rattle.pg_meaning.specs.Walks.{bound_value}
use Rattle.pg_meaning.specs.declared.fault.Fault.{Fault}
use Rattle.pg_relations.proofs.Counted.{of_mapped, grown}
use Rattle.pg_relations.proofs.CreatesPlaces.{of_flat, in_flat, pattern, made_where, hop_of, all_hop_patterns}
use Rattle.pg_relations.specs.Decided.{DescribesNew, CreateRowIsOne, MergeRowIsOne}

bound_apart : (graph : Graph) (row : Row) (paths : List PathPattern) (f : Fault) → BoundNodesLive false graph row paths → BoundNodeFaults false graph paths row f → ⊥
bound_apart graph row paths f h x =
    ok_or_err (test_bound false graph (bound_value (node_name x.0) row)) tt f (all_at (λ n. test_bound false graph (bound_value (node_name n) row) ≡ Ok tt) x.0 (all_nodes paths) h x.1) x.2

module _ (g : Given) (paths : List PathPattern) (graph : Graph) (row : Row) (after : Graph) (results : List Row) (c : CreateRow g paths graph row after results) where
  abbrev places : List (NodePattern × ℕ)
  places = new_places g.scope (all_placed paths c.assignment)

  abbrev makings : List Made
  makings = all_made paths c.assignment

  -- ---- properties

  node_given : (n : NodePattern) (f : Fault) → DescribesNew g paths → IsIn n (all_nodes paths) → given_properties g.parameters graph row n.properties ≡ Err f → ⊥
  node_given n f new i x = by_kind (all_at (λ (n : NodePattern). (n.properties ≡ no_properties) ⊎ IsIn n (map pattern (new_places g.scope (map (λ n. (n, 0)) (all_nodes paths))))) n (all_nodes paths) new i)
    where
      fine : ◌≡◌ {A = Result Entries Fault} (Ok no_entries) (Err f) → ⊥
      fine e = cc

      by_kind : (n.properties ≡ no_properties) ⊎ IsIn n (map pattern (new_places g.scope (map (λ n. (n, 0)) (all_nodes paths)))) → ⊥
      by_kind (inl none) = fine (subst (λ ps. given_properties g.parameters graph row ps ≡ Err f) none x)
      by_kind (inr j) =
          let place = of_mapped pattern n places (subst (IsIn n) (sym (made_where g.scope paths c.assignment c.shape)) j) in
          let made = all_at (IsMadeNode g graph row after) place.0 places c.nodes place.1 in
          ok_or_err (given_properties g.parameters graph row (pattern place.0).properties) made.0.properties f made.5 (subst (λ (m : NodePattern). given_properties g.parameters graph row m.properties ≡ Err f) place.2 x)

  hop_given : (h : RelationshipPattern × NodePattern) (f : Fault) → IsIn h (flat_map (λ (p : PathPattern). p.hops) paths) → given_properties g.parameters graph row (relationship_properties h.0) ≡ Err f → ⊥
  hop_given h f i x =
      let there = in_mapped (λ (h : RelationshipPattern × NodePattern). h.0) h (flat_map (λ (p : PathPattern). p.hops) paths) i in
      let m = of_mapped hop_of h.0 makings (subst (IsIn h.0) (sym (all_hop_patterns paths c.assignment c.shape)) there) in
      let made = all_at (IsMadeRelationship g graph row after) m.0 makings c.relationships m.1 in
      ok_or_err (given_properties g.parameters graph row (relationship_properties (hop_of m.0))) made.0.properties f made.6 (subst (λ r. given_properties g.parameters graph row (relationship_properties r) ≡ Err f) m.2 x)

  abbrev hop_properties : RelationshipPattern × NodePattern → List Properties
  hop_properties h = relationship_properties h.0 ∷ h.1.properties ∷ []

  properties_apart : (f : Fault) → DescribesNew g paths → MadePropertyFaults g paths graph row f → ⊥
  properties_apart f new (ps, i, x) = let p = of_flat (λ (p : PathPattern). p.first.properties ∷ flat_map hop_properties p.hops) ps paths i in at_path p.0 p.1 p.2
    where
      at_hop : (p : PathPattern) (h : RelationshipPattern × NodePattern) → IsIn p paths → IsIn h p.hops → IsIn ps (hop_properties h) → ⊥
      at_hop p h k j (inl e) = hop_given h f (in_flat (λ (p : PathPattern). p.hops) p h paths k j) (subst (λ q. given_properties g.parameters graph row q ≡ Err f) e x)
      at_hop p h k j (inr (inl e)) =
          node_given h.1 f new (in_flat nodes_of p h.1 paths k (inr (in_mapped (λ (h : RelationshipPattern × NodePattern). h.1) h p.hops j))) (subst (λ q. given_properties g.parameters graph row q ≡ Err f) e x)
      at_hop p h k j (inr (inr i)) = absurd i

      at_path : (p : PathPattern) → IsIn p paths → IsIn ps (p.first.properties ∷ flat_map hop_properties p.hops) → ⊥
      at_path p k (inl e) = node_given p.first f new (in_flat nodes_of p p.first paths k (inl refl)) (subst (λ q. given_properties g.parameters graph row q ≡ Err f) e x)
      at_path p k (inr j) = let h = of_flat hop_properties ps p.hops j in at_hop p h.0 k h.1 h.2

  -- ---- room and ids

  pub nodes_counted : length places ≡ new_nodes g paths
  nodes_counted = sym (length-map places pattern) ∙ ap (λ ns. length ns) (made_where g.scope paths c.assignment c.shape) ∙ length-map (new_places g.scope (map (λ n. (n, 0)) (all_nodes paths))) pattern

  pub hops_counted : length makings ≡ new_relationships paths
  hops_counted = sym (length-map makings hop_of) ∙ ap (λ rs. length rs) (all_hop_patterns paths c.assignment c.shape) ∙ length-map (flat_map (λ (p : PathPattern). p.hops) paths) (λ (h : RelationshipPattern × NodePattern). h.0)

  more_nodes : IsGraph graph → length graph.nodes + length places ≤ length after.nodes
  more_nodes is =
      subst (λ k. length graph.nodes + k ≤ length after.nodes) (length-map places (λ (p : NodePattern × ℕ). p.1))
      (grown graph.nodes after.nodes graph.next_node (map (λ (p : NodePattern × ℕ). p.1) places) is.node_ids_rise is.nodes_below c.old_nodes
      (pairs_mapped (λ (p : NodePattern × ℕ). p.1) (λ p q. p.1 ≢ q.1) (λ m n. m ≢ n) (λ p q d. d) places c.node_ids) new)
    where
      new : (n : ℕ) → IsIn n (map (λ (p : NodePattern × ℕ). p.1) places) → (graph.next_node ≤ n) × ((e : Node) × (node_at after n ≡ Some e))
      new n i =
          let place = of_mapped (λ (p : NodePattern × ℕ). p.1) n places i in
          let made = all_at (IsMadeNode g graph row after) place.0 places c.nodes place.1 in
          (subst (λ m. graph.next_node ≤ m) (sym place.2) made.1, (made.0, subst (λ m. node_at after m ≡ Some made.0) (sym place.2) made.3))

  more_relationships : IsGraph graph → length graph.relationships + length makings ≤ length after.relationships
  more_relationships is =
      subst (λ k. length graph.relationships + k ≤ length after.relationships) (length-map makings (λ (m : Made). m.id))
      (grown graph.relationships after.relationships graph.next_relationship (map (λ (m : Made). m.id) makings) is.relationship_ids_rise is.relationships_below c.old_relationships
      (pairs_mapped (λ (m : Made). m.id) (λ (m : Made) (n : Made). m.id ≢ n.id) (λ m n. m ≢ n) (λ m n d. d) makings c.relationship_ids) new)
    where
      new : (r : ℕ) → IsIn r (map (λ (m : Made). m.id) makings) → (graph.next_relationship ≤ r) × ((e : Relationship) × (relationship_at after r ≡ Some e))
      new r i =
          let m = of_mapped (λ (m : Made). m.id) r makings i in
          let made = all_at (IsMadeRelationship g graph row after) m.0 makings c.relationships m.1 in
          (subst (λ n. graph.next_relationship ≤ n) (sym m.2) made.1, (made.0, subst (λ n. relationship_at after n ≡ Some made.0) (sym m.2) made.3))

  -- what doesn't fit isn't there
  past_room : (most an ar bn br n r m k : ℕ) → bn + n ≤ an → br + r ≤ ar → n ≡ m → r ≡ k → an + ar ≤ max most (bn + br) → 0 < m + k → most < bn + br + (m + k) → ⊥
  past_room most an ar bn br n r m k a b d e h p q = omega (arith, a, b, d, e, h, p, q)

  past_ids : (most next before n m : ℕ) → next ≡ before + n → n ≡ m → next ≤ max most before → 0 < m → most < before + m → ⊥
  past_ids most next before n m a d h p q = omega (arith, a, d, h, p, q)

  create_apart : (f : Fault) → IsGraph graph → DescribesNew g paths → CreateFaults g paths graph row f → ⊥
  create_apart f is new (inl x) = bound_apart graph row paths f c.live x
  create_apart f is new (inr (inl x)) = properties_apart f new x
  create_apart f is new (inr (inr (inl x))) =
      past_room g.max_elements (length after.nodes) (length after.relationships) (length graph.nodes) (length graph.relationships) (length places) (length makings) (new_nodes g paths) (new_relationships paths)
      (more_nodes is) (more_relationships is) nodes_counted hops_counted c.room x.1.0 x.1.1
  create_apart f is new (inr (inr (inr (inl x)))) = past_ids greatest_id after.next_node graph.next_node (length places) (new_nodes g paths) c.next_node nodes_counted c.node_counter x.1.0 x.1.1
  create_apart f is new (inr (inr (inr (inr x)))) =
      past_ids greatest_id after.next_relationship graph.next_relationship (length makings) (new_relationships paths) c.next_relationship hops_counted c.relationship_counter x.1.0 x.1.1

pub create_row_is_one : CreateRowIsOne
create_row_is_one g paths graph row after results f is new c x = create_apart g paths graph row after results c f is new x

-- ---- MERGE

pub no_items_fault : (g : Given) (graph : Graph) (rows : List Row) (f : Fault) → SetFaults g [] graph rows f → ⊥
no_items_fault g graph [] f x = absurd x
no_items_fault g graph (row ∷ rows) f (inl x) = absurd x
no_items_fault g graph (row ∷ rows) f (inr x) = no_items_fault g x.0 rows f x.2

module _ (g : Given) (p : PathPattern) (parts : List (Bool × List SetItem)) (graph : Graph) (row : Row) (after : Graph) (results : List Row) (f : Fault) (m : MergeRow g p parts graph row after results) where
  no_items : MergeItemFaults g p [] graph row f → ⊥
  no_items (inl x) = no_items_fault g graph _ f x.2
  no_items (inr x) = no_items_fault g x.0 x.1 f x.4

  merge_apart : IsGraph graph → DescribesNew g (p ∷ []) → MergeFaults g p [] graph row f → ⊥
  merge_apart is new (inl x) = bound_apart graph row (p ∷ []) f (m.tested).live x
  merge_apart is new (inr (inl x)) =
      let v = all_at (λ q. (v : Value) × (evaluate row g.parameters graph q.1 ≡ Ok v)) x.0 (all_pairs (p ∷ [])) (m.tested).evaluated x.1 in
      ok_or_err (evaluate row g.parameters graph x.0.1) v.0 f v.1 x.2
  merge_apart is new (inr (inr (inl x))) = all_at (λ q. evaluate row g.parameters graph q.1 ≢ Ok null) x.1 (all_pairs (p ∷ [])) (m.tested).not_null x.2 x.3
  merge_apart is new (inr (inr (inr (inl x)))) = by_kind m.one
    where
      some_fits : (found : List Assignment) → AllByRecursion (Fits (p ∷ []) g.parameters graph row) found → found ≢ [] → ⊥
      some_fits [] h some = some refl
      some_fits (a ∷ as_) h some = x.1 a h.0

      by_kind : MergeMatched g p (items_on false parts) graph row after results ⊎ MergeMade g p (items_on true parts) graph row after results → ⊥
      by_kind (inl h) = some_fits h.found h.matches.each h.some
      by_kind (inr h) = create_apart g (p ∷ []) graph row h.made results h.creation f is new x.2
  merge_apart is new (inr (inr (inr (inr x)))) = no_items x.1

pub merge_row_is_one : MergeRowIsOne
merge_row_is_one g p parts graph row after results f is new m x = merge_apart g p parts graph row after results f m is new x
