-- Two rows of CREATE with one assignment of ids are one; so they are where the ids leave no choice.
use Rattle.std.proofs.Common.{◌≡◌, ℕ, suc, ◌+◌, ◌<◌, ◌≤◌, ◌⊎◌, inl, inr, List, [], ◌∷◌, map, length, Option, Some, None, is_some, refl, sym, ap, subst, ◌∙◌, arith}
use Rattle.std.proofs.lemmas.Bool.{cases_lt}
use Rattle.std.proofs.lemmas.List.{length-map}
use Rattle.std.specs.FinMap.Entries as by_id
use Rattle.std.specs.List.{AllByRecursion}
use Rattle.std.specs.Ordering.{nat_cmp}
use Rattle.pg_soundness.proofs.ChangesOnce.{same_graph}
use Rattle.pg_soundness.proofs.ChangesOptions.{found}
use Rattle.pg_meaning.specs.Graph.{Graph, Relationship, node_at, relationship_at}
use Rattle.pg_meaning.specs.GraphLaws.{found_among}
use Rattle.pg_meaning.specs.ListsLaws.{all_at, all_mapped}
use Rattle.pg_meaning.specs.Meaning.{all_placed, new_places, Made, all_made, IsMadeNode, IsMadeRelationship, HasEnds, CreateRow}
use Rattle.pg_meaning.specs.Names.{is_among}
use Rattle.pg_meaning.specs.Patterns.{way_of, bind_match}
use Rattle.pg_meaning.specs.Graph.{Way, outgoing, incoming, both}
use Rattle.pg_meaning.specs.Rows.{Row, value_in}
use Rattle.pg_meaning.specs.Tree.{PathPattern}
use Rattle.pg_meaning.specs.Turns.{Given}
use Rattle.pg_relations.proofs.Assigned.{place_id, made_id, same_places, known_bound, same_trails}
use Rattle.pg_relations.proofs.Counted.{of_mapped}
use Rattle.pg_relations.proofs.CreatesDecided.{nodes_counted, hops_counted}
use Rattle.pg_relations.proofs.CreatesDetermined.{create_row_makes_one, same_node, same_relationship}
use Rattle.pg_relations.proofs.CreatesPlaces.{all_patterns}
use Rattle.pg_relations.specs.Exact.{MakesFew}

-- no element stands at an id that is not handed out
pub none_past : {X : Type 0} (es : List (ℕ × X)) (next n : ℕ) → AllByRecursion (λ (e : ℕ × X). e.0 < next) es → next ≤ n → by_id.find nat_cmp n es ≡ None
none_past {X} es next n below past = by_found (by_id.find nat_cmp n es) refl
  where
    apart : (n next : ℕ) → next ≤ n → n < next → ⊥
    apart n next a b = omega (arith, a, b)

    by_found : (o : Option X) → by_id.find nat_cmp n es ≡ o → o ≡ None
    by_found None e = refl
    by_found (Some x) e = absurd (apart n next past (found_among (λ (p : ℕ × X). p.0 < next) n x es below e))

same_ends : (way : Way) (m : Made) (r s : Relationship) → HasEnds way m r → HasEnds way m s → (r.source ≡ s.source) × (r.target ≡ s.target)
same_ends outgoing m r s h k = (h.0 ∙ sym k.0, h.1 ∙ sym k.1)
same_ends incoming m r s h k = (h.0 ∙ sym k.0, h.1 ∙ sym k.1)
same_ends both m r s h k = (h.0 ∙ sym k.0, h.1 ∙ sym k.1)

module _ (g : Given) (paths : List PathPattern) (graph : Graph) (row : Row) (after other : Graph) (results others : List Row) (c : CreateRow g paths graph row after results) (d : CreateRow g paths graph row other others) where
  module _ (same : d.assignment ≡ c.assignment) where
    nodes_alike : (n : ℕ) → node_at after n ≡ node_at other n
    nodes_alike n = by_old (cases_lt n graph.next_node)
      where
        by_new : graph.next_node ≤ n → (n < after.next_node) ⊎ (after.next_node ≤ n) → node_at after n ≡ node_at other n
        by_new past (inl below) =
            let place = of_mapped place_id n (new_places g.scope (all_placed paths c.assignment)) ((create_row_makes_one g paths graph row after other results others c d).no_other_node n past below) in
            let mine = all_at (IsMadeNode g graph row after) place.0 (new_places g.scope (all_placed paths c.assignment)) c.nodes place.1 in
            let yours = all_at (IsMadeNode g graph row other) place.0 (new_places g.scope (all_placed paths c.assignment)) (subst (λ a. AllByRecursion (IsMadeNode g graph row other) (new_places g.scope (all_placed paths a))) same d.nodes) place.1 in
            subst (λ k. node_at after k ≡ node_at other k) (sym place.2) (same_node g paths graph row after other place.0 place.0 refl mine yours).1
        by_new past (inr gone) =
            none_past after.nodes after.next_node n c.graph_again.nodes_below gone
            ∙ sym (none_past other.nodes other.next_node n d.graph_again.nodes_below (subst (λ k. k ≤ n) (create_row_makes_one g paths graph row after other results others c d).next_node gone))

        by_old : (n < graph.next_node) ⊎ (graph.next_node ≤ n) → node_at after n ≡ node_at other n
        by_old (inl below) = c.old_nodes n below ∙ sym (d.old_nodes n below)
        by_old (inr past) = by_new past (cases_lt n after.next_node)

    relationships_alike : (r : ℕ) → relationship_at after r ≡ relationship_at other r
    relationships_alike r = by_old (cases_lt r graph.next_relationship)
      where
        by_new : graph.next_relationship ≤ r → (r < after.next_relationship) ⊎ (after.next_relationship ≤ r) → relationship_at after r ≡ relationship_at other r
        by_new past (inl below) =
            let made = of_mapped made_id r (all_made paths c.assignment) ((create_row_makes_one g paths graph row after other results others c d).no_other_relationship r past below) in
            let mine = all_at (IsMadeRelationship g graph row after) made.0 (all_made paths c.assignment) c.relationships made.1 in
            let yours = all_at (IsMadeRelationship g graph row other) made.0 (all_made paths c.assignment) (subst (λ a. AllByRecursion (IsMadeRelationship g graph row other) (all_made paths a)) same d.relationships) made.1 in
            let one = same_relationship g paths graph row after other made.0 made.0 refl mine yours in
            let ends = same_ends (way_of made.0.pattern) made.0 one.1 one.2 one.7 one.8 in
            subst (λ k. relationship_at after k ≡ relationship_at other k) (sym made.2) (one.3 ∙ (λ i. Some (record { type = one.5 i; source = ends.0 i; target = ends.1 i; properties = one.6 i })) ∙ sym one.4)
        by_new past (inr gone) =
            none_past after.relationships after.next_relationship r c.graph_again.relationships_below gone
            ∙ sym (none_past other.relationships other.next_relationship r d.graph_again.relationships_below (subst (λ k. k ≤ r) (create_row_makes_one g paths graph row after other results others c d).next_relationship gone))

        by_old : (r < graph.next_relationship) ⊎ (graph.next_relationship ≤ r) → relationship_at after r ≡ relationship_at other r
        by_old (inl below) = c.old_relationships r below ∙ sym (d.old_relationships r below)
        by_old (inr past) = by_new past (cases_lt r after.next_relationship)

    pub numbered_alike : (after ≡ other) × (results ≡ others)
    numbered_alike =
        let graphs =
        same_graph after other c.graph_again d.graph_again nodes_alike relationships_alike (create_row_makes_one g paths graph row after other results others c d).next_node
        (create_row_makes_one g paths graph row after other results others c d).next_relationship
        in
        (graphs, c.extended ∙ (λ i. bind_match (graphs i) paths (sym same i) row ∷ []) ∙ sym d.extended)

-- ---- no choice

ids_one : (next : ℕ) (xs ys : List ℕ) → length xs ≤ 1 → length xs ≡ length ys → AllByRecursion (λ m. (next ≤ m) × (m < next + length xs)) xs → AllByRecursion (λ m. (next ≤ m) × (m < next + length ys)) ys → xs ≡ ys
ids_one next [] [] few e h k = refl
ids_one next [] (y ∷ ys) few e h k = cc
ids_one next (x ∷ []) [] few e h k = cc
ids_one next (x ∷ []) (y ∷ []) few e h k = ap (λ z. z ∷ []) (one next x y h.0.0 h.0.1 k.0.0 k.0.1)
  where
    one : (next x y : ℕ) → next ≤ x → x < next + 1 → next ≤ y → y < next + 1 → x ≡ y
    one next x y a b c d = omega (arith, a, b, c, d)
ids_one next (x ∷ []) (y ∷ z ∷ ys) few e h k = absurd (one_two (length ys) e)
  where
    one_two : (n : ℕ) → 1 ≡ suc (suc n) → ⊥
    one_two n e = omega (arith, e)
ids_one next (x ∷ w ∷ xs) ys few e h k = absurd (past (length xs) few)
  where
    past : (n : ℕ) → suc (suc n) ≤ 1 → ⊥
    past n e = omega (arith, e)

module _ (g : Given) (paths : List PathPattern) (graph : Graph) (row : Row) where
  node_range : (after : Graph) (results : List Row) (c : CreateRow g paths graph row after results) → AllByRecursion (λ m. (graph.next_node ≤ m) × (m < graph.next_node + length (map place_id (new_places g.scope (all_placed paths c.assignment))))) (map place_id (new_places g.scope (all_placed paths c.assignment)))
  node_range after results c =
      let next = c.next_node ∙ ap (λ k. graph.next_node + k) (sym (length-map (new_places g.scope (all_placed paths c.assignment)) place_id)) in
      all_mapped place_id (IsMadeNode g graph row after) (λ m. (graph.next_node ≤ m) × (m < graph.next_node + length (map place_id (new_places g.scope (all_placed paths c.assignment)))))
      (λ p made. (made.1, subst (λ k. p.1 < k) next made.2)) (new_places g.scope (all_placed paths c.assignment)) c.nodes

  relationship_range : (after : Graph) (results : List Row) (c : CreateRow g paths graph row after results) → AllByRecursion (λ m. (graph.next_relationship ≤ m) × (m < graph.next_relationship + length (map made_id (all_made paths c.assignment)))) (map made_id (all_made paths c.assignment))
  relationship_range after results c =
      let next = c.next_relationship ∙ ap (λ k. graph.next_relationship + k) (sym (length-map (all_made paths c.assignment) made_id)) in
      all_mapped made_id (IsMadeRelationship g graph row after) (λ m. (graph.next_relationship ≤ m) × (m < graph.next_relationship + length (map made_id (all_made paths c.assignment))))
      (λ m made. (made.1, subst (λ k. m.id < k) next made.2)) (all_made paths c.assignment) c.relationships

  module _ (few : MakesFew g paths) (binds : (name : List ℕ) → is_some (value_in name row) ≡ is_among g.scope name) (after other : Graph) (results others : List Row) (c : CreateRow g paths graph row after results) (d : CreateRow g paths graph row other others) where
    few_ids : map place_id (new_places g.scope (all_placed paths c.assignment)) ≡ map place_id (new_places g.scope (all_placed paths d.assignment))
    few_ids =
        let mine = length-map (new_places g.scope (all_placed paths c.assignment)) place_id ∙ nodes_counted g paths graph row after results c in
        let yours = length-map (new_places g.scope (all_placed paths d.assignment)) place_id ∙ nodes_counted g paths graph row other others d in
        ids_one graph.next_node _ _ (subst (λ k. k ≤ 1) (sym mine) few.0) (mine ∙ sym yours) (node_range after results c) (node_range other others d)

    few_made : map made_id (all_made paths c.assignment) ≡ map made_id (all_made paths d.assignment)
    few_made =
        let mine = length-map (all_made paths c.assignment) made_id ∙ hops_counted g paths graph row after results c in
        let yours = length-map (all_made paths d.assignment) made_id ∙ hops_counted g paths graph row other others d in
        ids_one graph.next_relationship _ _ (subst (λ k. k ≤ 1) (sym mine) few.1) (mine ∙ sym yours) (relationship_range after results c) (relationship_range other others d)

    few_assigned : c.assignment ≡ d.assignment
    few_assigned =
        let places =
        same_places g.scope (all_placed paths c.assignment) (all_placed paths d.assignment) (all_patterns paths c.assignment c.shape ∙ sym (all_patterns paths d.assignment d.shape))
        (λ name among. let v = found (value_in name row) (binds name ∙ among) in known_bound row name v.0 v.1 (all_placed paths c.assignment) (all_placed paths d.assignment) c.bound d.bound)
        c.repeated d.repeated few_ids
        in
        same_trails paths c.assignment d.assignment c.shape d.shape (ap (map place_id) places) few_made

    pub few_alike : (after ≡ other) × (results ≡ others)
    few_alike = numbered_alike g paths graph row after other results others c d (sym few_assigned)
