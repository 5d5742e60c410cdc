-- From the same row CREATE makes the same, but for which id is whose.
use Rattle.std.proofs.Common.{◌≡◌, ◌≢◌, ℕ, ◌+◌, ◌<◌, ◌≤◌, List, [], ◌∷◌, map, length, Some, sym, ap, subst, ◌∙◌}
use Rattle.std.proofs.lemmas.List.{length-map}
use Rattle.std.specs.List.{AllByRecursion, AllZip}
use Rattle.pg_meaning.specs.AnswerLaws.{same_ok}
use Rattle.pg_meaning.specs.Graph.{Graph}
use Rattle.pg_meaning.specs.Lists.{IsIn}
use Rattle.pg_meaning.specs.ListsLaws.{all_mapped, pairs_mapped}
use Rattle.pg_meaning.specs.Meaning.{all_placed, new_places, Made, all_made, IsMadeNode, IsMadeRelationship}
use Rattle.pg_meaning.specs.Names.{in_byte_order}
use Rattle.pg_meaning.specs.Patterns.{texts_of, types_of, relationship_properties}
use Rattle.pg_meaning.specs.Rows.{Row}
use Rattle.pg_meaning.specs.Tree.{NodePattern, RelationshipPattern, PathPattern}
use Rattle.pg_meaning.specs.Turns.{Given}
use Rattle.pg_meaning.specs.Updates.{given_properties, first_text}
use Rattle.pg_relations.proofs.Covered.{covered}
use Rattle.pg_relations.proofs.CreatesDecided.{nodes_counted, hops_counted}
use Rattle.pg_relations.proofs.CreatesPlaces.{pattern, made_where, hop_of, all_hop_patterns}
use Rattle.pg_relations.proofs.ProjectedItems.{first_of, rest_of}
use Rattle.pg_relations.specs.Created.{SameNode, SameRelationship, CreateRowMakesOne}

-- lists that show one list stand side by side
pub beside : {X Z : Type 0} (f : X → Z) (P Q : X → Type 0) (R : X → X → Type 0) → ((x y : X) → f x ≡ f y → P x → Q y → R x y) → (xs ys : List X) → map f xs ≡ map f ys → AllByRecursion P xs → AllByRecursion Q ys → AllZip R xs ys
beside f P Q R join [] [] e h k = tt
beside f P Q R join [] (y ∷ ys) e h k = cc
beside f P Q R join (x ∷ xs) [] e h k = cc
beside f P Q R join (x ∷ xs) (y ∷ ys) e h k = (join x y (ap (first_of (f x)) e) h.0 k.0, beside f P Q R join xs ys (ap rest_of e) h.1 k.1)

module _ (g : Given) (paths : List PathPattern) (graph : Graph) (row : Row) (after other : Graph) where
  pub same_node : (p q : NodePattern × ℕ) → pattern p ≡ pattern q → IsMadeNode g graph row after p → IsMadeNode g graph row other q → SameNode after other p q
  same_node p q e h k =
      let labels = h.4 ∙ ap (λ (n : NodePattern). in_byte_order (texts_of n.labels)) e ∙ sym k.4 in
      let properties = same_ok h.0.properties k.0.properties (sym h.5 ∙ ap (λ (n : NodePattern). given_properties g.parameters graph row n.properties) e ∙ k.5) in
      (e, h.3 ∙ (λ i. Some (record { labels = labels i; properties = properties i })) ∙ sym k.3)

  pub same_relationship : (m n : Made) → hop_of m ≡ hop_of n → IsMadeRelationship g graph row after m → IsMadeRelationship g graph row other n → SameRelationship after other m n
  same_relationship m n e h k = (
    e,
    h.0,
    k.0,
    h.3,
    k.3,
    h.4 ∙ ap (λ (r : RelationshipPattern). first_text (types_of r)) e ∙ sym k.4,
    same_ok h.0.properties k.0.properties (sym h.6 ∙ ap (λ (r : RelationshipPattern). given_properties g.parameters graph row (relationship_properties r)) e ∙ k.6),
    h.5,
    k.5,
  )

pub create_row_makes_one : CreateRowMakesOne
create_row_makes_one g paths graph row after other results others c d = record {
  nodes =
      beside pattern (IsMadeNode g graph row after) (IsMadeNode g graph row other) (SameNode after other) (same_node g paths graph row after other) (new_places g.scope (all_placed paths c.assignment)) (new_places g.scope (all_placed paths d.assignment))
      (made_where g.scope paths c.assignment c.shape ∙ sym (made_where g.scope paths d.assignment d.shape)) c.nodes d.nodes;
  relationships =
      beside hop_of (IsMadeRelationship g graph row after) (IsMadeRelationship g graph row other) (SameRelationship after other) (same_relationship g paths graph row after other) (all_made paths c.assignment) (all_made paths d.assignment)
      (all_hop_patterns paths c.assignment c.shape ∙ sym (all_hop_patterns paths d.assignment d.shape)) c.relationships d.relationships;
  no_other_node = no_other_node;
  no_other_relationship = no_other_relationship;
  next_node =
      c.next_node ∙ ap (λ k. graph.next_node + k) (nodes_counted g paths graph row after results c ∙ sym (nodes_counted g paths graph row other others d)) ∙ sym d.next_node;
  next_relationship =
      c.next_relationship ∙ ap (λ k. graph.next_relationship + k) (hops_counted g paths graph row after results c ∙ sym (hops_counted g paths graph row other others d)) ∙ sym d.next_relationship;
  old_nodes = λ n lt. c.old_nodes n lt ∙ sym (d.old_nodes n lt);
  old_relationships = λ r lt. c.old_relationships r lt ∙ sym (d.old_relationships r lt);
  rows = ap (λ (rs : List Row). length rs) c.extended ∙ sym (ap (λ (rs : List Row). length rs) d.extended);
}
  where
    no_other_node : (n : ℕ) → graph.next_node ≤ n → n < after.next_node → IsIn n (map (λ (p : NodePattern × ℕ). p.1) (new_places g.scope (all_placed paths c.assignment)))
    no_other_node n h l =
        let long = length-map (new_places g.scope (all_placed paths c.assignment)) (λ (p : NodePattern × ℕ). p.1) in
        let next = c.next_node ∙ ap (λ k. graph.next_node + k) (sym long) in
        covered graph.next_node (map (λ (p : NodePattern × ℕ). p.1) (new_places g.scope (all_placed paths c.assignment)))
        (pairs_mapped (λ (p : NodePattern × ℕ). p.1) (λ p q. p.1 ≢ q.1) (λ m n. m ≢ n) (λ p q d. d) (new_places g.scope (all_placed paths c.assignment)) c.node_ids)
        (all_mapped (λ (p : NodePattern × ℕ). p.1) (IsMadeNode g graph row after) (λ m. (graph.next_node ≤ m) × (m < graph.next_node + length (map (λ (p : NodePattern × ℕ). p.1) (new_places g.scope (all_placed paths c.assignment)))))
        (λ p made. (made.1, subst (λ k. p.1 < k) next made.2)) (new_places g.scope (all_placed paths c.assignment)) c.nodes)
        n h (subst (λ k. n < k) next l)

    no_other_relationship : (r : ℕ) → graph.next_relationship ≤ r → r < after.next_relationship → IsIn r (map (λ (m : Made). m.id) (all_made paths c.assignment))
    no_other_relationship r h l =
        let long = length-map (all_made paths c.assignment) (λ (m : Made). m.id) in
        let next = c.next_relationship ∙ ap (λ k. graph.next_relationship + k) (sym long) in
        covered graph.next_relationship (map (λ (m : Made). m.id) (all_made paths c.assignment))
        (pairs_mapped (λ (m : Made). m.id) (λ (m : Made) (n : Made). m.id ≢ n.id) (λ m n. m ≢ n) (λ m n d. d) (all_made paths c.assignment) c.relationship_ids)
        (all_mapped (λ (m : Made). m.id) (IsMadeRelationship g graph row after) (λ n. (graph.next_relationship ≤ n) × (n < graph.next_relationship + length (map (λ (m : Made). m.id) (all_made paths c.assignment))))
        (λ m made. (made.1, subst (λ k. m.id < k) next made.2)) (all_made paths c.assignment) c.relationships)
        r h (subst (λ k. r < k) next l)
