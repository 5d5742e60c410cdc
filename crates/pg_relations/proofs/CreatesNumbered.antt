-- Two graphs that CREATE made of one, row by row, differ in which id is whose alone.
use Rattle.std.proofs.Common.{◌≡◌, ℕ, ◌+◌, ◌<◌, ◌≤◌, Bool, true, false, ◌⊎◌, inl, inr, List, [], ◌∷◌, length, Option, Some, None, is_some, sym, ap, subst, ◌∙◌, arith}
use Rattle.std.proofs.lemmas.Bool.{cases_lt}
use Rattle.std.proofs.lemmas.List.{length-map}
use Rattle.std.specs.FinMap.Entries as by_id
use Rattle.std.specs.List.{AllByRecursion, AllZip}
use Rattle.std.specs.Ordering.{nat_cmp}
use Rattle.std.specs.Prelude.{IsTrue}
use Rattle.pg_soundness.proofs.ChangesOptions.{found}
use Rattle.pg_soundness.proofs.ChangesRemoval.{is_found}
use Rattle.pg_soundness.proofs.MatchParts.{entries_apart, ids_apart, found_in}
use Rattle.pg_meaning.specs.AnswerLaws.{same_ok}
use Rattle.pg_meaning.specs.Graph.{Graph, IsGraph, has_node, has_relationship, ids_of}
use Rattle.pg_meaning.specs.Lists.{IsIn}
use Rattle.pg_meaning.specs.ListsLaws.{all_at, all_weaker, all_both, all_in_themselves, in_mapped}
use Rattle.pg_meaning.specs.Meaning.{all_nodes, all_placed, new_places, Made, all_made, IsMadeNode, IsMadeRelationship, CreateRow}
use Rattle.pg_meaning.specs.Names.{Names, is_among, in_byte_order}
use Rattle.pg_meaning.specs.Patterns.{texts_of, types_of, node_name, relationship_properties}
use Rattle.pg_meaning.specs.Rows.{Row}
use Rattle.pg_meaning.specs.Tree.{NodePattern, RelationshipPattern, PathPattern}
use Rattle.pg_meaning.specs.Turns.{Given}
use Rattle.pg_meaning.specs.Updates.{given_properties, first_text}
use Rattle.pg_relations.proofs.Assigned.{place_id, made_id}
use Rattle.pg_relations.proofs.Counted.{no_more, of_mapped}
use Rattle.pg_relations.proofs.CreatesDecided.{nodes_counted, hops_counted}
use Rattle.pg_relations.proofs.CreatesDetermined.{beside, create_row_makes_one}
use Rattle.pg_relations.proofs.CreatesExact.{none_past}
use Rattle.pg_relations.proofs.CreatesPlaces.{pattern, hop_of, made_where, all_patterns, all_hop_patterns}
use Rattle.pg_relations.specs.Created.{SameNode, SameRelationship}
use Rattle.pg_relations.specs.Numbered.{Keeps, all_hops, SeesTheOld, SameButNew}

-- ---- elements at the same ids are as many

module _ {X : Type 0} where
  in_ids : (n : ℕ) (es : List (ℕ × X)) → is_some (by_id.find nat_cmp n es) ≡ true → IsIn n (ids_of es)
  in_ids n es h = let x = found (by_id.find nat_cmp n es) h in in_mapped (λ (e : ℕ × X). e.0) (n, x.0) es (found_in n x.0 es x.1)

  ids_there : (n : ℕ) (es : List (ℕ × X)) → IsTrue (by_id.is_sorted nat_cmp es) → IsIn n (ids_of es) → is_some (by_id.find nat_cmp n es) ≡ true
  ids_there n es rise i =
      let e = of_mapped (λ (e : ℕ × X). e.0) n es i in
      subst (λ m. is_some (by_id.find nat_cmp m es) ≡ true) (sym e.2) (ap is_some (is_found es e.0 rise e.1))

  no_fewer : (as_ bs : List (ℕ × X)) → IsTrue (by_id.is_sorted nat_cmp as_) → ((n : ℕ) → is_some (by_id.find nat_cmp n as_) ≡ is_some (by_id.find nat_cmp n bs)) → length as_ ≤ length bs
  no_fewer as_ bs rise same =
      subst (λ k. k ≤ length bs) (length-map as_ (λ (e : ℕ × X). e.0))
      (subst (λ k. length (ids_of as_) ≤ k) (length-map bs (λ (e : ℕ × X). e.0))
      (no_more (ids_of as_) (ids_of bs) (ids_apart as_ (entries_apart as_ rise)) (λ n i. in_ids n bs (sym (same n) ∙ ids_there n as_ rise i))))

  pub as_many : (as_ bs : List (ℕ × X)) → IsTrue (by_id.is_sorted nat_cmp as_) → IsTrue (by_id.is_sorted nat_cmp bs) → ((n : ℕ) → is_some (by_id.find nat_cmp n as_) ≡ is_some (by_id.find nat_cmp n bs)) → length as_ ≡ length bs
  as_many as_ bs rise rises same = both (length as_) (length bs) (no_fewer as_ bs rise same) (no_fewer bs as_ rises (λ n. sym (same n)))
    where
      both : (a b : ℕ) → a ≤ b → b ≤ a → a ≡ b
      both a b h k = omega (arith, h, k)

-- ---- one row in two such graphs

pub record Apart (before a b : Graph) : Type 0 where
  pub first : IsGraph a
  pub second : IsGraph b
  pub nodes_on : before.next_node ≤ a.next_node
  pub relationships_on : before.next_relationship ≤ a.next_relationship
  pub same : SameButNew before a b

up : (a b c k : ℕ) → a ≤ b → c ≡ b + k → a ≤ c
up a b c k h e = omega (arith, h, e)

under : (n a b : ℕ) → n < a → a ≤ b → n < b
under n a b h k = omega (arith, h, k)

module _ (g : Given) (paths : List PathPattern) (before a b : Graph) (row : Row) (after other : Graph) (results others : List Row) (w : Apart before a b)
    (c : CreateRow g paths a row after results) (d : CreateRow g paths b row other others) where
  next_nodes : after.next_node ≡ other.next_node
  next_nodes = c.next_node ∙ (λ i. w.same.next_node i + counted i) ∙ sym d.next_node
    where
      counted : length (new_places g.scope (all_placed paths c.assignment)) ≡ length (new_places g.scope (all_placed paths d.assignment))
      counted = nodes_counted g paths a row after results c ∙ sym (nodes_counted g paths b row other others d)

  next_relationships : after.next_relationship ≡ other.next_relationship
  next_relationships = c.next_relationship ∙ (λ i. w.same.next_relationship i + counted i) ∙ sym d.next_relationship
    where
      counted : length (all_made paths c.assignment) ≡ length (all_made paths d.assignment)
      counted = hops_counted g paths a row after results c ∙ sym (hops_counted g paths b row other others d)

  nodes_there : (n : ℕ) → has_node after n ≡ has_node other n
  nodes_there n = by_old (cases_lt n a.next_node)
    where
      by_new : a.next_node ≤ n → (n < after.next_node) ⊎ (after.next_node ≤ n) → has_node after n ≡ has_node other n
      by_new past (inl below) =
          let mine = of_mapped place_id n (new_places g.scope (all_placed paths c.assignment)) ((create_row_makes_one g paths a row after after results results c c).no_other_node n past below) in
          let yours = of_mapped place_id n (new_places g.scope (all_placed paths d.assignment)) ((create_row_makes_one g paths b row other other others others d d).no_other_node n (subst (λ k. k ≤ n) w.same.next_node past) (subst (λ k. n < k) next_nodes below)) in
          let made = all_at (IsMadeNode g a row after) mine.0 (new_places g.scope (all_placed paths c.assignment)) c.nodes mine.1 in
          let makes = all_at (IsMadeNode g b row other) yours.0 (new_places g.scope (all_placed paths d.assignment)) d.nodes yours.1 in
          ap (has_node after) mine.2 ∙ ap is_some made.3 ∙ sym (ap is_some makes.3) ∙ sym (ap (has_node other) yours.2)
      by_new past (inr gone) =
          ap is_some (none_past after.nodes after.next_node n c.graph_again.nodes_below gone) ∙ sym (ap is_some (none_past other.nodes other.next_node n d.graph_again.nodes_below (subst (λ k. k ≤ n) next_nodes gone)))

      by_old : (n < a.next_node) ⊎ (a.next_node ≤ n) → has_node after n ≡ has_node other n
      by_old (inl below) = ap is_some (c.old_nodes n below) ∙ w.same.nodes n ∙ sym (ap is_some (d.old_nodes n (subst (λ k. n < k) w.same.next_node below)))
      by_old (inr past) = by_new past (cases_lt n after.next_node)

  relationships_there : (r : ℕ) → has_relationship after r ≡ has_relationship other r
  relationships_there r = by_old (cases_lt r a.next_relationship)
    where
      by_new : a.next_relationship ≤ r → (r < after.next_relationship) ⊎ (after.next_relationship ≤ r) → has_relationship after r ≡ has_relationship other r
      by_new past (inl below) =
          let mine = of_mapped made_id r (all_made paths c.assignment) ((create_row_makes_one g paths a row after after results results c c).no_other_relationship r past below) in
          let yours = of_mapped made_id r (all_made paths d.assignment) ((create_row_makes_one g paths b row other other others others d d).no_other_relationship r (subst (λ k. k ≤ r) w.same.next_relationship past) (subst (λ k. r < k) next_relationships below)) in
          let made = all_at (IsMadeRelationship g a row after) mine.0 (all_made paths c.assignment) c.relationships mine.1 in
          let makes = all_at (IsMadeRelationship g b row other) yours.0 (all_made paths d.assignment) d.relationships yours.1 in
          ap (has_relationship after) mine.2 ∙ ap is_some made.3 ∙ sym (ap is_some makes.3) ∙ sym (ap (has_relationship other) yours.2)
      by_new past (inr gone) =
          ap is_some (none_past after.relationships after.next_relationship r c.graph_again.relationships_below gone)
          ∙ sym (ap is_some (none_past other.relationships other.next_relationship r d.graph_again.relationships_below (subst (λ k. k ≤ r) next_relationships gone)))

      by_old : (r < a.next_relationship) ⊎ (a.next_relationship ≤ r) → has_relationship after r ≡ has_relationship other r
      by_old (inl below) = ap is_some (c.old_relationships r below) ∙ w.same.relationships r ∙ sym (ap is_some (d.old_relationships r (subst (λ k. r < k) w.same.next_relationship below)))
      by_old (inr past) = by_new past (cases_lt r after.next_relationship)

  keeps_first : Keeps before after
  keeps_first = record {
    nodes = λ n h. c.old_nodes n (under n before.next_node a.next_node h w.nodes_on) ∙ w.same.first.nodes n h;
    relationships = λ r h. c.old_relationships r (under r before.next_relationship a.next_relationship h w.relationships_on) ∙ w.same.first.relationships r h;
  }

  keeps_second : Keeps before other
  keeps_second = record {
    nodes = λ n h. d.old_nodes n (subst (λ k. n < k) w.same.next_node (under n before.next_node a.next_node h w.nodes_on)) ∙ w.same.second.nodes n h;
    relationships = λ r h. d.old_relationships r (subst (λ k. r < k) w.same.next_relationship (under r before.next_relationship a.next_relationship h w.relationships_on)) ∙ w.same.second.relationships r h;
  }

  pub still_apart : Apart before after other
  still_apart = record {
    first = c.graph_again;
    second = d.graph_again;
    nodes_on = up before.next_node a.next_node after.next_node _ w.nodes_on c.next_node;
    relationships_on = up before.next_relationship a.next_relationship after.next_relationship _ w.relationships_on c.next_relationship;
    same = record {
      next_node = next_nodes;
      next_relationship = next_relationships;
      nodes = nodes_there;
      relationships = relationships_there;
      elements =
          (λ i. as_many after.nodes other.nodes c.graph_again.node_ids_rise d.graph_again.node_ids_rise nodes_there i
          + as_many after.relationships other.relationships c.graph_again.relationship_ids_rise d.graph_again.relationship_ids_rise relationships_there i);
      first = keeps_first;
      second = keeps_second;
    };
  }

-- ---- what a row makes, in two later graphs

all_new : (P : NodePattern × ℕ → Type 0) (names : Names) (ps : List (NodePattern × ℕ)) → AllByRecursion P ps → AllByRecursion P (new_places names ps)
all_new P names [] h = tt
all_new P names (p ∷ ps) h = by_name (node_name p.0) (λ more. all_new P more ps h.1)
  where
    by_name : (o : Option (List ℕ)) → ((more : Names) → AllByRecursion P (new_places more ps))
        → AllByRecursion P (elim o as (λ o. List (NodePattern × ℕ)) [
          | None ↦ p ∷ new_places names ps
          | Some name ↦ elim (is_among names name) as (λ b. List (NodePattern × ℕ)) [ true ↦ new_places names ps | false ↦ p ∷ new_places (name ∷ names) ps ]
        ])
    by_name None rest = (h.0, rest names)
    by_name (Some name) rest = by_among (is_among names name)
      where
        by_among : (b : Bool) → AllByRecursion P (elim b as (λ b. List (NodePattern × ℕ)) [ true ↦ new_places names ps | false ↦ p ∷ new_places (name ∷ names) ps ])
        by_among true = rest names
        by_among false = (h.0, rest (name ∷ names))

module _ (g : Given) (paths : List PathPattern) (before a b : Graph) (row : Row) (sees : SeesTheOld g paths before row) (v : Keeps before a) (w : Keeps before b) (after other : Graph) (results others : List Row)
    (c : CreateRow g paths a row after results) (d : CreateRow g paths b row other others) (last least : Graph) (kept : Keeps after last) (keeps : Keeps other least) where
  abbrev NodeHere : NodePattern × ℕ → Type 0
  NodeHere p = IsMadeNode g a row after p × IsIn (pattern p) (all_nodes paths)

  abbrev HopHere : Made → Type 0
  HopHere m = IsMadeRelationship g a row after m × IsIn (hop_of m) (all_hops paths)

  one_node : (p q : NodePattern × ℕ) → pattern p ≡ pattern q → NodeHere p → IsMadeNode g b row other q → SameNode last least p q
  one_node p q e h k =
      let labels = h.0.4 ∙ ap (λ (n : NodePattern). in_byte_order (texts_of n.labels)) e ∙ sym k.4 in
      let given = sym h.0.5 ∙ sees.nodes a b p.0 v w h.1 ∙ ap (λ (n : NodePattern). given_properties g.parameters b row n.properties) e ∙ k.5 in
      let properties = same_ok h.0.0.properties k.0.properties given in
      (e, kept.nodes p.1 h.0.2 ∙ h.0.3 ∙ (λ i. Some (record { labels = labels i; properties = properties i })) ∙ sym k.3 ∙ sym (keeps.nodes q.1 k.2))

  one_hop : (m n : Made) → hop_of m ≡ hop_of n → HopHere m → IsMadeRelationship g b row other n → SameRelationship last least m n
  one_hop m n e h k = (
    e,
    h.0.0,
    k.0,
    kept.relationships m.id h.0.2 ∙ h.0.3,
    keeps.relationships n.id k.2 ∙ k.3,
    h.0.4 ∙ ap (λ (r : RelationshipPattern). first_text (types_of r)) e ∙ sym k.4,
    same_ok h.0.0.properties k.0.properties (sym h.0.6 ∙ sees.hops a b m.pattern v w h.1 ∙ ap (λ (r : RelationshipPattern). given_properties g.parameters b row (relationship_properties r)) e ∙ k.6),
    h.0.5,
    k.5,
  )

  pub nodes_alike : AllZip (SameNode last least) (new_places g.scope (all_placed paths c.assignment)) (new_places g.scope (all_placed paths d.assignment))
  nodes_alike =
      beside pattern NodeHere (IsMadeNode g b row other) (SameNode last least) one_node (new_places g.scope (all_placed paths c.assignment)) (new_places g.scope (all_placed paths d.assignment))
      (made_where g.scope paths c.assignment c.shape ∙ sym (made_where g.scope paths d.assignment d.shape))
      (all_both (IsMadeNode g a row after) (λ p. IsIn (pattern p) (all_nodes paths)) (new_places g.scope (all_placed paths c.assignment)) c.nodes
      (all_new (λ p. IsIn (pattern p) (all_nodes paths)) g.scope (all_placed paths c.assignment)
      (all_weaker (λ p. IsIn p (all_placed paths c.assignment)) (λ p. IsIn (pattern p) (all_nodes paths))
      (λ p i. subst (IsIn (pattern p)) (all_patterns paths c.assignment c.shape) (in_mapped pattern p (all_placed paths c.assignment) i)) (all_placed paths c.assignment) (all_in_themselves (all_placed paths c.assignment)))))
      d.nodes

  pub hops_alike : AllZip (SameRelationship last least) (all_made paths c.assignment) (all_made paths d.assignment)
  hops_alike =
      beside hop_of HopHere (IsMadeRelationship g b row other) (SameRelationship last least) one_hop (all_made paths c.assignment) (all_made paths d.assignment)
      (all_hop_patterns paths c.assignment c.shape ∙ sym (all_hop_patterns paths d.assignment d.shape))
      (all_both (IsMadeRelationship g a row after) (λ m. IsIn (hop_of m) (all_hops paths)) (all_made paths c.assignment) c.relationships
      (all_weaker (λ m. IsIn m (all_made paths c.assignment)) (λ m. IsIn (hop_of m) (all_hops paths))
      (λ m i. subst (IsIn (hop_of m)) (all_hop_patterns paths c.assignment c.shape) (in_mapped hop_of m (all_made paths c.assignment) i)) (all_made paths c.assignment) (all_in_themselves (all_made paths c.assignment))))
      d.relationships
