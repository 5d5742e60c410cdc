-- What CREATE, SET, REMOVE and DELETE do to ids, to elements and to their number.
use Rattle.std.proofs.Common.{◌≡◌, ℕ, ◌+◌, ◌<◌, ◌≤◌, max, Bool, true, false, cond, not, inl, inr, List, [], ◌∷◌, length, Option, Some, None, is_some, is_eq, is_lt, refl, sym, ap, subst, ◌∙◌, true≢false, le_refl, le_trans, arith}
use Rattle.std.proofs.Math.Nat.{le-max_right}
use Rattle.std.proofs.lemmas.Cmp.{nat_cmp_total}
use Rattle.std.proofs.lemmas.List.{length-map}
use Rattle.std.specs.FinMap.{nat_cmp-IsAntisymmetric}
use Rattle.std.specs.FinMap.Entries as by_key
use Rattle.std.specs.Ordering.{nat_cmp}
use Rattle.pg_meaning.specs.EntriesLaws.{both, joined}
use Rattle.pg_meaning.specs.Graph.{Graph, Relationship, IsGraph, node_at, relationship_at, has_node, contains_id, element_count, ids_of, remove_elements}
use Rattle.pg_meaning.specs.GraphLaws.{found_among, remove_removes}
use Rattle.pg_meaning.specs.Meaning.{given_of, CreateRow}
use Rattle.pg_meaning.specs.Meters.{greatest_id}
use Rattle.pg_meaning.specs.Names.{Names}
use Rattle.pg_meaning.specs.Rows.{Row}
use Rattle.pg_meaning.specs.Tree.{PathPattern}
use Rattle.pg_meaning.specs.Value.{Entries}
use Rattle.pg_soundness.specs.WholeQueries.{RelationshipStays, Continues, Fits, SameEnds, SameElements, NothingNew, NothingLost, OldStays}
use Rattle.pg_soundness.proofs.ChangesOnce.{by_id}
use Rattle.pg_soundness.proofs.ChangesOptions.{holds, found, none_or_some}
use Rattle.pg_soundness.proofs.WholeQueriesSteps.{AnyElement}

-- ---- numbers

same_least : (a b : ℕ) → b ≡ a → a ≤ b
same_least a b e = subst (λ k. a ≤ k) (sym e) (le_refl a)

grown : (a b n : ℕ) → b ≡ a + n → a ≤ b
grown a b n e = omega (arith, e)

below_later : (n a b : ℕ) → n < a → a ≤ b → n < b
below_later n a b h l = omega (arith, h, l)

under_both : (x y z m : ℕ) → x ≤ max m y → y ≤ max m z → x ≤ max m z
under_both x y z m h l = omega (arith, h, l)

no_more : (a b m : ℕ) → a ≤ b → a ≤ max m b
no_more a b m h = le_trans h (le-max_right m b)

-- ---- ids of lists that hold the same ones

module _ {X : Type 0} where
  keyed : List (ℕ × X) → List (ℕ × Bool)
  keyed [] = []
  keyed (e ∷ es) = (e.0, true) ∷ keyed es

  key_at : (q : ℕ) (es : List (ℕ × X)) → by_key.find nat_cmp q (keyed es) ≡ cond (is_some (by_key.find nat_cmp q es)) (Some true) None
  unfolding keyed
  key_at q [] = refl
  key_at q (e ∷ es) = either_way (is_eq (nat_cmp q e.0)) (by_key.find nat_cmp q es) (key_at q es)
    where
      either_way : (b : Bool) (o : Option X) → by_key.find nat_cmp q (keyed es) ≡ cond (is_some o) (Some true) None → cond b (Some true) (by_key.find nat_cmp q (keyed es)) ≡ cond (is_some (cond b (Some e.1) o)) (Some true) None
      either_way true o h = refl
      either_way false o h = h

  keyed_below : (k : ℕ) (es : List (ℕ × X)) → by_key.below_all nat_cmp k es ≡ true → by_key.below_all nat_cmp k (keyed es) ≡ true
  unfolding keyed
  keyed_below k [] h = refl
  keyed_below k (e ∷ es) h = let b = both (is_lt (nat_cmp k e.0)) (by_key.below_all nat_cmp k es) h in joined _ _ b.0 (keyed_below k es b.1)

  keyed_sorted : (es : List (ℕ × X)) → by_key.is_sorted nat_cmp es ≡ true → by_key.is_sorted nat_cmp (keyed es) ≡ true
  unfolding keyed
  keyed_sorted [] h = refl
  keyed_sorted (e ∷ es) h = let b = both (by_key.below_all nat_cmp e.0 es) (by_key.is_sorted nat_cmp es) h in joined _ _ (keyed_below e.0 es b.0) (keyed_sorted es b.1)

  keyed_ids : (es : List (ℕ × X)) → ids_of (keyed es) ≡ ids_of es
  unfolding keyed
  keyed_ids [] = refl
  keyed_ids (e ∷ es) = ap (λ is. e.0 ∷ is) (keyed_ids es)

  same_ids : (es fs : List (ℕ × X)) → by_key.is_sorted nat_cmp es ≡ true → by_key.is_sorted nat_cmp fs ≡ true → ((q : ℕ) → is_some (by_key.find nat_cmp q es) ≡ is_some (by_key.find nat_cmp q fs)) → ids_of es ≡ ids_of fs
  same_ids es fs g h alike =
      sym (keyed_ids es)
      ∙ ap ids_of (by_key.same_entries nat_cmp nat_cmp_total nat_cmp-IsAntisymmetric (keyed es) (keyed fs) (holds _ (keyed_sorted es g)) (holds _ (keyed_sorted fs h)) (λ q. key_at q es ∙ ap (λ b. cond b (Some true) None) (alike q) ∙ sym (key_at q fs)))
      ∙ keyed_ids fs

  same_length : (es fs : List (ℕ × X)) → ids_of es ≡ ids_of fs → length es ≡ length fs
  same_length es fs h = sym (length-map es (λ e. e.0)) ∙ ap length h ∙ length-map fs (λ e. e.0)

  where_shorter : (p : ℕ → Bool) (es : List (ℕ × X)) → length (by_key.where_key nat_cmp p es) ≤ length es
  where_shorter p [] = le_refl 0
  where_shorter p (e ∷ es) =
      let rest = where_shorter p es in
      elim (p e.0) as (λ b. length (cond b (e ∷ by_key.where_key nat_cmp p es) (by_key.where_key nat_cmp p es)) ≤ length (e ∷ es)) [
        | true ↦ omega (arith, rest)
        | false ↦ omega (arith, rest)
      ]

-- ---- options

stays_itself : (o : Option Relationship) → RelationshipStays o o
stays_itself None = refl
stays_itself (Some e) = (refl, refl, refl)

stays_on : (a b c : Option Relationship) → RelationshipStays a b → RelationshipStays b c → RelationshipStays a c
stays_on None b c g h = subst (λ o. RelationshipStays o c) g h
stays_on (Some e) None c g h = subst (RelationshipStays (Some e)) (sym h) tt
stays_on (Some e) (Some f) None g h = tt
stays_on (Some e) (Some f) (Some k) g h = (h.0 ∙ g.0, h.1 ∙ g.1, h.2 ∙ g.2)

ends_itself : (o : Option Relationship) → SameEnds o o
ends_itself None = tt
ends_itself (Some e) = (refl, refl, refl)

ends_on : (a b c : Option Relationship) → SameEnds a b → SameEnds b c → SameEnds a c
ends_on None None None g h = tt
ends_on None None (Some k) g h = h
ends_on None (Some f) c g h = absurd g
ends_on (Some e) None c g h = absurd g
ends_on (Some e) (Some f) None g h = h
ends_on (Some e) (Some f) (Some k) g h = (h.0 ∙ g.0, h.1 ∙ g.1, h.2 ∙ g.2)

-- ---- one element changes

module _ (graph after : Graph) where
  changed_next : AnyElement graph after → (after.next_node ≡ graph.next_node) × (after.next_relationship ≡ graph.next_relationship)
  changed_next (inl h) = (h.1.next_node, h.1.next_relationship)
  changed_next (inr h) = (h.1.next_node, h.1.next_relationship)

  changed_has_node : AnyElement graph after → (m : ℕ) → has_node after m ≡ has_node graph m
  changed_has_node (inl h) m =
      by_id (has_node after m ≡ has_node graph m) m h.0
      (λ e. ap (has_node after) e ∙ ap is_some h.1.is ∙ sym (ap is_some h.1.was) ∙ ap (has_node graph) (sym e))
      (λ e. ap is_some (h.1.others m e))
  changed_has_node (inr h) m = ap is_some (h.1.nodes m)

  changed_ends : AnyElement graph after → (r : ℕ) → SameEnds (relationship_at graph r) (relationship_at after r)
  changed_ends (inl h) r = subst (SameEnds (relationship_at graph r)) (sym (h.1.relationships r)) (ends_itself (relationship_at graph r))
  changed_ends (inr h) r =
      by_id (SameEnds (relationship_at graph r) (relationship_at after r)) r h.0
      (λ e. subst (λ s. SameEnds (relationship_at graph s) (relationship_at after s)) (sym e) (subst (λ o. SameEnds o (relationship_at after h.0)) (sym h.1.was) (subst (SameEnds (Some h.1.before)) (sym h.1.is) h.1.becomes)))
      (λ e. subst (SameEnds (relationship_at graph r)) (sym (h.1.others r e)) (ends_itself (relationship_at graph r)))

  changed_graph : AnyElement graph after → IsGraph after
  changed_graph (inl h) = h.1.graph_again
  changed_graph (inr h) = h.1.graph_again

  ends_there : (a b : Option Relationship) → SameEnds a b → is_some b ≡ is_some a
  ends_there None None h = refl
  ends_there None (Some f) h = absurd h
  ends_there (Some e) None h = absurd h
  ends_there (Some e) (Some f) h = refl

  ends_stay : (a b : Option Relationship) → SameEnds a b → RelationshipStays a b
  ends_stay None None h = refl
  ends_stay None (Some f) h = absurd h
  ends_stay (Some e) None h = tt
  ends_stay (Some e) (Some f) h = h

  gone_stays_gone : {X : Type 0} (a b : Option X) → is_some b ≡ is_some a → a ≡ None → b ≡ None
  gone_stays_gone a None h e = refl
  gone_stays_gone a (Some y) h e = absurd (true≢false (h ∙ ap is_some e))

  pub changed_same : IsGraph graph → AnyElement graph after → SameElements graph after
  changed_same g h =
      let a = changed_graph h in
      record {
        nodes = same_ids after.nodes graph.nodes a.node_ids_rise g.node_ids_rise (changed_has_node h);
        relationships = same_ids after.relationships graph.relationships a.relationship_ids_rise g.relationship_ids_rise (λ r. ends_there (relationship_at graph r) (relationship_at after r) (changed_ends h r));
        ends = changed_ends h;
        next_node = (changed_next h).0;
        next_relationship = (changed_next h).1;
      }

  pub changed_continues : IsGraph graph → AnyElement graph after → Continues graph after
  changed_continues g h = record {
    next_node = same_least graph.next_node after.next_node (changed_next h).0;
    next_relationship = same_least graph.next_relationship after.next_relationship (changed_next h).1;
    nodes = λ n below gone. gone_stays_gone (node_at graph n) (node_at after n) (changed_has_node h n) gone;
    relationships = λ r below. ends_stay (relationship_at graph r) (relationship_at after r) (changed_ends h r);
  }

  count_is : (a b c d : ℕ) → a ≡ b → c ≡ d → a + c ≤ b + d
  count_is a b c d e f = omega (arith, e, f)

  pub changed_fits : (most : ℕ) → IsGraph graph → AnyElement graph after → Fits most graph after
  changed_fits most g h =
      let same = changed_same g h in
      record {
        elements = no_more (element_count after) (element_count graph) most (count_is (length after.nodes) (length graph.nodes) (length after.relationships) (length graph.relationships) (same_length after.nodes graph.nodes same.nodes) (same_length after.relationships graph.relationships same.relationships));
        next_node = no_more after.next_node graph.next_node greatest_id (same_least after.next_node graph.next_node (sym (changed_next h).0));
        next_relationship = no_more after.next_relationship graph.next_relationship greatest_id (same_least after.next_relationship graph.next_relationship (sym (changed_next h).1));
      }

  pub changed_new : IsGraph graph → AnyElement graph after → NothingNew graph after
  changed_new g h = record {
    nodes = λ n gone. gone_stays_gone (node_at graph n) (node_at after n) (changed_has_node h n) gone;
    relationships = λ r gone. gone_stays_gone (relationship_at graph r) (relationship_at after r) (ends_there (relationship_at graph r) (relationship_at after r) (changed_ends h r)) gone;
    next_node = (changed_next h).0;
    next_relationship = (changed_next h).1;
  }

  pub changed_lost : IsGraph graph → AnyElement graph after → NothingLost graph after
  changed_lost g h = record {
    nodes = λ n there. changed_has_node h n ∙ there;
    relationships = λ r there. ends_there (relationship_at graph r) (relationship_at after r) (changed_ends h r) ∙ there;
  }

-- ---- elements are made

module _ (parameters : Entries) (most : ℕ) (scope : Names) (paths : List PathPattern) (graph : Graph) (row : Row) (after : Graph) (results : List Row) (g : IsGraph graph) (h : CreateRow (given_of parameters most scope) paths graph row after results) where
  made_next_node : graph.next_node ≤ after.next_node
  made_next_node = grown graph.next_node after.next_node _ h.next_node

  made_next_relationship : graph.next_relationship ≤ after.next_relationship
  made_next_relationship = grown graph.next_relationship after.next_relationship _ h.next_relationship

  pub made_continues : Continues graph after
  made_continues = record {
    next_node = made_next_node;
    next_relationship = made_next_relationship;
    nodes = λ n below gone. h.old_nodes n below ∙ gone;
    relationships = λ r below. subst (RelationshipStays (relationship_at graph r)) (sym (h.old_relationships r below)) (stays_itself (relationship_at graph r));
  }

  pub made_fits : Fits most graph after
  made_fits = record { elements = h.room; next_node = h.node_counter; next_relationship = h.relationship_counter }

  pub made_lost : NothingLost graph after
  made_lost = record {
    nodes = λ n there. ap is_some (h.old_nodes n (let e = found (node_at graph n) there in found_among (λ x. x.0 < graph.next_node) n e.0 graph.nodes g.nodes_below e.1)) ∙ there;
    relationships = λ r there. ap is_some (h.old_relationships r (let e = found (relationship_at graph r) there in found_among (λ x. x.0 < graph.next_relationship) r e.0 graph.relationships g.relationships_below e.1)) ∙ there;
  }

  pub made_old : OldStays graph after × (graph.next_node ≤ after.next_node) × (graph.next_relationship ≤ after.next_relationship)
  made_old = (record { nodes = h.old_nodes; relationships = h.old_relationships }, made_next_node, made_next_relationship)

-- ---- elements are removed

module _ (ns rs : List ℕ) (graph : Graph) (g : IsGraph graph) where
  abbrev left : Graph
  left = remove_elements ns rs graph

  removed_node : (n : ℕ) → node_at graph n ≡ None → node_at left n ≡ None
  removed_node n gone = by_test (contains_id ns n) refl
    where
      by_test : (b : Bool) → contains_id ns n ≡ b → node_at left n ≡ None
      by_test true e = (remove_removes ns rs graph).nodes_gone n e
      by_test false e = (remove_removes ns rs graph).nodes_kept n e ∙ gone

  gone_stays : (o : Option Relationship) → RelationshipStays o None
  gone_stays None = refl
  gone_stays (Some e) = tt

  removed_relationship : (r : ℕ) → RelationshipStays (relationship_at graph r) (relationship_at left r)
  removed_relationship r = by_test (contains_id rs r) refl
    where
      by_test : (b : Bool) → contains_id rs r ≡ b → RelationshipStays (relationship_at graph r) (relationship_at left r)
      by_test true e = subst (RelationshipStays (relationship_at graph r)) (sym ((remove_removes ns rs graph).relationships_gone r e)) (gone_stays (relationship_at graph r))
      by_test false e = subst (RelationshipStays (relationship_at graph r)) (sym ((remove_removes ns rs graph).relationships_kept r e)) (stays_itself (relationship_at graph r))

  pub removed_continues : Continues graph left
  removed_continues = record {
    next_node = le_refl graph.next_node;
    next_relationship = le_refl graph.next_relationship;
    nodes = λ n below gone. removed_node n gone;
    relationships = λ r below. removed_relationship r;
  }

  fewer : (a b c d : ℕ) → a ≤ b → c ≤ d → a + c ≤ b + d
  fewer a b c d e f = omega (arith, e, f)

  pub removed_fits : (most : ℕ) → Fits most graph left
  removed_fits most = record {
    elements = no_more (element_count left) (element_count graph) most (fewer (length left.nodes) (length graph.nodes) (length left.relationships) (length graph.relationships) (where_shorter (λ n. not (contains_id ns n)) graph.nodes) (where_shorter (λ r. not (contains_id rs r)) graph.relationships));
    next_node = le-max_right greatest_id graph.next_node;
    next_relationship = le-max_right greatest_id graph.next_relationship;
  }

  stays_gone : (a b : Option Relationship) → RelationshipStays a b → a ≡ None → b ≡ None
  stays_gone None b h e = h
  stays_gone (Some x) b h e = absurd (none_or_some (Some x) x refl e)

  pub removed_new : NothingNew graph left
  removed_new = record {
    nodes = removed_node;
    relationships = λ r gone. stays_gone (relationship_at graph r) (relationship_at left r) (removed_relationship r) gone;
    next_node = refl;
    next_relationship = refl;
  }

-- ---- one after the other

abbrev pub Old : Graph → Graph → Type 0
Old graph after = OldStays graph after × (graph.next_node ≤ after.next_node) × (graph.next_relationship ≤ after.next_relationship)

module _ (a b c : Graph) where
  pub continues_on : Continues a b → Continues b c → Continues a c
  continues_on g h = record {
    next_node = le_trans g.next_node h.next_node;
    next_relationship = le_trans g.next_relationship h.next_relationship;
    nodes = λ n below gone. h.nodes n (below_later n a.next_node b.next_node below g.next_node) (g.nodes n below gone);
    relationships = λ r below. stays_on (relationship_at a r) (relationship_at b r) (relationship_at c r) (g.relationships r below) (h.relationships r (below_later r a.next_relationship b.next_relationship below g.next_relationship));
  }

  pub fits_on : (most : ℕ) → Fits most a b → Fits most b c → Fits most a c
  fits_on most g h = record {
    elements = under_both (element_count c) (element_count b) (element_count a) most h.elements g.elements;
    next_node = under_both c.next_node b.next_node a.next_node greatest_id h.next_node g.next_node;
    next_relationship = under_both c.next_relationship b.next_relationship a.next_relationship greatest_id h.next_relationship g.next_relationship;
  }

  pub same_on : SameElements a b → SameElements b c → SameElements a c
  same_on g h = record {
    nodes = h.nodes ∙ g.nodes;
    relationships = h.relationships ∙ g.relationships;
    ends = λ r. ends_on (relationship_at a r) (relationship_at b r) (relationship_at c r) (g.ends r) (h.ends r);
    next_node = h.next_node ∙ g.next_node;
    next_relationship = h.next_relationship ∙ g.next_relationship;
  }

  pub new_on : NothingNew a b → NothingNew b c → NothingNew a c
  new_on g h = record {
    nodes = λ n gone. h.nodes n (g.nodes n gone);
    relationships = λ r gone. h.relationships r (g.relationships r gone);
    next_node = h.next_node ∙ g.next_node;
    next_relationship = h.next_relationship ∙ g.next_relationship;
  }

  pub lost_on : NothingLost a b → NothingLost b c → NothingLost a c
  lost_on g h = record { nodes = λ n there. h.nodes n (g.nodes n there); relationships = λ r there. h.relationships r (g.relationships r there) }

  pub old_on : Old a b → Old b c → Old a c
  old_on g h = (
    record {
      nodes = λ n below. h.0.nodes n (below_later n a.next_node b.next_node below g.1) ∙ g.0.nodes n below;
      relationships = λ r below. h.0.relationships r (below_later r a.next_relationship b.next_relationship below g.2) ∙ g.0.relationships r below;
    },
    le_trans g.1 h.1,
    le_trans g.2 h.2,
  )

module _ (graph : Graph) where
  pub continues_itself : Continues graph graph
  continues_itself = record { next_node = le_refl graph.next_node; next_relationship = le_refl graph.next_relationship; nodes = λ n below gone. gone; relationships = λ r below. stays_itself (relationship_at graph r) }

  pub fits_itself : (most : ℕ) → Fits most graph graph
  fits_itself most = record { elements = le-max_right most (element_count graph); next_node = le-max_right greatest_id graph.next_node; next_relationship = le-max_right greatest_id graph.next_relationship }

  pub same_itself : SameElements graph graph
  same_itself = record { nodes = refl; relationships = refl; ends = λ r. ends_itself (relationship_at graph r); next_node = refl; next_relationship = refl }

  pub new_itself : NothingNew graph graph
  new_itself = record { nodes = λ n gone. gone; relationships = λ r gone. gone; next_node = refl; next_relationship = refl }

  pub lost_itself : NothingLost graph graph
  lost_itself = record { nodes = λ n there. there; relationships = λ r there. there }

  pub old_itself : OldStays graph graph × (graph.next_node ≤ graph.next_node) × (graph.next_relationship ≤ graph.next_relationship)
  old_itself = (record { nodes = λ n below. refl; relationships = λ r below. refl }, le_refl graph.next_node, le_refl graph.next_relationship)
