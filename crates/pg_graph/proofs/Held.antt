-- Content that stands for a graph still does after each change, and the graph is one.
use Rattle.std.proofs.Common.{◌≡◌, ◌≢◌, ◌==◌, ◌<◌, ◌+◌, ℕ, Bool, true, false, ◌&&◌, cond, T, IsTrue, List, [], ◌∷◌, map as map_list, filter, length, Option, Some, None, IsSome, is_some, inl, inr, arith, refl, sym, ap, subst, ◌∙◌}
use Rattle.std.proofs.lemmas.Bool.{cases_eq}
use Rattle.std.proofs.lemmas.Bool.Decides.{nat_tests}
use Rattle.std.proofs.lemmas.Option.{slice_get_within}
use Rattle.std.specs.FinMap as map
use Rattle.std.specs.FinMap.{FinMap, find, is_sorted}
use Rattle.std.specs.FinMap.Entries.{below_all}
use Rattle.std.specs.List.{AllByRecursion}
use Rattle.std.specs.List.Sorted.{IsStrictlySortedBy}
use Rattle.std.specs.Option.{option_map, option_map_or}
use Rattle.std.specs.Ordering.{nat_cmp, eq_by_cmp, is_lt}
use Rattle.pg_graph.proofs.Entries.{all_seen}
use Rattle.pg_graph.proofs.Ids.{ids_in}
use Rattle.pg_graph.proofs.Maps.{get_inserted, get_inserted_other, get_removed, get_removed_other}
use Rattle.pg_graph.proofs.Refined.{all_entries, element_read, text_stays}
use Rattle.pg_graph.specs.Content.{with_rel, ids_where}
use Rattle.pg_names.specs.Names.{KeepsNames}
use Rattle.pg_graph.specs.Refinement.{text_of, put_shown, named_entries, node_of, relationship_of, elements, AreNamed, IsNodeOf, IsRelOf, Holds, HeldIsGraph, EmptyHolds, HoldsWithMoreNames, HoldsWithNode, HoldsWithRelationship, HoldsWithChangedNode, HoldsWithChangedRelationship, HoldsWithoutNode, HoldsWithoutRelationship}
use Rattle.pg_graph.specs.declared.records.NodeRecord.{NodeRecord}
use Rattle.pg_graph.specs.declared.records.RelRecord.{RelRecord}
use Rattle.pg_meaning.specs.Entries.{are_rising}
use Rattle.pg_meaning.specs.EntriesLaws.{put_keeps_rising}
use Rattle.pg_meaning.specs.NamesLaws.{in_byte_order_rises}
use Rattle.pg_meaning.specs.Order.{text_order}
use Rattle.pg_meaning.specs.Value.{Value, Entries, null, boolean, integer, text, list, mapping, node, relationship, path}

-- ---- maps

module _ {X : Type 0} (m : FinMap nat_cmp X) (k : ℕ) where
  -- what the new value has and each old one has, each value has
  pub inserted : (v : X) (P : ℕ → X → Type 0) → P k v → ((q : ℕ) (a : X) → map.get m q ≡ Some a → P q a) → (q : ℕ) (a : X) → map.get (map.insert m k v) q ≡ Some a → P q a
  inserted v P here there q a h = elim (cases_eq q k) [
    | inl same ↦
        let found : map.get (map.insert m k v) k ≡ Some a = subst (λ n. map.get (map.insert m k v) n ≡ Some a) same h in
        let is : v ≡ a = cc (get_inserted m k v) in
        subst (λ n. P n a) (sym same) (subst (P k) is here)
    | inr ne ↦ there q a (sym (get_inserted_other m k v q ne) ∙ h)
  ]

  some_inserted : (v : X) (q : ℕ) → IsSome (map.get m q) → IsSome (map.get (map.insert m k v) q)
  some_inserted v q h = elim (cases_eq q k) [
    | inl same ↦ subst (λ n. IsSome (map.get (map.insert m k v) n)) (sym same) (subst IsSome (sym (get_inserted m k v)) refl)
    | inr ne ↦ subst IsSome (sym (get_inserted_other m k v q ne)) h
  ]

  pub removed : (P : ℕ → X → Type 0) → ((q : ℕ) (a : X) → map.get m q ≡ Some a → P q a) → (q : ℕ) (a : X) → map.get (map.remove m k) q ≡ Some a → P q a
  removed P there q a h = elim (cases_eq q k) [
    | inl same ↦
        let found : map.get (map.remove m k) k ≡ Some a = subst (λ n. map.get (map.remove m k) n ≡ Some a) same h in
        cc (get_removed m k)
    | inr ne ↦ there q a (sym (get_removed_other m k q ne) ∙ h)
  ]

  some_removed : (q : ℕ) → q ≢ k → IsSome (map.get m q) → IsSome (map.get (map.remove m k) q)
  some_removed q ne h = subst IsSome (sym (get_removed_other m k q ne)) h

none_pass : {X : Type 0} (p : X → Bool) (es : List (ℕ × X)) (q : ℕ) (a : X) → ids_in p es ≡ [] → find nat_cmp q es ≡ Some a → p a ≡ false
none_pass p [] q a none h = cc
none_pass {X} p (e ∷ es) q a none h = by_test (p e.1) refl none (λ i f. none_pass p es q a i f)
  where
    found : (b : Bool) → p e.1 ≡ false → cond b (Some e.1) (find nat_cmp q es) ≡ Some a → (find nat_cmp q es ≡ Some a → p a ≡ false) → p a ≡ false
    found true fails h later = let same : e.1 ≡ a = cc in ap p (sym same) ∙ fails
    found false fails h later = later h

    by_test : (b : Bool) → p e.1 ≡ b → map_list {B = ℕ} (λ (e : ℕ × X). e.0) (cond b (e ∷ filter (λ e. p e.1) es) (filter (λ e. p e.1) es)) ≡ []
        → (ids_in p es ≡ [] → find nat_cmp q es ≡ Some a → p a ≡ false) → p a ≡ false
    by_test true is none later = cc
    by_test false is none later = found (eq_by_cmp nat_cmp q e.0) is h (later none)

fails_at : {X : Type 0} (p : X → Bool) (m : FinMap nat_cmp X) (q : ℕ) (a : X) → ids_where p m ≡ [] → map.get m q ≡ Some a → p a ≡ false
fails_at p m q a none h = none_pass p (map.entries m) q a none (sym (map.get-entries m q) ∙ h)

apart : (n id : ℕ) → (n == id) ≡ false → n ≢ id
apart n id h e = let same : (n == id) ≡ true = grind (arith, nat_tests) in cc

-- ---- the invariant

later_node : (names : List (List ℕ)) (i id : ℕ) (n : NodeRecord) → IsNodeOf names i id n → IsNodeOf names (i + 1) id n
later_node names i id n h = let below = h.below in record { below = omega arith; labels = h.labels; keys = h.keys }

with_ends : (names : List (List ℕ)) (old new : FinMap nat_cmp NodeRecord) (j id : ℕ) (r : RelRecord) → IsRelOf names old j id r
    → IsSome (map.get new r.source.0) → IsSome (map.get new r.target.0) → IsRelOf names new j id r
with_ends names old new j id r h source target = record { below = h.below; kind = h.kind; keys = h.keys; source = source; target = target }

next_below : (i : ℕ) → i < i + 1
next_below i = omega arith

pub empty_holds : EmptyHolds
empty_holds names i j distinct = record {
  distinct = distinct;
  nodes = λ id n h. cc (map.get-empty {X = NodeRecord} nat_cmp id);
  rels = λ id r h. cc (map.get-empty {X = RelRecord} nat_cmp id);
}

module _ (old new : List (List ℕ)) (keeps : KeepsNames old new) where
  more : (n : ℕ) → n < length old → n < length new
  more n h = let t = text_stays old n h in slice_get_within new n t.0 (keeps n t.0 t.1)

  pub more_named : (ns : List ℕ) → AreNamed old ns → AreNamed new ns
  more_named [] h = tt
  more_named (n ∷ ns) h = (more n h.0, more_named ns h.1)

pub holds_with_more_names : HoldsWithMoreNames
holds_with_more_names old new c i j h distinct keeps = record {
  distinct = distinct;
  nodes = λ id n e. let was = h.nodes id n e in record { below = was.below; labels = more_named old new keeps n.labels was.labels; keys = more_named old new keeps (map.keys n.properties) was.keys };
  rels = λ id r e. let was = h.rels id r e in record {
    below = was.below;
    kind = more old new keeps r.kind was.kind;
    keys = more_named old new keeps (map.keys r.properties) was.keys;
    source = was.source;
    target = was.target;
  };
}

pub holds_with_node : HoldsWithNode
holds_with_node names c i j n h labels keys = record {
  distinct = h.distinct;
  nodes = inserted c.nodes i n (IsNodeOf names (i + 1)) (record { below = next_below i; labels = labels; keys = keys }) (λ q a e. later_node names i q a (h.nodes q a e));
  rels = λ id r e. let was = h.rels id r e in
      with_ends names c.nodes (map.insert c.nodes i n) j id r was (some_inserted c.nodes i n r.source.0 was.source) (some_inserted c.nodes i n r.target.0 was.target);
}

later_rel : (names : List (List ℕ)) (nodes : FinMap nat_cmp NodeRecord) (j id : ℕ) (r : RelRecord) → IsRelOf names nodes j id r → IsRelOf names nodes (j + 1) id r
later_rel names nodes j id r h = let below = h.below in record { below = omega arith; kind = h.kind; keys = h.keys; source = h.source; target = h.target }

pub holds_with_relationship : HoldsWithRelationship
holds_with_relationship names c i j r h kind keys source target = record {
  distinct = h.distinct;
  nodes = h.nodes;
  rels = inserted c.rels j r (IsRelOf names c.nodes (j + 1)) (record { below = next_below j; kind = kind; keys = keys; source = source; target = target }) (λ q a e. later_rel names c.nodes j q a (h.rels q a e));
}

present : {X : Type 0} (o : Option X) → IsSome o → (x : X) × (o ≡ Some x)
present None h = absurd (cc)
present (Some x) h = (x, refl)

pub holds_with_changed_node : HoldsWithChangedNode
holds_with_changed_node names c i j id n h there labels keys =
    let old = present (map.get c.nodes id) there in
    record {
      distinct = h.distinct;
      nodes = inserted c.nodes id n (IsNodeOf names i) (record { below = (h.nodes id old.0 old.1).below; labels = labels; keys = keys }) h.nodes;
      rels = λ q r e. let was = h.rels q r e in
          with_ends names c.nodes (map.insert c.nodes id n) j q r was (some_inserted c.nodes id n r.source.0 was.source) (some_inserted c.nodes id n r.target.0 was.target);
    }

pub holds_with_changed_relationship : HoldsWithChangedRelationship
holds_with_changed_relationship names c i j id properties h keys = by_case (map.get c.rels id) refl
  where
    by_case : (o : Option RelRecord) → map.get c.rels id ≡ o → Holds names (option_map_or (λ rel. with_rel c id (record rel { properties = properties })) o c) i j
    by_case None is = h
    by_case (Some r) is = let was = h.rels id r is in record {
      distinct = h.distinct;
      nodes = h.nodes;
      rels = inserted c.rels id (record r { properties = properties }) (IsRelOf names c.nodes j)
          (record { below = was.below; kind = was.kind; keys = keys; source = was.source; target = was.target }) h.rels;
    }

pub holds_without_node : HoldsWithoutNode
holds_without_node names c i j id h no_outgoing no_incoming = record {
  distinct = h.distinct;
  nodes = removed c.nodes id (IsNodeOf names i) h.nodes;
  rels = λ q r e. let was = h.rels q r e in
      with_ends names c.nodes (map.remove c.nodes id) j q r was
      (some_removed c.nodes id r.source.0 (apart r.source.0 id (fails_at (λ s. s.source.0 == id) c.rels q r no_outgoing e)) was.source)
      (some_removed c.nodes id r.target.0 (apart r.target.0 id (fails_at (λ s. s.target.0 == id) c.rels q r no_incoming e)) was.target);
}

pub holds_without_relationship : HoldsWithoutRelationship
holds_without_relationship names c i j id h = record {
  distinct = h.distinct;
  nodes = h.nodes;
  rels = removed c.rels id (IsRelOf names c.nodes j) h.rels;
}

-- ---- it is a graph

module _ {A B : Type 0} (f : A → B) where
  below_mapped : (k : ℕ) (es : List (ℕ × A)) → below_all nat_cmp k (map_list (λ (e : ℕ × A). (e.0, f e.1)) es) ≡ below_all nat_cmp k es
  below_mapped k [] = refl
  below_mapped k (e ∷ es) = ap (λ b. is_lt (nat_cmp k e.0) && b) (below_mapped k es)

  sorted_mapped : (es : List (ℕ × A)) → is_sorted nat_cmp (map_list (λ (e : ℕ × A). (e.0, f e.1)) es) ≡ is_sorted nat_cmp es
  sorted_mapped [] = refl
  sorted_mapped (e ∷ es) = (λ i. below_mapped e.0 es i && sorted_mapped es i)

  true_from : (b : Bool) → T b → b ≡ true
  true_from true t = refl
  true_from false t = absurd t

  elements_rise : (m : FinMap nat_cmp A) → IsTrue (is_sorted nat_cmp (elements f m))
  elements_rise m = sorted_mapped (map.entries m) ∙ true_from _ (map.entries_sorted m)

  each_element : (P : ℕ × B → Type 0) (m : FinMap nat_cmp A) → ((q : ℕ) (a : A) → map.get m q ≡ Some a → P (q, f a)) → AllByRecursion P (elements f m)
  each_element P m h = all_seen f P (map.entries m) (all_entries (λ q a. P (q, f a)) m h)

shown_rises : (k : List ℕ) (v : Value) (es : Entries) → are_rising es ≡ true → are_rising (put_shown k v es) ≡ true
shown_rises k null es h = h
shown_rises k (boolean b) es h = put_keeps_rising k (boolean b) es h
shown_rises k (integer i) es h = put_keeps_rising k (integer i) es h
shown_rises k (text s) es h = put_keeps_rising k (text s) es h
shown_rises k (list vs) es h = put_keeps_rising k (list vs) es h
shown_rises k (mapping fs) es h = put_keeps_rising k (mapping fs) es h
shown_rises k (node n) es h = put_keeps_rising k (node n) es h
shown_rises k (relationship r) es h = put_keeps_rising k (relationship r) es h
shown_rises k (path ids) es h = put_keeps_rising k (path ids) es h

pub entries_rise : (names : List (List ℕ)) (es : List (ℕ × Value)) → are_rising (named_entries names es) ≡ true
entries_rise names [] = refl
entries_rise names (e ∷ es) = shown_rises (text_of names e.0) e.1 (named_entries names es) (entries_rise names es)

some_mapped : {A B : Type 0} (f : A → B) (o : Option A) → IsSome o → is_some (option_map f o) ≡ true
some_mapped f None h = h
some_mapped f (Some a) h = refl

pub held_is_graph : HeldIsGraph
held_is_graph names c i j h =
    let there : (n : ℕ) → IsSome (map.get c.nodes n) → is_some (find nat_cmp n (elements (node_of names) c.nodes)) ≡ true =
    λ n some. ap is_some (element_read (node_of names) c.nodes n) ∙ some_mapped (node_of names) (map.get c.nodes n) some in
    record {
      node_ids_rise = elements_rise (node_of names) c.nodes;
      relationship_ids_rise = elements_rise (relationship_of names) c.rels;
      nodes_below = each_element (node_of names) (λ e. e.0 < i) c.nodes (λ q a e. (h.nodes q a e).below);
      relationships_below = each_element (relationship_of names) (λ e. e.0 < j) c.rels (λ q a e. (h.rels q a e).below);
      sources = each_element (relationship_of names) (λ e. IsTrue (is_some (find nat_cmp e.1.source (elements (node_of names) c.nodes)))) c.rels (λ q r e. there r.source.0 (h.rels q r e).source);
      targets = each_element (relationship_of names) (λ e. IsTrue (is_some (find nat_cmp e.1.target (elements (node_of names) c.nodes)))) c.rels (λ q r e. there r.target.0 (h.rels q r e).target);
      labels_rise = each_element (node_of names) (λ e. IsStrictlySortedBy text_order e.1.labels) c.nodes (λ q n e. in_byte_order_rises (map_list (text_of names) n.labels));
      node_keys_rise = each_element (node_of names) (λ e. IsTrue (are_rising e.1.properties)) c.nodes (λ q n e. entries_rise names (map.entries n.properties));
      relationship_keys_rise = each_element (relationship_of names) (λ e. IsTrue (are_rising e.1.properties)) c.rels (λ q r e. entries_rise names (map.entries r.properties));
    }
