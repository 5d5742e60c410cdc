-- What is left where elements are removed, and which relationships would be loose.
use Rattle.std.proofs.Common.{◌≡◌, ℕ, Bool, true, false, cond, ◌&&◌, ◌||◌, ◌==◌, ◌⊎◌, inl, inr, List, [], ◌∷◌, filter, Option, Some, None, is_eq, is_lt, Less, Equal, Greater, IsTrue, refl, sym, ap, subst, ◌∙◌, true≢false}
use Rattle.std.proofs.lemmas.Cmp.{nat_cmp_total}
use Rattle.std.specs.Cmp.{tied_itself}
use Rattle.std.specs.FinMap.{nat_cmp-IsAntisymmetric}
use Rattle.std.specs.FinMap.Entries as by_id
use Rattle.std.specs.List.{AllByRecursion, list_any}
use Rattle.std.specs.Ordering.{nat_cmp}
use Rattle.pg_meaning.specs.EntriesLaws.{both}
use Rattle.pg_meaning.specs.EqualityLaws.{nat_same}
use Rattle.pg_meaning.specs.Graph.{Graph, Relationship, IsGraph, node_at, relationship_at, has_node, contains_id, ids_of, goes_from, both as either_way, remove_elements}
use Rattle.pg_meaning.specs.GraphLaws.{remove_keeps_graph, remove_removes}
use Rattle.pg_meaning.specs.Lists.{IsIn}
use Rattle.pg_meaning.specs.ListsLaws.{all_both, all_weaker}
use Rattle.pg_meaning.specs.Updates.{Doomed, is_doomed, doomed_nodes, doomed_relationships, is_connected}
use Rattle.pg_soundness.proofs.ChangesIds.{same_id, or_parts, id_is_in, is_in_id, filtered_id, passes, found_passes, ids_found}
use Rattle.pg_soundness.proofs.ChangesOptions.{missing}

-- ---- relationships at nodes

turned_id : (a b : ℕ) → (a == b) ≡ false → (b == a) ≡ false
turned_id a b h = by_test (b == a) refl
  where
    by_test : (c : Bool) → (b == a) ≡ c → c ≡ false
    by_test true e = absurd (true≢false (sym (same_id a) ∙ ap (λ k. a == k) (sym (nat_same b a e)) ∙ h))
    by_test false e = refl

abbrev is_any : List ℕ → Bool
is_any ids = elim ids as (λ ids. Bool) [ [] ↦ false | r ∷ rs ↦ true ]

none_at : (n : ℕ) (es : List (ℕ × Relationship)) → is_any (ids_of (filter (λ e. goes_from either_way n e.1) es)) ≡ false → AllByRecursion (λ e. goes_from either_way n e.1 ≡ false) es
none_at n [] h = tt
none_at n (e ∷ es) h =
    elim (goes_from either_way n e.1) as (λ b. goes_from either_way n e.1 ≡ b → is_any (ids_of (cond b (e ∷ filter (λ e. goes_from either_way n e.1) es) (filter (λ e. goes_from either_way n e.1) es))) ≡ false → (goes_from either_way n e.1 ≡ false) × AllByRecursion (λ e. goes_from either_way n e.1 ≡ false) es) [
      | true ↦ λ is h. absurd (true≢false h)
      | false ↦ λ is h. (is, none_at n es h)
    ] refl h

some_at : (n : ℕ) (es : List (ℕ × Relationship)) → is_any (ids_of (filter (λ e. goes_from either_way n e.1) es)) ≡ true → (e : ℕ × Relationship) × IsIn e es × (goes_from either_way n e.1 ≡ true)
some_at n [] h = cc
some_at n (e ∷ es) h =
    elim (goes_from either_way n e.1) as (λ b. goes_from either_way n e.1 ≡ b → is_any (ids_of (cond b (e ∷ filter (λ e. goes_from either_way n e.1) es) (filter (λ e. goes_from either_way n e.1) es))) ≡ true → (f : ℕ × Relationship) × IsIn f (e ∷ es) × (goes_from either_way n f.1 ≡ true)) [
      | true ↦ λ is h. (e, inl refl, is)
      | false ↦ λ is h. let rest = some_at n es h in (rest.0, inr rest.1, rest.2)
    ] refl h

-- no relationship is at any of the nodes
abbrev IsApart : List ℕ → ℕ × Relationship → Type 0
IsApart ns e = (contains_id ns e.1.source ≡ false) × (contains_id ns e.1.target ≡ false)

unconnected_apart : (graph : Graph) (ns : List ℕ) → list_any (is_connected graph) ns ≡ false → AllByRecursion (IsApart ns) graph.relationships
unconnected_apart graph [] h = all_trivially graph.relationships
  where
    all_trivially : (es : List (ℕ × Relationship)) → AllByRecursion (IsApart []) es
    all_trivially [] = tt
    all_trivially (e ∷ es) = ((refl, refl), all_trivially es)
unconnected_apart graph (n ∷ ns) h =
    let b = or_parts (is_connected graph n) (list_any (is_connected graph) ns) h in
    all_weaker (λ e. (goes_from either_way n e.1 ≡ false) × IsApart ns e) (IsApart (n ∷ ns)) (λ e p. joined e p.0 p.1) graph.relationships
    (all_both (λ e. goes_from either_way n e.1 ≡ false) (IsApart ns) graph.relationships (none_at n graph.relationships b.0) (unconnected_apart graph ns b.1))
  where
    joined : (e : ℕ × Relationship) → goes_from either_way n e.1 ≡ false → IsApart ns e → IsApart (n ∷ ns) e
    joined e g p =
        let ends = or_parts (e.1.source == n) (e.1.target == n) g in (
          ap (λ b. b || contains_id ns e.1.source) (turned_id e.1.source n ends.0) ∙ p.0,
          ap (λ b. b || contains_id ns e.1.target) (turned_id e.1.target n ends.1) ∙ p.1,
        )

connected_end : (graph : Graph) (ns : List ℕ) → list_any (is_connected graph) ns ≡ true → (n : ℕ) × IsIn n ns × (e : ℕ × Relationship) × IsIn e graph.relationships × ((e.1.source ≡ n) ⊎ (e.1.target ≡ n))
connected_end graph [] h = cc
connected_end graph (n ∷ ns) h = by_first (is_connected graph n) refl h (connected_end graph ns)
  where
    Found : List ℕ → Type 0
    Found ms = (n : ℕ) × IsIn n ms × (e : ℕ × Relationship) × IsIn e graph.relationships × ((e.1.source ≡ n) ⊎ (e.1.target ≡ n))

    by_end : (a b : Bool) (e : Relationship) → (e.source == n) ≡ a → (e.target == n) ≡ b → (a || b) ≡ true → (e.source ≡ n) ⊎ (e.target ≡ n)
    by_end true b e p q h = inl (nat_same e.source n p)
    by_end false true e p q h = inr (nat_same e.target n q)
    by_end false false e p q h = absurd (true≢false (sym h))

    by_first : (b : Bool) → is_connected graph n ≡ b → (b || list_any (is_connected graph) ns) ≡ true
        → (list_any (is_connected graph) ns ≡ true → (m : ℕ) × IsIn m ns × (e : ℕ × Relationship) × IsIn e graph.relationships × ((e.1.source ≡ m) ⊎ (e.1.target ≡ m)))
        → (m : ℕ) × IsIn m (n ∷ ns) × (e : ℕ × Relationship) × IsIn e graph.relationships × ((e.1.source ≡ m) ⊎ (e.1.target ≡ m))
    by_first true c h rest = let e = some_at n graph.relationships c in (n, inl refl, e.0, e.1, by_end (e.0.1.source == n) (e.0.1.target == n) e.0.1 refl refl e.2)
    by_first false c h rest = let r = rest h in (r.0, inr r.1, r.2, r.3, r.4)

-- ---- what stands in a list whose ids rise is found

module _ {X : Type 0} where
  below_at : (k : ℕ) (es : List (ℕ × X)) (e : ℕ × X) → by_id.below_all nat_cmp k es ≡ true → IsIn e es → is_lt (nat_cmp k e.0) ≡ true
  below_at k [] e h i = absurd i
  below_at k (x ∷ xs) e h (inl s) = ap (λ y. is_lt (nat_cmp k y.0)) s ∙ (both (is_lt (nat_cmp k x.0)) (by_id.below_all nat_cmp k xs) h).0
  below_at k (x ∷ xs) e h (inr i) = below_at k xs e (both (is_lt (nat_cmp k x.0)) (by_id.below_all nat_cmp k xs) h).1 i

  pub is_found : (es : List (ℕ × X)) (e : ℕ × X) → IsTrue (by_id.is_sorted nat_cmp es) → IsIn e es → by_id.find nat_cmp e.0 es ≡ Some e.1
  is_found [] e h i = absurd i
  is_found (x ∷ xs) e h (inl s) =
      ap (λ y. cond (is_eq (nat_cmp y.0 x.0)) (Some x.1) (by_id.find nat_cmp y.0 xs)) s
      ∙ ap (λ r. cond (is_eq r) (Some x.1) (by_id.find nat_cmp x.0 xs)) (tied_itself nat_cmp_total x.0)
      ∙ ap (λ y. Some y.1) (sym s)
  is_found (x ∷ xs) e h (inr i) =
      let b = both (by_id.below_all nat_cmp x.0 xs) (by_id.is_sorted nat_cmp xs) h in
      later (nat_cmp e.0 x.0) refl (below_at x.0 xs e b.0 i) (is_found xs e b.1 i)
    where
      later : (r : _) → nat_cmp e.0 x.0 ≡ r → is_lt (nat_cmp x.0 e.0) ≡ true → by_id.find nat_cmp e.0 xs ≡ Some e.1 → cond (is_eq r) (Some x.1) (by_id.find nat_cmp e.0 xs) ≡ Some e.1
      later Less s l rest = rest
      later Equal s l rest = absurd (true≢false (sym l ∙ ap (λ k. is_lt (nat_cmp x.0 k)) (nat_cmp-IsAntisymmetric e.0 x.0 s) ∙ ap is_lt (tied_itself nat_cmp_total x.0)))
      later Greater s l rest = rest

-- ---- removal

module _ (is_detach : Bool) (graph : Graph) (d : Doomed) (g : IsGraph graph) where
  abbrev pub gone_nodes : List ℕ
  gone_nodes = doomed_nodes graph d

  abbrev pub gone_relationships : List ℕ
  gone_relationships = doomed_relationships is_detach graph d

  abbrev pub left_over : Graph
  left_over = remove_elements gone_nodes gone_relationships graph

  -- the graph with the nodes yet
  abbrev pub cut_off : Graph
  cut_off = remove_elements [] gone_relationships graph

  pub left_is_graph : list_any (is_connected cut_off) gone_nodes ≡ false → IsGraph left_over
  left_is_graph h = remove_keeps_graph gone_nodes gone_relationships graph (unconnected_apart cut_off gone_nodes h) g

  node_among : (n : ℕ) → contains_id gone_nodes n ≡ (has_node graph n && contains_id d.0 n)
  node_among n = filtered_id (contains_id d.0) n (ids_of graph.nodes) ∙ ap (λ b. b && contains_id d.0 n) (ids_found n graph.nodes)

  relationship_among : (r : ℕ) → contains_id gone_relationships r ≡ passes (is_doomed is_detach d) r (relationship_at graph r)
  relationship_among r = found_passes (is_doomed is_detach d) r graph.relationships g.relationship_ids_rise

  first_true : (a b : Bool) → (a && b) ≡ true → b ≡ true
  first_true true b h = h
  first_true false b h = absurd (true≢false (sym h))

  and_false : (a b : Bool) → b ≡ true → (a && b) ≡ false → a ≡ false
  and_false true b e h = absurd (true≢false (sym e ∙ h))
  and_false false b e h = refl

  pub nodes_go : (n : ℕ) → IsIn n d.0 → node_at left_over n ≡ None
  nodes_go n i = by_test (contains_id gone_nodes n) refl
    where
      by_test : (b : Bool) → contains_id gone_nodes n ≡ b → node_at left_over n ≡ None
      by_test true e = (remove_removes gone_nodes gone_relationships graph).nodes_gone n e
      by_test false e =
          (remove_removes gone_nodes gone_relationships graph).nodes_kept n e
          ∙ missing (node_at graph n) (and_false (has_node graph n) (contains_id d.0 n) (is_in_id d.0 n i) (sym (node_among n) ∙ e))

  pub nodes_stay : (n : ℕ) → (IsIn n d.0 → ⊥) → node_at left_over n ≡ node_at graph n
  nodes_stay n out = (remove_removes gone_nodes gone_relationships graph).nodes_kept n (by_test (contains_id gone_nodes n) refl)
    where
      by_test : (b : Bool) → contains_id gone_nodes n ≡ b → b ≡ false
      by_test true e = absurd (out (id_is_in d.0 n (first_true (has_node graph n) (contains_id d.0 n) (sym (node_among n) ∙ e))))
      by_test false e = refl

  -- a relationship that is there and doomed
  pub relationships_go : (r : ℕ) → ((e : Relationship) → relationship_at graph r ≡ Some e → is_doomed is_detach d (r, e) ≡ true) → relationship_at left_over r ≡ None
  relationships_go r goes = by_test (contains_id gone_relationships r) refl
    where
      by_found : (o : Option Relationship) → relationship_at graph r ≡ o → passes (is_doomed is_detach d) r o ≡ false → o ≡ None
      by_found None is h = refl
      by_found (Some e) is h = absurd (true≢false (sym (goes e is) ∙ h))

      by_test : (b : Bool) → contains_id gone_relationships r ≡ b → relationship_at left_over r ≡ None
      by_test true e = (remove_removes gone_nodes gone_relationships graph).relationships_gone r e
      by_test false e = (remove_removes gone_nodes gone_relationships graph).relationships_kept r e ∙ by_found (relationship_at graph r) refl (sym (relationship_among r) ∙ e)

  pub relationships_stay : (r : ℕ) → ((e : Relationship) → relationship_at graph r ≡ Some e → is_doomed is_detach d (r, e) ≡ true → ⊥) → relationship_at left_over r ≡ relationship_at graph r
  relationships_stay r stays = (remove_removes gone_nodes gone_relationships graph).relationships_kept r (by_test (contains_id gone_relationships r) refl)
    where
      by_found : (o : Option Relationship) → relationship_at graph r ≡ o → passes (is_doomed is_detach d) r o ≡ true → ⊥
      by_found None is h = true≢false (sym h)
      by_found (Some e) is h = stays e is h

      by_test : (b : Bool) → contains_id gone_relationships r ≡ b → b ≡ false
      by_test true e = absurd (by_found (relationship_at graph r) refl (sym (relationship_among r) ∙ e))
      by_test false e = refl

  -- a relationship that stays at a node that goes
  pub connection : list_any (is_connected cut_off) gone_nodes ≡ true → (r : ℕ) × (e : Relationship) × (relationship_at graph r ≡ Some e) × (is_doomed is_detach d (r, e) ≡ true → ⊥) × (IsIn e.source d.0 ⊎ IsIn e.target d.0)
  connection h =
      let c = connected_end cut_off gone_nodes h in
      let found = is_found cut_off.relationships c.2 (sorted_cut) c.3 in
      let out = not_among c.2.0 c.2.1 found in
      let is = sym ((remove_removes [] gone_relationships graph).relationships_kept c.2.0 out) ∙ found in
      (c.2.0, c.2.1, is, (λ doomed. true≢false (sym doomed ∙ sym (ap (passes (is_doomed is_detach d) c.2.0) is) ∙ sym (relationship_among c.2.0) ∙ out)), end_in c.0 c.1 c.2.1 c.4)
    where
      sorted_cut : IsTrue (by_id.is_sorted nat_cmp cut_off.relationships)
      sorted_cut = (remove_keeps_graph [] gone_relationships graph (unconnected_apart cut_off [] refl) g).relationship_ids_rise

      not_among : (r : ℕ) (e : Relationship) → relationship_at cut_off r ≡ Some e → contains_id gone_relationships r ≡ false
      not_among r e found = by_test (contains_id gone_relationships r) refl
        where
          by_test : (b : Bool) → contains_id gone_relationships r ≡ b → b ≡ false
          by_test true t = let impossible = sym found ∙ (remove_removes [] gone_relationships graph).relationships_gone r t in cc
          by_test false t = refl

      end_in : (n : ℕ) → IsIn n gone_nodes → (e : Relationship) → (e.source ≡ n) ⊎ (e.target ≡ n) → IsIn e.source d.0 ⊎ IsIn e.target d.0
      end_in n i e (inl s) = inl (subst (λ m. IsIn m d.0) (sym s) (id_is_in d.0 n (first_true (has_node graph n) (contains_id d.0 n) (sym (node_among n) ∙ is_in_id gone_nodes n i))))
      end_in n i e (inr s) = inr (subst (λ m. IsIn m d.0) (sym s) (id_is_in d.0 n (first_true (has_node graph n) (contains_id d.0 n) (sym (node_among n) ∙ is_in_id gone_nodes n i))))
