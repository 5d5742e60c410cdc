-- What fits begins at the anchors' candidates, or else a leading conjunct is not true there.
use Rattle.std.proofs.Common.{◌≡◌, ℕ, Bool, true, false, cond, ◌&&◌, ◌||◌, inl, inr, ◌⊎◌, List, [], ◌∷◌, ◌++◌, map, flat_map, find, option_map, Option, Some, None, is_some, bytes_eq, Ok, refl, sym, ap, subst, ◌∙◌, true≢false}
use Rattle.std.specs.List.{AllByRecursion, AllZip}
use Rattle.std.specs.Map.{lookup}
use Rattle.pg_meaning.specs.Agreement.{AreGiven}
use Rattle.pg_meaning.specs.AgreementLaws.{named_in}
use Rattle.pg_meaning.specs.Conditions.{conjuncts_of, condition}
use Rattle.pg_soundness.proofs.RowNames.{BindsOnly}
use Rattle.pg_meaning.specs.Entries.{value_at}
use Rattle.pg_meaning.specs.EntriesLaws.{both, joined, same_text}
use Rattle.pg_meaning.specs.Equality.{eq3}
use Rattle.pg_meaning.specs.Grammar.{marks}
use Rattle.pg_meaning.specs.Graph.{Graph, Node, node_at}
use Rattle.pg_meaning.specs.Lists.{IsIn}
use Rattle.pg_meaning.specs.ListsLaws.{in_mapped}
use Rattle.pg_meaning.specs.Logic.{is_true}
use Rattle.pg_soundness.proofs.MatchParts.{having_fit, looked_up, among_all, found_in, id_in, same_some}
use Rattle.pg_meaning.specs.Names.{Names, is_among}
use Rattle.pg_meaning.specs.Patterns.{NodeFits, HopsFit, PathFits, Fits, named_nodes, all_named, nodes_of, node_name, texts_of, property_pairs, bind_match, Bond, Trail, Assignment}
use Rattle.pg_meaning.specs.Plans.{Anchor, Fixed, IndexSuits, leading_of, unbound_names, node_names, fixed_for}
use Rattle.pg_meaning.specs.Rows.{Row, value_in}
use Rattle.pg_meaning.specs.StaticFaults.{matching, path_parts, paths_faults}
use Rattle.pg_meaning.specs.Tree.{Expression, NodePattern, RelationshipPattern, PathPattern}
use Rattle.pg_meaning.specs.Value.{Value, node, Entries}
use Rattle.pg_meaning.specs.Walks.{NodeWanted, constant_value, with_value, labelled_or_all, free_candidates, bound_candidates, bound_value, candidates, variable_fits, is_same_node, wanted_nodes}
use Rattle.pg_soundness.proofs.MatchAssignments.{Wanting, IsWalked, fits_keyed, names_alike}
use Rattle.pg_soundness.proofs.MatchBindings.{has_name, among_if_named, or_both, node_reads}
use Rattle.pg_soundness.proofs.MatchFits.{NodeReady}
use Rattle.pg_soundness.proofs.MatchHops.{Arrival}
use Rattle.pg_soundness.proofs.MatchLeads.{Stands, lead_decides, leading_among}
use Rattle.pg_soundness.proofs.MatchLists.{in_left, in_right, in_either, all_got}
use Rattle.pg_soundness.proofs.MatchOrders.{nodes_named}
use Rattle.pg_soundness.proofs.MatchPaths.{PathKey, Placed, wanted_at, nodes_ready, lefts, rights, names_by, names_all, names_all_before, first_compatible, AllTrailsFit, AllAnchored}
use Rattle.pg_soundness.proofs.MatchScopes.{no_other, node_among_parts}
use Rattle.pg_soundness.proofs.MatchStates.{by_bool, none_some, named_by, bound_row, Compatible, compatible_fits, the_node}
use Rattle.pg_soundness.proofs.MatchSteps.{names_after}
use Rattle.pg_meaning.specs.Walks.{HopWanted}

-- ---- names of nodes

node_names_is : (ns : List NodePattern) (q : List ℕ) → is_among (node_names ns) q ≡ true → (n : NodePattern) × IsIn n ns × (node_name n ≡ Some q)
node_names_is [] q e = absurd (true≢false (sym e))
node_names_is (n ∷ ns) q e =
    by_bool (is_among (node_names ns) q) (λ later. one_later (node_names_is ns q later))
    (λ other. (n, inl refl, by_name (node_name n) (sym (ap (λ b. b || has_name (node_name n) q) other) ∙ sym (among_if_named (node_name n) (node_names ns) q) ∙ e)))
  where
    one_later : (m : NodePattern) × IsIn m ns × (node_name m ≡ Some q) → (m : NodePattern) × IsIn m (n ∷ ns) × (node_name m ≡ Some q)
    one_later k = (k.0, inr k.1, k.2)

    by_name : (o : Option (List ℕ)) → has_name o q ≡ true → o ≡ Some q
    by_name None f = absurd (true≢false (sym f))
    by_name (Some u) f = ap (λ t. Some t) (sym (same_text q u f))

flat_is : (qs : List PathPattern) (n : NodePattern) → IsIn n (flat_map nodes_of qs) → (p : PathPattern) × IsIn p qs × IsIn n (nodes_of p)
flat_is [] n i = absurd i
flat_is (p ∷ qs) n i = elim (in_either n (nodes_of p) (flat_map nodes_of qs) i) [
  | inl j ↦ (p, inl refl, j)
  | inr j ↦ one_later (flat_is qs n j)
]
  where
    one_later : (x : PathPattern) × IsIn x qs × IsIn n (nodes_of x) → (x : PathPattern) × IsIn x (p ∷ qs) × IsIn n (nodes_of x)
    one_later k = (k.0, inr k.1, k.2)

unbound_is : (scope names : Names) (q : List ℕ) → is_among (flat_map (λ name. cond (is_among scope name) [] (name ∷ [])) names) q ≡ true → (is_among scope q ≡ false) × (is_among names q ≡ true)
unbound_is scope [] q e = absurd (true≢false (sym e))
unbound_is scope (u ∷ names) q e =
    elim (is_among scope u) as (λ b. is_among scope u ≡ b → is_among (cond b [] (u ∷ []) ++ flat_map (λ name. cond (is_among scope name) [] (name ∷ [])) names) q ≡ true → (is_among scope q ≡ false) × ((bytes_eq q u || is_among names q) ≡ true)) [
      | true ↦ λ bound e. later (unbound_is scope names q e)
      | false ↦ λ free e. by_bool (bytes_eq q u)
          (λ same. (subst (λ k. is_among scope k ≡ false) (sym (same_text q u same)) free, ap (λ b. b || is_among names q) same))
          (λ other. later (unbound_is scope names q (sym (ap (λ b. b || is_among (flat_map (λ name. cond (is_among scope name) [] (name ∷ [])) names) q) other) ∙ e)))
    ] refl e
  where
    later : (is_among scope q ≡ false) × (is_among names q ≡ true) → (is_among scope q ≡ false) × ((bytes_eq q u || is_among names q) ≡ true)
    later k = (k.0, or_both (bytes_eq q u) (is_among names q) k.1)

pub find_is : {X : Type 0} (test : X → Bool) (xs : List X) (x : X) → find test xs ≡ Some x → IsIn x xs × (test x ≡ true)
find_is test [] x e = none_some None x refl e
find_is test (y ∷ ys) x e =
    elim (test y) as (λ b. test y ≡ b → cond b (Some y) (find test ys) ≡ Some x → IsIn x (y ∷ ys) × (test x ≡ true)) [
      | true ↦ λ h e. let is = same_some y x e in (inl (sym is), subst (λ z. test z ≡ true) is h)
      | false ↦ λ h e. let k = find_is test ys x e in (inr k.0, k.1)
    ] refl e

none_of : {X : Type 0} (o : Option X) → is_some o ≡ false → o ≡ None
none_of None e = refl
none_of (Some x) e = absurd (true≢false e)

-- ---- names stay

names_after_keeps : (hs : List (HopWanted × NodeWanted)) (ws : List Arrival) (named : List (List ℕ × ℕ)) (b : List ℕ × ℕ) → IsIn b named → IsIn b (names_after hs ws named)
names_after_keeps [] ws named b i = i
names_after_keeps (h ∷ hs) [] named b i = i
names_after_keeps (h ∷ hs) (w ∷ ws) named b i = names_after_keeps hs ws (named_by (node_name h.1.pattern) w.1 ++ named) b (in_right b (named_by (node_name h.1.pattern) w.1) named i)

names_by_keeps : (p : Placed) (k : PathKey) (named : List (List ℕ × ℕ)) (b : List ℕ × ℕ) → IsIn b (named_by (node_name (wanted_at p).pattern) k.0 ++ named) → IsIn b (names_by p k named)
names_by_keeps p k named b i =
    names_after_keeps (lefts p) k.2 (names_after (rights p) k.1 (named_by (node_name (wanted_at p).pattern) k.0 ++ named)) b
    (names_after_keeps (rights p) k.1 (named_by (node_name (wanted_at p).pattern) k.0 ++ named) b i)

names_all_keeps : (ps : List Placed) (ks : List PathKey) (named : List (List ℕ × ℕ)) (b : List ℕ × ℕ) → IsIn b named → IsIn b (names_all ps ks named)
names_all_keeps [] ks named b i = i
names_all_keeps (p ∷ ps) [] named b i = i
names_all_keeps (p ∷ ps) (k ∷ ks) named b i = names_all_keeps ps ks (names_by p k named) b (names_by_keeps p k named b (in_right b (named_by (node_name (wanted_at p).pattern) k.0) named i))

named_here : (name : Option (List ℕ)) (q : List ℕ) (n : ℕ) → name ≡ Some q → IsIn {X = List ℕ × ℕ} (q, n) (named_by name n)
named_here None q n e = none_some None q refl e
named_here (Some u) q n e = inl (λ i. (sym (same_some u q e) i, n))

module _ (parameters : Entries) (graph : Graph) (row : Row) where
  -- ---- each node variable of a match has an id

  abbrev pub HasId : List (List ℕ × ℕ) → NodePattern → List ℕ → Type 0
  HasId named n q = (id : ℕ) × IsIn {X = List ℕ × ℕ} (q, id) named × NodeFits parameters graph row n id

  hops_have : (hs : List (RelationshipPattern × NodePattern)) (left : ℕ) (bs : List Bond) (ns : List ℕ) (n : NodePattern) (q : List ℕ) → HopsFit parameters graph row hs left bs ns → IsIn n (map (λ h. h.1) hs) → node_name n ≡ Some q → HasId (named_nodes (map (λ h. h.1) hs) ns) n q
  hops_have [] left bs ns n q f i e = absurd i
  hops_have (h ∷ hs) left [] ns n q f i e = absurd f
  hops_have (h ∷ hs) left (b ∷ bs) [] n q f i e = absurd f
  hops_have (h ∷ hs) left (b ∷ bs) (m ∷ ns) n q f (inl same) e = (
    m,
    subst (IsIn (q, m)) (sym (nodes_named h.1 (map (λ h. h.1) hs) m ns)) (in_left (q, m) (named_by (node_name h.1) m) (named_nodes (map (λ h. h.1) hs) ns) (named_here (node_name h.1) q m (subst (λ x. node_name x ≡ Some q) same e))),
    subst (λ x. NodeFits parameters graph row x m) (sym same) f.1,
  )
  hops_have (h ∷ hs) left (b ∷ bs) (m ∷ ns) n q f (inr later) e =
      let k = hops_have hs m bs ns n q f.2 later e in
      (k.0, subst (IsIn (q, k.0)) (sym (nodes_named h.1 (map (λ h. h.1) hs) m ns)) (in_right (q, k.0) (named_by (node_name h.1) m) (named_nodes (map (λ h. h.1) hs) ns) k.1), k.2)

  pub path_has : (p : PathPattern) (t : Trail) (n : NodePattern) (q : List ℕ) → PathFits parameters graph row p t → IsIn n (nodes_of p) → node_name n ≡ Some q → HasId (named_nodes (nodes_of p) t.nodes) n q
  path_has p t n q f i e = subst (λ named. HasId named n q) (sym (ap (named_nodes (nodes_of p)) f.2 ∙ nodes_named p.first (map (λ h. h.1) p.hops) f.0 f.1)) (by_place i)
    where
      by_place : IsIn n (nodes_of p) → HasId (named_by (node_name p.first) f.0 ++ named_nodes (map (λ h. h.1) p.hops) f.1) n q
      by_place (inl same) = (
        f.0,
        in_left (q, f.0) (named_by (node_name p.first) f.0) (named_nodes (map (λ h. h.1) p.hops) f.1) (named_here (node_name p.first) q f.0 (subst (λ x. node_name x ≡ Some q) same e)),
        subst (λ x. NodeFits parameters graph row x f.0) (sym same) f.3,
      )
      by_place (inr later) =
          let k = hops_have p.hops f.0 t.bonds f.1 n q f.4 later e in
          (k.0, in_right (q, k.0) (named_by (node_name p.first) f.0) (named_nodes (map (λ h. h.1) p.hops) f.1) k.1, k.2)

  match_has : (qs : List PathPattern) (ts : Assignment) (p : PathPattern) (n : NodePattern) (q : List ℕ) → AllZip (PathFits parameters graph row) qs ts → IsIn p qs → IsIn n (nodes_of p) → node_name n ≡ Some q → HasId (all_named qs ts) n q
  match_has [] ts p n q f i j e = absurd i
  match_has (x ∷ qs) [] p n q f i j e = absurd f
  match_has (x ∷ qs) (t ∷ ts) p n q f (inl same) j e =
      let k = path_has x t n q f.0 (subst (λ z. IsIn n (nodes_of z)) same j) e in
      (k.0, in_left (q, k.0) (named_nodes (nodes_of x) t.nodes) (all_named qs ts) k.1, k.2)
  match_has (x ∷ qs) (t ∷ ts) p n q f (inr later) j e =
      let k = match_has qs ts p n q f.1 later j e in
      (k.0, in_right (q, k.0) (named_nodes (nodes_of x) t.nodes) (all_named qs ts) k.1, k.2)

  -- whatever holds of the nodes that a conjunct reads, or else something else
  module _ (leads : List Fixed) (qs : List PathPattern) (a : Assignment) (f : Fits qs parameters graph row a) (Else : Type 0) (decides : (x : Fixed) → IsIn x leads → (n : ℕ) (e : Node) → node_at graph n ≡ Some e → IsIn {X = List ℕ × ℕ} (x.name, n) (all_named qs a)
      → (is_true (eq3 (value_at x.key e.properties) (constant_value parameters x.value)) ≡ true) ⊎ Else) where
    -- ---- one anchor

    module _ (w : NodeWanted) (ready : NodeReady parameters graph row w) (n : ℕ) (fits : NodeFits parameters graph row w.pattern n) (in_all : (q : List ℕ) → node_name w.pattern ≡ Some q → IsIn {X = List ℕ × ℕ} (q, n) (all_named qs a)) where
      label_in : (ls : Names) → texts_of w.pattern.labels ≡ ls → IsIn n (labelled_or_all graph ls)
      label_in [] e = in_mapped (λ x. x.0) (n, fits.node) graph.nodes (found_in n fits.node graph.nodes fits.present)
      label_in (l ∷ ls) e =
          id_in (λ x. is_among x.1.labels l) n fits.node graph.nodes fits.present
          (subst (λ ts. AllByRecursion (λ t. is_among fits.node.labels t ≡ true) ts) e fits.labelled).0

      index_in : (i : List ℕ × List ℕ) (v : Value) → is_among (texts_of w.pattern.labels) i.0 ≡ true → is_true (eq3 (value_at i.1 fits.node.properties) v) ≡ true → IsIn n (with_value graph i.0 i.1 v)
      index_in i v labelled e =
          id_in (λ x. is_among x.1.labels i.0 && is_true (eq3 (value_at i.1 x.1.properties) v)) n fits.node graph.nodes fits.present
          (joined (is_among fits.node.labels i.0) (is_true (eq3 (value_at i.1 fits.node.properties) v)) (among_all fits.node.labels i.0 (texts_of w.pattern.labels) labelled fits.labelled) e)

      abbrev chosen : (i : List ℕ × List ℕ) → Option Value → List ℕ
      chosen i o = elim o as (λ o. List ℕ) [ None ↦ labelled_or_all graph (texts_of w.pattern.labels) | Some v ↦ with_value graph i.0 i.1 v ]

      by_conjunct : (i : List ℕ × List ℕ) → is_among (texts_of w.pattern.labels) i.0 ≡ true → (name : Option (List ℕ)) → node_name w.pattern ≡ name
          → IsIn n (chosen i (option_map (constant_value parameters) (elim name as (λ o. Option Expression) [ None ↦ None | Some t ↦ option_map (λ (x : Fixed). x.value) (find (λ (x : Fixed). bytes_eq x.name t && bytes_eq x.key i.1) leads) ]))) ⊎ Else
      by_conjunct i labelled None is = inl (label_in (texts_of w.pattern.labels) refl)
      by_conjunct i labelled (Some t) is = by_lead (find (λ (x : Fixed). bytes_eq x.name t && bytes_eq x.key i.1) leads) refl
        where
          by_lead : (o : Option Fixed) → find (λ (x : Fixed). bytes_eq x.name t && bytes_eq x.key i.1) leads ≡ o → IsIn n (chosen i (option_map (constant_value parameters) (option_map (λ (x : Fixed). x.value) o))) ⊎ Else
          by_lead None e = inl (label_in (texts_of w.pattern.labels) refl)
          by_lead (Some x) e =
              let found = find_is (λ (x : Fixed). bytes_eq x.name t && bytes_eq x.key i.1) leads x e in
              let tests = both (bytes_eq x.name t) (bytes_eq x.key i.1) found.1 in
              let named : IsIn {X = List ℕ × ℕ} (x.name, n) (all_named qs a) = subst (λ z. IsIn {X = List ℕ × ℕ} (z, n) (all_named qs a)) (sym (same_text x.name t tests.0)) (in_all t is) in
              elim (decides x found.0 n fits.node fits.present named) [
                | inl h ↦ inl (index_in i (constant_value parameters x.value) labelled (subst (λ z. is_true (eq3 (value_at z fits.node.properties) (constant_value parameters x.value)) ≡ true) (same_text x.key i.1 tests.1) h))
                | inr h ↦ inr h
              ]

      abbrev fixed_by_inline : (i : List ℕ × List ℕ) → Option Value → Option Value
      fixed_by_inline i o = elim o as (λ o. Option Value) [ Some v ↦ Some v | None ↦ option_map (constant_value parameters) (fixed_for leads w.pattern i.1) ]

      by_inline : (i : List ℕ × List ℕ) → is_among (texts_of w.pattern.labels) i.0 ≡ true → (o : Option Value) → lookup (bytes_eq i.1) w.properties ≡ o → IsIn n (chosen i (fixed_by_inline i o)) ⊎ Else
      by_inline i labelled None e = by_conjunct i labelled (node_name w.pattern) refl
      by_inline i labelled (Some v) e = inl (index_in i v labelled (looked_up i.1 w.properties fits.node.properties v e (having_fit parameters graph row (property_pairs w.pattern.properties) w.properties fits.node.properties ready fits.alike)))

      by_index : (index : Option (List ℕ × List ℕ)) → IndexSuits leads w.pattern index → IsIn n (free_candidates graph parameters leads index w) ⊎ Else
      by_index None suits = inl (label_in (texts_of w.pattern.labels) refl)
      by_index (Some i) suits = by_inline i suits.0 (lookup (bytes_eq i.1) w.properties) refl

      abbrev begun_by : (index : Option (List ℕ × List ℕ)) → Option Value → List ℕ
      begun_by index o = elim o as (λ o. List ℕ) [ Some v ↦ bound_candidates v | None ↦ free_candidates graph parameters leads index w ]

      bound_in : (named : List (List ℕ × ℕ)) → Compatible parameters graph row (named_by (node_name w.pattern) n ++ named) → (v : Value) → bound_value (node_name w.pattern) (bound_row parameters graph row named) ≡ Some v → IsIn n (bound_candidates v)
      bound_in named c v e = by_name (node_name w.pattern) (compatible_fits parameters graph row (node_name w.pattern) n named c) e
        where
          by_name : (name : Option (List ℕ)) → variable_fits name (bound_row parameters graph row named) n ≡ true → bound_value name (bound_row parameters graph row named) ≡ Some v → IsIn n (bound_candidates v)
          by_name None t e = none_some None v refl e
          by_name (Some q) t e = subst (λ u. IsIn n (bound_candidates u)) (sym (the_node v n (sym (ap (λ o. is_same_node o n) e) ∙ t))) (inl refl)

      anchor_reached : (anchor : Anchor) → IndexSuits leads w.pattern anchor.index → (named : List (List ℕ × ℕ)) → Compatible parameters graph row (named_by (node_name w.pattern) n ++ named) → IsIn n (candidates graph parameters leads (bound_row parameters graph row named) anchor w) ⊎ Else
      anchor_reached anchor suits named c = by_bound (bound_value (node_name w.pattern) (bound_row parameters graph row named)) refl
        where
          by_bound : (o : Option Value) → bound_value (node_name w.pattern) (bound_row parameters graph row named) ≡ o → IsIn n (begun_by anchor.index o) ⊎ Else
          by_bound (Some v) e = inl (bound_in named c v e)
          by_bound None e = by_index anchor.index suits

    -- ---- all anchors

    anchors_reached : (xs : List PathPattern) (ps : List Placed) (ks : List PathKey) (named : List (List ℕ × ℕ)) → AllZip (Wanting parameters graph row leads) xs ps → AllTrailsFit parameters graph row ps ks → Compatible parameters graph row (names_all ps ks named)
        → ((b : List ℕ × ℕ) → IsIn b (names_all ps ks named) → IsIn b (all_named qs a)) → AllAnchored parameters graph row leads ps named ks ⊎ Else
    anchors_reached xs [] ks named w t c into = inl tt
    anchors_reached xs (p ∷ ps) [] named w t c into = inl tt
    anchors_reached [] (p ∷ ps) (k ∷ ks) named w t c into = absurd w
    anchors_reached (x ∷ xs) (p ∷ ps) (k ∷ ks) named w t c into =
        let v : NodeWanted = wanted_at p in
        let ready : NodeReady parameters graph row v = all_got (NodeReady parameters graph row) p.1.place (wanted_nodes p.0) v (nodes_ready parameters graph row p.0 w.0.ready) w.0.placed in
        let one = first_compatible parameters graph row p k named (names_all_before parameters graph row ps ks (names_by p k named) c) in
        elim (anchor_reached v ready k.0 t.0.0
        (λ q e. into (q, k.0) (names_all_keeps ps ks (names_by p k named) (q, k.0) (names_by_keeps p k named (q, k.0) (in_left (q, k.0) (named_by (node_name v.pattern) k.0) named (named_here (node_name v.pattern) q k.0 e)))))
        p.1 w.0.suits named one) [
          | inr h ↦ inr h
          | inl i ↦ elim (anchors_reached xs ps ks (names_by p k named) w.1 t.1 c into) [ inr h ↦ inr h | inl rest ↦ inl (i, rest) ]
        ]

    -- what fits is walked, or else
    pub walked_or_else : (ps : List Placed) (w : AllZip (Wanting parameters graph row leads) qs ps) → IsWalked parameters graph row leads qs ps w a ⊎ Else
    walked_or_else ps w =
        let k = fits_keyed parameters graph row leads qs ps w a f in
        elim (anchors_reached qs ps k.0 [] w k.2.0 k.2.1 (λ b i. subst (λ z. IsIn b (all_named qs z)) (sym k.1) ((names_alike parameters graph row leads qs ps w k.0 k.2.0).into b i))) [
          | inr h ↦ inr h
          | inl i ↦ inl (k.0, k.1, (k.2.0, i, k.2.1, k.2.2))
        ]

  module _ (scope : Names) (qs : List PathPattern) (where_ : Option Expression) (faultless : paths_faults matching scope qs ≡ []) (given : AllByRecursion (λ x. AreGiven (named_in (marks x)) parameters) (conjuncts_of where_)) (binds : BindsOnly scope row) (a : Assignment) (f : Fits qs parameters graph row a) where
    abbrev here : Row
    here = bind_match graph qs a row

    abbrev leads : List Fixed
    leads = leading_of scope qs where_

    abbrev IsUnbound : List ℕ → Type 0
    IsUnbound q = is_among (unbound_names scope qs) q ≡ true

    abbrev IsFalse : Type 0
    IsFalse = condition where_ here parameters graph ≡ Ok false

    -- ---- what a leading conjunct reads

    pattern_of : (q : List ℕ) → IsUnbound q → (p : PathPattern) × (n : NodePattern) × IsIn p qs × IsIn n (nodes_of p) × (node_name n ≡ Some q)
    pattern_of q u =
        let n = node_names_is (flat_map nodes_of qs) q (unbound_is scope (node_names (flat_map nodes_of qs)) q u).1 in
        let p = flat_is qs n.0 n.1 in
        (p.0, n.0, p.1, p.2, n.2)

    reads_at : (q : List ℕ) → IsUnbound q → (id : ℕ) → IsIn {X = List ℕ × ℕ} (q, id) (all_named qs a) → value_in q here ≡ Some (node id)
    reads_at q u id i =
        let n = pattern_of q u in
        let part = node_among_parts qs n.0 n.1 n.2 n.3 in
        node_reads parameters graph row qs a q id f.each f.repeated
        (no_other scope q (flat_map path_parts qs) (record { nodes = []; others = [] }) faultless part.0 n.1 part.1 n.4)
        (none_of (value_in q row) (binds q ∙ (unbound_is scope (node_names (flat_map nodes_of qs)) q u).0)) i

    stands : (q : List ℕ) → IsUnbound q → Stands parameters graph here q
    stands q u =
        let n = pattern_of q u in
        let k = match_has qs a n.0 n.1 q f.each n.2 n.3 n.4 in
        record { id = k.0; element = k.2.node; reads = reads_at q u k.0 k.1; present = k.2.present }

    decides : (x : Fixed) → IsIn x leads → (n : ℕ) (e : Node) → node_at graph n ≡ Some e → IsIn {X = List ℕ × ℕ} (x.name, n) (all_named qs a) → (is_true (eq3 (value_at x.key e.properties) (constant_value parameters x.value)) ≡ true) ⊎ IsFalse
    decides x i n e present named =
        let s : Stands parameters graph here x.name = record { id = n; element = e; reads = reads_at x.name (leading_among parameters graph here (unbound_names scope qs) (conjuncts_of where_) x i) n named; present = present } in
        lead_decides parameters graph here (unbound_names scope qs) (conjuncts_of where_)
        (λ y j. stands y.name (leading_among parameters graph here (unbound_names scope qs) (conjuncts_of where_) y j)) given x i s

    -- what fits is walked, or its condition is false
    pub walked_or_false : (ps : List Placed) (w : AllZip (Wanting parameters graph row leads) qs ps) → IsWalked parameters graph row leads qs ps w a ⊎ IsFalse
    walked_or_false ps w = walked_or_else leads qs a f IsFalse decides ps w
