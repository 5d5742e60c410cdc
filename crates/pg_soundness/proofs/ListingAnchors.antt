-- A walk begins at the candidates of its anchors exactly where the anchors hold.
use Rattle.std.proofs.Common.{◌≡◌, ℕ, zero, suc, Bool, true, false, cond, ◌&&◌, ◌||◌, inl, inr, List, [], ◌∷◌, ◌++◌, map, flat_map, length, option_map, Option, Some, None, is_some, bytes_eq, slice_get, slice_index_or, reverse, take, refl, sym, ap, subst, ◌∙◌, true≢false}
use Rattle.std.proofs.lemmas.List.{length-reverse}
use Rattle.std.specs.Bool.{⊤}
use Rattle.std.specs.List.{AllByRecursion, AllZip, zip}
use Rattle.std.specs.Map.{lookup}
use Rattle.pg_meaning.specs.Entries.{value_at}
use Rattle.pg_meaning.specs.EntriesLaws.{both, joined}
use Rattle.pg_meaning.specs.Equality.{eq3}
use Rattle.pg_meaning.specs.Graph.{Graph, Node, IsGraph, node_at}
use Rattle.pg_meaning.specs.Listings.{HasFixed, AnchorsHold}
use Rattle.pg_meaning.specs.Lists.{IsIn}
use Rattle.pg_meaning.specs.ListsLaws.{in_mapped}
use Rattle.pg_meaning.specs.Logic.{is_true}
use Rattle.pg_soundness.proofs.MatchParts.{Evaluated, value_of_pair, having_fit, looked_up, among_all, entries_apart, found_in, id_in, same_some, is_the_truth}
use Rattle.pg_meaning.specs.Names.{Names, is_among}
use Rattle.pg_meaning.specs.Patterns.{NodeFits, node_name, nodes_of, texts_of, property_pairs, add_path_names}
use Rattle.pg_meaning.specs.Plans.{Anchor, Fixed, IndexSuits, fixed_for, is_bound_by}
use Rattle.pg_meaning.specs.Rows.{Row}
use Rattle.pg_meaning.specs.StaticFaults.{path_parts}
use Rattle.pg_meaning.specs.Tree.{Expression, NodePattern, PathPattern}
use Rattle.pg_meaning.specs.Value.{Value, Entries}
use Rattle.pg_meaning.specs.Walks.{NodeWanted, HopWanted, wanted_nodes, constant_value, with_value, labelled_or_all, free_candidates, bound_candidates, bound_value, candidates, variable_fits, is_same_node}
use Rattle.pg_meaning.specs.declared.logic.Tri.TheVariants.{True}
use Rattle.pg_soundness.proofs.ListingNames.{Naming, read_bound, unread_free, path_naming}
use Rattle.pg_soundness.proofs.ListingRising.{first_node, lefts_long}
use Rattle.pg_soundness.proofs.MatchAssignments.{Wanting}
use Rattle.pg_soundness.proofs.MatchBindings.{is_other_named, NoOther, all_front, all_back}
use Rattle.pg_soundness.proofs.MatchFits.{NodeReady, in_ids, one_entry}
use Rattle.pg_soundness.proofs.MatchHops.{Arrival}
use Rattle.pg_soundness.proofs.MatchLists.{all_got}
use Rattle.pg_soundness.proofs.MatchPaths.{PathKey, Placed, trail_by, wanted_at, nodes_ready, lefts, names_by, names_all, names_all_before, first_compatible, AllTrailsFit, AllAnchored}
use Rattle.pg_soundness.proofs.MatchStates.{none_some, named_by, bound_row, Compatible, compatible_tail, compatible_fits, the_node}
use Rattle.pg_soundness.proofs.MatchSteps.{StepsFit}
use Rattle.pg_soundness.proofs.MatchTrails.{pattern_hops}

module _ (parameters : Entries) (graph : Graph) (row : Row) where
  -- a key that the text fixes inline is one whose value was evaluated
  looks : (ps : List (List ℕ × Expression)) (vs : List (List ℕ × Value)) → AllZip (Evaluated parameters graph row) ps vs → (key : List ℕ) → is_some (lookup (bytes_eq key) vs) ≡ is_among (map (λ p. p.0) ps) key
  looks [] [] z key = refl
  looks [] (y ∷ ys) z key = absurd z
  looks (p ∷ ps) [] z key = absurd z
  looks (p ∷ ps) (y ∷ ys) z key =
      subst (λ k. is_some (cond (bytes_eq key y.0) (Some y.1) (lookup (bytes_eq key) ys)) ≡ (bytes_eq key k || is_among (map (λ p. p.0) ps) key)) (sym (value_of_pair parameters graph row p y z.0).0)
      (elim (bytes_eq key y.0) as (λ b. is_some (cond b (Some y.1) (lookup (bytes_eq key) ys)) ≡ (b || is_among (map (λ p. p.0) ps) key)) [ true ↦ refl | false ↦ looks ps ys z.1 key ])

  no_value : (o : Option Value) → is_some o ≡ false → o ≡ None
  no_value None e = refl
  no_value (Some v) e = absurd (true≢false e)

  module _ (g : IsGraph graph) (leads : List Fixed) (w : NodeWanted) (ready : NodeReady parameters graph row w) (n : ℕ) (fits : NodeFits parameters graph row w.pattern n) where
    label_in : (ls : Names) → texts_of w.pattern.labels ≡ ls → IsIn n (labelled_or_all graph ls)
    label_in [] e = in_mapped (λ x. x.0) (n, fits.node) graph.nodes (found_in n fits.node graph.nodes fits.present)
    label_in (l ∷ ls) e =
        id_in (λ x. is_among x.1.labels l) n fits.node graph.nodes fits.present
        (subst (λ ts. AllByRecursion (λ t. is_among fits.node.labels t ≡ true) ts) e fits.labelled).0

    index_in : (i : List ℕ × List ℕ) (v : Value) → is_among (texts_of w.pattern.labels) i.0 ≡ true → is_true (eq3 (value_at i.1 fits.node.properties) v) ≡ true → IsIn n (with_value graph i.0 i.1 v)
    index_in i v labelled e =
        id_in (λ x. is_among x.1.labels i.0 && is_true (eq3 (value_at i.1 x.1.properties) v)) n fits.node graph.nodes fits.present
        (joined (is_among fits.node.labels i.0) (is_true (eq3 (value_at i.1 fits.node.properties) v)) (among_all fits.node.labels i.0 (texts_of w.pattern.labels) labelled fits.labelled) e)

    index_has : (i : List ℕ × List ℕ) (v : Value) → IsIn n (with_value graph i.0 i.1 v) → is_true (eq3 (value_at i.1 fits.node.properties) v) ≡ true
    index_has i v h =
        let k = in_ids parameters graph row (λ x. is_among x.1.labels i.0 && is_true (eq3 (value_at i.1 x.1.properties) v)) n graph.nodes h in
        let same = one_entry parameters graph row graph.nodes (entries_apart graph.nodes g.node_ids_rise) (n, k.0) (n, fits.node) k.1 (found_in n fits.node graph.nodes fits.present) refl in
        subst (λ (x : ℕ × Node). is_true (eq3 (value_at i.1 x.1.properties) v) ≡ true) same (both (is_among k.0.labels i.0) (is_true (eq3 (value_at i.1 k.0.properties) v)) k.2).1

    -- ---- what an index leaves

    abbrev FixedFor : List ℕ × List ℕ → Option Expression → Type 0
    FixedFor i o = elim o [ None ↦ ⊤ | Some c ↦ (e : Node) × (node_at graph n ≡ Some e) × (eq3 (value_at i.1 e.properties) (constant_value parameters c) ≡ True) ]

    abbrev FixedAmong : List ℕ × List ℕ → Bool → Type 0
    FixedAmong i b = elim b [ true ↦ ⊤ | false ↦ FixedFor i (fixed_for leads w.pattern i.1) ]

    abbrev inline : List ℕ × List ℕ → Bool
    inline i = is_among (map (λ p. p.0) (property_pairs w.pattern.properties)) i.1

    abbrev FixedBy : Option (List ℕ × List ℕ) → Type 0
    FixedBy o = elim o [ None ↦ ⊤ | Some i ↦ FixedAmong i (inline i) ]

    abbrev chosen : List ℕ × List ℕ → Option Value → List ℕ
    chosen i o = elim o as (λ o. List ℕ) [ None ↦ labelled_or_all graph (texts_of w.pattern.labels) | Some v ↦ with_value graph i.0 i.1 v ]

    abbrev by_inline : List ℕ × List ℕ → Option Value → Option Expression → Option Value
    by_inline i o c = elim o as (λ o. Option Value) [ Some v ↦ Some v | None ↦ option_map (constant_value parameters) c ]

    looks_here : (i : List ℕ × List ℕ) → is_some (lookup (bytes_eq i.1) w.properties) ≡ inline i
    looks_here i = looks (property_pairs w.pattern.properties) w.properties ready i.1

    free_holds : (index : Option (List ℕ × List ℕ)) → IsIn n (free_candidates graph parameters leads index w) → FixedBy index
    free_holds None h = tt
    free_holds (Some i) h = by_among (inline i) refl
      where
        by_fixed : (c : Option Expression) → IsIn n (chosen i (by_inline i None c)) → FixedFor i c
        by_fixed None h = tt
        by_fixed (Some c) h = (fits.node, fits.present, is_the_truth (eq3 (value_at i.1 fits.node.properties) (constant_value parameters c)) (index_has i (constant_value parameters c) h))

        by_among : (b : Bool) → inline i ≡ b → FixedAmong i b
        by_among true e = tt
        by_among false e = by_fixed (fixed_for leads w.pattern i.1) (subst (λ o. IsIn n (chosen i (by_inline i o (fixed_for leads w.pattern i.1)))) (no_value (lookup (bytes_eq i.1) w.properties) (looks_here i ∙ e)) h)

    free_back : (index : Option (List ℕ × List ℕ)) → IndexSuits leads w.pattern index → FixedBy index → IsIn n (free_candidates graph parameters leads index w)
    free_back None suits h = label_in (texts_of w.pattern.labels) refl
    free_back (Some i) suits h = by_lookup (lookup (bytes_eq i.1) w.properties) refl
      where
        by_fixed : (c : Option Expression) → FixedFor i c → IsIn n (chosen i (by_inline i None c))
        by_fixed None h = label_in (texts_of w.pattern.labels) refl
        by_fixed (Some c) h =
            let same : h.0 ≡ fits.node = same_some h.0 fits.node (sym h.1 ∙ fits.present) in
            index_in i (constant_value parameters c) suits.0 (ap is_true (subst (λ (e : Node). eq3 (value_at i.1 e.properties) (constant_value parameters c) ≡ True) same h.2))

        by_lookup : (o : Option Value) → lookup (bytes_eq i.1) w.properties ≡ o → IsIn n (chosen i (by_inline i o (fixed_for leads w.pattern i.1)))
        by_lookup (Some v) e = index_in i v suits.0 (looked_up i.1 w.properties fits.node.properties v e (having_fit parameters graph row (property_pairs w.pattern.properties) w.properties fits.node.properties ready fits.alike))
        by_lookup None e = by_fixed (fixed_for leads w.pattern i.1) (subst (FixedAmong i) (sym (looks_here i) ∙ ap (λ o. is_some o) e) h)

    -- ---- one anchor

    module _ (IsNodes : List ℕ → Type 0) (is_node : (q : List ℕ) → node_name w.pattern ≡ Some q → IsNodes q) (named : List (List ℕ × ℕ)) (bound : Names) (naming : Naming parameters graph row IsNodes named bound) (c : Compatible parameters graph row (named_by (node_name w.pattern) n ++ named)) where
      abbrev here : Row
      here = bound_row parameters graph row named

      abbrev bound_named : Option (List ℕ) → Bool
      bound_named name = elim name as (λ o. Bool) [ None ↦ false | Some q ↦ is_among bound q ]

      bound_in : (v : Value) → bound_value (node_name w.pattern) here ≡ Some v → IsIn n (bound_candidates v)
      bound_in v e = by_name (node_name w.pattern) (compatible_fits parameters graph row (node_name w.pattern) n named c) e
        where
          by_name : (name : Option (List ℕ)) → variable_fits name here n ≡ true → bound_value name here ≡ Some v → IsIn n (bound_candidates v)
          by_name None t e = none_some None v refl e
          by_name (Some q) t e = subst (λ u. IsIn n (bound_candidates u)) (sym (the_node v n (sym (ap (λ o. is_same_node o n) e) ∙ t))) (inl refl)

      is_bound : (v : Value) (name : Option (List ℕ)) → bound_value name here ≡ Some v → bound_named name ≡ true
      is_bound v None e = none_some None v refl e
      is_bound v (Some q) e = read_bound parameters graph row IsNodes named bound naming q v e

      is_free : (name : Option (List ℕ)) → ((q : List ℕ) → name ≡ Some q → IsNodes q) → bound_value name here ≡ None → bound_named name ≡ false
      is_free None is e = refl
      is_free (Some q) is e = unread_free parameters graph row IsNodes named bound naming (compatible_tail parameters graph row (named_by (node_name w.pattern) n) named c) q (is q refl) e

      abbrev begun : Option (List ℕ × List ℕ) → Option Value → List ℕ
      begun index o = elim o as (λ o. List ℕ) [ Some v ↦ bound_candidates v | None ↦ free_candidates graph parameters leads index w ]

      anchor_holds : (a : Anchor) → IsIn n (candidates graph parameters leads here a w) → is_bound_by bound w.pattern ≡ false → FixedBy a.index
      anchor_holds a h free = by_bound (bound_value (node_name w.pattern) here) refl h
        where
          by_bound : (o : Option Value) → bound_value (node_name w.pattern) here ≡ o → IsIn n (begun a.index o) → FixedBy a.index
          by_bound (Some v) e h = absurd (true≢false (sym (is_bound v (node_name w.pattern) e) ∙ free))
          by_bound None e h = free_holds a.index h

      anchor_back : (a : Anchor) → IndexSuits leads w.pattern a.index → (is_bound_by bound w.pattern ≡ false → FixedBy a.index) → IsIn n (candidates graph parameters leads here a w)
      anchor_back a suits h = by_bound (bound_value (node_name w.pattern) here) refl
        where
          by_bound : (o : Option Value) → bound_value (node_name w.pattern) here ≡ o → IsIn n (begun a.index o)
          by_bound (Some v) e = bound_in v e
          by_bound None e = free_back a.index suits (h (is_free (node_name w.pattern) is_node e))

  -- ---- the anchor's place

  steps_long : (is_leftwards : Bool) (hs : List (HopWanted × NodeWanted)) (at : ℕ) (ws : List Arrival) → StepsFit parameters graph row is_leftwards hs at ws → length ws ≡ length hs
  steps_long is_leftwards [] at [] f = refl
  steps_long is_leftwards [] at (v ∷ ws) f = absurd f
  steps_long is_leftwards (h ∷ hs) at [] f = absurd f
  steps_long is_leftwards (h ∷ hs) at (v ∷ ws) f = ap suc (steps_long is_leftwards hs v.1 ws f.2)

  pattern_at : (hs : List (HopWanted × NodeWanted)) (place : ℕ) (w : NodeWanted) → slice_get (map (λ h. h.1) hs) place ≡ Some w → slice_get (map (λ h. h.1) (pattern_hops hs)) place ≡ Some w.pattern
  pattern_at [] place w e = cc
  pattern_at (h ∷ hs) zero w e = ap (λ o. option_map (λ (x : NodeWanted). x.pattern) o) e
  pattern_at (h ∷ hs) (suc place) w e = pattern_at hs place w e

  node_pattern_at : (hs : List (HopWanted × NodeWanted)) (first : NodeWanted) (place : ℕ) (w : NodeWanted) → slice_get (first ∷ map (λ h. h.1) hs) place ≡ Some w → slice_get (first.pattern ∷ map (λ h. h.1) (pattern_hops hs)) place ≡ Some w.pattern
  node_pattern_at hs first zero w e = ap (λ o. option_map (λ (x : NodeWanted). x.pattern) o) e
  node_pattern_at hs first (suc place) w e = pattern_at hs place w e

  got_in : {X : Type 0} (xs : List X) (place : ℕ) (x : X) → slice_get xs place ≡ Some x → IsIn x xs
  got_in [] zero x e = cc
  got_in [] (suc place) x e = cc
  got_in (y ∷ xs) zero x e = inl (sym (same_some y x e))
  got_in (y ∷ xs) (suc place) x e = inr (got_in xs place x e)

  module _ (leads : List Fixed) (x : PathPattern) (p : Placed) (w : Wanting parameters graph row leads x p) where
    pattern_here : slice_get (nodes_of x) p.1.place ≡ Some (wanted_at p).pattern
    pattern_here = subst (λ y. slice_get (nodes_of y) p.1.place ≡ Some (wanted_at p).pattern) (sym w.pattern) (node_pattern_at p.0.hops p.0.first p.1.place (wanted_at p) w.placed)

    id_here : (k : PathKey) → StepsFit parameters graph row true (lefts p) k.0 k.2 → slice_index_or (trail_by k).nodes p.1.place 0 ≡ k.0
    id_here k f =
        first_node (reverse k.2) p.1.place k.0 (map (λ v. v.1) k.1)
        (length-reverse k.2 ∙ steps_long true (lefts p) k.0 k.2 f ∙ length-reverse (take p.1.place (zip (map (λ h. h.0) p.0.hops) (wanted_nodes p.0))) ∙ lefts_long p.1.place p.0.first p.0.hops (wanted_at p) w.placed)

  -- ---- all anchors

  module _ (g : IsGraph graph) (leads : List Fixed) (IsNodes : List ℕ → Type 0) where
    abbrev AreOthers : List PathPattern → Type 0
    AreOthers xs = (q : List ℕ) → IsNodes q → NoOther q (flat_map path_parts xs)

    abbrev AreNodes : List PathPattern → Type 0
    AreNodes xs = (x : PathPattern) → IsIn x xs → (n : NodePattern) → IsIn n (nodes_of x) → (q : List ℕ) → node_name n ≡ Some q → IsNodes q

    abbrev BothWays : List PathPattern → List Placed → List PathKey → List (List ℕ × ℕ) → Names → Type 0
    BothWays xs ps ks named bound =
        (AllAnchored parameters graph row leads ps named ks → AnchorsHold leads parameters graph bound (map (λ p. p.1) ps) xs (map trail_by ks))
        × (AnchorsHold leads parameters graph bound (map (λ p. p.1) ps) xs (map trail_by ks) → AllAnchored parameters graph row leads ps named ks)

    pub anchors_both : (xs : List PathPattern) (ps : List Placed) (ks : List PathKey) (named : List (List ℕ × ℕ)) (bound : Names) → AllZip (Wanting parameters graph row leads) xs ps → AllTrailsFit parameters graph row ps ks
        → Compatible parameters graph row (names_all ps ks named) → Naming parameters graph row IsNodes named bound → AreOthers xs → AreNodes xs → BothWays xs ps ks named bound
    anchors_both [] [] ks named bound w t c n o is = (λ h. tt, λ h. tt)
    anchors_both [] (p ∷ ps) ks named bound w t c n o is = absurd w
    anchors_both (x ∷ xs) [] ks named bound w t c n o is = absurd w
    anchors_both (x ∷ xs) (p ∷ ps) [] named bound w t c n o is = absurd t
    anchors_both (x ∷ xs) (p ∷ ps) (k ∷ ks) named bound w t c n o is =
        let rest = anchors_both xs ps ks (names_by p k named) (add_path_names (x ∷ []) bound) w.1 t.1 c
        (path_naming parameters graph row IsNodes leads x p k w.0 t.0 (λ q i. all_front (λ y. is_other_named q y ≡ false) (path_parts x) (flat_map path_parts xs) (o q i)) named bound n)
        (λ q i. all_back (λ y. is_other_named q y ≡ false) (path_parts x) (flat_map path_parts xs) (o q i))
        (λ y i. is y (inr i)) in
        (λ h. (λ m got free. forward h.0 m got free, rest.0 h.1), λ h. (backward h.0, rest.1 h.1))
      where
        v : NodeWanted
        v = wanted_at p

        ready : NodeReady parameters graph row v
        ready = all_got (NodeReady parameters graph row) p.1.place (wanted_nodes p.0) v (nodes_ready parameters graph row p.0 w.0.ready) w.0.placed

        one : Compatible parameters graph row (named_by (node_name v.pattern) k.0 ++ named)
        one = first_compatible parameters graph row p k named (names_all_before parameters graph row ps ks (names_by p k named) c)

        here_is : slice_get (nodes_of x) p.1.place ≡ Some v.pattern
        here_is = pattern_here leads x p w.0

        id_is : slice_index_or (trail_by k).nodes p.1.place 0 ≡ k.0
        id_is = id_here leads x p w.0 k t.0.2

        is_node : (q : List ℕ) → node_name v.pattern ≡ Some q → IsNodes q
        is_node q e = is x (inl refl) v.pattern (got_in (nodes_of x) p.1.place v.pattern here_is) q e

        forward : IsIn k.0 (candidates graph parameters leads (bound_row parameters graph row named) p.1 v) → (m : NodePattern) → slice_get (nodes_of x) p.1.place ≡ Some m → is_bound_by bound m ≡ false → HasFixed leads parameters graph p.1 m (slice_index_or (trail_by k).nodes p.1.place 0)
        forward h m got free =
            let same : v.pattern ≡ m = same_some v.pattern m (sym here_is ∙ got) in
            subst (λ i. HasFixed leads parameters graph p.1 m i) (sym id_is)
            (subst (λ y. is_bound_by bound y ≡ false → HasFixed leads parameters graph p.1 y k.0) same (λ f. anchor_holds g leads v ready k.0 t.0.0 IsNodes is_node named bound n one p.1 h f) free)

        backward : ((m : NodePattern) → slice_get (nodes_of x) p.1.place ≡ Some m → is_bound_by bound m ≡ false → HasFixed leads parameters graph p.1 m (slice_index_or (trail_by k).nodes p.1.place 0)) → IsIn k.0 (candidates graph parameters leads (bound_row parameters graph row named) p.1 v)
        backward h = anchor_back g leads v ready k.0 t.0.0 IsNodes is_node named bound n one p.1 w.0.suits (λ free. subst (λ i. HasFixed leads parameters graph p.1 v.pattern i) id_is (h v.pattern here_is free))
