-- The plan that is made of a query is a plan of it.
use Rattle.std.proofs.Common.{◌≡◌, ℕ, Bool, true, cond, ◌||◌, inl, inr, List, [], ◌∷◌, map, flat_map, Option, Some, None, is_some, unwrap_or, bytes_eq, slice_get, position, refl, sym, ap, subst}
use Rattle.std.proofs.lemmas.List.Quantifiers.{position-Some}
use Rattle.std.specs.List.{AllZip}
use Rattle.pg_meaning.specs.Lists.{IsIn}
use Rattle.pg_meaning.specs.Names.{Names, is_among}
use Rattle.pg_meaning.specs.Patterns.{nodes_of, texts_of, add_path_names}
use Rattle.pg_meaning.specs.Plans.{Catalogue, Anchor, Fixed, index_over, anchors_over, plan_over, leading_of, fixed_keys, is_indexed, serving, is_bound_by, is_labelled, anchor_of, anchors_of, clause_plan, plan_from, IndexSuits, IsAnchorOf, ArePlanned, IsPlanFrom}
use Rattle.pg_meaning.specs.Scopes.{scope_after}
use Rattle.pg_meaning.specs.Tree.{NodePattern, PathPattern, Clause, match_paths, unwind, create, merge, set_items, remove_items, delete, with_rows, return_rows}
use Rattle.pg_soundness.proofs.ChargingWalks.{got_below}
use Rattle.pg_soundness.proofs.MatchAnchors.{find_is}
use Rattle.pg_soundness.proofs.MatchBindings.{or_both}
use Rattle.pg_soundness.proofs.MatchLists.{in_either}
use Rattle.pg_soundness.proofs.MatchStates.{text_itself}
use Rattle.pg_soundness.specs.Planning.{PlanOfIsPlan, PlanOfIsWhole}

-- ---- the index that serves a node

pub in_among : (names : Names) (q : List ℕ) → IsIn q names → is_among names q ≡ true
in_among [] q i = absurd i
in_among (n ∷ names) q (inl same) = ap (λ b. b || is_among names q) (subst (λ k. bytes_eq q k ≡ true) same (text_itself q))
in_among (n ∷ names) q (inr later) = or_both (bytes_eq q n) (is_among names q) (in_among names q later)

abbrev Index : Type 0
Index = List ℕ × List ℕ

paired_is : (l : List ℕ) (keys : Names) (i : Index) → IsIn i (map (λ k. (l, k)) keys) → (i.0 ≡ l) × (is_among keys i.1 ≡ true)
paired_is l [] i h = absurd h
paired_is l (k ∷ keys) i (inl same) = (ap (λ z. z.0) same, in_among (k ∷ keys) i.1 (inl (ap (λ z. z.1) same)))
paired_is l (k ∷ keys) i (inr later) = let rest = paired_is l keys i later in (rest.0, or_both (bytes_eq i.1 k) (is_among keys i.1) rest.1)

pairs_are : (labels keys : Names) (i : Index) → IsIn i (flat_map (λ l. map (λ k. (l, k)) keys) labels) → (is_among labels i.0 ≡ true) × (is_among keys i.1 ≡ true)
pairs_are [] keys i h = absurd h
pairs_are (l ∷ labels) keys i h =
    elim (in_either i (map (λ k. (l, k)) keys) (flat_map (λ l. map (λ k. (l, k)) keys) labels) h) [
      | inl j ↦ let one = paired_is l keys i j in (in_among (l ∷ labels) i.0 (inl one.0), one.1)
      | inr j ↦ let rest = pairs_are labels keys i j in (or_both (bytes_eq i.0 l) (is_among labels i.0) rest.0, rest.1)
    ]

module _ (catalogue : Catalogue) (leads : List Fixed) where
  serving_suits : (n : NodePattern) → IndexSuits leads n (serving catalogue leads n)
  serving_suits n = by_found (serving catalogue leads n) refl
    where
      by_found : (o : Option Index) → serving catalogue leads n ≡ o → IndexSuits leads n o
      by_found None e = tt
      by_found (Some i) e = pairs_are (texts_of n.labels) (fixed_keys leads n) i (find_is (is_indexed catalogue) (flat_map (λ l. map (λ k. (l, k)) (fixed_keys leads n)) (texts_of n.labels)) i e).0

  -- ---- one anchor

  abbrev index_of : Option NodePattern → Option Index
  index_of o = elim o as (λ o. Option Index) [ None ↦ None | Some n ↦ serving catalogue leads n ]

  module _ (p : PathPattern) where
    abbrev nodes : List NodePattern
    nodes = nodes_of p

    below : (test : NodePattern → Bool) (i : ℕ) → position test nodes ≡ Some i → (n : NodePattern) × (slice_get nodes i ≡ Some n)
    below test i e = got_below nodes i (position-Some test nodes i p.first e).0

    abbrev placed_at : ℕ → Option Index → Anchor
    placed_at i index = record { place = i; index = index }

    abbrev by_label : Option ℕ → Anchor
    by_label o = placed_at (unwrap_or o 0) None

    label_is : (o : Option ℕ) → position is_labelled nodes ≡ o → IsAnchorOf leads p (by_label o)
    label_is None e = (p.first, refl, tt)
    label_is (Some i) e = let n = below is_labelled i e in (n.0, n.1, tt)

    abbrev is_served : NodePattern → Bool
    is_served n = is_some (serving catalogue leads n)

    abbrev by_index : Option ℕ → Anchor
    by_index o = elim o as (λ o. Anchor) [ None ↦ by_label (position is_labelled nodes) | Some i ↦ placed_at i (index_of (slice_get nodes i)) ]

    index_is : (o : Option ℕ) → position is_served nodes ≡ o → IsAnchorOf leads p (by_index o)
    index_is None e = label_is (position is_labelled nodes) refl
    index_is (Some i) e = let n = below is_served i e in (n.0, n.1, subst (λ o. IndexSuits leads n.0 (index_of o)) (sym n.1) (serving_suits n.0))

    abbrev by_bound : Option ℕ → Anchor
    by_bound o = elim o as (λ o. Anchor) [ None ↦ by_index (position is_served nodes) | Some i ↦ placed_at i None ]

    bound_is : (bound : Names) (o : Option ℕ) → position (is_bound_by bound) nodes ≡ o → IsAnchorOf leads p (by_bound o)
    bound_is bound None e = index_is (position is_served nodes) refl
    bound_is bound (Some i) e = let n = below (is_bound_by bound) i e in (n.0, n.1, tt)

    anchor_is : (bound : Names) → IsAnchorOf leads p (anchor_of p leads bound catalogue)
    anchor_is bound = bound_is bound (position (is_bound_by bound) nodes) refl

  anchors_are : (bound : Names) (ps : List PathPattern) → AllZip (IsAnchorOf leads) ps (anchors_of leads catalogue bound ps)
  anchors_are bound [] = tt
  anchors_are bound (p ∷ ps) = (anchor_is p bound, anchors_are (add_path_names (p ∷ []) bound) ps)

-- ---- a query

clause_planned : (catalogue : Catalogue) (scope : Names) (c : Clause) → ArePlanned scope c (clause_plan catalogue scope c)
clause_planned catalogue scope (match_paths is_optional paths where_) = anchors_are catalogue (leading_of scope paths where_) scope paths
clause_planned catalogue scope (merge path items) = anchors_are catalogue [] scope (path ∷ [])
clause_planned catalogue scope (unwind e n) = refl
clause_planned catalogue scope (create paths) = refl
clause_planned catalogue scope (set_items items) = refl
clause_planned catalogue scope (remove_items items) = refl
clause_planned catalogue scope (delete is_detach es) = refl
clause_planned catalogue scope (with_rows p where_) = refl
clause_planned catalogue scope (return_rows p) = refl

plan_is_from : (catalogue : Catalogue) (scope : Names) (cs : List Clause) → IsPlanFrom scope cs (plan_from catalogue scope cs)
plan_is_from catalogue scope [] = tt
plan_is_from catalogue scope (c ∷ cs) = (clause_planned catalogue scope c, plan_is_from catalogue (scope_after scope c) cs)

pub plan_of_is_plan : PlanOfIsPlan
plan_of_is_plan catalogue q = plan_is_from catalogue [] q.clauses

-- ---- its indexes are there

module _ (catalogue : Catalogue) (leads : List Fixed) where
  abbrev IsThere : Option Index → Type 0
  IsThere o = index_over catalogue o ≡ o

  serving_is_there : (n : NodePattern) → IsThere (serving catalogue leads n)
  serving_is_there n = by_found (serving catalogue leads n) refl
    where
      by_found : (o : Option Index) → serving catalogue leads n ≡ o → IsThere o
      by_found None e = refl
      by_found (Some i) e = ap (λ b. cond b (Some i) None) (find_is (is_indexed catalogue) (flat_map (λ l. map (λ k. (l, k)) (fixed_keys leads n)) (texts_of n.labels)) i e).1

  module _ (p : PathPattern) where
    index_is_there : (o : Option NodePattern) → IsThere (index_of catalogue leads o)
    index_is_there None = refl
    index_is_there (Some n) = serving_is_there n

    served_is_there : (o : Option ℕ) → IsThere (by_index catalogue leads p o).index
    served_is_there None = refl
    served_is_there (Some i) = index_is_there (slice_get (nodes_of p) i)

    anchor_is_there : (o : Option ℕ) → IsThere (by_bound catalogue leads p o).index
    anchor_is_there None = served_is_there (position (is_served catalogue leads p) (nodes_of p))
    anchor_is_there (Some i) = refl

  anchors_are_there : (bound : Names) (ps : List PathPattern) → anchors_over catalogue (anchors_of leads catalogue bound ps) ≡ anchors_of leads catalogue bound ps
  anchors_are_there bound [] = refl
  anchors_are_there bound (p ∷ ps) =
      let same = anchor_is_there p (position (is_bound_by bound) (nodes_of p)) in
      λ i. record { place = (anchor_of p leads bound catalogue).place; index = same i } ∷ anchors_are_there (add_path_names (p ∷ []) bound) ps i

clause_is_whole : (catalogue : Catalogue) (scope : Names) (c : Clause) → anchors_over catalogue (clause_plan catalogue scope c) ≡ clause_plan catalogue scope c
clause_is_whole catalogue scope (match_paths is_optional paths where_) = anchors_are_there catalogue (leading_of scope paths where_) scope paths
clause_is_whole catalogue scope (merge path items) = anchors_are_there catalogue [] scope (path ∷ [])
clause_is_whole catalogue scope (unwind e n) = refl
clause_is_whole catalogue scope (create paths) = refl
clause_is_whole catalogue scope (set_items items) = refl
clause_is_whole catalogue scope (remove_items items) = refl
clause_is_whole catalogue scope (delete is_detach es) = refl
clause_is_whole catalogue scope (with_rows p where_) = refl
clause_is_whole catalogue scope (return_rows p) = refl

whole_from : (catalogue : Catalogue) (scope : Names) (cs : List Clause) → plan_over catalogue (plan_from catalogue scope cs) ≡ plan_from catalogue scope cs
whole_from catalogue scope [] = refl
whole_from catalogue scope (c ∷ cs) = λ i. clause_is_whole catalogue scope c i ∷ whole_from catalogue (scope_after scope c) cs i

pub plan_of_is_whole : PlanOfIsWhole
plan_of_is_whole catalogue q = whole_from catalogue [] q.clauses
