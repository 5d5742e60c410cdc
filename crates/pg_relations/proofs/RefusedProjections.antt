-- What no WITH or RETURN gives.
use Rattle.std.proofs.Common.{◌≡◌, ◌≢◌, ℕ, ◌==◌, inl, inr, map, Option, Some, None, cond, Bool, true, false, List, [], ◌∷◌, Result, Ok, Err, pos, refl, sym, ap, subst, ◌∙◌, arith}
use Rattle.std.proofs.lemmas.List.Sorted.{IsPermutation-sym, length_permutation}
use Rattle.std.specs.List.{AllZip}
use Rattle.std.specs.declared.cmp.Ordering.TheVariants.{Greater}
use Rattle.pg_meaning.specs.AnswerLaws.{same_ok}
use Rattle.pg_meaning.specs.ExamplesOfFits.{not_true, pair_graph}
use Rattle.pg_meaning.specs.ExampleTrees.{number}
use Rattle.pg_meaning.specs.ExamplesOfSteps.{within, one, row_a, column_a}
use Rattle.pg_meaning.specs.Graph.{Graph, empty_graph}
use Rattle.pg_meaning.specs.Lists.{IsIn, AllPairsByRecursion}
use Rattle.pg_meaning.specs.Meaning.{Passing, Projects, ProjectFaults}
use Rattle.pg_meaning.specs.Projections.{Projected, projected, skipped, limited, keys_order}
use Rattle.pg_meaning.specs.Rows.{Row}
use Rattle.pg_meaning.specs.Value.{Value, integer, no_entries}
use Rattle.pg_meaning.specs.declared.fault.Fault.{Fault}
use Rattle.pg_meaning.specs.declared.fault.Fault.TheVariants.{DivisionByZero}
use Rattle.pg_relations.proofs.Lists.{in_moved}
use Rattle.pg_relations.proofs.ProjectedItems.{no_plain_fault, no_aggregate}
use Rattle.pg_relations.specs.RefusedSteps.{of, rising_a, key, one_cut, faulty, RefusedParts, RefusedProjections}

falling : (keys : List (List Value)) → ◌≡◌ {A = Result (List (List Value)) Fault} (Ok (key 2 ∷ key 1 ∷ [])) (Ok keys) → AllPairsByRecursion (λ k l. keys_order rising_a k l ≢ Greater) keys → ⊥
falling keys e h = (subst (λ ks. AllPairsByRecursion (λ k l. keys_order rising_a k l ≢ Greater) ks) (sym (same_ok (key 2 ∷ key 1 ∷ []) keys e)) h).0.0 refl

not_passing : (b : Bool) (others : List Projected) → ◌≡◌ {A = Result Bool Fault} (Ok false) (Ok b) → others ≡ [] → of 1 ∷ [] ≡ cond b (of 1 ∷ others) others → ⊥
not_passing true others e o h = not_true (same_ok false true e)
not_passing false others e o h = some_row (h ∙ o)
  where
    some_row : of 1 ∷ [] ≡ [] → ⊥
    some_row e = cc

pub emptied : empty_graph ≡ pair_graph → ⊥
emptied e = none_is_two (ap (λ (g : Graph). g.next_node) e)
  where
    none_is_two : ◌≡◌ {A = ℕ} 0 2 → ⊥
    none_is_two h = omega arith

-- a list of one value, as its number
abbrev first_is : ℕ → List Value → Bool
first_is n [] = false
first_is n (integer (pos m) ∷ vs) = m == n
first_is n (v ∷ vs) = false

abbrev row_is : ℕ → Row → Bool
row_is n [] = false
row_is n (b ∷ bs) = first_is n (b.1 ∷ [])

not_two : IsIn (of 2) (of 1 ∷ []) → ⊥
not_two (inl e) = not_true (ap (λ (p : Projected). row_is 1 p.columns) e)
not_two (inr i) = absurd i

not_key_two : (row : Row) → IsIn {X = List Value × Row} (key 2, row) ((key 1, row_a (integer (pos 1))) ∷ []) → ⊥
not_key_two row (inl e) = not_true (ap (λ (k : List Value × Row). first_is 1 k.0) e)
not_key_two row (inr i) = absurd i

no_row : {X : Type 0} (x : X) (xs : List X) → [] ≡ x ∷ xs → ⊥
no_row x xs e = cc

no_length : ◌≡◌ {A = ℕ} 0 1 → ⊥
no_length e = omega arith

left_out : (b : Bool) (others : List Projected) → ◌≡◌ {A = Result Bool Fault} (Ok true) (Ok b) → [] ≡ cond b (of 1 ∷ others) others → ⊥
left_out true others e h = no_row _ _ h
left_out false others e h = not_true (sym (same_ok true false e))

faulty_row : (passing : List Projected) → Passing (within []) empty_graph (Some faulty) (of 1 ∷ []) passing → ⊥
faulty_row passing p = fault_is p.0 p.2
  where
    fault_is : (b : Bool) → ◌≡◌ {A = Result Bool Fault} (Err DivisionByZero) (Ok b) → ⊥
    fault_is b e = cc

-- of one row nothing stands behind the first, nor before it
all_cut : (skip limit : Option ℕ) (sorted passing : List Projected) → (limited limit (skipped skip sorted) ≡ []) → Passing (within []) empty_graph None (limited limit (skipped skip sorted)) passing → row_a one ∷ [] ≡ map (λ (r : Projected). r.columns) passing → ⊥
all_cut skip limit sorted passing none p e = no_row (row_a one) [] (sym (e ∙ ap (map (λ (r : Projected). r.columns)) (subst (λ ps. Passing (within []) empty_graph None ps passing) none p)))

one_made : (made : List Projected) → AllZip (λ row r. projected no_entries empty_graph false (column_a ∷ []) row ≡ Ok r) ([] ∷ []) made → (r : Projected) × (made ≡ r ∷ [])
one_made [] z = absurd z
one_made (r ∷ []) z = (r, refl)
one_made (r ∷ q ∷ rs) z = absurd z.1

none_past_skip : Projects (within []) empty_graph (column_a ∷ []) (one_cut (Some (number 1)) None) None ([] ∷ []) (row_a one ∷ []) → ⊥
none_past_skip h =
    let made = one_made h.made h.items in
    let sorted = h.order ∙ h.distinct ∙ made.1 in
    all_cut h.skip h.limit h.sorted h.passing
    (λ i. limited (sym (same_ok None h.limit h.limit_given) i) (skipped (sym (same_ok (Some 1) h.skip h.skip_given) i) (sorted i)))
    h.condition h.shown

none_past_limit : Projects (within []) empty_graph (column_a ∷ []) (one_cut None (Some (number 0))) None ([] ∷ []) (row_a one ∷ []) → ⊥
none_past_limit h =
    all_cut h.skip h.limit h.sorted h.passing (λ i. limited (sym (same_ok (Some 0) h.limit h.limit_given) i) (skipped h.skip h.sorted)) h.condition h.shown

none_tested : (f : Fault) → ProjectFaults (within []) empty_graph (column_a ∷ []) (one_cut None (Some (number 0))) (Some faulty) ([] ∷ []) f → ⊥
none_tested f (inl x) = fine x
  where
    fine : ◌≡◌ {A = Result (Option ℕ) Fault} (Ok None) (Err f) → ⊥
    fine e = cc
none_tested f (inr (inl x)) = fine x
  where
    fine : ◌≡◌ {A = Result (Option ℕ) Fault} (Ok (Some 0)) (Err f) → ⊥
    fine e = cc
none_tested f (inr (inr (inl x))) = no_plain_fault (within []) empty_graph (column_a ∷ []) false ([] ∷ []) (record { columns = row_a one; earlier = [] } ∷ []) f refl (refl, tt) x
none_tested f (inr (inr (inr (inl x)))) = no_aggregate (within []) empty_graph (column_a ∷ []) ([] ∷ []) f refl x
none_tested f (inr (inr (inr (inr (inl (made, kept, r, items, distinct, i, x)))))) = fine x
  where
    fine : ◌≡◌ {A = Result (List Value) Fault} (Ok []) (Err f) → ⊥
    fine e = cc
none_tested f (inr (inr (inr (inr (inr (skip, limit, made, kept, sorted, r, skip_is, limit_is, items, distinct, order, i, x)))))) =
    absurd (subst (λ k. IsIn r (limited k (skipped skip sorted))) (sym (same_ok (Some 0) limit limit_is)) i)

refused_parts : RefusedParts
refused_parts = (
  (λ a. no_length (length_permutation _ _ a.same)),
  (λ a. not_two (in_moved (of 2 ∷ []) (of 1 ∷ []) (of 2) (IsPermutation-sym (of 1 ∷ []) (of 2 ∷ []) a.same) (inl refl))),
  (λ o. not_two o.from.1.0),
  (λ g. not_key_two g.0.1.0.0 g.0.1.0.1),
  (λ g. no_row _ _ g),
  (λ p. left_out p.0 p.1 p.2 p.4),
  faulty_row,
  (λ s. none_past_skip s.1),
  (λ s. none_past_limit s.1),
  none_tested,
)

pub refused_projections : RefusedProjections
refused_projections = (
  (λ a. falling a.keys a.evaluated a.rising),
  (λ o. not_true (sym o.once.0.0)),
  (λ o. absurd o.each.0.1),
  (λ g. not_true (sym g.2.0.0)),
  (λ g. not_true g.1.0),
  (λ p. not_passing p.0 p.1 p.2 p.3 p.4),
  (λ results s. emptied s.0),
  refused_parts,
)
