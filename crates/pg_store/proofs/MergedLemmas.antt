-- The ids of the entries that pass one of two tests are the merged ids of those that pass each.
use Rattle.std.proofs.Common.{◌≡◌, ◌<◌, ℕ, Bool, true, false, ◌||◌, cond, T, List, [], ◌∷◌, map as map_list, filter, refl, sym, ap, ◌∙◌}
use Rattle.std.specs.FinMap as map
use Rattle.std.specs.FinMap.{FinMap, is_sorted}
use Rattle.std.specs.FinMap.Entries.{below_all}
use Rattle.std.specs.List.{AllByRecursion}
use Rattle.std.specs.Ordering.{nat_cmp, match_ordering}
use Rattle.pg_graph.proofs.Ids.{ids_in}
use Rattle.pg_graph.proofs.Refined.{left, right, is_less}
use Rattle.pg_graph.proofs.SortedLists.{below, above, level}
use Rattle.pg_graph.specs.Content.{ids_where}
use Rattle.pg_store.specs.Merged.{merged, merged_from}

pub merged_none : (xs : List ℕ) → merged xs [] ≡ xs
merged_none [] = refl
merged_none (x ∷ xs) = ap (λ ys. x ∷ ys) (merged_none xs)

-- what is below all of both goes first
first : (k : ℕ) (xs ys : List ℕ) → AllByRecursion (λ n. k < n) ys → merged (k ∷ xs) ys ≡ k ∷ merged xs ys
first k xs [] all = refl
first k xs (y ∷ ys) all = ap (λ o. match_ordering o (k ∷ merged xs (y ∷ ys)) (k ∷ merged xs ys) (y ∷ merged_from k (merged xs) ys)) (below k y all.0)

second : (k : ℕ) (xs ys : List ℕ) → AllByRecursion (λ n. k < n) xs → merged xs (k ∷ ys) ≡ k ∷ merged xs ys
second k [] ys all = refl
second k (x ∷ xs) ys all = ap (λ o. match_ordering o (x ∷ merged xs (k ∷ ys)) (x ∷ merged xs ys) (k ∷ merged_from x (merged xs) ys)) (above x k all.0)

in_both : (k : ℕ) (xs ys : List ℕ) → merged (k ∷ xs) (k ∷ ys) ≡ k ∷ merged xs ys
in_both k xs ys = ap (λ o. match_ordering o (k ∷ merged xs (k ∷ ys)) (k ∷ merged xs ys) (k ∷ merged_from k (merged xs) ys)) (level k k refl)

by_tests : (k : ℕ) (xs ys : List ℕ) → AllByRecursion (λ n. k < n) xs → AllByRecursion (λ n. k < n) ys → (a b : Bool)
    → merged (cond a (k ∷ xs) xs) (cond b (k ∷ ys) ys) ≡ cond (a || b) (k ∷ merged xs ys) (merged xs ys)
by_tests k xs ys above_xs above_ys true true = in_both k xs ys
by_tests k xs ys above_xs above_ys true false = first k xs ys above_ys
by_tests k xs ys above_xs above_ys false true = second k xs ys above_xs
by_tests k xs ys above_xs above_ys false false = refl

module _ {X : Type 0} where
  later : (p : X → Bool) (k : ℕ) (es : List (ℕ × X)) → T (below_all nat_cmp k es) → AllByRecursion (λ n. k < n) (ids_in p es)
  later p k [] h = tt
  later p k (e ∷ es) h = chosen (p e.1) (later p k es (right _ _ h))
    where
      chosen : (b : Bool) → AllByRecursion (λ n. k < n) (ids_in p es) → AllByRecursion (λ n. k < n) (map_list {B = ℕ} (λ (e : ℕ × X). e.0) (cond b (e ∷ filter (λ e. p e.1) es) (filter (λ e. p e.1) es)))
      chosen true rest = (is_less k e.0 (left _ _ h), rest)
      chosen false rest = rest

  one_more : (p : X → Bool) (e : ℕ × X) (es : List (ℕ × X)) → ids_in p (e ∷ es) ≡ cond (p e.1) (e.0 ∷ ids_in p es) (ids_in p es)
  one_more p e es = by_test (p e.1)
    where
      by_test : (b : Bool) → map_list {B = ℕ} (λ (e : ℕ × X). e.0) (cond b (e ∷ filter (λ e. p e.1) es) (filter (λ e. p e.1) es)) ≡ cond b (e.0 ∷ ids_in p es) (ids_in p es)
      by_test true = refl
      by_test false = refl

  merged_in : (p q : X → Bool) (es : List (ℕ × X)) → T (is_sorted nat_cmp es) → merged (ids_in p es) (ids_in q es) ≡ ids_in (λ x. p x || q x) es
  merged_in p q [] s = refl
  merged_in p q (e ∷ es) s =
      (λ i. merged (one_more p e es i) (one_more q e es i))
      ∙ by_tests e.0 (ids_in p es) (ids_in q es) (later p e.0 es (left _ _ s)) (later q e.0 es (left _ _ s)) (p e.1) (q e.1)
      ∙ ap (λ ns. cond (p e.1 || q e.1) (e.0 ∷ ns) ns) (merged_in p q es (right _ _ s))
      ∙ sym (one_more (λ x. p x || q x) e es)

  pub merged_where : (p q : X → Bool) (m : FinMap nat_cmp X) → merged (ids_where p m) (ids_where q m) ≡ ids_where (λ x. p x || q x) m
  merged_where p q m = merged_in p q (map.entries m) (map.entries_sorted m)
