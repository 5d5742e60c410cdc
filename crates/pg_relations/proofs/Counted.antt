-- Ids of which each stands among others are no more than these, so a graph grows by what is made in it.
use Rattle.std.proofs.Common.{◌≡◌, ◌≢◌, ℕ, suc, ◌+◌, ◌<◌, ◌≤◌, inl, inr, List, [], ◌∷◌, ◌++◌, map, length, Some, refl, sym, ap, subst, ◌∙◌, arith}
use Rattle.std.proofs.lemmas.List.{length-append, length-map}
use Rattle.std.specs.FinMap.Entries as by_id
use Rattle.std.specs.List.{AllByRecursion}
use Rattle.std.specs.Ordering.{nat_cmp}
use Rattle.std.specs.Prelude.{IsTrue}
use Rattle.pg_soundness.proofs.ChangesRemoval.{is_found}
use Rattle.pg_soundness.proofs.MatchLists.{in_either, pairs_joined}
use Rattle.pg_soundness.proofs.MatchParts.{entries_apart, ids_apart, found_in}
use Rattle.pg_meaning.specs.Graph.{ids_of}
use Rattle.pg_meaning.specs.Lists.{IsIn, AllPairsByRecursion}
use Rattle.pg_meaning.specs.ListsLaws.{all_at, in_mapped}
use Rattle.pg_relations.proofs.Moved.{without, in_without}

module _ {X : Type 0} where
  one_less : (x : X) (ys : List X) (i : IsIn x ys) → length ys ≡ suc (length (without x ys i))
  one_less x [] i = absurd i
  one_less x (y ∷ ys) (inl e) = refl
  one_less x (y ∷ ys) (inr i) = ap suc (one_less x ys i)

  pub no_more : (xs ys : List X) → AllPairsByRecursion (λ x y. x ≢ y) xs → ((z : X) → IsIn z xs → IsIn z ys) → length xs ≤ length ys
  no_more [] ys h into = none (length ys)
    where
      none : (n : ℕ) → 0 ≤ n
      none n = omega arith
  no_more (x ∷ xs) ys h into =
      let i = into x (inl refl) in
      one_more (length xs) (length (without x ys i)) (length ys) (no_more xs (without x ys i) h.1 (λ z j. in_without x z ys i (all_at (λ z. x ≢ z) z xs h.0 j) (into z (inr j)))) (one_less x ys i)
    where
      one_more : (m n k : ℕ) → m ≤ n → k ≡ suc n → suc m ≤ k
      one_more m n k a b = omega (arith, a, b)

pub of_mapped : {X Y : Type 0} (f : X → Y) (y : Y) (xs : List X) → IsIn y (map f xs) → (x : X) × IsIn x xs × (y ≡ f x)
of_mapped f y [] i = absurd i
of_mapped f y (x ∷ xs) (inl e) = (x, inl refl, e)
of_mapped f y (x ∷ xs) (inr i) = let later = of_mapped f y xs i in (later.0, inr later.1, later.2)

module _ {X : Type 0} (before after : List (ℕ × X)) (next : ℕ) (new : List ℕ) where
  -- what was there stays, and each new id is past the old ones
  pub grown : IsTrue (by_id.is_sorted nat_cmp before) → AllByRecursion (λ (e : ℕ × X). e.0 < next) before
      → ((n : ℕ) → n < next → by_id.find nat_cmp n after ≡ by_id.find nat_cmp n before)
      → AllPairsByRecursion (λ x y. x ≢ y) new → ((n : ℕ) → IsIn n new → (next ≤ n) × ((x : X) × (by_id.find nat_cmp n after ≡ Some x)))
      → length before + length new ≤ length after
  grown rise below kept once there =
      counted (length before) (length new) (length after) (length (ids_of before)) (length (ids_of after)) (length (ids_of before ++ new))
      (length-map before (λ e. e.0)) (length-map after (λ e. e.0)) (length-append (ids_of before) new)
      (no_more (ids_of before ++ new) (ids_of after) (pairs_joined (λ x y. x ≢ y) (ids_of before) new (ids_apart before (entries_apart before rise)) once across) into)
    where
      old : (n : ℕ) → IsIn n (ids_of before) → (n < next) × ((x : X) × (by_id.find nat_cmp n after ≡ Some x))
      old n i =
          let e = of_mapped (λ (e : ℕ × X). e.0) n before i in
          let lt = all_at (λ (e : ℕ × X). e.0 < next) e.0 before below e.1 in
          (subst (λ m. m < next) (sym e.2) lt, (e.0.1, subst (λ m. by_id.find nat_cmp m after ≡ Some e.0.1) (sym e.2) (kept e.0.0 lt ∙ is_found before e.0 rise e.1)))

      across : (x y : ℕ) → IsIn x (ids_of before) → IsIn y new → x ≢ y
      across x y i j e = apart x y (old x i).0 (there y j).0 e
        where
          apart : (x y : ℕ) → x < next → next ≤ y → x ≡ y → ⊥
          apart x y a b e = omega (arith, a, b, e)

      among : (n : ℕ) → (x : X) × (by_id.find nat_cmp n after ≡ Some x) → IsIn n (ids_of after)
      among n h = in_mapped (λ (e : ℕ × X). e.0) (n, h.0) after (found_in n h.0 after h.1)

      into : (z : ℕ) → IsIn z (ids_of before ++ new) → IsIn z (ids_of after)
      into z i = elim (in_either z (ids_of before) new i) [ inl j ↦ among z (old z j).1 | inr j ↦ among z (there z j).1 ]

      counted : (b n a p q r : ℕ) → p ≡ b → q ≡ a → r ≡ p + n → r ≤ q → b + n ≤ a
      counted b n a p q r d e f h = omega (arith, d, e, f, h)
