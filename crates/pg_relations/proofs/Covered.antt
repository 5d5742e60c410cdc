-- As many ids as there are in a range, each once and all within it, are all of it.
use Rattle.std.proofs.Common.{◌≡◌, ◌≢◌, ℕ, zero, suc, ◌+◌, ◌<◌, ◌≤◌, ◌⊎◌, inl, inr, List, [], ◌∷◌, length, refl, sym, ap, subst, arith}
use Rattle.std.proofs.lemmas.Bool.{cases_eq}
use Rattle.std.specs.List.{AllByRecursion}
use Rattle.pg_meaning.specs.Lists.{IsIn, AllPairsByRecursion}
use Rattle.pg_meaning.specs.ListsLaws.{all_at}
use Rattle.pg_relations.proofs.Counted.{no_more}

range : ℕ → ℕ → List ℕ
range a zero = []
range a (suc k) = a ∷ range (suc a) k

range_long : (a k : ℕ) → length (range a k) ≡ k
unfolding range
range_long a zero = refl
range_long a (suc k) = ap suc (range_long (suc a) k)

in_range : (a k n : ℕ) → a ≤ n → n < a + k → IsIn n (range a k)
unfolding range
in_range a zero n h l = absurd (none a n h l)
  where
    none : (a n : ℕ) → a ≤ n → n < a + 0 → ⊥
    none a n h l = omega (arith, h, l)
in_range a (suc k) n h l = by_case (cases_eq n a) (in_range (suc a) k n)
  where
    past : (a n : ℕ) → a ≤ n → (n ≡ a → ⊥) → suc a ≤ n
    past a n h d = omega (arith, h, d)

    within : (a k n : ℕ) → n < a + suc k → n < suc a + k
    within a k n l = omega (arith, l)

    by_case : (n ≡ a) ⊎ (n ≡ a → ⊥) → (suc a ≤ n → n < suc a + k → IsIn n (range (suc a) k)) → IsIn n (a ∷ range (suc a) k)
    by_case (inl e) rest = inl e
    by_case (inr d) rest = inr (rest (past a n h d) (within a k n l))

in_or_apart : (n : ℕ) (ns : List ℕ) → IsIn n ns ⊎ AllByRecursion (λ m. n ≢ m) ns
in_or_apart n [] = inr tt
in_or_apart n (m ∷ ms) = by_case (cases_eq n m) (in_or_apart n ms)
  where
    by_case : (n ≡ m) ⊎ (n ≡ m → ⊥) → IsIn n ms ⊎ AllByRecursion (λ m. n ≢ m) ms → IsIn n (m ∷ ms) ⊎ AllByRecursion (λ m. n ≢ m) (m ∷ ms)
    by_case (inl e) rest = inl (inl e)
    by_case (inr d) (inl i) = inl (inr i)
    by_case (inr d) (inr h) = inr (d, h)

pub covered : (a : ℕ) (ns : List ℕ) → AllPairsByRecursion (λ m n. m ≢ n) ns → AllByRecursion (λ m. (a ≤ m) × (m < a + length ns)) ns → (n : ℕ) → a ≤ n → n < a + length ns → IsIn n ns
covered a ns once within n h l = by_case (in_or_apart n ns)
  where
    into : (z : ℕ) → IsIn z (n ∷ ns) → IsIn z (range a (length ns))
    into z (inl e) = subst (λ m. IsIn m (range a (length ns))) (sym e) (in_range a (length ns) n h l)
    into z (inr i) = let b = all_at (λ m. (a ≤ m) × (m < a + length ns)) z ns within i in in_range a (length ns) z b.0 b.1

    more : (k r : ℕ) → suc k ≤ r → r ≡ k → ⊥
    more k r p e = omega (arith, p, e)

    by_case : IsIn n ns ⊎ AllByRecursion (λ m. n ≢ m) ns → IsIn n ns
    by_case (inl i) = i
    by_case (inr d) = absurd (more (length ns) (length (range a (length ns))) (no_more (n ∷ ns) (range a (length ns)) (d, once) into) (range_long a (length ns)))
