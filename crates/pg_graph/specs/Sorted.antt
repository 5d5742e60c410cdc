-- Lists that rise by a number of each item, which no two share.
use Rattle.std.specs.Prelude.{◌≡◌, ◌==◌, ◌<◌, ◌≤◌, ℕ, List, [], ◌∷◌, cond, length, Result, MatchResult}
use Rattle.std.specs.List.{AllByRecursion, HoldsAt}
use Rattle.std.specs.List.Sorted.{IsPartitionPoint}
use Rattle.std.specs.Ordering.{nat_cmp, match_ordering}
use Rattle.std.specs.declared.cmp.Ordering.TheVariants.{Less, Equal, Greater}

module _ {A : Type 0} (number : A → ℕ) where
  abbrev pub Rises : List A → Type 0
  Rises [] = Unit {0}
  Rises (x ∷ xs) = AllByRecursion (λ y. number x < number y) xs × Rises xs

  -- the item at its place, in the place of one with its number
  abbrev pub with_element : A → List A → List A
  with_element a [] = a ∷ []
  with_element a (x ∷ xs) = match_ordering (nat_cmp (number a) (number x)) (a ∷ x ∷ xs) (a ∷ xs) (x ∷ with_element a xs)

  -- the list without the item of this number
  abbrev pub without : ℕ → List A → List A
  without k [] = []
  without k (x ∷ xs) = cond (number x == k) xs (x ∷ without k xs)

  -- where the item of number k stands in a rising list, or belongs
  abbrev pub IsPlace : ℕ → List A → Result ℕ ℕ → Type 0
  IsPlace k xs found =
      MatchResult found
      (λ i. (i < length xs) × HoldsAt (λ y. nat_cmp (number y) k ≡ Equal) xs i)
      (λ i. (i ≤ length xs) × IsPartitionPoint (λ y. nat_cmp (number y) k ≡ Less) (λ y. nat_cmp (number y) k ≡ Greater) xs i)
