-- Lists of the same elements, each once, are one list in some order.
use Rattle.std.proofs.Common.{◌≢◌, inl, inr, List, [], ◌∷◌, refl, sym, subst, ◌∙◌}
use Rattle.std.proofs.lemmas.List.Sorted.{IsPermutation-refl, IsPermutation-trans, IsPermutation-sym, IsPermutation-cons, IsPermutation-middle}
use Rattle.std.specs.List.{AllByRecursion}
use Rattle.std.specs.List.Sorted.{IsPermutation}
use Rattle.pg_meaning.specs.Lists.{IsIn, AllPairsByRecursion}
use Rattle.pg_meaning.specs.ListsLaws.{all_at}

module _ {X : Type 0} where
  -- the list without the element at that place
  abbrev pub without : (x : X) (ys : List X) → IsIn x ys → List X
  without x [] i = []
  without x (y ∷ ys) (inl e) = ys
  without x (y ∷ ys) (inr i) = y ∷ without x ys i

  to_front : (x : X) (ys : List X) (i : IsIn x ys) → IsPermutation ys (x ∷ without x ys i)
  to_front x [] i = absurd i
  to_front x (y ∷ ys) (inl e) = subst (λ z. IsPermutation (y ∷ ys) (z ∷ ys)) (sym e) (IsPermutation-refl (y ∷ ys))
  to_front x (y ∷ ys) (inr i) =
      IsPermutation-trans (y ∷ ys) (y ∷ x ∷ without x ys i) (x ∷ y ∷ without x ys i) (IsPermutation-cons y ys (x ∷ without x ys i) (to_front x ys i)) (IsPermutation-middle (y ∷ []) x (without x ys i))

  all_without : (P : X → Type 0) (x : X) (ys : List X) (i : IsIn x ys) → AllByRecursion P ys → AllByRecursion P (without x ys i)
  all_without P x [] i h = tt
  all_without P x (y ∷ ys) (inl e) h = h.1
  all_without P x (y ∷ ys) (inr i) h = (h.0, all_without P x ys i h.1)

  abbrev Once : List X → Type 0
  Once xs = AllPairsByRecursion (λ x y. x ≢ y) xs

  pub once_without : (x : X) (ys : List X) (i : IsIn x ys) → Once ys → Once (without x ys i)
  once_without x [] i h = tt
  once_without x (y ∷ ys) (inl e) h = h.1
  once_without x (y ∷ ys) (inr i) h = (all_without (λ z. y ≢ z) x ys i h.0, once_without x ys i h.1)

  pub apart_without : (x : X) (ys : List X) (i : IsIn x ys) → Once ys → AllByRecursion (λ z. x ≢ z) (without x ys i)
  apart_without x [] i h = tt
  apart_without x (y ∷ ys) (inl e) h = subst (λ w. AllByRecursion (λ z. w ≢ z) ys) (sym e) h.0
  apart_without x (y ∷ ys) (inr i) h = ((λ e. all_at (λ z. y ≢ z) x ys h.0 i (sym e)), apart_without x ys i h.1)

  pub in_without : (x z : X) (ys : List X) (i : IsIn x ys) → x ≢ z → IsIn z ys → IsIn z (without x ys i)
  in_without x z [] i apart j = absurd j
  in_without x z (y ∷ ys) (inl e) apart (inl f) = absurd (apart (e ∙ sym f))
  in_without x z (y ∷ ys) (inl e) apart (inr j) = j
  in_without x z (y ∷ ys) (inr i) apart (inl f) = inl f
  in_without x z (y ∷ ys) (inr i) apart (inr j) = inr (in_without x z ys i apart j)

  of_without : (x z : X) (ys : List X) (i : IsIn x ys) → IsIn z (without x ys i) → IsIn z ys
  of_without x z [] i j = absurd j
  of_without x z (y ∷ ys) (inl e) j = inr j
  of_without x z (y ∷ ys) (inr i) (inl f) = inl f
  of_without x z (y ∷ ys) (inr i) (inr j) = inr (of_without x z ys i j)

  pub once_moved : (xs ys : List X) → Once xs → Once ys → ((z : X) → IsIn z xs → IsIn z ys) → ((z : X) → IsIn z ys → IsIn z xs) → IsPermutation xs ys
  once_moved [] [] h k into back = IsPermutation-refl []
  once_moved [] (y ∷ ys) h k into back = absurd (back y (inl refl))
  once_moved (x ∷ xs) ys h k into back =
      let i = into x (inl refl) in
      IsPermutation-trans (x ∷ xs) (x ∷ without x ys i) ys
      (IsPermutation-cons x xs (without x ys i)
      (once_moved xs (without x ys i) h.1 (once_without x ys i k)
      (λ z j. in_without x z ys i (all_at (λ z. x ≢ z) z xs h.0 j) (into z (inr j)))
      (λ z j. later z (all_at (λ z. x ≢ z) z (without x ys i) (apart_without x ys i k) j) (back z (of_without x z ys i j)))))
      (IsPermutation-sym ys (x ∷ without x ys i) (to_front x ys i))
    where
      later : (z : X) → x ≢ z → IsIn z (x ∷ xs) → IsIn z xs
      later z apart (inl e) = absurd (apart (sym e))
      later z apart (inr j) = j
