-- Words on lists: what stands at a place of one list, and at the same place of another.
use Rattle.std.proofs.Common.{◌≡◌, Bool, true, false, ◌||◌, inl, inr, List, [], ◌∷◌, map, Result, Ok, refl, sym, subst}
use Rattle.std.proofs.lemmas.List.Elements.{All-from_recursion, recursion_from_All}
use Rattle.std.proofs.lemmas.List.Sorted.{All-permutation, IsPermutation-sym}
use Rattle.std.specs.List.{AllZip, list_any}
use Rattle.std.specs.List.Sorted.{IsPermutation}
use Rattle.pg_meaning.specs.Answer.{each_answer}
use Rattle.pg_meaning.specs.AnswerLaws.{answers_zip}
use Rattle.pg_meaning.specs.Lists.{IsIn}
use Rattle.pg_meaning.specs.ListsLaws.{all_at, all_in_themselves}
use Rattle.pg_meaning.specs.declared.fault.Fault.{Fault}

module _ {X Y : Type 0} (R : X → Y → Type 0) where
  pub zipped_at : (x : X) (xs : List X) (ys : List Y) → AllZip R xs ys → IsIn x xs → (y : Y) × IsIn y ys × R x y
  zipped_at x [] ys z i = absurd i
  zipped_at x (w ∷ xs) [] z i = absurd z
  zipped_at x (w ∷ xs) (y ∷ ys) z (inl e) = (y, inl refl, subst (λ v. R v y) (sym e) z.0)
  zipped_at x (w ∷ xs) (y ∷ ys) z (inr i) = let h = zipped_at x xs ys z.1 i in (h.0, inr h.1, h.2)

  pub zipped_back : (y : Y) (xs : List X) (ys : List Y) → AllZip R xs ys → IsIn y ys → (x : X) × IsIn x xs × R x y
  zipped_back y xs [] z i = absurd i
  zipped_back y [] (w ∷ ys) z i = absurd z
  zipped_back y (x ∷ xs) (w ∷ ys) z (inl e) = (x, inl refl, subst (R x) (sym e) z.0)
  zipped_back y (x ∷ xs) (w ∷ ys) z (inr i) = let h = zipped_back y xs ys z.1 i in (h.0, inr h.1, h.2)

  pub zipped_map : (f : X → Y) → ((x : X) (y : Y) → R x y → y ≡ f x) → (xs : List X) (ys : List Y) → AllZip R xs ys → ys ≡ map f xs
  zipped_map f is [] [] z = refl
  zipped_map f is [] (y ∷ ys) z = absurd z
  zipped_map f is (x ∷ xs) [] z = absurd z
  zipped_map f is (x ∷ xs) (y ∷ ys) z =
      let first = is x y z.0 in
      let rest = zipped_map f is xs ys z.1 in
      λ i. first i ∷ rest i

pub answered_at : {X Y : Type 0} (f : X → Result Y Fault) (x : X) (xs : List X) (ys : List Y) → each_answer f xs ≡ Ok ys → IsIn x xs → (y : Y) × IsIn y ys × (f x ≡ Ok y)
answered_at f x xs ys e i = zipped_at (λ x y. f x ≡ Ok y) x xs ys (answers_zip f xs ys e) i

pub any_at : {X : Type 0} (test : X → Bool) (xs : List X) → list_any test xs ≡ true → (x : X) × IsIn x xs × (test x ≡ true)
any_at test [] e = cc
any_at {X} test (x ∷ xs) e = by_first (test x) refl e (any_at test xs)
  where
    by_first : (b : Bool) → test x ≡ b → (b || list_any test xs) ≡ true → (list_any test xs ≡ true → (y : X) × IsIn y xs × (test y ≡ true)) → (y : X) × IsIn y (x ∷ xs) × (test y ≡ true)
    by_first true t h rest = (x, inl refl, t)
    by_first false t h rest = let later = rest h in (later.0, inr later.1, later.2)

pub in_moved : {X : Type 0} (xs ys : List X) (x : X) → IsPermutation xs ys → IsIn x xs → IsIn x ys
in_moved xs ys x s i = all_at (λ z. IsIn z ys) x xs (recursion_from_All (λ z. IsIn z ys) xs (All-permutation (λ z. IsIn z ys) ys xs (IsPermutation-sym xs ys s) (All-from_recursion (λ z. IsIn z ys) ys (all_in_themselves ys)))) i
