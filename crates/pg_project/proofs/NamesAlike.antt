-- Names that are the same one after the other.
use Rattle.std.proofs.Common.{◌≡◌, ℕ, zero, suc, ◌+◌, Bool, true, false, not, List, [], ◌∷◌, take, Some, slice_get, refl, sym, ap, ◌∙◌, true≢false, arith}
use Rattle.std.proofs.lemmas.Slice.Eq.{bytes_eq-Decides}
use Rattle.std.specs.Prelude.{bytes_eq}

pub one_more_alike : {X : Type 0} (xs ys : List X) (i : ℕ) (x y : X) → take i xs ≡ take i ys → slice_get xs i ≡ Some x → slice_get ys i ≡ Some y → x ≡ y → take (i + 1) xs ≡ take (i + 1) ys
one_more_alike [] ys i x y t p q e = cc
one_more_alike (a ∷ more) [] i x y t p q e = cc
one_more_alike (a ∷ more) (b ∷ bs) zero x y t p q e = let h : a ≡ b = cc in ap (λ z. z ∷ []) h
one_more_alike (a ∷ more) (b ∷ bs) (suc i) x y t p q e =
    let n : suc i + 1 ≡ suc (i + 1) = omega arith in
    let first : a ≡ b = cc in
    let rest : take i more ≡ take i bs = cc in
    ap (λ k. take k (a ∷ more)) n ∙ (λ j. first j ∷ one_more_alike more bs i x y rest p q e j) ∙ sym (ap (λ k. take k (b ∷ bs)) n)

pub same_name : (xs ys : List ℕ) → false ≡ not (bytes_eq xs ys) → xs ≡ ys
same_name xs ys h = (bytes_eq-Decides xs ys).0 (by (bytes_eq xs ys) h)
  where
    by : (b : Bool) → false ≡ not b → b ≡ true
    by true h = refl
    by false h = absurd (true≢false (sym h))
