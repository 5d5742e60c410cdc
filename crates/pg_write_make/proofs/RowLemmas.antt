-- Steps over what is left of a list, item by item.
use Rattle.std.proofs.Common.{◌≡◌, ◌≤◌, ◌+◌, ℕ, zero, suc, List, [], ◌∷◌, map, drop, length, Some, Result, Ok, Err, refl, sym, ap, ◌∙◌, add-one, arith}
use Rattle.std.specs.Prelude.{slice_get}
use Rattle.pg_meaning.specs.Answer.{◌>>=◌, each_step}
use Rattle.pg_meaning.specs.declared.fault.Fault.{Fault}

module _ {X : Type 0} where
  one_dropped : (xs : List X) (i : ℕ) (x : X) → slice_get xs i ≡ Some x → drop i xs ≡ x ∷ drop (suc i) xs
  one_dropped [] i x h = absurd cc
  one_dropped (y ∷ ys) zero x h = ap (λ z. z ∷ ys) (cc)
  one_dropped (y ∷ ys) (suc i) x h = one_dropped ys i x h

  pub drop_at : (xs : List X) (i : ℕ) (x : X) → slice_get xs i ≡ Some x → drop i xs ≡ x ∷ drop (i + 1) xs
  drop_at xs i x h = one_dropped xs i x h ∙ ap (λ k. x ∷ drop k xs) (sym (add-one i))

  pub none_left : (xs : List X) (i : ℕ) → length xs ≤ i → drop i xs ≡ []
  none_left [] zero h = refl
  none_left [] (suc i) h = refl
  none_left (x ∷ xs) zero h = absurd (omega (arith, h))
  none_left (x ∷ xs) (suc i) h = none_left xs i (omega (arith, h))

module _ {S X Y : Type 0} (step : S → Y → Result S Fault) (f : X → Y) (xs : List X) (i : ℕ) where
  pub step_on : (s t : S) (x : X) → slice_get xs i ≡ Some x → step s (f x) ≡ Ok t → each_step step s (map f (drop i xs)) ≡ each_step step t (map f (drop (i + 1) xs))
  step_on s t x at is = ap (λ ys. each_step step s (map f ys)) (drop_at xs i x at) ∙ ap (λ r. r >>= λ u. each_step step u (map f (drop (i + 1) xs))) is

  pub step_fault : (s : S) (e : Fault) (x : X) → slice_get xs i ≡ Some x → step s (f x) ≡ Err e → each_step step s (map f (drop i xs)) ≡ Err e
  step_fault s e x at is = ap (λ ys. each_step step s (map f ys)) (drop_at xs i x at) ∙ ap (λ r. r >>= λ u. each_step step u (map f (drop (i + 1) xs))) is

  pub steps_done : (s : S) → length xs ≤ i → each_step step s (map f (drop i xs)) ≡ Ok s
  steps_done s h = ap (λ ys. each_step step s (map f ys)) (none_left xs i h)
