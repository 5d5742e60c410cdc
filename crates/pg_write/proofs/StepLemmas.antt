-- A loop that takes the items of a list in turn, each by one step.
use Rattle.std.proofs.Common.{◌≡◌, ◌+◌, ◌<◌, ◌≤◌, ℕ, List, map, drop, get_or, length, Some, Result, Ok, Err, refl, subst, ◌∙◌}
use Rattle.std.proofs.lemmas.Option.{slice_get_read}
use Rattle.std.specs.Prelude.{slice_get}
use Rattle.pg_meaning.specs.Answer.{each_step}
use Rattle.pg_meaning.specs.declared.fault.Fault.{Fault}
use Rattle.pg_write_make.proofs.RowLemmas.{step_on, step_fault, steps_done}

module _ {S X Y : Type 0} (step : S → Y → Result S Fault) (f : X → Y) (xs ys : List X) (same : ys ≡ xs) (i : ℕ) (all : Result S Fault) (s : S) (so_far : all ≡ each_step step s (map f (drop i xs))) where
  there : (x : X) → i < length ys → x ≡ get_or ys i x → slice_get xs i ≡ Some x
  there x within is = subst (λ zs. slice_get zs i ≡ Some x) same (slice_get_read ys (length ys) i x refl within is)

  pub next : (x : X) → i < length ys → x ≡ get_or ys i x → (t : S) → step s (f x) ≡ Ok t → all ≡ each_step step t (map f (drop (i + 1) xs))
  next x within is t h = so_far ∙ step_on step f xs i s t x (there x within is) h

  pub fault : (x : X) → i < length ys → x ≡ get_or ys i x → (e : Fault) → step s (f x) ≡ Err e → all ≡ Err e
  fault x within is e h = so_far ∙ step_fault step f xs i s e x (there x within is) h

  pub done : length ys ≤ i → all ≡ Ok s
  done past = so_far ∙ steps_done step f xs i s (subst (λ zs. length zs ≤ i) same past)
