-- A range is within the limits of weight and depth.
use Rattle.std.proofs.Common.{◌≡◌, ℕ, zero, suc, ◌+◌, ◌≤◌, ℤ, pos, negsuc, ◌+ℤ◌, true, false, Bool, Ok, Err, refl, sym, ap, subst, ◌∙◌, arith}
use Rattle.std.proofs.lemmas.Bool.Decides.{nat_tests}
use Rattle.std.specs.Prelude.{◌-ℤ◌, ◌&&◌, nat_le, if◌then◌else◌}
use Rattle.pg_meaning.specs.Answer.{Answer, ◌>>=◌}
use Rattle.pg_meaning.specs.Functions.{integers_from, range_by, steps_within}
use Rattle.pg_meaning.specs.Measure.{greatest_depth, greatest_weight, is_within_limits, items_depth, items_weight, made}
use Rattle.pg_meaning.specs.Value.{Value, Values, list}
use Rattle.pg_meaning.specs.declared.fault.Fault.TheVariants.{ValueTooLarge}

weighed : (n : ℕ) (i s : ℤ) → items_weight (integers_from n i s) ≡ n
weighed zero i s = refl
weighed (suc n) i s = omega (arith, weighed n (i +ℤ s) s)

flat : (n : ℕ) (i s : ℤ) → items_depth (integers_from n i s) ≤ 1
flat zero i s = omega arith
flat (suc n) i s = omega (arith, flat n (i +ℤ s) s)

both : (a b : Bool) → a ≡ true → b ≡ true → a && b ≡ true
both a b h k = ap (λ x. x && b) h ∙ k

is_shallow : (d : ℕ) → d ≤ 1 → nat_le (1 + d) greatest_depth ≡ true
is_shallow d h = grind (arith, nat_tests)

within : (n : ℕ) (i s : ℤ) → nat_le (1 + n) greatest_weight ≡ true → is_within_limits (list (integers_from n i s)) ≡ true
within n i s h =
    both (nat_le (1 + items_weight (integers_from n i s)) greatest_weight) (nat_le (1 + items_depth (integers_from n i s)) greatest_depth)
    (ap (λ (m : ℕ). nat_le (1 + m) greatest_weight) (weighed n i s) ∙ h)
    (is_shallow (items_depth (integers_from n i s)) (flat n i s))

made_within : (v : Value) → is_within_limits v ≡ true → made v ≡ Ok v
made_within v h = let P : Bool → Type 0 = λ b. ◌≡◌ {A = Answer} (if b then Ok v else Err ValueTooLarge) (Ok v) in subst P (sym h) refl

abbrev by_test : Bool → Values → Answer
by_test b vs = elim b [ true ↦ Ok (list vs) | false ↦ Err ValueTooLarge ]

made_by_test : (b : Bool) (n : ℕ) (i s : ℤ) → nat_le (1 + n) greatest_weight ≡ b → (by_test b (integers_from n i s) >>= made) ≡ by_test b (integers_from n i s)
made_by_test true n i s h = made_within (list (integers_from n i s)) (within n i s h)
made_by_test false n i s h = refl

pub made_range : (start end step : ℤ) → (range_by start end step >>= made) ≡ range_by start end step
made_range start end (pos zero) = refl
made_range start end (pos (suc s)) = let n = steps_within (end -ℤ start) (pos (suc s)) in made_by_test (nat_le (1 + n) greatest_weight) n start (pos (suc s)) refl
made_range start end (negsuc s) = let n = steps_within (end -ℤ start) (negsuc s) in made_by_test (nat_le (1 + n) greatest_weight) n start (negsuc s) refl
