-- How many integers a range has, and that all of them are within 64 bits.
use Rattle.std.proofs.Common.{◌≡◌, ◌≢◌, ℕ, zero, suc, ◌+◌, ◌*◌, ◌/◌, ◌<◌, ◌≤◌, ℤ, pos, negsuc, ◌+ℤ◌, true, false, Bool, Ok, Err, refl, sym, ap, subst, ◌∙◌, arith}
use Rattle.std.proofs.Math.Nat.{div-mul-le_self}
use Rattle.std.proofs.lemmas.Bool.Decides.{nat_tests}
use Rattle.std.proofs.lemmas.Int.{ints}
use Rattle.std.specs.Int.{w64}
use Rattle.std.specs.Prelude.{◌-ℤ◌, ◌<ℤ◌, ◌≤ℤ◌, FitsSigned, nat_le, unsigned_abs}
use Rattle.pg_expr_calls.specs.Ranges.{AllFit}
use Rattle.pg_meaning.specs.Answer.{Answer, ◌>>=◌}
use Rattle.pg_meaning.specs.Functions.{item_count, integers_from, range_by, size_of, steps_within}
use Rattle.pg_meaning.specs.Measure.{greatest_weight}
use Rattle.pg_meaning.specs.Value.{integer, list}
use Rattle.pg_meaning.specs.declared.fault.Fault.{Fault}
use Rattle.pg_meaning.specs.declared.fault.Fault.TheVariants.{ValueTooLarge}

-- ---- all fit

fits_between : (i j e : ℤ) → FitsSigned w64 i → FitsSigned w64 e → i ≤ℤ j → j ≤ℤ e → FitsSigned w64 j
fits_between i (pos n) (pos m) f g h k = record { sfits = omega (arith, ints, g.sfits, k) }
fits_between i (pos n) (negsuc m) f g h k = absurd (omega (arith, ints, k))
fits_between (negsuc l) (negsuc n) e f g h k = record { sfits = omega (arith, ints, f.sfits, h) }
fits_between (pos l) (negsuc n) e f g h k = absurd (omega (arith, ints, h))

rising : (n : ℕ) (i e : ℤ) (s : ℕ) → FitsSigned w64 i → FitsSigned w64 e → (i +ℤ pos (n * s)) ≤ℤ e → AllFit (suc n) i (pos s)
rising zero i e s f g h = (f, tt)
rising (suc n) i e s f g h =
    let more : suc n * s ≡ s + n * s = omega arith in (
      f,
      rising n (i +ℤ pos s) e s (fits_between i (i +ℤ pos s) e f g (omega (arith, ints)) (omega (arith, ints, more, h))) g (omega (arith, ints, more, h)),
    )

falling : (n : ℕ) (i e : ℤ) (s : ℕ) → FitsSigned w64 i → FitsSigned w64 e → (e +ℤ pos (n * suc s)) ≤ℤ i → AllFit (suc n) i (negsuc s)
falling zero i e s f g h = (f, tt)
falling (suc n) i e s f g h =
    let more : suc n * suc s ≡ suc s + n * suc s = omega arith in (
      f,
      falling n (i +ℤ negsuc s) e s (fits_between e (i +ℤ negsuc s) i g f (omega (arith, ints, more, h)) (omega (arith, ints))) g (omega (arith, ints, more, h)),
    )

one_more : (n : ℕ) → suc n ≡ 1 + n
one_more n = omega arith

all_fit_by : (d start end step : ℤ) → d ≡ end -ℤ start → FitsSigned w64 start → FitsSigned w64 end → AllFit (steps_within d step) start step
all_fit_by (pos d) start end (pos s) e f g = subst (λ (m : ℕ). AllFit m start (pos s)) (one_more (d / s)) (rising (d / s) start end s f g (omega (arith, ints, div-mul-le_self d s, e)))
all_fit_by (negsuc d) start end (negsuc s) e f g = subst (λ (m : ℕ). AllFit m start (negsuc s)) (one_more (suc d / suc s)) (falling (suc d / suc s) start end s f g (omega (arith, ints, div-mul-le_self (suc d) (suc s), e)))
all_fit_by (pos zero) start end (negsuc s) e f g = (f, tt)
all_fit_by (pos (suc d)) start end (negsuc s) e f g = tt
all_fit_by (negsuc d) start end (pos s) e f g = tt

pub all_fit : (n : ℕ) (start end step : ℤ) → FitsSigned w64 start → FitsSigned w64 end → n ≡ steps_within (end -ℤ start) step → AllFit n start step
all_fit n start end step f g e = subst (λ (m : ℕ). AllFit m start step) (sym e) (all_fit_by (end -ℤ start) start end step refl f g)

-- ---- how many

up_by : (d step : ℤ) → pos 0 ≤ℤ d → pos 0 <ℤ step → steps_within d step ≡ 1 + unsigned_abs d / unsigned_abs step
up_by (pos d) (pos s) h k = refl
up_by (pos d) (negsuc s) h k = absurd (omega (arith, ints, k))
up_by (negsuc d) step h k = absurd (omega (arith, ints, h))

pub up : (start end step : ℤ) → start ≤ℤ end → pos 0 <ℤ step → steps_within (end -ℤ start) step ≡ 1 + unsigned_abs (end -ℤ start) / unsigned_abs step
up start end step h k = up_by (end -ℤ start) step (omega (arith, ints)) k

none_up_by : (d step : ℤ) → d <ℤ pos 0 → pos 0 <ℤ step → steps_within d step ≡ 0
none_up_by (negsuc d) (pos s) h k = refl
none_up_by (negsuc d) (negsuc s) h k = absurd (omega (arith, ints, k))
none_up_by (pos d) step h k = absurd (omega (arith, ints, h))

pub none_up : (start end step : ℤ) → end <ℤ start → pos 0 <ℤ step → steps_within (end -ℤ start) step ≡ 0
none_up start end step h k = none_up_by (end -ℤ start) step (omega (arith, ints)) k

down_by : (d step : ℤ) → d ≤ℤ pos 0 → step <ℤ pos 0 → steps_within d step ≡ 1 + unsigned_abs d / unsigned_abs step
down_by (pos zero) (negsuc s) h k = omega arith
down_by (pos (suc d)) step h k = absurd (omega (arith, ints, h))
down_by (negsuc d) (negsuc s) h k = refl
down_by d (pos s) h k = absurd (omega (arith, ints, k))

pub down : (start end step : ℤ) → end ≤ℤ start → step <ℤ pos 0 → steps_within (end -ℤ start) step ≡ 1 + unsigned_abs (end -ℤ start) / unsigned_abs step
down start end step h k = down_by (end -ℤ start) step (omega (arith, ints)) k

none_down_by : (d step : ℤ) → pos 0 <ℤ d → step <ℤ pos 0 → steps_within d step ≡ 0
none_down_by (pos zero) step h k = absurd (omega (arith, ints, h))
none_down_by (pos (suc d)) (negsuc s) h k = refl
none_down_by (negsuc d) step h k = absurd (omega (arith, ints, h))
none_down_by d (pos s) h k = absurd (omega (arith, ints, k))

pub none_down : (start end step : ℤ) → start <ℤ end → step <ℤ pos 0 → steps_within (end -ℤ start) step ≡ 0
none_down start end step h k = none_down_by (end -ℤ start) step (omega (arith, ints)) k

pub ruleset counted = (up, none_up, down, none_down)

-- ---- the range

abbrev made_or_not : (n : ℕ) (start step : ℤ) → Answer
made_or_not n start step = elim (nat_le (1 + n) greatest_weight) [ true ↦ Ok (list (integers_from n start step)) | false ↦ Err ValueTooLarge ]

light : (n : ℕ) (start step : ℤ) → n < greatest_weight → made_or_not n start step ≡ Ok (list (integers_from n start step))
light n start step h = let P : Bool → Type 0 = λ b. ◌≡◌ {A = Answer} (elim b [ true ↦ Ok (list (integers_from n start step)) | false ↦ Err ValueTooLarge ]) (Ok (list (integers_from n start step))) in
    let is : nat_le (1 + n) greatest_weight ≡ true = grind (arith, nat_tests) in subst P (sym is) refl

heavy : (n : ℕ) (start step : ℤ) → greatest_weight ≤ n → made_or_not n start step ≡ Err ValueTooLarge
heavy n start step h = let P : Bool → Type 0 = λ b. ◌≡◌ {A = Answer} (elim b [ true ↦ Ok (list (integers_from n start step)) | false ↦ Err ValueTooLarge ]) (Err ValueTooLarge) in
    let is : nat_le (1 + n) greatest_weight ≡ false = grind (arith, nat_tests) in subst P (sym is) refl

by_count : (start end step : ℤ) → step ≢ pos 0 → range_by start end step ≡ made_or_not (steps_within (end -ℤ start) step) start step
by_count start end (pos zero) h = absurd (h refl)
by_count start end (pos (suc s)) h = refl
by_count start end (negsuc s) h = refl

pub light_range : (n : ℕ) (start end step : ℤ) → step ≢ pos 0 → n ≡ steps_within (end -ℤ start) step → n < greatest_weight → range_by start end step ≡ Ok (list (integers_from n start step))
light_range n start end step h e l = by_count start end step h ∙ ap (λ (m : ℕ). made_or_not m start step) (sym e) ∙ light n start step l

pub heavy_range : (start end step : ℤ) → step ≢ pos 0 → greatest_weight ≤ steps_within (end -ℤ start) step → range_by start end step ≡ Err ValueTooLarge
heavy_range start end step h l = by_count start end step h ∙ heavy (steps_within (end -ℤ start) step) start step l

pub ruleset ranges = (light_range, heavy_range, all_fit)

-- ---- its length

counted_from : (n : ℕ) (i step : ℤ) → item_count (integers_from n i step) ≡ n
counted_from zero i step = refl
counted_from (suc n) i step = omega (arith, counted_from n (i +ℤ step) step)

pub size_of_range : (n : ℕ) (start end step : ℤ) → range_by start end step ≡ Ok (list (integers_from n start step)) → (range_by start end step >>= size_of) ≡ Ok (integer (pos n))
size_of_range n start end step h = ap (λ r. r >>= size_of) h ∙ ap (λ (m : ℕ). Ok (integer (pos m))) (counted_from n start step)

pub size_of_none : (start end step : ℤ) (e : Fault) → range_by start end step ≡ Err e → (range_by start end step >>= size_of) ≡ Err e
size_of_none start end step e h = ap (λ r. r >>= size_of) h

pub ruleset sizes = (size_of_none)
