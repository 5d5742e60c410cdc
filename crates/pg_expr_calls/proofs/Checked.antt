-- An integer is within 64 bits exactly where the definition has it in range.
use Rattle.std.proofs.Common.{◌≡◌, ◌≢◌, neg_ℤ, ℤ, pos, negsuc, zero, suc, refl, rules}
use Rattle.std.specs.Prelude.{Ok, Err, FitsSigned, int_div, int_rem, unsigned_abs}
use Rattle.std.specs.Int.{w64}
use Rattle.pg_meaning.specs.Arithmetic.{checked, divide, modulo}
use Rattle.pg_meaning.specs.Functions.{absolute_of}
use Rattle.pg_meaning.specs.Value.{integer}
use Rattle.std.proofs.lemmas.Int.{ints}
use Rattle.pg_meaning.specs.declared.fault.Fault.TheVariants.{Overflow}

pub fits_checked : (i : ℤ) → FitsSigned w64 i → checked i ≡ Ok (integer i)
fits_checked (pos n) h = search rules
fits_checked (negsuc n) h = search rules

pub too_large_checked : (i : ℤ) → (FitsSigned w64 i → ⊥) → checked i ≡ Err Overflow
too_large_checked (pos n) h = search rules
too_large_checked (negsuc n) h = search rules

pub ruleset in_range = (fits_checked, too_large_checked)

pub ruleset in_sum = (fits_checked, too_large_checked)

pub divide_checked : (x y : ℤ) → y ≢ pos 0 → divide (integer x) (integer y) ≡ checked (int_div x y)
divide_checked x (pos zero) h = absurd (h refl)
divide_checked x (pos (suc n)) h = refl
divide_checked x (negsuc n) h = refl

pub modulo_checked : (x y : ℤ) → y ≢ pos 0 → modulo (integer x) (integer y) ≡ checked (int_rem x y)
modulo_checked x (pos zero) h = absurd (h refl)
modulo_checked x (pos (suc n)) h = refl
modulo_checked x (negsuc n) h = refl

pub ruleset in_division = (fits_checked, too_large_checked, divide_checked)

pub ruleset in_remainder = (fits_checked, modulo_checked)

pub absolute_fits : (i : ℤ) → FitsSigned w64 (neg_ℤ i) → absolute_of (integer i) ≡ Ok (integer (pos (unsigned_abs i)))
absolute_fits (pos n) h = refl
absolute_fits (negsuc n) h = fits_checked (pos (suc n)) h

pub absolute_too_large : (i : ℤ) → FitsSigned w64 i → (FitsSigned w64 (neg_ℤ i) → ⊥) → absolute_of (integer i) ≡ Err Overflow
absolute_too_large (pos n) f h = absurd (h (search (rules, ints)))
absolute_too_large (negsuc n) f h = too_large_checked (pos (suc n)) h

pub ruleset in_absolute = (absolute_fits, absolute_too_large)
