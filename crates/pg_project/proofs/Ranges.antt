-- A sum within 64 bits is what the definition has in range.
use Rattle.std.proofs.Common.{◌≡◌, ℤ, pos, negsuc, true, false, rules}
use Rattle.std.specs.Int.{w64}
use Rattle.std.specs.Prelude.{FitsSigned}
use Rattle.pg_meaning.specs.Arithmetic.{is_in_range}

pub in_range : (i : ℤ) → FitsSigned w64 i → is_in_range i ≡ true
in_range (pos n) h = search rules
in_range (negsuc n) h = search rules

pub out_of_range : (i : ℤ) → (FitsSigned w64 i → ⊥) → is_in_range i ≡ false
out_of_range (pos n) h = search rules
out_of_range (negsuc n) h = search rules
