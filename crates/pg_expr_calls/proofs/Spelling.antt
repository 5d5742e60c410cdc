-- The digits that spell an integer, by the definition and by the standard library.
use Rattle.std.proofs.Common.{◌≡◌, ℤ, sym}
use Rattle.std.specs.Fmt.{signed_decimal}
use Rattle.pg_meaning.specs.Functions.{digits_of, digits_of_is}

pub digits_spelled : (i : ℤ) → signed_decimal i ≡ digits_of i
digits_spelled i = sym (digits_of_is i)
