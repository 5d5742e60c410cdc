-- Which values have no sum of their own.
use Rattle.std.specs.Prelude.{Bool, true, false}
use Rattle.pg_meaning.specs.Value.{Value, null, integer, text, list}

-- the first can only go before a list
abbrev pub have_no_sum : Value → Value → Bool
have_no_sum null w = false
have_no_sum (integer x) (integer y) = false
have_no_sum (text x) (text y) = false
have_no_sum (list xs) w = false
have_no_sum v w = true
