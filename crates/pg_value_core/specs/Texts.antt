-- The text that a value is.
use Rattle.std.specs.Prelude.{ℕ, List, Option, Some, None}
use Rattle.pg_meaning.specs.Value.{Value, text}

abbrev pub text_in : Value → Option (List ℕ)
text_in (text s) = Some s
text_in v = None
