-- Whether a value is null, under which a key is blank.
use Rattle.std.specs.Prelude.{Bool, true, false}
use Rattle.pg_meaning.specs.Value.{Value, null}

abbrev pub is_null : Value → Bool
is_null null = true
is_null v = false
