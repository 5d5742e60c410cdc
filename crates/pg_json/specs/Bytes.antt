-- The bytes of a reply, wherever they lie.
use Rattle.std.specs.Prelude.{ℕ, List}
use Rattle.pg_json.specs.declared.bytes.Body.{Body}
use Rattle.pg_json.specs.declared.bytes.Body.TheVariants.{Fixed, Made}

abbrev pub bytes_of : Body → List ℕ
bytes_of (Fixed text) = text.now
bytes_of (Made bytes) = bytes.items
