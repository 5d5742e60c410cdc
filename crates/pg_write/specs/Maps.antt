-- The entries of a map as keys and values.
use Rattle.std.specs.Prelude.{ℕ, List, map, zip, String, string_bytes}
use Rattle.std.specs.declared.alloc.Global.{Global}
use Rattle.pg_meaning.specs.Value.{Value as Datum}
use Rattle.pg_value_core.specs.View.{view}
use Rattle.pg_value_core.specs.declared.value.Value.{Value}

abbrev pub keys_of : List (String Global × Value) → List (List ℕ)
keys_of es = map (λ e. string_bytes e.0) es

abbrev pub values_of : List (String Global × Value) → List Datum
values_of es = map (λ e. view e.1) es

-- keys and values that stand apart, in pairs
abbrev pub paired : List (String Global) → List Value → List (List ℕ × Datum)
paired keys values = zip (map string_bytes keys) (map view values)
