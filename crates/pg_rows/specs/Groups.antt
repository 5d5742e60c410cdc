-- Groups of rows by the order in which their keys come first.
use Rattle.std.specs.Prelude.{ℕ, List, map}
use Rattle.std.specs.List.{position_or_len}
use Rattle.std.specs.Global.{Vec}
use Rattle.pg_meaning.specs.Projections.{same_values}
use Rattle.pg_meaning.specs.Value.{Value as Datum}
use Rattle.pg_value_core.specs.View.{view}
use Rattle.pg_value_core.specs.declared.value.Value.{Value}

abbrev pub keys_view : List (Vec Value) → List (List Datum)
keys_view ks = map (λ k. map view k.items) ks

-- the place of the first key that is equivalent, or else the place behind the last
abbrev pub group_number : List (List Datum) → List Datum → ℕ
group_number keys key = position_or_len (same_values key) keys
