-- The entries of a map, told apart and together.
use Rattle.std.proofs.Common.{◌≡◌, List, [], ◌∷◌, map, zip, refl, sym, ap, ◌∙◌}
use Rattle.std.specs.Prelude.{String, string_bytes}
use Rattle.std.specs.declared.alloc.Global.{Global}
use Rattle.pg_meaning.specs.Value.{entries_of}
use Rattle.pg_value_core.specs.View.{view, entries_view}
use Rattle.pg_value_core.specs.declared.value.Value.{Value}
use Rattle.pg_write.specs.Maps.{keys_of, values_of, paired}

entries_joined : (es : List (String Global × Value)) → entries_of (entries_view es) ≡ zip (keys_of es) (values_of es)
entries_joined [] = refl
entries_joined (e ∷ es) = ap (λ ps. (string_bytes e.0, view e.1) ∷ ps) (entries_joined es)

pub moved_joined : (es : List (String Global × Value)) (keys : List (String Global)) (values : List Value) → map string_bytes keys ≡ keys_of es → map view values ≡ values_of es → entries_of (entries_view es) ≡ paired keys values
moved_joined es keys values k v = entries_joined es ∙ (λ i. zip (sym k i) (sym v i))
