-- What stands in a row under a name, and in a list at a place.
use Rattle.std.proofs.Common.{◌≡◌, ℕ, List, map, Some, None, length, get_or, ◌<◌, ◌≤◌, refl, ap, ◌∙◌}
use Rattle.std.proofs.lemmas.Option.{slice_get-map, slice_get_past, slice_get_read}
use Rattle.std.specs.Option.{option_and_then}
use Rattle.std.specs.Prelude.{bytes_eq, option_map, position, slice_get}
use Rattle.pg_meaning.specs.Rows.{value_in}
use Rattle.pg_rows.proofs.NamedRows.{values_stand}
use Rattle.pg_rows.specs.Named.{row_of}
use Rattle.pg_value_core.specs.View.{view}
use Rattle.pg_value_core.specs.declared.value.Value.{Value}

module _ (name : List ℕ) (names : List (List ℕ)) (row : List Value) where
  pub no_column : position (bytes_eq name) names ≡ None → value_in name (row_of names (map view row)) ≡ None
  no_column h = values_stand name names (map view row) ∙ ap (option_and_then (slice_get (map view row))) h

  pub in_column : (at : ℕ) (x : Value) → position (bytes_eq name) names ≡ Some at → at < length row → x ≡ get_or row at x → value_in name (row_of names (map view row)) ≡ Some (view x)
  in_column at x h within read =
      values_stand name names (map view row) ∙ ap (option_and_then (slice_get (map view row))) h
      ∙ slice_get-map view row at ∙ ap (option_map view) (slice_get_read row (length row) at x refl within read)

  pub past_row : (at : ℕ) → position (bytes_eq name) names ≡ Some at → length row ≤ at → value_in name (row_of names (map view row)) ≡ None
  past_row at h past =
      values_stand name names (map view row) ∙ ap (option_and_then (slice_get (map view row))) h
      ∙ slice_get-map view row at ∙ ap (option_map view) (slice_get_past row at past)

pub ruleset columns = (no_column, in_column, past_row)
