use Rattle.std.proofs.Common.{◌≡◌, ◌<◌, ◌≤◌, arith, Some, map, bytes_eq, string_bytes, length, true, position, slice_get, sym, ap, ◌∙◌, refl}
use Rattle.std.proofs.lemmas.List.{length-map}
use Rattle.std.proofs.lemmas.Option.{slice_get-map, slice_get_read}
use Rattle.std.specs.Prelude.{option_map}
use Rattle.pg_rows.proofs.FirstNames.{first_is}
use Rattle.pg_rows.proofs.columns.Columns.find_near.Goals as goal

pub returns-then-same_text : goal.returns-then-same_text
returns-then-same_text c =
    let items = c.self.inside.names.items in
    let name = c.args.name.now in
    let at = c.args.place in
    let held = c.index.result.now in
    let many : length (map string_bytes items) ≡ length items = length-map items string_bytes in
    let most : c.self.inside.firsts ≤ length (map string_bytes items) = c.self.invariant.1.0 in
    let less : at < c.self.inside.firsts = omega (arith, c.if-place-self.true) in
    let within : at < length items = omega (arith, less, most, many) in
    let got : slice_get items at ≡ Some held = slice_get_read items (length items) at held refl within c.index.ensures in
    let named : slice_get (map string_bytes items) at ≡ Some (string_bytes held) = slice_get-map string_bytes items at ∙ ap (option_map string_bytes) got in
    let same : bytes_eq name (string_bytes held) ≡ true = ap (bytes_eq name) (sym c.as_str.ensures.value) ∙ sym c.same_text.ensures ∙ c.if-same_text.true in
    sym (ap (position (bytes_eq name)) (sym c.self.view_is) ∙ first_is name (string_bytes held) (map string_bytes items) c.self.inside.firsts at c.self.invariant.1 less named same)
