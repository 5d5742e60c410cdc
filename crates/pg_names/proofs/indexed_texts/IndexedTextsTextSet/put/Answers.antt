use Rattle.std.proofs.Common.{Some, map, sym, ap, ◌∙◌}
use Rattle.std.proofs.lemmas.Option.{slice_get-map}
use Rattle.std.specs.Option.{option_map}
use Rattle.std.specs.Str.{bytes_eq}
use Rattle.std.specs.String.{string_bytes}
use Rattle.pg_names.proofs.Interned.{distinct_map, grown, same_bytes}
use Rattle.pg_names.proofs.indexed_texts.IndexedTextsTextSet.put.Goals as goal

pub returns-clause-place : goal.returns-clause-place
returns-clause-place c =
    let stored = c.in_ok-place.ensures.stored in
    slice_get-map string_bytes c.insert_full.new.self.keys c.in_ok-place.place ∙ ap (option_map string_bytes) stored.1
    ∙ ap Some (sym (same_bytes (string_bytes c.args.text) (string_bytes stored.0) stored.2))

pub returns-clause-ok : goal.returns-clause-ok
returns-clause-ok c = ap (map string_bytes) c.in_ok-place.ensures.keys ∙ grown string_bytes c.args.self.now.texts.keys c.args.text

pub returns-clause-distinct : goal.returns-clause-distinct
returns-clause-distinct c = distinct_map string_bytes bytes_eq c.insert_full.new.self.keys c.in_ok-place.ensures.unique
