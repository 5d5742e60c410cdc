use Rattle.std.proofs.Common.{map, sym, ap, ◌∙◌}
use Rattle.std.proofs.lemmas.List.{take-map}
use Rattle.std.specs.Str.{bytes_eq}
use Rattle.std.specs.String.{string_bytes}
use Rattle.pg_names.proofs.Interned.{distinct_map}
use Rattle.pg_names.proofs.indexed_texts.IndexedTextsTextSet.keep.Goals as goal

pub returns-clause-kept : goal.returns-clause-kept
returns-clause-kept c = ap (map string_bytes) c.truncate.ensures.keys ∙ sym (take-map string_bytes c.args.len c.args.self.now.texts.keys)

pub returns-clause-distinct : goal.returns-clause-distinct
returns-clause-distinct c = distinct_map string_bytes bytes_eq c.truncate.new.self.keys c.truncate.ensures.unique
