use Rattle.std.proofs.Common.{sym, ◌∙◌}
use Rattle.std.specs.Str.{bytes_eq}
use Rattle.std.specs.String.{string_bytes}
use Rattle.pg_names.proofs.Interned.{position_map}
use Rattle.pg_names.proofs.indexed_texts.IndexedTextsTextSet.place_of.Goals as goal

pub returns : goal.returns
returns c = c.get_index_of.ensures.index ∙ sym (position_map string_bytes (bytes_eq c.args.text.now) c.args.self.now.texts.keys)
