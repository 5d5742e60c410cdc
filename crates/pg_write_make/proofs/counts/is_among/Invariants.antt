use Rattle.std.proofs.Common.{◌≡◌, drop}
use Rattle.pg_meaning.specs.Names.{is_among}
use Rattle.pg_store.specs.Stores.{texts_of}
use Rattle.pg_write_make.proofs.counts.is_among.Given as goal

abbrev pub invariant-loop-text : goal.invariant-loop-text
invariant-loop-text l = is_among (texts_of l.texts.items) l.name ≡ is_among (texts_of (drop l.text-index l.texts.items)) l.name
