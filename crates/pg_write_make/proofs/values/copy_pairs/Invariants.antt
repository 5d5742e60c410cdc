use Rattle.std.proofs.Common.{◌≡◌, ◌++◌}
use Rattle.pg_meaning.specs.Value.{entries_of}
use Rattle.pg_store.specs.Stores.{pairs_of}
use Rattle.pg_value_core.specs.View.{entries_view}
use Rattle.pg_write_make.proofs.values.copy_pairs.Given as goal

abbrev pub invariant-loop-key : goal.invariant-loop-key
invariant-loop-key l = entries_of (entries_view l.fn.entries.entries) ≡ pairs_of l.pairs.items ++ entries_of (entries_view l.key-iterator)
