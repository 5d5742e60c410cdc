use Rattle.std.proofs.Common.{◌≡◌, take}
use Rattle.pg_graph.specs.Records.{seen_entries}
use Rattle.pg_graph.proofs.properties.copy_entries.Given as goal

abbrev pub invariant-loop-key : goal.invariant-loop-key
invariant-loop-key l = seen_entries l.copies.items ≡ seen_entries (take l.key-index l.entries)
