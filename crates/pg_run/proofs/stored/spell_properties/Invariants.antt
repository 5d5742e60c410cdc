use Rattle.std.proofs.Common.{drop}
use Rattle.pg_graph.specs.InOrder.{listed_entries}
use Rattle.pg_run.proofs.Members.{MembersStored}
use Rattle.pg_run.proofs.stored.spell_properties.Given as goal

abbrev pub invariant-loop-key : goal.invariant-loop-key
invariant-loop-key l = MembersStored (listed_entries l.properties) (listed_entries (drop l.key-index l.properties)) l.found.items
