use Rattle.std.proofs.Common.{◌≡◌, drop, map}
use Rattle.pg_graph.specs.Records.{seen_entries}
use Rattle.pg_graph.specs.Refinement.{AreNamed, named_entries}
use Rattle.pg_meaning.specs.Entries.{at_key}
use Rattle.pg_graph.proofs.by_text.value_of_text.Given as goal

abbrev pub invariant-loop-name : goal.invariant-loop-name
invariant-loop-name g l =
    AreNamed l.names (map (λ e. e.0) (seen_entries (drop l.name-index l.entries)))
    × (at_key l.key (named_entries l.names (seen_entries l.entries)) ≡ at_key l.key (named_entries l.names (seen_entries (drop l.name-index l.entries))))
