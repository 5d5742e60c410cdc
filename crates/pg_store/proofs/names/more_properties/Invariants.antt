use Rattle.std.proofs.Common.{◌≡◌}
use Rattle.std.specs.FinMap as map
use Rattle.std.specs.Vec.Iter.{into_iter_items}
use Rattle.pg_names.specs.Names.{AreDistinct, KeepsNames}
use Rattle.pg_graph.specs.Refinement.{AreNamed, property_entries}
use Rattle.pg_meaning.specs.Entries.{set_keys}
use Rattle.pg_store.proofs.names.more_properties.Given as goal
use Rattle.pg_store.specs.Stores.{pairs_of}

-- the properties so far with the pairs to come are all
abbrev pub invariant-loop-key : goal.invariant-loop-key
invariant-loop-key g l = record {
  properties : set_keys (pairs_of (into_iter_items l.key-iterator)) (property_entries l.names l.properties) ≡ set_keys (pairs_of l.fn.pairs.items) (property_entries l.fn.names l.fn.before);
  named : AreNamed l.names (map.keys l.properties);
  keeps : KeepsNames l.fn.names l.names;
  distinct : AreDistinct l.names;
}
