use Rattle.std.proofs.Common.{◌≡◌, drop}
use Rattle.pg_index.proofs.properties.index_of.Given as goal
use Rattle.pg_index.specs.Properties.{has_pair, pairs_of}

abbrev pub invariant-loop-property : goal.invariant-loop-property
invariant-loop-property l = has_pair (l.label, l.key) (pairs_of l.indexes) ≡ has_pair (l.label, l.key) (pairs_of (drop l.property-index l.indexes))
