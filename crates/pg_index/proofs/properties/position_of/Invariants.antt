use Rattle.std.proofs.Common.{◌≡◌, drop}
use Rattle.pg_index.proofs.properties.position_of.Given as goal
use Rattle.pg_index.specs.Properties.{has_pair, pairs_of}

abbrev pub invariant-loop-position : goal.invariant-loop-position
invariant-loop-position l = has_pair (l.label, l.key) (pairs_of l.indexes) ≡ has_pair (l.label, l.key) (pairs_of (drop l.position l.indexes))
