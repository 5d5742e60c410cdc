use Rattle.std.proofs.Common.{◌≡◌, ◌++◌, drop}
use Rattle.std.specs.Vec.Iter.{into_iter_items}
use Rattle.pg_store.specs.Stores.{pairs_of}
use Rattle.pg_write.specs.Maps.{paired}
use Rattle.pg_write.proofs.maps.join.Given as goal

abbrev pub invariant-loop-key : goal.invariant-loop-key
invariant-loop-key l = paired l.keys.items l.fn.values.items ≡ pairs_of l.pairs.items ++ paired (drop l.key-index l.keys.items) (into_iter_items l.rest)
