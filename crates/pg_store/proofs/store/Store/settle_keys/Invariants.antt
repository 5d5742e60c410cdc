use Rattle.std.proofs.Common.{length}
use Rattle.pg_store.proofs.store.Store.settle_keys.Given as goal
use Rattle.pg_store.specs.Stores.{Settles}

abbrev pub invariant-loop-entry : goal.invariant-loop-entry
invariant-loop-entry g l = Settles g.T.Tables.seen l.fn.self l.fn.shared l.self l.shared

abbrev pub decreases-loop-entry : goal.decreases-loop-entry
decreases-loop-entry g l = length l.entries.items
