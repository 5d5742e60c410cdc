use Rattle.std.proofs.Common.{◌≡◌, length}
use Rattle.pg_store.proofs.store.Store.sweep.Given as goal
use Rattle.pg_store.specs.Stores.{state_of, Settles}

abbrev pub invariant-loop-place : goal.invariant-loop-place
invariant-loop-place g l = record {
  settles : Settles g.T.Tables.seen l.fn.self l.shared l.self l.shared;
  state : state_of g.T.Tables.seen l.self l.shared ≡ state_of g.T.Tables.seen l.fn.self l.shared;
}

abbrev pub decreases-loop-place : goal.decreases-loop-place
decreases-loop-place g l = length l.self.sets.stale_ids.items
