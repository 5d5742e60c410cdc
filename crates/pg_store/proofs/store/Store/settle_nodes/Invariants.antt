use Rattle.std.proofs.Common.{◌≡◌}
use Rattle.std.specs.FinMap as map
use Rattle.pg_store.proofs.store.Store.settle_nodes.Given as goal
use Rattle.pg_store.specs.Stores.{Settles}

abbrev pub invariant-loop-id : goal.invariant-loop-id
invariant-loop-id g l = record {
  settles : Settles g.T.Tables.seen l.fn.self l.fn.shared l.self l.shared;
  no_rels : l.self.gone_rels ≡ map.empty;
}

abbrev pub decreases-loop-id : goal.decreases-loop-id
decreases-loop-id g l = map.len l.self.gone_nodes
