use Rattle.pg_live.specs.Opening.{AreOpening}
use Rattle.pg_live.proofs.live_graph.empty_stores.Given as goal

abbrev pub invariant-loop-owner : goal.invariant-loop-owner
invariant-loop-owner g l = AreOpening g.T.Tables.seen l.owner l.stores.items
