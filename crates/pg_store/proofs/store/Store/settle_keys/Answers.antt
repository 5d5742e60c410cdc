use Rattle.pg_store.proofs.Settled.{settles_first, settles_then}
use Rattle.pg_store.proofs.store.Store.settle_keys.Goals as goal

pub loop-entry-init : goal.loop-entry-init
loop-entry-init g c = settles_first g.T.Tables.seen c.args.self.now c.args.shared.now c.requires

pub settle_entry-requires : goal.settle_entry-requires
settle_entry-requires g c = c.loop-entry.invariant.settling

pub loop-entry-preserved : goal.loop-entry-preserved
loop-entry-preserved g c = settles_then g.T.Tables.seen c.args.self.now c.loop-entry.self c.settle_entry.new.self c.args.shared.now c.loop-entry.shared c.settle_entry.new.shared c.loop-entry.invariant c.settle_entry.ensures
