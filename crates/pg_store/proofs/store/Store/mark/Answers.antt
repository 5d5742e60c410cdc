use Rattle.std.proofs.Common.{arith}
use Rattle.pg_store.proofs.Marks.{marks_this, is_marked}
use Rattle.pg_store.proofs.store.Store.mark.Goals as goal

pub returns-clause-there : goal.returns-clause-there
returns-clause-there g c = is_marked g.T.Tables.seen c.args.self.now c.args.shared.now _ (omega (arith, c.len.ensures)) c.len-2.ensures.len c.requires.fit

pub returns-clause-graph : goal.returns-clause-graph
returns-clause-graph g c = marks_this g.T.Tables.seen c.args.self.now c.args.shared.now _ (omega (arith, c.len.ensures)) c.len-2.ensures.len
