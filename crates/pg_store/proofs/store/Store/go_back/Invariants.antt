use Rattle.std.proofs.Common.{length}
use Rattle.pg_store.proofs.TakenBack.{GoesBack}
use Rattle.pg_store.proofs.store.Store.go_back.Given as goal

abbrev pub invariant-loop-mark : goal.invariant-loop-mark
invariant-loop-mark g l = GoesBack g.T.Tables.seen l.mark.journal l.fn.self l.fn.shared l.self l.shared

abbrev pub decreases-loop-mark : goal.decreases-loop-mark
decreases-loop-mark g l = length l.self.journal.items
