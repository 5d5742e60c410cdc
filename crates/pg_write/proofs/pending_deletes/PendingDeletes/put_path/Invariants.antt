use Rattle.std.proofs.Common.{◌≡◌, length}
use Rattle.pg_write.specs.Gathered.{put_path}
use Rattle.pg_write.proofs.pending_deletes.PendingDeletes.put_path.Given as goal

abbrev pub invariant-loop-node : goal.invariant-loop-node
invariant-loop-node g l = put_path l.graph l.rest l.self ≡ put_path l.graph l.ids l.fn.self

abbrev pub decreases-loop-node : goal.decreases-loop-node
decreases-loop-node g l = length l.rest
