use Rattle.std.proofs.Common.{◌≡◌, length}
use Rattle.pg_write.specs.Gathered.{put_all}
use Rattle.pg_write.proofs.pending_deletes.put_all.Given as goal

abbrev pub invariant-loop-id : goal.invariant-loop-id
invariant-loop-id l = put_all l.others l.ids.keys ≡ put_all l.fn.others l.fn.ids.keys

abbrev pub decreases-loop-id : goal.decreases-loop-id
decreases-loop-id l = length l.others
