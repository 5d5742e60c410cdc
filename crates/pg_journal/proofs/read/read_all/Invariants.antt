use Rattle.std.proofs.Common.{◌≤◌, ◌+◌, ◌-◌, List, length}
use Rattle.pg_journal.specs.Records.{Kept}
use Rattle.pg_journal.specs.Files.{first_record}
use Rattle.pg_journal.specs.Reading.{IsRead, IsFound}
use Rattle.pg_journal.proofs.read.read_all.Given as goal

abbrev pub invariant-loop-at : goal.invariant-loop-at
invariant-loop-at g l = record {
  within : l.at ≤ l.size;
  reads : g.D.Device.is_honest → IsRead g.D.Device.seen g.D.Device.may_leave g.D.Device.moment g.D.Device.left_since l.fn.device l.device;
  found : g.D.Device.is_honest → first_record + l.size ≤ length (g.D.Device.seen l.fn.device)
      → (ks : List Kept) × IsFound g.R.Replay.replays l.at l.digest (g.D.Device.seen l.fn.device) l.fn.replay l.replay ks;
}

abbrev pub decreases-loop-at : goal.decreases-loop-at
decreases-loop-at g l = l.size - l.at
