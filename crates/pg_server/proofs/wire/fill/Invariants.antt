use Rattle.std.proofs.Common.{length, take, ◌-◌, ◌≡◌, ◌≤◌}
use Rattle.std.specs.Io.KnownBytes.{Consumes}
use Rattle.pg_server.specs.Wire.{AreBytes}
use Rattle.pg_server.proofs.wire.fill.Given as goal

abbrev pub invariant-loop-at : goal.invariant-loop-at
invariant-loop-at g l = record {
  length_kept : length l.buf ≡ length l.initial.buf;
  within : l.at ≤ length l.buf;
  read : Consumes (g.R.Read.remaining l.fn.reader.inner) (g.R.Read.remaining l.reader.inner) (take l.at l.buf);
  bytes : AreBytes l.buf;
  count_kept : l.reader.faults ≡ l.fn.reader.faults;
}

abbrev pub decreases-loop-at : goal.decreases-loop-at
decreases-loop-at g l = length l.initial.buf - l.at
