use Rattle.std.proofs.Common.{sym, ◌∙◌}
use Rattle.pg_journal.proofs.Unique.{one_digest}
use Rattle.pg_journal.proofs.read.replay_all.Goals as goal

pub returns-then-branch-digest-clause-damaged : goal.returns-then-branch-digest-clause-damaged
returns-then-branch-digest-clause-damaged g c = λ honest long is ks fits bytes sum.
    let found = c.in_ok-read_all.ensures.found honest fits in
    c.if-branch-digest.true (one_digest g.R.Replay.replays c.args.size c.in_ok-read_all.field-0 (g.D.Device.seen c.args.device.now) c.args.replay.now c.read_all.new.replay found.0 ks fits c.ranges.size.fits found.1 bytes ∙ sym sum)
