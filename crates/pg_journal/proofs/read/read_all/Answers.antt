use Rattle.std.proofs.Common.{◌+◌, ◌++◌, ◌∷◌, [], ℕ, List, length, ◌∙◌, ap, subst, arith, rules}
use Rattle.pg_journal.specs.Device.{part}
use Rattle.pg_journal.specs.Reading.{IsNext}
use Rattle.pg_journal.proofs.Reading.{read_then}
use Rattle.pg_journal.proofs.Decoded.{found_more}
use Rattle.pg_journal.specs.Records.{written}
use Rattle.pg_journal.proofs.Unique.{one_more}
use Rattle.pg_journal.proofs.read.read_all.Goals as goal

pub loop-at-preserved : goal.loop-at-preserved
loop-at-preserved g c =
    let i = c.loop-at.invariant in
    record {
      within = omega (arith, c.in_ok-length.ensures.length.1, i.within);
      reads = λ honest. read_then g.D.Device.seen g.D.Device.may_leave g.D.Device.moment g.D.Device.left_since g.met.D.Device.only_now c.args.device.now c.loop-at.device c.read_one.new.device (i.reads honest) (c.read_one.ensures.reads honest);
      found = λ honest fits.
          let file = g.D.Device.seen c.args.device.now in
          let same = (i.reads honest).same in
          let so_far = i.found honest fits in
          let next = c.in_ok-length.ensures.next honest (omega (arith, fits, ap length same, i.within, c.loop-at-test.true)) in (
            so_far.0 ++ next.0 ∷ [],
            found_more g.R.Replay.replays c.loop-at.at c.in_ok-length.length c.loop-at.digest c.in_ok-length.next file c.args.replay.now c.loop-at.replay c.read_one.new.replay so_far.0 next.0 so_far.1
                (subst (λ (f : List ℕ). IsNext g.R.Replay.replays c.loop-at.digest (part (41 + c.loop-at.at) c.in_ok-length.length f) c.in_ok-length.next c.loop-at.replay c.read_one.new.replay next.0) same next.1),
          );
    }

pub returns-in_err-length-clause-damaged : goal.returns-in_err-length-clause-damaged
returns-in_err-length-clause-damaged g c = λ honest fits is ks bytes.
    let i = c.loop-at.invariant in
    let file = g.D.Device.seen c.args.device.now in
    let same = (i.reads honest).same in
    let so_far = i.found honest fits in
    let one = one_more g.R.Replay.replays c.loop-at.at c.args.size c.loop-at.digest file c.args.replay.now c.loop-at.replay so_far.0 ks c.loop-at-test.true fits c.ranges.size.fits so_far.1 bytes in
    c.in_err-length.ensures.damaged honest (omega (arith, fits, ap length same, i.within, c.loop-at-test.true)) (search rules) one.0 one.1 (ap (part (41 + c.loop-at.at) (length (written c.loop-at.digest one.0))) same ∙ one.2)
