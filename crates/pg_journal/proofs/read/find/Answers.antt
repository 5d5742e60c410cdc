use Rattle.std.proofs.Common.{◌+◌, ◌≤◌, inl, ℕ, List, [], length, take, refl, sym, ◌∙◌, ap, subst, arith, rules, ⊎_elim}
use Rattle.std.proofs.lemmas.List.{append-nil}
use Rattle.pg_journal.specs.Records.{Kept}
use Rattle.pg_journal.specs.Device.{part}
use Rattle.pg_journal.specs.Reading.{Tells, RecoversAlike, IsFound}
use Rattle.pg_journal.specs.declared.head.Head.TheVariants.{Counts}
use Rattle.pg_journal.specs.Files.{IsUnbegun, Recovers}
use Rattle.pg_journal.proofs.Moments.{then}
use Rattle.pg_journal.proofs.Reading.{read_alike, read_only}
use Rattle.pg_journal.proofs.Begun.{unbegun_none}
use Rattle.pg_journal.proofs.Found.{finds_counted, tells_unbegun, no_journal, counted_is}
use Rattle.pg_journal.proofs.read.find.Goals as goal

pub returns-in_err-begin-in-Unbegun-clause-any_moment : goal.returns-in_err-begin-in-Unbegun-clause-any_moment
returns-in_err-begin-in-Unbegun-clause-any_moment g c = λ honest only.
    let old = c.args.device.now in
    let file = g.D.Device.seen old in
    let read = c.in_ok-head.ensures.reads honest in
    let unbegun : IsUnbegun file = tells_unbegun file (subst (Tells _ _) c.in-Unbegun.is (c.in_ok-head.ensures.tells honest)) in
    then g.D.Device.moment g.D.Device.left_since old c.head_of.new.device c.begin.new.device (RecoversAlike file) (Recovers [])
    (read_alike g.D.Device.seen g.D.Device.may_leave g.D.Device.moment g.D.Device.left_since g.met.D.Device.only_now old c.head_of.new.device only read)
    (c.begin.ensures.any_moment honest (subst IsUnbegun (sym read.same) unbegun) (read_only g.D.Device.seen g.D.Device.may_leave g.D.Device.moment g.D.Device.left_since g.met.D.Device.only_now old c.head_of.new.device only read))
    (λ f none ks recovers. subst (λ (vs : List Kept). Recovers vs f) (sym (unbegun_none ks file unbegun recovers)) none)

pub returns-in_ok-begin-in-Unbegun-clause-any_moment : goal.returns-in_ok-begin-in-Unbegun-clause-any_moment
returns-in_ok-begin-in-Unbegun-clause-any_moment g c = λ honest only.
    let old = c.args.device.now in
    let file = g.D.Device.seen old in
    let read = c.in_ok-head.ensures.reads honest in
    let unbegun : IsUnbegun file = tells_unbegun file (subst (Tells _ _) c.in-Unbegun.is (c.in_ok-head.ensures.tells honest)) in
    then g.D.Device.moment g.D.Device.left_since old c.head_of.new.device c.begin.new.device (RecoversAlike file) (Recovers [])
    (read_alike g.D.Device.seen g.D.Device.may_leave g.D.Device.moment g.D.Device.left_since g.met.D.Device.only_now old c.head_of.new.device only read)
    (c.begin.ensures.any_moment honest (subst IsUnbegun (sym read.same) unbegun) (read_only g.D.Device.seen g.D.Device.may_leave g.D.Device.moment g.D.Device.left_since g.met.D.Device.only_now old c.head_of.new.device only read))
    (λ f none ks recovers. subst (λ (vs : List Kept). Recovers vs f) (sym (unbegun_none ks file unbegun recovers)) none)

pub returns-in_ok-begin-in-Unbegun-clause-found : goal.returns-in_ok-begin-in-Unbegun-clause-found
returns-in_ok-begin-in-Unbegun-clause-found g c = λ honest.
    let file = g.D.Device.seen c.args.device.now in
    let read = c.in_ok-head.ensures.reads honest in
    let unbegun : IsUnbegun file = tells_unbegun file (subst (Tells _ _) c.in-Unbegun.is (c.in_ok-head.ensures.tells honest)) in (
      [],
      record {
        recovers = inl (unbegun, refl);
        file = c.in_ok-begin-in-Unbegun.ensures.begun honest (subst IsUnbegun (sym read.same) unbegun);
        replayed = refl;
      },
    )

pub returns-in_ok-size-in-Counts-clause-found : goal.returns-in_ok-size-in-Counts-clause-found
returns-in_ok-size-in-Counts-clause-found g c = λ honest.
    let file = g.D.Device.seen c.args.device.now in
    let mid = g.D.Device.seen c.head_of.new.device in
    let same = (c.in_ok-head.ensures.reads honest).same in
    let long = c.in_ok-head.ensures.length honest in
    let tells = subst (Tells _ _) c.in-Counts.is (c.in_ok-head.ensures.tells honest) in
    let size_is = c.in_ok-size-in-Counts.ensures.size.0 in
    let found = c.in_ok-size-in-Counts.ensures.found honest (long ∙ ap length (sym same)) in
    let fits : 41 + c.in_ok-size-in-Counts.size ≤ length file = omega (arith, size_is, c.in_ok-size-in-Counts.ensures.size.1, long) in (
      found.0,
      finds_counted g.R.Replay.replays c.in-Counts.slot c.in_ok-size-in-Counts.size c.in-Counts.digest file (g.D.Device.seen c.replay_all.new.device) c.args.replay.now c.replay_all.new.replay found.0
          (subst (λ (n : ℕ). Tells (take 41 file) (length file) (Counts c.in-Counts.slot n c.in-Counts.digest)) (sym size_is) tells) fits
          (subst (λ (n : ℕ). IsFound g.R.Replay.replays n c.in-Counts.digest file c.args.replay.now c.replay_all.new.replay found.0) (sym size_is)
          (subst (λ (f : List ℕ). IsFound g.R.Replay.replays c.in-Counts.size c.in-Counts.digest f c.args.replay.now c.replay_all.new.replay found.0) same found.1))
          ((c.replay_all.ensures.reads honest).same ∙ same),
    )

pub returns-in-Foreign-clause-refused : goal.returns-in-Foreign-clause-refused
returns-in-Foreign-clause-refused g c = λ honest is ks recovers.
    no_journal (g.D.Device.seen c.args.device.now) ks (subst (Tells _ _) c.in-Foreign.is (c.in_ok-head.ensures.tells honest)) recovers

pub returns-in-Damaged-clause-refused : goal.returns-in-Damaged-clause-refused
returns-in-Damaged-clause-refused g c = λ honest is ks recovers.
    no_journal (g.D.Device.seen c.args.device.now) ks (subst (Tells _ _) c.in-Damaged.is (c.in_ok-head.ensures.tells honest)) recovers

pub returns-in_err-size-in-Counts-clause-refused : goal.returns-in_err-size-in-Counts-clause-refused
returns-in_err-size-in-Counts-clause-refused g c = λ honest is ks recovers.
    let file = g.D.Device.seen c.args.device.now in
    let same = (c.in_ok-head.ensures.reads honest).same in
    let long = c.in_ok-head.ensures.length honest in
    let tells = subst (Tells (take 41 file) (length file)) c.in-Counts.is (c.in_ok-head.ensures.tells honest) in
    let counted = counted_is c.in-Counts.slot c.in-Counts.size c.in-Counts.digest file ks tells (omega (arith, long, c.in_ok-head.ensures.fits)) recovers in
    ⊎_elim
    (λ d. c.in_err-size-in-Counts.ensures.damaged honest (long ∙ ap length (sym same)) (search rules) ks (omega (arith, counted.0, ap length same)) (ap (part 41 c.in-Counts.size) same ∙ counted.1) counted.2)
    (λ f. c.in_err-size-in-Counts.ensures.foreign honest (search rules))
    is
