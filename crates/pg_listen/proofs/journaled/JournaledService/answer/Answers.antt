use Rattle.std.proofs.Common.{◌∷◌, [], length, inr, refl, subst, arith}
use Rattle.std.proofs.lemmas.Bool.{le-leb, lt-leb}
use Rattle.pg_listen.specs.Keeping.{record_of, Takes}
use Rattle.pg_listen.proofs.KeepingLemmas.{kept_of, takes_none, takes_then}
use Rattle.pg_server.proofs.HandleLemmas.{no_room, too_long}
use Rattle.pg_server.specs.Frames.{body_limit}
use Rattle.pg_listen.proofs.journaled.JournaledService.answer.Goals as goal

pub returns-then-body-gt-MAX_BODY : goal.returns-then-body-gt-MAX_BODY
returns-then-body-gt-MAX_BODY g c = (
  too_long c.args.self.now.server.state c.args.body.now _ (lt-leb (length c.args.body.now) body_limit (omega (arith, c.if-body-gt-MAX_BODY.true))) c.refusal.ensures,
  refl,
  ([], inr (refl, refl), takes_none g.D.Device.seen g.D.Device.may_leave c.args.self.now.keeper c.args.self.now.keeper.journal (λ ks ws ready. ready) refl),
)

pub returns-then-not-make_room : goal.returns-then-not-make_room
returns-then-not-make_room g c = (
  no_room c.args.self.now.server.state c.args.body.now _ (le-leb (length c.args.body.now) body_limit (omega (arith, c.if-body-gt-MAX_BODY.false))) c.refusal-then-not-make_room.ensures,
  refl,
  ([], inr (refl, refl), c.make_room.ensures.same),
)

pub returns-in-Some : goal.returns-in-Some
returns-in-Some g c =
    let noted = c.handle_noting-answered in (
      noted.ensures.handles,
      refl,
      (
        record_of c.name-name.result.now c.args.body.now noted.result.reply ∷ [],
        kept_of c.args.self.now.names c.args.self.now.server.state noted.new.self.state c.args.body.now noted.result.reply noted.result.changed c.in-Some.place c.name-name.result.now c.in-Some.is noted.ensures.told noted.ensures.place c.name-name.ensures,
        takes_then g.D.Device.seen g.D.Device.may_leave _ _ _ _ c.make_room.ensures.same
            (subst (λ r. Takes g.D.Device.seen g.D.Device.may_leave c.make_room.new.self c.keep.new.self (record_of c.name-name.result.now c.args.body.now r ∷ [])) c.as_slice.ensures.value c.keep.ensures),
      ),
    )
