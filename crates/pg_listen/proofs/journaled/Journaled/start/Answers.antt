use Rattle.std.proofs.Common.{sym, subst, ◌∙◌}
use Rattle.pg_journal.specs.Device.{Only}
use Rattle.pg_journal.specs.Files.{Recovers}
use Rattle.pg_journal.specs.Reading.{Replayed}
use Rattle.pg_listen.specs.Keeping.{Again}
use Rattle.pg_listen.proofs.KeepingLemmas.{again_of}
use Rattle.pg_listen.proofs.journaled.Journaled.start.Goals as goal

pub returns-in-Ok-clause-starts : goal.returns-in-Ok-clause-starts
returns-in-Ok-clause-starts g c = λ honest only.
    let same = c.new-journal.ensures in
    let r = c.in-Ok.ensures.recovered honest (subst (λ d. Only (g.D.Device.seen d) (g.D.Device.may_leave d)) (sym same) only) in
    let again = again_of (λ a. a.server.state) (λ a. a.names) _ _ r.0 r.3 in (
      r.0,
      subst (λ d. Recovers r.0 (g.D.Device.seen d)) same r.1,
      subst (λ ns. Replayed (Again ns) c.args.server.state r.0 c.recover.new.replay.server.state) c.new-answering.ensures.names
          (subst (λ s. Replayed (Again c.new-answering.result.names) s.state r.0 c.recover.new.replay.server.state) c.new-answering.ensures.server again.0),
      c.new-keeper.ensures r.0 r.2,
    )

pub returns-in-Ok-clause-names : goal.returns-in-Ok-clause-names
returns-in-Ok-clause-names g c = λ honest only.
    let same = c.new-journal.ensures in
    let r = c.in-Ok.ensures.recovered honest (subst (λ d. Only (g.D.Device.seen d) (g.D.Device.may_leave d)) (sym same) only) in
    (again_of (λ a. a.server.state) (λ a. a.names) _ _ r.0 r.3).1 ∙ c.new-answering.ensures.names
