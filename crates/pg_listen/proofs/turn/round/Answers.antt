use Rattle.std.proofs.Common.{sym, ◌∙◌}
use Rattle.pg_listen.specs.Client.{seen}
use Rattle.pg_listen.proofs.MoveLemmas.{answers_carries, from_answers}
use Rattle.pg_listen.proofs.turn.round.Goals as goal

pub returns-in-Ok : goal.returns-in-Ok
returns-in-Ok g c =
    let a = c.in-Ok.ensures c.args.number in
    answers_carries _ c.args.number _ (seen c.note_time.new.self) _ _ _ _ _ (a.0, a.1, a.2, a.3 ∙ sym c.note_time.ensures) c.transfer.ensures

pub returns-in-Err : goal.returns-in-Err
returns-in-Err g c = let a = c.in-Err.ensures c.args.number in (a.0, a.1, from_answers _ c.args.number _ _ _ _ _ _ a.2, tt)
