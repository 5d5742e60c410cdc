use Rattle.std.proofs.Common.{sym, ◌∙◌}
use Rattle.pg_listen.proofs.MoveLemmas.{whatever, moves_told}
use Rattle.pg_listen.proofs.turn.turn.Goals as goal

pub returns-in-Ok : goal.returns-in-Ok
returns-in-Ok g c =
    let m = moves_told _ c.args.number _ _ _ _ _ _ _ _ c.take_turn.ensures c.in-Ok.ensures c.note.ensures in
    (m.0, m.1, m.2, whatever c.end_turn.result (m.3 ∙ sym c.end_turn.ensures))

pub returns-in-Err : goal.returns-in-Err
returns-in-Err g c = let m = moves_told _ c.args.number _ _ _ _ _ _ _ _ c.take_turn.ensures c.in-Err.ensures c.note.ensures in (m.0, m.1, m.2, tt)
