use Rattle.pg_listen.proofs.ListenLemmas.{rests_trans}
use Rattle.pg_listen.proofs.clients.Clients.tick.Goals as goal

pub returns : goal.returns
returns g c =
    let r = rests_trans _ _ _ _ _ _ c.close_unwanted.ensures c.close_largest.ensures in
    record { known = r.known; stand = λ before s. c.note_due.ensures before (r.stand before s) }
