use Rattle.pg_listen.proofs.ListenLemmas.{keeps_moves}
use Rattle.pg_listen.proofs.clients.Clients.step.Goals as goal

pub returns-in-Some : goal.returns-in-Some
returns-in-Some g c = keeps_moves _ _ _ _ _ _ _ _ _ c.in-Some.ensures c.roll_back.ensures

pub returns-in-None : goal.returns-in-None
returns-in-None g c = keeps_moves _ _ _ _ _ _ _ _ _ c.in-None.ensures c.go_on.ensures
