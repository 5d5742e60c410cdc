use Rattle.pg_listen.proofs.ListenLemmas.{keeps_moves, keeps_rests, rests_moves}
use Rattle.pg_listen.proofs.clients.Clients.go_on.Goals as goal

pub returns-in-Some : goal.returns-in-Some
returns-in-Some g c = keeps_moves _ _ _ _ _ _ _ _ _ c.in-Some.ensures c.serve.ensures

pub returns-in-None : goal.returns-in-None
returns-in-None g c = rests_moves _ _ _ _ _ _ _ (keeps_rests _ _ _ _ _ c.in-None.ensures c.look.ensures)
