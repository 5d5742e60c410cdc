use Rattle.pg_listen.proofs.ListenLemmas.{after_look}
use Rattle.pg_listen.proofs.clients.Clients.look.Goals as goal

pub returns : goal.returns
returns g c = after_look _ _ _ _ _ _ _ c.settle.ensures c.next-signal.ensures c.handle.ensures
