use Rattle.pg_listen.specs.Clients.{Rests}
use Rattle.pg_listen.proofs.clients.Clients.accept_all.Given as goal

abbrev pub invariant-loop-accepted : goal.invariant-loop-accepted
invariant-loop-accepted g l = Rests (g.N.Network.trace l.fn.net) (g.N.Network.trace l.net) l.fn.self l.self
