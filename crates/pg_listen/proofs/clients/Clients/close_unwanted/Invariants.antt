use Rattle.pg_listen.specs.Clients.{Rests}
use Rattle.pg_listen.proofs.clients.Clients.close_unwanted.Given as goal

abbrev pub invariant-loop-number : goal.invariant-loop-number
invariant-loop-number g l = Rests (g.N.Network.trace l.fn.net) (g.N.Network.trace l.net) l.fn.self l.self
