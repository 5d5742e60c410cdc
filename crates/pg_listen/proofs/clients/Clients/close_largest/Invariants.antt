use Rattle.pg_listen.specs.Clients.{Rests}
use Rattle.pg_listen.proofs.clients.Clients.close_largest.Given as goal

abbrev pub invariant-loop-closed : goal.invariant-loop-closed
invariant-loop-closed g l = Rests (g.N.Network.trace l.fn.net) (g.N.Network.trace l.net) l.fn.self l.self
