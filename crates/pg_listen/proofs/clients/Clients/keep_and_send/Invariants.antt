use Rattle.pg_listen.specs.Clients.{AllMoveOn}
use Rattle.pg_listen.specs.Courses.{Does}
use Rattle.pg_listen.proofs.clients.Clients.keep_and_send.Given as goal

abbrev pub invariant-loop-number : goal.invariant-loop-number
invariant-loop-number g l = AllMoveOn (Does g.S.Service.answers g.S.Service.settles g.S.Service.all_kept) g.S.Service.is_own (g.N.Network.trace l.fn.net) (g.N.Network.trace l.net) l.fn.service l.service l.fn.self l.self
