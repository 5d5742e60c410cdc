use Rattle.pg_listen.specs.Courses.{Does}
use Rattle.pg_listen.proofs.ListenLemmas.{Listening}
use Rattle.pg_listen.proofs.clients.listen.Given as goal

abbrev pub invariant-loop-step : goal.invariant-loop-step
invariant-loop-step g l = Listening (Does g.S.Service.answers g.S.Service.settles g.S.Service.all_kept) g.S.Service.is_own (g.N.Network.trace l.fn.net) (g.N.Network.trace l.net) l.fn.service l.service l.clients
