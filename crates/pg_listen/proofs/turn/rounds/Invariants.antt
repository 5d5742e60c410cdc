use Rattle.std.proofs.Common.{List}
use Rattle.pg_listen.specs.Courses.{Does}
use Rattle.pg_listen.specs.Client.{seen}
use Rattle.pg_listen.specs.Events.{Event}
use Rattle.pg_listen.specs.Moves.{Moves}
use Rattle.pg_listen.proofs.turn.rounds.Given as goal

abbrev pub invariant-loop-round : goal.invariant-loop-round
invariant-loop-round g l = (events : List Event) × Moves (Does g.S.Service.answers g.S.Service.settles g.S.Service.all_kept) l.number (g.N.Network.trace l.fn.net) (g.N.Network.trace l.net) l.fn.service l.service (seen l.fn.client) (seen l.client) events
