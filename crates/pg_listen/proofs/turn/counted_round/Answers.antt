use Rattle.std.proofs.Common.{[], subst}
use Rattle.pg_listen.specs.Courses.{Does}
use Rattle.pg_listen.specs.Client.{seen}
use Rattle.pg_listen.specs.Moves.{MovesOn}
use Rattle.pg_listen.proofs.MoveLemmas.{Moves-nil}
use Rattle.pg_listen.proofs.turn.counted_round.Goals as goal

pub returns-in-Ok : goal.returns-in-Ok
returns-in-Ok g c =
    subst (λ s. MovesOn (Does g.S.Service.answers g.S.Service.settles g.S.Service.all_kept) c.args.number (g.N.Network.trace c.args.net.now) (g.N.Network.trace c.round.new.net) c.args.service.now c.round.new.service s (seen c.round.new.client) c.round.result)
    c.join.ensures c.round.ensures

pub returns-in-Err : goal.returns-in-Err
returns-in-Err g c = (seen c.args.client.now, [], Moves-nil _ c.args.number _ _ _, tt)
