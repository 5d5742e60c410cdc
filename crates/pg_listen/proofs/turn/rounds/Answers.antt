use Rattle.std.proofs.Common.{refl, []}
use Rattle.pg_listen.proofs.MoveLemmas.{Moves-nil, moves_then, moves_more}
use Rattle.pg_listen.proofs.turn.rounds.Goals as goal

pub loop-round-init : goal.loop-round-init
loop-round-init g c = ([], Moves-nil _ c.args.number _ _ _)

pub returns-in_default : goal.returns-in_default
returns-in_default g c = moves_then _ c.args.number _ _ _ _ _ _ _ _ _ c.loop-round.invariant c.in_default.ensures

pub returns-in_default-2 : goal.returns-in_default-2
returns-in_default-2 g c = moves_then _ c.args.number _ _ _ _ _ _ _ _ _ c.loop-round.invariant c.counted_round.ensures

pub loop-round-preserved : goal.loop-round-preserved
loop-round-preserved g c = moves_more _ c.args.number _ _ _ _ _ _ _ _ _ c.loop-round.invariant c.in-Ok-More.ensures

pub returns : goal.returns
returns g c = (_, c.loop-round.invariant.0, c.loop-round.invariant.1, refl)
