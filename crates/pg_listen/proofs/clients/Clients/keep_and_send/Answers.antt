use Rattle.pg_listen.proofs.ListenLemmas.{settling_moves, moves_trans}
use Rattle.pg_listen.proofs.clients.Clients.keep_and_send.Goals as goal

pub returns-then-not-settle : goal.returns-then-not-settle
returns-then-not-settle g c = settling_moves g.S.Service.answers g.S.Service.settles g.S.Service.all_kept g.S.Service.is_own _ _ _ _ _ c.settle.ensures (λ before s. s)

pub loop-number-init : goal.loop-number-init
loop-number-init g c = settling_moves g.S.Service.answers g.S.Service.settles g.S.Service.all_kept g.S.Service.is_own _ _ _ _ _ c.settle.ensures (λ before s. s)

pub loop-number-preserved : goal.loop-number-preserved
loop-number-preserved g c = moves_trans _ _ _ _ _ _ _ _ _ _ _ c.loop-number.invariant c.serve.ensures
