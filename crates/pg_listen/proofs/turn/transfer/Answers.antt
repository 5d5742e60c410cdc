use Rattle.std.proofs.Common.{refl, [], rules}
use Rattle.pg_listen.specs.Client.{seen}
use Rattle.pg_listen.proofs.MoveLemmas.{Moves-nil, from_carries}
use Rattle.pg_listen.proofs.turn.transfer.Goals as goal

pub returns-then-not-is_settled : goal.returns-then-not-is_settled
returns-then-not-is_settled g c = (seen c.args.client.now, [], Moves-nil _ c.args.number _ _ _, refl)

pub returns-else-not-is_settled : goal.returns-else-not-is_settled
returns-else-not-is_settled g c = from_carries g.S.Service.answers g.S.Service.settles g.S.Service.all_kept _ c.args.number _ _ _ _ _ (λ t. c.is_settled.ensures (search rules)) c.send.ensures

pub returns-then-client : goal.returns-then-client
returns-then-client g c = (seen c.args.client.now, [], Moves-nil _ c.args.number _ _ _, tt)

pub returns-then-not-has_frame : goal.returns-then-not-has_frame
returns-then-not-has_frame g c = from_carries g.S.Service.answers g.S.Service.settles g.S.Service.all_kept _ c.args.number _ _ _ _ _ (λ none. absurd none) c.read_wanted.ensures

pub returns-then-allowance-gt0 : goal.returns-then-allowance-gt0
returns-then-allowance-gt0 g c = (seen c.args.client.now, [], Moves-nil _ c.args.number _ _ _, refl)

pub returns-else-allowance-gt0 : goal.returns-else-allowance-gt0
returns-else-allowance-gt0 g c = (seen c.args.client.now, [], Moves-nil _ c.args.number _ _ _, refl)
