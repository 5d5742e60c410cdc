use Rattle.std.proofs.Common.{◌≡◌, ap}
use Rattle.pg_listen.proofs.KeepingLemmas.{serves_kept}
use Rattle.pg_listen.proofs.journaled.listen_on_journal.Goals as goal

pub returns : goal.returns
returns g c = record { serves = serves_kept g.D.Device.is_honest g.D.Device.seen g.D.Device.may_leave g.D.Device.moment g.D.Device.left_since (λ s. s.server.state) (λ s. s.names) (λ s. s.keeper) (λ old new. new.server ≡ old.server) (λ old new same. ap (λ s. s.state) same) _ _ c.args.service.now c.listen.new.service c.law_calls.ensures c.listen.ensures }
