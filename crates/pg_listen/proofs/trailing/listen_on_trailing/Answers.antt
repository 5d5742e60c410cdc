use Rattle.std.proofs.Common.{◌≡◌, ap, sym, subst}
use Rattle.std.specs.Prelude.{⊤}
use Rattle.pg_listen.specs.Listens.{ServesMany}
use Rattle.pg_listen.proofs.ManyLemmas.{serves_many_over}
use Rattle.pg_server.specs.Handles.{Handles}
use Rattle.pg_listen.proofs.trailing.listen_on_trailing.Goals as goal

pub returns-then-settle : goal.returns-then-settle
returns-then-settle g c =
    let served = serves_many_over (λ old body reply new. Handles old.journaled.server.state body reply new.journaled.server.state) (λ old new. new.journaled.server ≡ old.journaled.server) (λ s. ⊤)
    (λ s. s.journaled.server.state) (λ old new body reply h. h) (λ old new same. ap (λ s. s.state) same) _ _ c.args.service.now c.listen-end.new.service c.law_calls.ensures c.listen-end.ensures in
    record { serves = subst (λ s. ServesMany (g.N.Network.trace c.args.net.now) (g.N.Network.trace c.listen-end.new.net) c.args.service.now.journaled.server.state s.state) (sym c.settle.ensures) served }

pub returns-else-settle : goal.returns-else-settle
returns-else-settle g c =
    let served = serves_many_over (λ old body reply new. Handles old.journaled.server.state body reply new.journaled.server.state) (λ old new. new.journaled.server ≡ old.journaled.server) (λ s. ⊤)
    (λ s. s.journaled.server.state) (λ old new body reply h. h) (λ old new same. ap (λ s. s.state) same) _ _ c.args.service.now c.listen-end.new.service c.law_calls.ensures c.listen-end.ensures in
    record { serves = subst (λ s. ServesMany (g.N.Network.trace c.args.net.now) (g.N.Network.trace c.listen-end.new.net) c.args.service.now.journaled.server.state s.state) (sym c.settle.ensures) served }
