use Rattle.std.proofs.Common.{rules}
use Rattle.pg_listen.specs.Clients.{client_at}
use Rattle.pg_listen.proofs.EventLemmas.{Adds-trans}
use Rattle.pg_listen.proofs.ClientsLemmas.{stand_admitted, stand_skipped, at_key, at_others}
use Rattle.pg_listen.proofs.clients.Clients.accept.Goals as goal

pub returns-in-Ok : goal.returns-in-Ok
returns-in-Ok g c =
    let change = c.in-Ok.ensures.updates.0 in
    record {
      known = c.accept.ensures;
      stand = λ before s. stand_admitted before (client_at c.args.self.now) _ _ s c.new-client.result c.new-client.ensures (at_key (client_at c.args.self.now) _ _ _ change) (at_others (client_at c.args.self.now) _ _ _ change);
    }

pub returns : goal.returns
returns g c =
    record {
      known = Adds-trans _ _ _ _ _ c.accept.ensures c.close.ensures;
      stand = λ before s. stand_skipped before (client_at c.args.self.now) _ _ s (λ q. search rules);
    }
