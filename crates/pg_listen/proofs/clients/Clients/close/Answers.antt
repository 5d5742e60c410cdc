use Rattle.pg_listen.specs.Clients.{client_at}
use Rattle.pg_listen.proofs.ClientsLemmas.{stand_removed, at_key, at_others}
use Rattle.pg_listen.proofs.clients.Clients.close.Goals as goal

pub returns : goal.returns
returns g c =
    let change = c.remove.ensures.updates.0 in
    record {
      known = c.close.ensures;
      stand = λ before s. stand_removed before (client_at c.args.self.now) _ _ s c.args.number (at_key (client_at c.args.self.now) _ _ _ change) (at_others (client_at c.args.self.now) _ _ _ change);
    }
