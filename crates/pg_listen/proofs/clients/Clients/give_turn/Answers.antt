use Rattle.std.proofs.Common.{sym, subst, rules, nat_eq}
use Rattle.std.specs.HashMap.{get}
use Rattle.pg_listen.specs.Clients.{Stand, client_at}
use Rattle.pg_listen.proofs.ClientsLemmas.{stand_kept, at_key, at_others}
use Rattle.pg_listen.proofs.clients.Clients.give_turn.Goals as goal

pub returns-in_default : goal.returns-in_default
returns-in_default c = λ before s. subst (λ m. Stand before (λ q. get nat_eq m q) c.args.self.now.next) (sym c.get_mut.follows.holds-at-none) s

pub returns : goal.returns
returns c =
    let change = ((c.get_mut.follows.holds c.give_turn.new.self).3 (search rules)).0 in
    λ before s. stand_kept before (client_at c.args.self.now) _ _ s c.args.number c.in-Some.client.now (search rules) (at_others (client_at c.args.self.now) _ _ _ change) c.give_turn.new.self (at_key (client_at c.args.self.now) _ _ _ change) (sym c.give_turn.ensures)
