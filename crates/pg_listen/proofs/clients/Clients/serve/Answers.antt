use Rattle.std.proofs.Common.{sym, ◌∙◌, [], subst, append-nil, rules, refl, nat_eq}
use Rattle.std.proofs.lemmas.List.Elements.{All-nil}
use Rattle.std.specs.HashMap.{get}
use Rattle.pg_listen.specs.Clients.{Stand, client_at}
use Rattle.pg_listen.proofs.EventLemmas.{Adds-nil}
use Rattle.pg_listen.proofs.ClientsLemmas.{stand_moved, stand_lost, at_key, at_others}
use Rattle.pg_listen.proofs.ListenLemmas.{Adds-more, none_own}
use Rattle.pg_listen.proofs.clients.Clients.serve.Goals as goal

pub returns-in_default : goal.returns-in_default
returns-in_default g c = (
  [],
  record {
    known = Adds-nil _;
    course = refl;
    own = All-nil g.S.Service.is_own;
    stand = λ before s. subst (λ l. Stand l (λ q. get nat_eq c.get_mut.follows.lender-at-none q) c.args.self.now.next) (sym (append-nil before))
        (subst (λ m. Stand before (λ q. get nat_eq m q) c.args.self.now.next) (sym c.get_mut.follows.holds-at-none) s);
  },
)

pub returns-in-Ok : goal.returns-in-Ok
returns-in-Ok g c =
    let m = c.in-Ok.ensures in
    let change = ((c.get_mut.follows.holds c.turn.new.client).3 (search rules)).0 in (
      m.1,
      record {
        known = m.2.known;
        course = m.2.course;
        own = none_own g.S.Service.is_own m.1 m.2.passes.whole.none_own;
        stand = λ before s. stand_moved before (client_at c.args.self.now) _ _ s c.args.number c.in-Some.client.now (search rules) m.0 m.1 m.2.passes (at_others (client_at c.args.self.now) _ _ _ change) c.turn.new.client (at_key (client_at c.args.self.now) _ _ _ change) m.3;
      },
    )

pub returns-in-Err : goal.returns-in-Err
returns-in-Err g c =
    let m = c.in-Err.ensures in
    let mid = c.get_mut.follows.lender c.turn.new.client in
    let change = ((c.get_mut.follows.holds c.turn.new.client).3 (search rules)).0 in
    let removed = c.remove.ensures.updates.0 in (
      m.1,
      record {
        known = Adds-more _ _ _ _ m.2.known c.close.ensures;
        course = m.2.course;
        own = none_own g.S.Service.is_own m.1 m.2.passes.whole.none_own;
        stand = λ before s. stand_lost before (client_at c.args.self.now) (λ q. get nat_eq c.remove.new.self q) _ s c.args.number c.in-Some.client.now (search rules) m.0 m.1 m.2.passes
            (λ q apart. at_others (λ q. get nat_eq mid q) (λ q. get nat_eq c.remove.new.self q) _ _ removed q apart ∙ at_others (client_at c.args.self.now) (λ q. get nat_eq mid q) _ _ change q apart)
            (at_key (λ q. get nat_eq mid q) (λ q. get nat_eq c.remove.new.self q) _ _ removed);
      },
    )
