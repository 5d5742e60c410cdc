use Rattle.std.proofs.Common.{[], ◌∷◌, refl, sym, subst}
use Rattle.std.proofs.lemmas.List.Elements.{All-nil, All-cons}
use Rattle.pg_listen.specs.Clients.{client_at}
use Rattle.pg_listen.specs.Events.{by_server}
use Rattle.pg_listen.proofs.ClientsLemmas.{stand_quiet}
use Rattle.pg_listen.proofs.EventLemmas.{Adds-nil}
use Rattle.pg_listen.proofs.ListenLemmas.{rests_moves}
use Rattle.pg_listen.proofs.clients.Clients.roll_back.Goals as goal

pub returns-in_default : goal.returns-in_default
returns-in_default g c = rests_moves _ _ _ _ _ _ _ (record { known = Adds-nil _; stand = λ before s. s })

pub returns : goal.returns
returns g c = (
  by_server (record { body = c.deref.result.now; reply = c.answer-reply.result }) ∷ [],
  record {
    known = c.note_rollback.ensures;
    course = (c.answer-reply.new.self, c.answer-reply.ensures, refl);
    own = All-cons g.S.Service.is_own c.deref.result.now [] (subst g.S.Service.is_own (sym c.deref.ensures.value) c.in-Some.ensures) (All-nil g.S.Service.is_own);
    stand = λ before s. stand_quiet before (client_at c.args.self.now) c.args.self.now.next s _ (λ n. record { received = refl; exchanges = refl; sent = refl });
  },
)
