use Rattle.std.proofs.Common.{[], ◌∷◌, refl, sym, ap, take, drop, subst}
use Rattle.pg_listen.specs.Client.{seen}
use Rattle.pg_listen.specs.Events.{sent, Adds}
use Rattle.pg_listen.proofs.StepLemmas.{went_nowhere, was_sent}
use Rattle.pg_listen.proofs.turn.send.Goals as goal

pub returns-in-Taken : goal.returns-in-Taken
returns-in-Taken g c = (
  record (seen c.args.client.now) { pending = drop c.in-Taken.n (seen c.args.client.now).pending },
  sent c.args.number (take c.in-Taken.n (seen c.args.client.now).pending) ∷ [],
  record { passes = was_sent c.args.number (seen c.args.client.now) c.in-Taken.n; known = subst (λ l. Adds (g.N.Network.trace c.args.net.now) (g.N.Network.trace c.send.new.self) (sent c.args.number (take c.in-Taken.n l) ∷ [])) c.front.ensures c.in-Taken.ensures.0; only = (tt, tt) },
  ap (λ l. record (seen c.args.client.now) { pending = l }) (sym c.skip.ensures),
)

pub returns-in-Full : goal.returns-in-Full
returns-in-Full g c = (seen c.args.client.now, [], record { passes = went_nowhere c.args.number _; known = c.in-Full.ensures; only = tt }, refl)

pub returns-in-Failed : goal.returns-in-Failed
returns-in-Failed g c = (seen c.args.client.now, [], record { passes = went_nowhere c.args.number _; known = c.in-Failed.ensures; only = tt }, tt)
