use Rattle.std.proofs.Common.{[], ◌∷◌, ◌++◌, refl, sym, ap, take}
use Rattle.pg_listen.specs.Client.{seen}
use Rattle.pg_listen.specs.Events.{received}
use Rattle.pg_listen.proofs.StepLemmas.{went_nowhere, was_received}
use Rattle.pg_listen.proofs.turn.receive.Goals as goal

pub returns-in-Ok : goal.returns-in-Ok
returns-in-Ok g c = (
  record (seen c.args.client.now) { inbox = (seen c.args.client.now).inbox ++ take c.in-Bytes.n c.receive.new.buf },
  received c.args.number (take c.in-Bytes.n c.receive.new.buf) ∷ [],
  record { passes = was_received c.args.number (seen c.args.client.now) c.requires _; known = c.in-Bytes.ensures.0; only = tt },
  ap (λ l. record (seen c.args.client.now) { inbox = l }) (sym c.in-Ok.ensures.ok),
)

pub returns-in-Err : goal.returns-in-Err
returns-in-Err g c = (
  record (seen c.args.client.now) { inbox = (seen c.args.client.now).inbox ++ take c.in-Bytes.n c.receive.new.buf },
  received c.args.number (take c.in-Bytes.n c.receive.new.buf) ∷ [],
  record { passes = was_received c.args.number (seen c.args.client.now) c.requires _; known = c.in-Bytes.ensures.0; only = tt },
  tt,
)

pub returns-in-Waits : goal.returns-in-Waits
returns-in-Waits g c = (seen c.args.client.now, [], record { passes = went_nowhere c.args.number _; known = c.in-Waits.ensures; only = tt }, refl)

pub returns-in-Ended : goal.returns-in-Ended
returns-in-Ended g c = (seen c.args.client.now, [], record { passes = went_nowhere c.args.number _; known = c.in-Ended.ensures; only = tt }, tt)

pub returns-in-Failed : goal.returns-in-Failed
returns-in-Failed g c = (seen c.args.client.now, [], record { passes = went_nowhere c.args.number _; known = c.in-Failed.ensures; only = tt }, tt)
