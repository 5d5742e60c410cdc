use Rattle.std.proofs.Common.{[], sym}
use Rattle.pg_listen.specs.Client.{seen}
use Rattle.pg_listen.proofs.StepLemmas.{went_nowhere}
use Rattle.pg_listen.proofs.EventLemmas.{Adds-nil}
use Rattle.pg_listen.proofs.turn.read_wanted.Goals as goal

pub returns-then-most-eq0 : goal.returns-then-most-eq0
returns-then-most-eq0 g c = (seen c.args.client.now, [], record { passes = went_nowhere c.args.number _; known = Adds-nil _; only = tt }, sym c.reading.ensures)
