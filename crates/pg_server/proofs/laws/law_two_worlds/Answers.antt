use Rattle.pg_server.proofs.SoloLemmas.{two_worlds}
use Rattle.pg_server.proofs.laws.law_two_worlds.Goals as goal

pub returns : goal.returns
returns c = two_worlds
