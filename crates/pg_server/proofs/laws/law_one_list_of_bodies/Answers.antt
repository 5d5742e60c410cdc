use Rattle.pg_server.proofs.ReadingLemmas.{one_reading}
use Rattle.pg_server.proofs.laws.law_one_list_of_bodies.Goals as goal

pub returns : goal.returns
returns c = one_reading
