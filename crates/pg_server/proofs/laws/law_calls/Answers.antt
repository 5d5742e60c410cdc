use Rattle.pg_server.proofs.RunLemmas.{Runs-of_chain}
use Rattle.pg_server.proofs.laws.law_calls.Goals as goal

pub returns : goal.returns
returns c = Runs-of_chain
