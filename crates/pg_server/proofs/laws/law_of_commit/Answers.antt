use Rattle.pg_server.proofs.TransactionLemmas.{commit_keeps}
use Rattle.pg_server.proofs.laws.law_of_commit.Goals as goal

pub returns : goal.returns
returns c = commit_keeps
