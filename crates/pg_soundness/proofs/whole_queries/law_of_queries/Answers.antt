use Rattle.pg_soundness.proofs.WholeQueriesAnswers.{meaning_of_queries}
use Rattle.pg_soundness.proofs.whole_queries.law_of_queries.Goals as goal

pub returns : goal.returns
returns c = meaning_of_queries
