use Rattle.pg_meaning.specs.AgreementLaws.{clauses_make_queries}
use Rattle.pg_meaning.proofs.laws.law_of_clauses.Goals as goal

pub returns : goal.returns
returns c = clauses_make_queries
