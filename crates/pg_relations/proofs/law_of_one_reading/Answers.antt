use Rattle.pg_relations.proofs.ReadsDetermined.{unwind_gives_one, match_gives_one}
use Rattle.pg_relations.proofs.law_of_one_reading.Goals as goal

pub returns-clause-unwinds : goal.returns-clause-unwinds
returns-clause-unwinds c = unwind_gives_one

pub returns-clause-matches : goal.returns-clause-matches
returns-clause-matches c = match_gives_one
