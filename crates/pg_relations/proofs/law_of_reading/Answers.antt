use Rattle.pg_relations.proofs.ReadsDecided.{unwind_is_one, match_is_one}
use Rattle.pg_relations.proofs.law_of_reading.Goals as goal

pub returns-clause-unwinds : goal.returns-clause-unwinds
returns-clause-unwinds c = unwind_is_one

pub returns-clause-matches : goal.returns-clause-matches
returns-clause-matches c = match_is_one
