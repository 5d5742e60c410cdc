use Rattle.pg_grammar.proofs.Joined.{reading, updating}
use Rattle.pg_grammar.proofs.law_of_clause_readings.Goals as goal

pub returns-clause-reading : goal.returns-clause-reading
returns-clause-reading c = reading

pub returns-clause-updating : goal.returns-clause-updating
returns-clause-updating c = updating
