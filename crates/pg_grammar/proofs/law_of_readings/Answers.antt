use Rattle.pg_grammar.proofs.Joined.{reads_exactly, one_reading}
use Rattle.pg_grammar.proofs.law_of_readings.Goals as goal

pub returns-clause-exact : goal.returns-clause-exact
returns-clause-exact c = reads_exactly

pub returns-clause-one : goal.returns-clause-one
returns-clause-one c = one_reading
