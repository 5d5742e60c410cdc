use Rattle.pg_grammar.proofs.Joined.{expressions}
use Rattle.pg_grammar.proofs.Openings.{opened}
use Rattle.pg_grammar.proofs.law_of_expression_readings.Goals as goal

pub returns-clause-exact : goal.returns-clause-exact
returns-clause-exact c = expressions

pub returns-clause-begins : goal.returns-clause-begins
returns-clause-begins c = opened
