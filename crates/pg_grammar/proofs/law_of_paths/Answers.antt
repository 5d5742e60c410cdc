use Rattle.pg_grammar.proofs.Joined.{paths}
use Rattle.pg_grammar.proofs.Paths.{path_opens}
use Rattle.pg_grammar.proofs.law_of_paths.Goals as goal

pub returns-clause-exact : goal.returns-clause-exact
returns-clause-exact c = paths

pub returns-clause-begins : goal.returns-clause-begins
returns-clause-begins c = path_opens
