use Rattle.pg_meaning.specs.EqualityLaws.{eq3_symmetric, eq3_exact}
use Rattle.pg_meaning.proofs.laws.law_of_equality.Goals as goal

pub returns-clause-symmetric : goal.returns-clause-symmetric
returns-clause-symmetric c = eq3_symmetric

pub returns-clause-exact : goal.returns-clause-exact
returns-clause-exact c = eq3_exact
