use Rattle.pg_meaning.specs.LogicLaws.{and3_laws, or3_laws, xor3_laws, not3_laws}
use Rattle.pg_meaning.proofs.laws.law_of_logic.Goals as goal

pub returns-clause-and : goal.returns-clause-and
returns-clause-and c = and3_laws

pub returns-clause-or : goal.returns-clause-or
returns-clause-or c = or3_laws

pub returns-clause-xor : goal.returns-clause-xor
returns-clause-xor c = xor3_laws

pub returns-clause-not : goal.returns-clause-not
returns-clause-not c = not3_laws
