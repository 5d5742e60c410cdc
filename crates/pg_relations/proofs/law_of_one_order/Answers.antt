use Rattle.pg_relations.proofs.TestedCuts.{tests_its_own, one_order_gives_one, one_order_is_one}
use Rattle.pg_relations.proofs.law_of_one_order.Goals as goal

pub returns-clause-own : goal.returns-clause-own
returns-clause-own c = tests_its_own

pub returns-clause-one : goal.returns-clause-one
returns-clause-one c = one_order_gives_one

pub returns-clause-decided : goal.returns-clause-decided
returns-clause-decided c = one_order_is_one
