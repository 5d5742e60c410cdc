use Rattle.pg_meaning.specs.OrderLaws.{order_total, order_exact, less_before}
use Rattle.pg_meaning.proofs.laws.law_of_order.Goals as goal

pub returns-clause-total : goal.returns-clause-total
returns-clause-total c = order_total

pub returns-clause-exact : goal.returns-clause-exact
returns-clause-exact c = order_exact

pub returns-clause-less : goal.returns-clause-less
returns-clause-less c = less_before
