use Rattle.pg_relations.proofs.OpenOrders.{with_may_have_both, ids_are_below}
use Rattle.pg_relations.proofs.instances_of_open_orders.Goals as goal

pub returns-clause-both : goal.returns-clause-both
returns-clause-both c = with_may_have_both

pub returns-clause-below : goal.returns-clause-below
returns-clause-below c = ids_are_below
