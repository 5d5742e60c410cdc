use Rattle.pg_relations.proofs.AnyOrderQueries.{any_order_step_gives_one, any_order_step_is_one, any_order_query_means_one, any_order_query_is_one}
use Rattle.pg_relations.proofs.law_of_any_order.Goals as goal

pub returns-clause-steps : goal.returns-clause-steps
returns-clause-steps c = any_order_step_gives_one

pub returns-clause-stepped : goal.returns-clause-stepped
returns-clause-stepped c = any_order_step_is_one

pub returns-clause-queries : goal.returns-clause-queries
returns-clause-queries c = any_order_query_means_one

pub returns-clause-queried : goal.returns-clause-queried
returns-clause-queried c = any_order_query_is_one
