use Rattle.pg_relations.proofs.ClosedQueries.{closed_step_gives_one, closed_step_is_one, closed_query_means_one, closed_query_is_one}
use Rattle.pg_relations.proofs.law_of_closed_queries.Goals as goal

pub returns-clause-steps : goal.returns-clause-steps
returns-clause-steps c = closed_step_gives_one

pub returns-clause-stepped : goal.returns-clause-stepped
returns-clause-stepped c = closed_step_is_one

pub returns-clause-queries : goal.returns-clause-queries
returns-clause-queries c = closed_query_means_one

pub returns-clause-queried : goal.returns-clause-queried
returns-clause-queried c = closed_query_is_one
