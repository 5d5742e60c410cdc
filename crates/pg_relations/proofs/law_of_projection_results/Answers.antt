use Rattle.pg_relations.proofs.ProjectsDecided.{with_is_one, return_is_one}
use Rattle.pg_relations.proofs.law_of_projection_results.Goals as goal

pub returns-clause-withs : goal.returns-clause-withs
returns-clause-withs c = with_is_one

pub returns-clause-returns : goal.returns-clause-returns
returns-clause-returns c = return_is_one
