use Rattle.pg_relations.proofs.ProjectsDetermined.{projects_one, plain_projects_one, return_gives_one, with_gives_one}
use Rattle.pg_relations.proofs.SortedKeys.{sorted_keys_are_one}
use Rattle.pg_relations.proofs.law_of_one_projection.Goals as goal

pub returns-clause-before : goal.returns-clause-before
returns-clause-before c = projects_one

pub returns-clause-keys : goal.returns-clause-keys
returns-clause-keys c = sorted_keys_are_one

pub returns-clause-plain : goal.returns-clause-plain
returns-clause-plain c = plain_projects_one

pub returns-clause-returns : goal.returns-clause-returns
returns-clause-returns c = return_gives_one

pub returns-clause-withs : goal.returns-clause-withs
returns-clause-withs c = with_gives_one
