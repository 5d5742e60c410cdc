use Rattle.pg_relations.proofs.EvaluatedAlike.{evaluates_alike}
use Rattle.pg_relations.proofs.PathsSeen.{paths_see_the_old}
use Rattle.pg_relations.proofs.law_of_handed_out_ids.Goals as goal

pub returns-clause-evaluates : goal.returns-clause-evaluates
returns-clause-evaluates c = evaluates_alike

pub returns-clause-sees : goal.returns-clause-sees
returns-clause-sees c = paths_see_the_old
