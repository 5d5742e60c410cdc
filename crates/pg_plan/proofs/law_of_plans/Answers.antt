use Rattle.pg_plan.proofs.MeaningLemmas.{plans_are_good}
use Rattle.pg_plan.proofs.law_of_plans.Goals as goal

pub returns : goal.returns
returns c = plans_are_good
