use Rattle.pg_soundness.proofs.PlanningPlans.{plan_of_is_plan, plan_of_is_whole}
use Rattle.pg_soundness.proofs.law_of_planning.Goals as goal

pub returns-clause-plan : goal.returns-clause-plan
returns-clause-plan c = plan_of_is_plan

pub returns-clause-whole : goal.returns-clause-whole
returns-clause-whole c = plan_of_is_whole
