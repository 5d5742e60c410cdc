use Rattle.pg_tenant.proofs.OutcomeLemmas.{plans_answer}
use Rattle.pg_tenant.proofs.law_of_plan_answers.Goals as goal

pub returns : goal.returns
returns c = plans_answer
