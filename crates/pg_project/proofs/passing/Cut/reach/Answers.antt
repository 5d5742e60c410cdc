use Rattle.pg_project.proofs.Conditions.{reaches_end}
use Rattle.pg_project.specs.Cuts.{cut_view}
use Rattle.pg_project.proofs.passing.Cut.reach.Goals as goal

pub returns-in-Some-checked_add : goal.returns-in-Some-checked_add
returns-in-Some-checked_add c = reaches_end (cut_view c.args.self) c.in-Some.most c.args.count c.in-Some-checked_add.end c.in-Some.is c.in-Some-checked_add.ensures.1
