use Rattle.std.proofs.lemmas.Result.{IfOk-from_err}
use Rattle.pg_project.proofs.counts.cut_at.Goals as goal

pub returns-in_err-skip-clause-ok : goal.returns-in_err-skip-clause-ok
returns-in_err-skip-clause-ok g c = IfOk-from_err c.from_residual.result _ c.from_residual.ensures.0

pub returns-in_err-limit-clause-ok : goal.returns-in_err-limit-clause-ok
returns-in_err-limit-clause-ok g c = IfOk-from_err c.from_residual-in_err-limit.result _ c.from_residual-in_err-limit.ensures.0

pub returns-clause-err : goal.returns-clause-err
returns-clause-err g c = tt
