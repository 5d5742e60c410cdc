use Rattle.std.proofs.lemmas.Result.{IfOk-from_err}
use Rattle.pg_project.proofs.ExitLemmas.{memory_passed}
use Rattle.pg_project.proofs.taken.Taken.take.Goals as goal

pub returns-in_err-counts-clause-ok : goal.returns-in_err-counts-clause-ok
returns-in_err-counts-clause-ok c = IfOk-from_err c.from_residual.result _ c.from_residual.ensures.0

pub returns-in_err-counts-clause-err : goal.returns-in_err-counts-clause-err
returns-in_err-counts-clause-err c = memory_passed _ c.from_residual.result c.from_residual.ensures.1
