use Rattle.std.proofs.lemmas.Result.{IfOk-from_err}
use Rattle.pg_project.proofs.sorting.distinct_rows.Goals as goal

pub returns-in_err-places-clause-rows : goal.returns-in_err-places-clause-rows
returns-in_err-places-clause-rows c = IfOk-from_err c.from_residual.result _ c.from_residual.ensures.0

pub returns-in_err-places-clause-width : goal.returns-in_err-places-clause-width
returns-in_err-places-clause-width c = IfOk-from_err c.from_residual.result _ c.from_residual.ensures.0
