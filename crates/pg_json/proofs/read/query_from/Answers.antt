use Rattle.std.proofs.Common.{◌≡◌, ◌≢◌}
use Rattle.std.proofs.lemmas.Result.{IfOk-from_err}
use Rattle.pg_json.proofs.Exits.{fault_passed}
use Rattle.pg_meaning.specs.declared.fault.Fault.TheVariants.{BadRequest, OutOfMemory}
use Rattle.pg_json.proofs.read.query_from.Goals as goal

pub returns-in_err-parameters-clause-ok : goal.returns-in_err-parameters-clause-ok
returns-in_err-parameters-clause-ok c = IfOk-from_err c.from_residual.result _ c.from_residual.ensures.0

pub returns-in_err-parameters-clause-kind : goal.returns-in_err-parameters-clause-kind
returns-in_err-parameters-clause-kind c = fault_passed (λ e. e ≢ OutOfMemory → e ≡ BadRequest) c.in_err-parameters.field-0.0 c.from_residual.result c.from_residual.ensures.1 c.in_err-parameters.ensures.kind
