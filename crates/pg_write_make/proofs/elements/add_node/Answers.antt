use Rattle.std.proofs.Common.{refl}
use Rattle.std.proofs.lemmas.Result.{IfOk-from_err}
use Rattle.pg_expr.proofs.ExitLemmas.{fault_passed}
use Rattle.pg_meaning.specs.declared.fault.Fault.TheVariants.{OutOfMemory}
use Rattle.pg_write_make.proofs.elements.add_node.Goals as goal

pub returns-in_err-labels-clause-ok : goal.returns-in_err-labels-clause-ok
returns-in_err-labels-clause-ok g c = IfOk-from_err c.from_residual.result _ c.from_residual.ensures.0

pub returns-in_err-labels-clause-id : goal.returns-in_err-labels-clause-id
returns-in_err-labels-clause-id g c = IfOk-from_err c.from_residual.result _ c.from_residual.ensures.0

pub returns-in_err-labels-clause-err : goal.returns-in_err-labels-clause-err
returns-in_err-labels-clause-err g c = fault_passed _ OutOfMemory c.from_residual.result c.from_residual.ensures.1 (λ other. absurd (other refl))
