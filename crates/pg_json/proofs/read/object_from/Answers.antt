use Rattle.std.proofs.Common.{◌≡◌, ◌≢◌}
use Rattle.std.proofs.lemmas.Result.{IfOk-from_err}
use Rattle.pg_json.proofs.Exits.{fault_passed}
use Rattle.pg_meaning.specs.declared.fault.Fault.TheVariants.{BadRequest, OutOfMemory}
use Rattle.pg_json.proofs.read.object_from.Goals as goal

pub returns-in_err-token-in-Some-Status-clause-ok : goal.returns-in_err-token-in-Some-Status-clause-ok
returns-in_err-token-in-Some-Status-clause-ok c = IfOk-from_err c.from_residual.result _ c.from_residual.ensures.0

pub returns-in_err-token-in-Some-Status-clause-kind : goal.returns-in_err-token-in-Some-Status-clause-kind
returns-in_err-token-in-Some-Status-clause-kind c = fault_passed (λ e. e ≢ OutOfMemory → e ≡ BadRequest) c.in_err-token-in-Some-Status.field-0.0 c.from_residual.result c.from_residual.ensures.1 (λ other. c.in_err-token-in-Some-Status.ensures.kind)

pub returns-in_err-token-in-Some-CreateIndex-clause-ok : goal.returns-in_err-token-in-Some-CreateIndex-clause-ok
returns-in_err-token-in-Some-CreateIndex-clause-ok c = IfOk-from_err c.from_residual-in_err-token-in-Some-CreateIndex.result _ c.from_residual-in_err-token-in-Some-CreateIndex.ensures.0

pub returns-in_err-token-in-Some-CreateIndex-clause-kind : goal.returns-in_err-token-in-Some-CreateIndex-clause-kind
returns-in_err-token-in-Some-CreateIndex-clause-kind c = fault_passed (λ e. e ≢ OutOfMemory → e ≡ BadRequest) c.in_err-token-in-Some-CreateIndex.field-0.0 c.from_residual-in_err-token-in-Some-CreateIndex.result c.from_residual-in_err-token-in-Some-CreateIndex.ensures.1 (λ other. c.in_err-token-in-Some-CreateIndex.ensures.kind)

pub returns-in_err-token-in-Some-DropIndex-clause-ok : goal.returns-in_err-token-in-Some-DropIndex-clause-ok
returns-in_err-token-in-Some-DropIndex-clause-ok c = IfOk-from_err c.from_residual-in_err-token-in-Some-DropIndex.result _ c.from_residual-in_err-token-in-Some-DropIndex.ensures.0

pub returns-in_err-token-in-Some-DropIndex-clause-kind : goal.returns-in_err-token-in-Some-DropIndex-clause-kind
returns-in_err-token-in-Some-DropIndex-clause-kind c = fault_passed (λ e. e ≢ OutOfMemory → e ≡ BadRequest) c.in_err-token-in-Some-DropIndex.field-0.0 c.from_residual-in_err-token-in-Some-DropIndex.result c.from_residual-in_err-token-in-Some-DropIndex.ensures.1 (λ other. c.in_err-token-in-Some-DropIndex.ensures.kind)

pub returns-in_err-token-in-Some-Begin-clause-ok : goal.returns-in_err-token-in-Some-Begin-clause-ok
returns-in_err-token-in-Some-Begin-clause-ok c = IfOk-from_err c.from_residual-in_err-token-in-Some-Begin.result _ c.from_residual-in_err-token-in-Some-Begin.ensures.0

pub returns-in_err-token-in-Some-Begin-clause-kind : goal.returns-in_err-token-in-Some-Begin-clause-kind
returns-in_err-token-in-Some-Begin-clause-kind c = fault_passed (λ e. e ≢ OutOfMemory → e ≡ BadRequest) c.in_err-token-in-Some-Begin.field-0.0 c.from_residual-in_err-token-in-Some-Begin.result c.from_residual-in_err-token-in-Some-Begin.ensures.1 (λ other. c.in_err-token-in-Some-Begin.ensures.kind)

pub returns-in_err-token-in-Some-Commit-clause-ok : goal.returns-in_err-token-in-Some-Commit-clause-ok
returns-in_err-token-in-Some-Commit-clause-ok c = IfOk-from_err c.from_residual-in_err-token-in-Some-Commit.result _ c.from_residual-in_err-token-in-Some-Commit.ensures.0

pub returns-in_err-token-in-Some-Commit-clause-kind : goal.returns-in_err-token-in-Some-Commit-clause-kind
returns-in_err-token-in-Some-Commit-clause-kind c = fault_passed (λ e. e ≢ OutOfMemory → e ≡ BadRequest) c.in_err-token-in-Some-Commit.field-0.0 c.from_residual-in_err-token-in-Some-Commit.result c.from_residual-in_err-token-in-Some-Commit.ensures.1 (λ other. c.in_err-token-in-Some-Commit.ensures.kind)

pub returns-in_err-token-in-Some-Rollback-clause-ok : goal.returns-in_err-token-in-Some-Rollback-clause-ok
returns-in_err-token-in-Some-Rollback-clause-ok c = IfOk-from_err c.from_residual-in_err-token-in-Some-Rollback.result _ c.from_residual-in_err-token-in-Some-Rollback.ensures.0

pub returns-in_err-token-in-Some-Rollback-clause-kind : goal.returns-in_err-token-in-Some-Rollback-clause-kind
returns-in_err-token-in-Some-Rollback-clause-kind c = fault_passed (λ e. e ≢ OutOfMemory → e ≡ BadRequest) c.in_err-token-in-Some-Rollback.field-0.0 c.from_residual-in_err-token-in-Some-Rollback.result c.from_residual-in_err-token-in-Some-Rollback.ensures.1 (λ other. c.in_err-token-in-Some-Rollback.ensures.kind)
