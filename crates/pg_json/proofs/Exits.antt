-- What is known of a fault, where it is passed on.
use Rattle.std.proofs.Common.{◌≡◌, Result}
use Rattle.std.proofs.lemmas.Result.{err_from_is_err_and}
use Rattle.std.specs.Result.{IfErr, IsErrAnd}

pub fault_passed : {X E : Type 0} (Q : E → Type 0) (e : E) (r : Result X E) → IsErrAnd r (λ f. f ≡ e) → Q e → IfErr r Q
fault_passed Q e r h told = let p = err_from_is_err_and r h in rw (p.1, p.2) told
