-- What the exit of a `?` gives.
use Rattle.std.proofs.Common.{◌≡◌, ◌≢◌, Result, Ok, Err, IfErr, IsErrAnd, sym, subst}
use Rattle.pg_meaning.specs.declared.fault.Fault.{Fault}
use Rattle.pg_meaning.specs.declared.fault.Fault.TheVariants.{OutOfMemory}

pub fault_passed : {X A : Type 0} (answer : Result A Fault) (e : Fault) (result : Result X Fault) → IsErrAnd result (λ f. f ≡ e) → (e ≢ OutOfMemory → answer ≡ Err e) → IfErr result (λ f. f ≢ OutOfMemory → answer ≡ Err f)
fault_passed answer e (Ok x) h given = absurd h
fault_passed answer e (Err f) h given = subst (λ k. k ≢ OutOfMemory → answer ≡ Err k) (sym h) given
