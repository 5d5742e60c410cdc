-- What the exit of a `?` gives.
use Rattle.std.proofs.Common.{◌≡◌, ◌≢◌, Result, Ok, Err, IfErr, IsErrAnd, refl, sym, subst}
use Rattle.pg_expr.proofs.ExitLemmas.{fault_passed}
use Rattle.pg_meaning.specs.declared.fault.Fault.{Fault}
use Rattle.pg_meaning.specs.declared.fault.Fault.TheVariants.{OutOfMemory}
use Rattle.pg_value_core.specs.Gives.{Gives}

module _ {X A : Type 0} (answer : Result A Fault) where
  pub memory_passed : (result : Result X Fault) → IsErrAnd result (λ f. f ≡ OutOfMemory) → IfErr result (λ f. f ≢ OutOfMemory → answer ≡ Err f)
  memory_passed result h = fault_passed answer OutOfMemory result h (λ other. absurd (other refl))

  pub fault_given : (seen : X → A) (e : Fault) (result : Result X Fault) → IsErrAnd result (λ f. f ≡ e) → (e ≢ OutOfMemory → answer ≡ Err e) → Gives result answer seen
  fault_given seen e (Ok x) h given = absurd h
  fault_given seen e (Err f) h given = record { ok = tt; err = subst (λ k. k ≢ OutOfMemory → answer ≡ Err k) (sym h) given }

  pub memory_given : (seen : X → A) (result : Result X Fault) → IsErrAnd result (λ f. f ≡ OutOfMemory) → Gives result answer seen
  memory_given seen result h = fault_given seen OutOfMemory result h (λ other. absurd (other refl))
