-- What a call answers of a definition.
use Rattle.std.specs.Prelude.{◌≡◌, ◌≢◌, Result, Ok, Err, IfOk, IfErr}
use Rattle.pg_meaning.specs.declared.fault.Fault.{Fault}
use Rattle.pg_meaning.specs.declared.fault.Fault.TheVariants.{OutOfMemory}

-- the definition's answer, seen as its data, or its fault; want of memory may come at any time
pub record Gives {X A : Type 0} (result : Result X Fault) (answer : Result A Fault) (seen : X → A) : Type 0 where
  pub ok : IfOk result (λ x. answer ≡ Ok (seen x))
  pub err : IfErr result (λ e. e ≢ OutOfMemory → answer ≡ Err e)
