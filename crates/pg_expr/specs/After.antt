-- What a call gives behind a result: the fault that is there, or what is given at the value.
use Rattle.std.specs.Prelude.{◌≡◌, Result, Err, IfOk, IfErr}
use Rattle.pg_meaning.specs.declared.fault.Fault.{Fault}
use Rattle.pg_value_core.specs.Gives.{Gives}

pub record After {X Y B : Type 0} (before : Result X Fault) (result : Result Y Fault) (next : X → Result B Fault) (seen : Y → B) : Type 0 where
  pub ok : IfOk before (λ x. Gives result (next x) seen)
  pub err : IfErr before (λ e. result ≡ Err e)
