-- What a call returned is returned as it is.
use Rattle.std.proofs.Common.{◌≡◌, ◌≢◌, Result, Ok, Err, IfErr, IsErrAnd, sym, ap, ◌∙◌}
use Rattle.std.specs.Prelude.{OnOk}
use Rattle.pg_meaning.specs.declared.fault.Fault.{Fault}
use Rattle.pg_meaning.specs.declared.fault.Fault.TheVariants.{OutOfMemory}
use Rattle.pg_value_core.specs.Gives.{Gives}

pub ok_through : {X A : Type 0} (r : Result X Fault) (whole last done : Result A Fault) → whole ≡ last → OnOk r (last ≡ done) → OnOk r (whole ≡ done)
ok_through (Ok x) whole last done first h = first ∙ h
ok_through (Err e) whole last done first h = tt

pub err_through : {X A : Type 0} (r : Result X Fault) (whole last : Result A Fault) → whole ≡ last → IfErr r (λ e. e ≢ OutOfMemory → last ≡ Err e) → IfErr r (λ e. e ≢ OutOfMemory → whole ≡ Err e)
err_through (Ok x) whole last first h = tt
err_through (Err e) whole last first h = λ other. first ∙ h other

pub gives_fault : {X A : Type 0} (r : Result X Fault) (e : Fault) (answer : Result A Fault) (seen : X → A) → IsErrAnd r (λ f. f ≡ e) → (e ≢ OutOfMemory → answer ≡ Err e) → Gives r answer seen
gives_fault (Ok x) e answer seen is h = absurd is
gives_fault (Err f) e answer seen is h = record { ok = tt; err = λ other. h (λ same. other (is ∙ same)) ∙ ap Err (sym is) }
