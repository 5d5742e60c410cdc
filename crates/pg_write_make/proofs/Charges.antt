-- Steps that a meter doesn't let in.
use Rattle.std.proofs.Common.{◌≡◌, ℕ, ◌+◌, ◌<◌, Ok, Err, arith, ap}
use Rattle.std.proofs.lemmas.Bool.{lt-leb}
use Rattle.pg_meaning.specs.Answer.{◌>>◌, unless}
use Rattle.pg_meaning.specs.Meters.{Setting, spend}
use Rattle.pg_meaning.specs.declared.fault.Fault.TheVariants.{StepQuota}

pub too_many : (s : Setting) (used more left : ℕ) → used + left ≡ s.quota.max_steps → left < more → spend s used more ≡ Err StepQuota
too_many s used more left is above = ap (λ b. unless b StepQuota >> Ok (used + more)) (lt-leb (used + more) s.quota.max_steps (omega (arith, is, above)))
