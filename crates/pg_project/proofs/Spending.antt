-- Steps that are spent one part after the other.
use Rattle.std.proofs.Common.{◌≡◌, ℕ, ◌+◌, ◌≤◌, Bool, true, false, Result, Ok, Err, IsErrAnd, nat_le, refl, sym, ap, ◌∙◌, arith}
use Rattle.std.proofs.lemmas.Bool.Decides.{nat_tests}
use Rattle.pg_meaning.specs.Answer.{◌>>=◌, ◌>>◌, unless}
use Rattle.pg_meaning.specs.Meters.{Setting, spend}
use Rattle.pg_meaning.specs.declared.fault.Fault.{Fault}
use Rattle.pg_meaning.specs.declared.fault.Fault.TheVariants.{StepQuota}
use Rattle.pg_meter.specs.Quotas.{after_test}

within : (used most : ℕ) → used ≤ most → nat_le (used + 0) most ≡ true
within used most h = grind (arith, nat_tests)

still_beyond : (used n m most : ℕ) → nat_le (used + n) most ≡ false → nat_le (used + (n + m)) most ≡ false
still_beyond used n m most e = grind (arith, nat_tests)

pub none_spent : (s : Setting) (used : ℕ) → used ≤ s.quota.max_steps → spend s used 0 ≡ Ok used
none_spent s used h =
    let same : used + 0 ≡ used = omega arith in
    ap (λ b. unless b StepQuota >> Ok (used + 0)) (within used s.quota.max_steps h) ∙ ap Ok same

pub spent_twice : (s : Setting) (used n m : ℕ) → spend s used (n + m) ≡ (spend s used n >>= λ v. spend s v m)
spent_twice s used n m = by (nat_le (used + n) s.quota.max_steps) refl
  where
    same : used + n + m ≡ used + (n + m)
    same = omega arith

    by : (b : Bool) → nat_le (used + n) s.quota.max_steps ≡ b → spend s used (n + m) ≡ (spend s used n >>= λ v. spend s v m)
    by true e = sym (ap (λ b. (unless b StepQuota >> Ok (used + n)) >>= λ v. spend s v m) e ∙ ap (λ k. unless (nat_le k s.quota.max_steps) StepQuota >> Ok k) same)
    by false e =
        ap (λ b. unless b StepQuota >> Ok (used + (n + m))) (still_beyond used n m s.quota.max_steps e)
        ∙ sym (ap (λ b. (unless b StepQuota >> Ok (used + n)) >>= λ v. spend s v m) e)

pub refused_is : (r : Result (Unit {0}) Fault) (f : Fault) (n : ℕ) → IsErrAnd r (λ e. e ≡ f) → after_test r n ≡ Err f
refused_is (Ok u) f n h = absurd h
refused_is (Err e) f n h = ap Err h
