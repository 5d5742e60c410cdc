-- What is given behind a result, of the definition's answer there.
use Rattle.std.proofs.Common.{◌≡◌, ◌≢◌, Result, Ok, Err, IfOk, IfErr, sym, ap, subst}
use Rattle.pg_expr.specs.After.{After}
use Rattle.pg_meaning.specs.Answer.{◌>>=◌}
use Rattle.pg_meaning.specs.declared.fault.Fault.{Fault}
use Rattle.pg_meaning.specs.declared.fault.Fault.TheVariants.{OutOfMemory}
use Rattle.pg_value_core.specs.Gives.{Gives}

pub after_value : {X Y B : Type 0} {seen : Y → B} {next : X → Result B Fault} {result : Result Y Fault} (r : Result X Fault) (x : X) → r ≡ Ok x → Gives result (next x) seen → After r result next seen
after_value {X = X} {seen = seen} {next = next} {result = result} r x is h = subst (λ (q : Result X Fault). After q result next seen) (sym is) record { ok = h; err = tt }

pub after : {X A Y B : Type 0} (r : Result X Fault) (a : Result A Fault) (seen : X → A) (next : A → Result B Fault) (result : Result Y Fault) (shown : Y → B)
    → IfOk r (λ x. a ≡ Ok (seen x)) → IfErr r (λ e. e ≢ OutOfMemory → a ≡ Err e) → After r result (λ x. next (seen x)) shown → Gives result (a >>= next) shown
after {A = A} (Ok x) a seen next result shown h k f = record {
  ok = subst (λ (q : Result A Fault). IfOk result (λ y. (q >>= next) ≡ Ok (shown y))) (sym h) f.ok.ok;
  err = subst (λ (q : Result A Fault). IfErr result (λ e. e ≢ OutOfMemory → (q >>= next) ≡ Err e)) (sym h) f.ok.err;
}
after {Y = Y} (Err e) a seen next result shown h k f = record {
  ok = subst (λ (q : Result Y Fault). IfOk q (λ y. (a >>= next) ≡ Ok (shown y))) (sym f.err) tt;
  err = subst (λ (q : Result Y Fault). IfErr q (λ d. d ≢ OutOfMemory → (a >>= next) ≡ Err d)) (sym f.err) (λ n. ap (λ q. q >>= next) (k n));
}
