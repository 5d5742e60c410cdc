-- Two answers side by side, and what a call that gives one of them gives.
use Rattle.std.proofs.Common.{◌≡◌, Result, Ok, Err}
use Rattle.pg_meaning.specs.declared.fault.Fault.{Fault}
pub use Rattle.pg_reads.proofs.Lifts.{Lifted, both, mapped, same, by_map}
use Rattle.pg_value_core.specs.Gives.{Gives}

-- a call that gives an answer gives what follows from it
pub through : {X A B : Type 0} (result : Result X Fault) (a : Result A Fault) (b : Result B Fault) (seen : X → A) (f : A → B)
    → ((x : A) → a ≡ Ok x → b ≡ Ok (f x)) → ((e : Fault) → a ≡ Err e → b ≡ Err e) → Gives result a seen → Gives result b (λ x. f (seen x))
through (Ok x) a b seen f well badly given = record { ok = well (seen x) given.ok; err = tt }
through (Err e) a b seen f well badly given = record { ok = tt; err = λ other. badly e (given.err other) }
