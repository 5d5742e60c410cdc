-- What the function that answers a text ensures.
use Rattle.std.specs.Prelude.{◌≡◌, ◌⊎◌, Result, Ok, Err}
use Rattle.pg_meaning.specs.declared.fault.Fault.{Fault}
use Rattle.pg_meaning.specs.declared.fault.Fault.TheVariants as fault

-- the answer, unless memory fails
abbrev pub Answers : {A B : Type 0} → (B → A) → Result A Fault → Result B Fault → Type 0
Answers view answer (Ok b) = answer ≡ Ok (view b)
Answers view answer (Err e) = (e ≡ fault.OutOfMemory) ⊎ (answer ≡ Err e)
