-- What a call gives, and what is held after it: what is refused changes nothing.
use Rattle.std.specs.Prelude.{◌≡◌, ◌≢◌, ℕ, List, Result, Ok, Err}
use Rattle.pg_meaning.specs.declared.fault.Fault.{Fault}
use Rattle.pg_meaning.specs.declared.fault.Fault.TheVariants.{OutOfMemory}
use Rattle.pg_pages.specs.Held.{Held}

-- a reply, where memory may fail
abbrev pub GivesHeld : Result (List ℕ) Fault → Result (List ℕ × Held) Fault → (old new : Held) → Type 0
GivesHeld (Ok bytes) given old new = given ≡ Ok (bytes, new)
GivesHeld (Err e) given old new = (new ≡ old) × (e ≢ OutOfMemory → given ≡ Err e)

-- no reply, and no memory is taken
abbrev pub LeavesHeld : Result (Unit {0}) Fault → Result Held Fault → (old new : Held) → Type 0
LeavesHeld (Ok done) left old new = left ≡ Ok new
LeavesHeld (Err e) left old new = (new ≡ old) × (left ≡ Err e)
