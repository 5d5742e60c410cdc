-- What is no want of memory.
use Rattle.std.proofs.Common.{◌≡◌, ℕ, Bool, true, false, List, refl}
use Rattle.std.proofs.lemmas.Slice.Eq.{bytes_eq-Decides}
use Rattle.pg_json.specs.Refusals.{refusal_text}
use Rattle.pg_meaning.specs.declared.fault.Fault.TheVariants.{OutOfMemory}
use Rattle.pg_server.specs.Runs.{is_want_of_memory}

pub not_wanting : (reply : List ℕ) → (reply ≡ refusal_text OutOfMemory → ⊥) → is_want_of_memory reply ≡ false
not_wanting reply other = by_case (is_want_of_memory reply) refl
  where
    by_case : (b : Bool) → is_want_of_memory reply ≡ b → is_want_of_memory reply ≡ false
    by_case false is = is
    by_case true is = absurd (other ((bytes_eq-Decides reply (refusal_text OutOfMemory)).0 is))
