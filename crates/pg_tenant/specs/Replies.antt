-- When a reply, or the fault in its place, is that of an outcome.
use Rattle.std.specs.Prelude.{◌≡◌, ◌≢◌, ℕ, Bool, List, Result, Ok, Err, IfOk, IfErr}
use Rattle.pg_json.specs.Pages.{QueryText, query_text}
use Rattle.pg_meaning.specs.Graph.{Graph}
use Rattle.pg_meaning.specs.Queries.{Outcome}
use Rattle.pg_meaning.specs.declared.fault.Fault.{Fault}
use Rattle.pg_meaning.specs.declared.fault.Fault.TheVariants.{OutOfMemory}
use Rattle.pg_run.specs.Told.{printed_rows}
use Rattle.pg_pages.specs.Held.{Held}
use Rattle.pg_tenant.specs.Answers.{Answered, answered, column_items, fitting}

-- the reply of an outcome that isn't too long, with the ends of its rows if they are noted, and the graph that it leaves
pub record IsReply (notes : Bool) (reply : QueryText) (outcome : Result Outcome Fault) (left : Graph) : Type 0 where
  pub of : Outcome
  pub is : fitting outcome ≡ Ok of
  pub text : reply ≡ query_text notes (column_items of) (printed_rows of.graph of.rows) of.steps
  pub graph : of.graph ≡ left

-- the answer is this refusal, unless memory ran out
abbrev pub IsRefusal : Result Outcome Fault → Fault → Type 0
IsRefusal outcome e = e ≢ OutOfMemory → fitting outcome ≡ Err e

pub record IsAnswer (notes : Bool) (result : Result QueryText Fault) (outcome : Result Outcome Fault) (left : Graph) : Type 0 where
  pub ok : IfOk result (λ reply. IsReply notes reply outcome left)
  pub err : IfErr result (IsRefusal outcome)

-- the bytes as they are shown, and what is held after; a refusal leaves what was held
abbrev pub IsShown : Result (List ℕ) Fault → Result Answered Fault → (left : Graph) → (old new : Held) → Type 0
IsShown (Ok bytes) shown left old new = shown ≡ Ok (answered bytes left new)
IsShown (Err e) shown left old new = (new ≡ old) × (e ≢ OutOfMemory → shown ≡ Err e)
