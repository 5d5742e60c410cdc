-- What is told of a request beside its reply: whether it may have changed its tenant.
use Rattle.std.specs.Prelude.{◌≡◌, ℕ, Bool, false, List, Option, Some, option_map}
use Rattle.pg_json.specs.Refusals.{refusal_text}
use Rattle.pg_json.specs.Requests.{Request}
use Rattle.pg_meaning.specs.Graph.{IsGraph}
use Rattle.pg_meaning.specs.declared.fault.Fault.{Fault}
use Rattle.pg_server.specs.State.{state_in}
use Rattle.pg_tenant.specs.Changes.{IsNoRefusal, may_change}
use Rattle.pg_tenant.specs.State.{State}

-- where it was done, whether a request of its kind may; where it was refused, whatever the refusal, that it didn't
pub record TellsChange (request : Option Request) (reply : List ℕ) (changes : Bool) : Type 0 where
  pub done : IsNoRefusal reply → option_map may_change request ≡ Some changes
  pub refused : (fault : Fault) → reply ≡ refusal_text fault → changes ≡ false

-- so it is of a request that was read, and what is told to have changed nothing left every tenant
pub record Notes (old : List State) (request : Request) (reply : List ℕ) (changes : Bool) (new : List State) : Type 0 where
  pub told : TellsChange (Some request) reply changes
  pub unchanged : ((t : ℕ) → IsGraph (state_in old t).graph) → changes ≡ false → new ≡ old
