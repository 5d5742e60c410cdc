-- What is told of a request's change, from what its tenant tells.
use Rattle.std.proofs.Common.{◌≡◌, ℕ, Bool, true, false, List, set, Some, None, Ok, Option, is_some, refl, sym, ap, subst, ◌∙◌}
use Rattle.std.proofs.lemmas.List.{set-get_or}
use Rattle.std.specs.Bool.{then_some}
use Rattle.std.specs.Prelude.{IfSome, option_and_then}
use Rattle.pg_json.specs.Refusals.{refusal_text}
use Rattle.pg_json.specs.Requests.{Request, token_of}
use Rattle.pg_meaning.specs.declared.fault.Fault.{Fault}
use Rattle.pg_server.specs.Changes.{Notes, TellsChange}
use Rattle.pg_server.specs.State.{state_in}
use Rattle.pg_server.specs.Step.{RepliesAt, place_of}
use Rattle.pg_tenant.proofs.ChangeLemmas.{others_leave}
use Rattle.pg_tenant.specs.Changes.{IsNoRefusal, may_change}
use Rattle.pg_tenant.specs.State.{State, no_state}

-- a refusal changed nothing
pub refusal_told : (request : Option Request) (reply : List ℕ) (changes : Bool) (fault : Fault) → reply ≡ refusal_text fault → changes ≡ false → TellsChange request reply changes
refusal_told request reply changes fault told none = record { done = λ accepted. absurd (accepted fault told); refused = λ other is. none }

pub refusal_noted : (tenants : List State) (request : Request) (reply : List ℕ) (changes : Bool) (fault : Fault) → reply ≡ refusal_text fault → changes ≡ false → Notes tenants request reply changes tenants
refusal_noted tenants request reply changes fault told none = record { told = refusal_told (Some request) reply changes fault told none; unchanged = λ graphs h. refl }

-- where it was refused, the tenants that it left are those of before
pub refusal_leaves : (old new : List State) (request : Request) (reply : List ℕ) (changes : Bool) (fault : Fault) → reply ≡ refusal_text fault → changes ≡ false → new ≡ old → Notes old request reply changes new
refusal_leaves old new request reply changes fault told none same = record { told = refusal_told (Some request) reply changes fault told none; unchanged = λ graphs h. same }

-- what was done at a tenant
pub done_noted : (old new : List State) (t : ℕ) (request : Request) (reply : List ℕ) (changes : Bool) → RepliesAt t old request (Ok reply) new → IsNoRefusal reply → changes ≡ may_change request → Notes old request reply changes new
done_noted old new t request reply changes given accepted is = record {
  told = record { done = λ none. ap Some (sym is); refused = λ fault told. absurd (accepted fault told) };
  unchanged = λ graphs none. given.1 ∙ ap (set old t) (others_leave (state_in old t) request (graphs t) (sym is ∙ none)) ∙ set-get_or old t no_state;
}

-- the request that a body is
pub told_of : (asks : Option Request) (request : Request) (reply : List ℕ) (changes : Bool) → asks ≡ Some request → TellsChange (Some request) reply changes → TellsChange asks reply changes
told_of asks request reply changes is told = subst (λ o. TellsChange o reply changes) (sym is) told

-- the tenant of the request that a body is
pub tenant_of_asked : (asks : Option Request) (request : Request) (tenants : List State) (changed : Option ℕ) → asks ≡ Some request
    → IfSome changed (λ t. place_of (token_of request) tenants ≡ Some t) → IfSome changed (λ t. option_and_then (λ shown. place_of (token_of shown) tenants) asks ≡ Some t)
tenant_of_asked asks request tenants changed is told = subst (λ o. IfSome changed (λ t. option_and_then (λ shown. place_of (token_of shown) tenants) o ≡ Some t)) (sym is) told

-- so it is where the tenant of a place was asked
pub placed : (changed : Option ℕ) (place : ℕ) (found : Option ℕ) → found ≡ Some place → IfSome changed (λ t. t ≡ place) → IfSome changed (λ t. found ≡ Some t)
placed None place found is same = tt
placed (Some t) place found is same = is ∙ ap Some (sym same)

pub then_told : (changes : Bool) (place : ℕ) (changed : Option ℕ) → changed ≡ then_some changes place → is_some changed ≡ changes
then_told true place changed is = ap is_some is
then_told false place changed is = ap is_some is
