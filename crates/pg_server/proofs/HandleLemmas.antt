-- One call of `handle`: each tenant's run, and what becomes of the cache of plans and of the names.
use Rattle.std.proofs.Common.{◌≡◌, ◌≢◌, Option, ℕ, List, [], Bool, true, false, cond, Some, None, inl, inr, refl, sym, ap, ◌∙◌, subst}
use Rattle.std.specs.Prelude.{option_and_then, unwrap_or, ◌&&◌, not}
use Rattle.std.proofs.lemmas.Bool.{true≢false}
use Rattle.std.proofs.lemmas.Slice.Eq.{bytes_eq-Decides}
use Rattle.pg_json.specs.Refusals.{refusal_text}
use Rattle.pg_json.specs.Requests.{Request, meaning, token_of, with_token, query, status, create_index, drop_index, begin, commit, rollback, pull, drop_page}
use Rattle.pg_meaning.specs.declared.fault.Fault.{Fault}
use Rattle.pg_meaning.specs.declared.fault.Fault.TheVariants.{BadRequest, FrameTooLong, OutOfMemory}
use Rattle.pg_server.specs.Handles.{Asks, AsksFor, Handles, HandlesFor, IsUnread, key_asked, request_for, token_for}
use Rattle.pg_server.specs.Runs.{asked, is_short, is_want_of_memory, shows_one_of}
use Rattle.pg_server.specs.Settings.{all_tokens}
use Rattle.pg_server.specs.State.{ServerState, settings_of, state_at, state_in}
use Rattle.pg_server.specs.Step.{Answers, place_of}
use Rattle.pg_server.proofs.AnsweredQueryLemmas.{AnsweredAlone}
use Rattle.pg_server.proofs.LookUpLemmas.{capacity_kept, nothing_looked_up}
use Rattle.pg_server.proofs.NameLemmas.{names_stay}
use Rattle.pg_server.proofs.StepLemmas.{answered, asked_is, left_alone, out_of_memory, unread}
use Rattle.pg_tenant.specs.LookUps.{LooksUp}
use Rattle.pg_tenant.specs.State.{State, tokens_of}
use Rattle.pg_tenant.specs.Step.{AddsNames}
use Rattle.pg_value.specs.Texts.{has_duplicate}

-- a request that was read
pub handled : (old new : ServerState) (body reply : List ℕ) (request : Request) → has_duplicate [] (all_tokens (settings_of old)) ≡ false → ((t : ℕ) → AnsweredAlone (state_at old t) request)
    → is_short body ≡ true → meaning body ≡ Some request → Answers old.tenants request reply new.tenants → LooksUp (key_asked old.tenants request) reply old.cache new.cache → AddsNames reply old.names new.names
    → Handles old body reply new
handled old new body reply request distinct all_answered short means step looks names =
    record {
      run = answered old new body reply request distinct all_answered short means (capacity_kept old.cache new.cache (key_asked old.tenants request) reply looks) step;
      cache = subst (λ r. LooksUp (option_and_then (key_asked old.tenants) r) reply old.cache new.cache) (sym (asked_is body request short means)) looks;
      names = names;
    }

-- a body that isn't read
pub handled_unread : (server : ServerState) (body reply : List ℕ) (e : Fault) → is_short body ≡ true → reply ≡ refusal_text e → (e ≢ OutOfMemory → e ≡ BadRequest)
    → (e ≢ OutOfMemory → meaning body ≡ None) → Handles server body reply server
handled_unread server body reply e short told kind none = record { run = unread server body reply e short told kind none; cache = by_memory (is_want_of_memory reply) refl; names = names_stay reply server.names }
  where
    by_memory : (b : Bool) → is_want_of_memory reply ≡ b → LooksUp (option_and_then (key_asked server.tenants) (asked body)) reply server.cache server.cache
    by_memory true is = nothing_looked_up (option_and_then (key_asked server.tenants) (asked body)) reply server.cache ((bytes_eq-Decides reply (refusal_text OutOfMemory)).0 is)
    by_memory false is =
        let other : e ≢ OutOfMemory = λ same. true≢false (sym ((bytes_eq-Decides reply (refusal_text OutOfMemory)).1 (told ∙ ap refusal_text same)) ∙ is) in
        let nothing : asked body ≡ None = ap (λ b. cond b (meaning body) None) short ∙ none other in
        subst (λ r. LooksUp (option_and_then (key_asked server.tenants) r) reply server.cache server.cache) (sym nothing) refl

-- want of memory stands in place of any answer
pub no_room : (server : ServerState) (body reply : List ℕ) → is_short body ≡ true → reply ≡ refusal_text OutOfMemory → Handles server body reply server
no_room server body reply short told =
    record {
      run = out_of_memory server body reply short told;
      cache = nothing_looked_up (option_and_then (key_asked server.tenants) (asked body)) reply server.cache told;
      names = names_stay reply server.names;
    }

-- a body that is too long asks nothing
unasked : (body : List ℕ) → is_short body ≡ false → asked body ≡ None
unasked body long = ap (λ b. cond b (meaning body) None) long

pub too_long : (server : ServerState) (body reply : List ℕ) → is_short body ≡ false → reply ≡ refusal_text FrameTooLong → Handles server body reply server
too_long server body reply long told =
    let none = unasked body long in
    record {
      run = left_alone server body reply (λ _. (λ _. told, λ short. let no : is_short body ≡ false = long in cc))
          (λ t. ap (λ r. shows_one_of (tokens_of (state_at server t)) r && not (is_want_of_memory reply)) none);
      cache = subst (λ o. LooksUp (option_and_then (key_asked server.tenants) o) reply server.cache server.cache) (sym none) refl;
      names = names_stay reply server.names;
    }

-- ---- for the tenant at a place

some≢none : {X : Type 0} (o : Option X) (x : X) → o ≡ None → o ≡ Some x → ⊥
some≢none None x none some = cc
some≢none (Some y) x none some = cc

unread_for : (t : ℕ) (server : ServerState) (body reply : List ℕ) (e : Fault) → is_short body ≡ true → reply ≡ refusal_text e → (e ≢ OutOfMemory → e ≡ BadRequest)
    → (e ≢ OutOfMemory → meaning body ≡ None) → HandlesFor t server body reply server
unread_for t server body reply e short told kind none =
    record {
      own = λ request is same. handled_unread server body reply e short told kind none;
      unread = λ is. handled_unread server body reply e short told kind none;
      asks = λ request is. by_memory request is (is_want_of_memory reply) refl;
    }
  where
    by_memory : (request : Request) → asked body ≡ Some request → (b : Bool) → is_want_of_memory reply ≡ b → AsksFor t server request reply server
    by_memory request is true wants = inl ((bytes_eq-Decides reply (refusal_text OutOfMemory)).0 wants, refl)
    by_memory request is false wants =
        let other : e ≢ OutOfMemory = λ same. true≢false (sym ((bytes_eq-Decides reply (refusal_text OutOfMemory)).1 (told ∙ ap refusal_text same)) ∙ wants) in
        absurd (some≢none (asked body) request (ap (λ b. cond b (meaning body) None) short ∙ none other) is)

-- where no request was read
pub not_read : (server : ServerState) (body reply : List ℕ) (e : Fault) → IsUnread body e → reply ≡ refusal_text e → Handles server body reply server
not_read server body reply e (inl long) told = too_long server body reply long.0 (told ∙ ap refusal_text long.1)
not_read server body reply e (inr short) told = handled_unread server body reply e short.0 told (λ other. (short.1 other).0) (λ other. (short.1 other).1)

pub not_read_for : (t : ℕ) (server : ServerState) (body reply : List ℕ) (e : Fault) → IsUnread body e → reply ≡ refusal_text e → HandlesFor t server body reply server
not_read_for t server body reply e (inl long) told =
    let as_handled = too_long server body reply long.0 (told ∙ ap refusal_text long.1) in
    record { own = λ request is same. as_handled; unread = λ is. as_handled; asks = λ request is. absurd (some≢none (asked body) request (unasked body long.0) is) }
not_read_for t server body reply e (inr short) told = unread_for t server body reply e short.0 told (λ other. (short.1 other).0) (λ other. (short.1 other).1)

-- with the token that it has a request is itself
same_request : (request : Request) → with_token (token_of request) request ≡ request
same_request (query token text parameters page) = refl
same_request (status token) = refl
same_request (create_index token label key) = refl
same_request (drop_index token label key) = refl
same_request (begin token) = refl
same_request (commit token) = refl
same_request (rollback token) = refl
same_request (pull token page) = refl
same_request (drop_page token page) = refl

own_request : (t : ℕ) (tenants : List State) (request : Request) → token_for t tenants request ≡ token_of request → request_for t tenants request ≡ request
own_request t tenants request same = ap (λ token. with_token token request) same ∙ same_request request

module _ (t : ℕ) (old new : ServerState) (body reply : List ℕ) (request : Request) (distinct : has_duplicate [] (all_tokens (settings_of old)) ≡ false) (all_answered : (r : Request) (u : ℕ) → AnsweredAlone (state_at old u) r)
    (short : is_short body ≡ true) (means : meaning body ≡ Some request) where
  is_asked : asked body ≡ Some request
  is_asked = asked_is body request short means

  own_handled : token_for t old.tenants request ≡ token_of request → AsksFor t old request reply new → Handles old body reply new
  own_handled shows (inl (told, same)) = subst (Handles old body reply) (sym same) (no_room old body reply short told)
  own_handled shows (inr asks) =
      let same : Asks old request reply new = subst (λ r. Asks old r reply new) (own_request t old.tenants request shows) asks in
      handled old new body reply request distinct (all_answered request) short means same.tenants same.cache same.names

  pub handled_for : AsksFor t old request reply new → HandlesFor t old body reply new
  handled_for asks =
      record {
        own = λ other is shows. own_handled (subst (λ r. token_for t old.tenants r ≡ token_of r) (ap (λ o. unwrap_or o request) (sym is ∙ is_asked)) shows) asks;
        unread = λ none. absurd (some≢none (asked body) request none is_asked);
        asks = λ other is. subst (λ r. AsksFor t old r reply new) (ap (λ o. unwrap_or o request) (sym is_asked ∙ is)) asks;
      }
