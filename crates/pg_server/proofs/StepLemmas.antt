-- One request is a run of one exchange.
use Rattle.std.proofs.Common.{◌≡◌, ◌≢◌, ℕ, ◌<◌, List, [], ◌∷◌, Bool, true, false, cond, length, arith, get_or, Option, Some, None, refl, sym, ap, ◌∙◌, subst, inl, inr}
use Rattle.std.specs.Prelude.{◌&&◌, not, nat_eq, position, slice_set, option_and_then, IfSome}
use Rattle.std.proofs.Math.Seq.{map-set_same}
use Rattle.std.proofs.lemmas.Bool.Decides.{Decides-eqb, not_from_Decides}
use Rattle.std.proofs.lemmas.List.{get_or-set_same, get_or-set_other, get_or_past, set-get_or}
use Rattle.std.proofs.lemmas.Bool.{cases_lt, true≢false}
use Rattle.std.proofs.lemmas.Grind.{common_steps}
use Rattle.std.proofs.lemmas.List.Quantifiers.{position-Some}
use Rattle.std.proofs.lemmas.List.Sums.{fails_before_first}
use Rattle.std.proofs.lemmas.Slice.Eq.{bytes_eq-Decides}
use Rattle.pg_json.specs.Refusals.{refusal_text}
use Rattle.pg_json.specs.Requests.{Request, token_of, meaning}
use Rattle.pg_meaning.specs.declared.fault.Fault.{Fault}
use Rattle.pg_meaning.specs.declared.fault.Fault.TheVariants.{BadRequest, UnknownToken, OutOfMemory}
use Rattle.pg_server.specs.AnsweredQueries.{AnsweredQuery}
use Rattle.pg_server.specs.Exchange.{Exchange}
use Rattle.pg_server.specs.Runs.{Runs, SoloRun, IsStrangers, IsStrangersReply, own, asked, shows_one_of, is_short, is_want_of_memory, fault_of_request}
use Rattle.pg_meaning.specs.Names.{is_among}
use Rattle.pg_value.specs.Texts.{has_duplicate}
use Rattle.pg_server.specs.Settings.{all_tokens}
use Rattle.pg_server.specs.State.{ServerState, state_at, settings_of}
use Rattle.pg_server.specs.Step.{Answers, StepAt, place_of}
use Rattle.pg_server.proofs.AnsweredQueryLemmas.{AnsweredAlone}
use Rattle.pg_server.proofs.DistinctLemmas.{others_lack}
use Rattle.pg_server.proofs.ReplyLemmas.{refused_keeps}
use Rattle.pg_server.proofs.RunLemmas.{settings_at}
use Rattle.pg_tenant.proofs.KeptLemmas.{settings_stay}
use Rattle.pg_tenant.specs.Settings.{no_settings, token_texts}
use Rattle.pg_tenant.specs.Solo.{solo}
use Rattle.pg_tenant.specs.State.{State, no_state, tokens_of}

none_passes : {X : Type 0} (p : X → Bool) (xs : List X) (k : ℕ) (d : X) → position p xs ≡ None → p d ≡ false → p (get_or xs k d) ≡ false
none_passes p xs k d none past =
    elim (cases_lt k (length xs)) as (λ _. p (get_or xs k d) ≡ false) [
      | inl lt ↦ fails_before_first p xs k d (grind (arith, common_steps, none))
      | inr ge ↦ ap p (get_or_past xs k d ge) ∙ past
    ]

and_false : (a b : Bool) → b ≡ false → a && b ≡ false
and_false true b h = h
and_false false b h = refl

and_true : (a b : Bool) → b ≡ true → a && b ≡ a
and_true true b h = h
and_true false b h = refl

pub asked_is : (body : List ℕ) (request : Request) → is_short body ≡ true → meaning body ≡ Some request → asked body ≡ Some request
asked_is body request short means = ap (λ b. cond b (meaning body) None) short ∙ means

-- where the tenant stands whose token a request shows
pub tenant_shown : (asks : Option Request) (tenants : List State) (request : Request) (token : List ℕ) (place : Option ℕ)
    → asks ≡ Some request → token ≡ token_of request → place ≡ place_of token tenants
    → IfSome place (λ at. option_and_then (λ shown. place_of (token_of shown) tenants) asks ≡ Some at)
tenant_shown asks tenants request token None is shows stands = tt
tenant_shown asks tenants request token (Some at) is shows stands =
    ap (λ r. option_and_then (λ shown. place_of (token_of shown) tenants) r) is ∙ ap (λ t. place_of t tenants) (sym shows) ∙ sym stands

-- an exchange that is no tenant's own leaves the server as it is
module _ (server : ServerState) (body reply : List ℕ) (strangers : IsStrangers server body → IsStrangersReply body reply) where
  pub left_alone : ((t : ℕ) → shows_one_of (tokens_of (state_at server t)) (asked body) && not (is_want_of_memory reply) ≡ false) → Runs server (record { body = body; reply = reply } ∷ []) server
  left_alone none =
      record {
        cache = refl;
        settings = refl;
        strangers = (strangers, tt);
        solo = λ t. subst (λ b. SoloRun (state_at server t) (cond b (record { body = body; reply = reply } ∷ []) []) (state_at server t)) (sym (none t)) refl;
      }

-- one tenant's state is this now
abbrev with_tenant : ServerState → ℕ → State → ServerState
with_tenant server t state = record server { tenants = slice_set server.tenants t state }

-- what else the cache holds changes no tenant's run
moved : (old new : ServerState) (es : List Exchange) (tenants : List State) → new.cache.capacity ≡ old.cache.capacity → new.tenants ≡ tenants → Runs old es (record old { tenants = tenants }) → Runs old es new
moved old new es tenants capacity are run =
    subst (λ ts. Runs old es (let s : ServerState = record { cache = new.cache; names = new.names; tenants = ts } in s)) (sym are)
    (let r : Runs old es (let s : ServerState = record { cache = new.cache; names = new.names; tenants = tenants } in s) = record { cache = capacity; settings = run.settings; strangers = run.strangers; solo = run.solo } in r)

-- want of memory
pub out_of_memory : (server : ServerState) (body reply : List ℕ) → is_short body ≡ true → reply ≡ refusal_text OutOfMemory → Runs server (record { body = body; reply = reply } ∷ []) server
out_of_memory server body reply short told =
    left_alone server body reply (λ _. (λ long. let no : is_short body ≡ true = short in cc, λ _. inr told))
    (λ t. and_false _ (not (is_want_of_memory reply)) (ap not (ap is_want_of_memory told ∙ (bytes_eq-Decides (refusal_text OutOfMemory) (refusal_text OutOfMemory)).1 refl)))

module _ (old : ServerState) (body : List ℕ) (request : Request) (short : is_short body ≡ true) (means : meaning body ≡ Some request) where
  asks : asked body ≡ Some request
  asks = asked_is body request short means

  pub unknown : (reply : List ℕ) → place_of (token_of request) old.tenants ≡ None → reply ≡ refusal_text UnknownToken → Runs old (record { body = body; reply = reply } ∷ []) old
  unknown reply none told =
      left_alone old body reply (λ _. (λ long. cc, λ _. inl (told ∙ ap (λ r. refusal_text (fault_of_request r)) (sym means))))
      (λ t. ap (λ r. shows_one_of (tokens_of (state_at old t)) r && not (is_want_of_memory reply)) asks
      ∙ ap (λ b. b && not (is_want_of_memory reply)) (none_passes (λ (s : State). is_among (tokens_of s) (token_of request)) old.tenants t no_state none refl))

  module _ (t : ℕ) (found : place_of (token_of request) old.tenants ≡ Some t) where
    place : (t < length old.tenants) × (is_among (tokens_of (state_at old t)) (token_of request) ≡ true) × ((k : ℕ) → k < t → is_among (tokens_of (state_at old k)) (token_of request) ≡ false)
    place = position-Some (λ (s : State). is_among (tokens_of s) (token_of request)) old.tenants t no_state found

    module _ (distinct : has_duplicate [] (all_tokens (settings_of old)) ≡ false) (is_answered_query : AnsweredAlone (state_at old t) request) (reply : List ℕ) (told : reply ≡ (solo (state_at old t) request).reply) (is_answered : is_want_of_memory reply ≡ false) where
      abbrev after : State
      after = (solo (state_at old t) request).state

      abbrev one : Exchange
      one = record { body = body; reply = reply }

      is_own : (u : ℕ) → shows_one_of (tokens_of (state_at old u)) (asked body) && not (is_want_of_memory reply) ≡ is_among (tokens_of (state_at old u)) (token_of request)
      is_own u = and_true _ (not (is_want_of_memory reply)) (ap not is_answered) ∙ ap (shows_one_of (tokens_of (state_at old u))) asks

      others : (u : ℕ) → t ≢ u → is_among (tokens_of (state_at old u)) (token_of request) ≡ false
      others u ne =
          ap (λ names. is_among names (token_of request)) (ap token_texts (settings_at old.tenants u))
          ∙ others_lack (settings_of old) t u no_settings (token_of request) refl distinct ne (ap (λ names. is_among names (token_of request)) (ap token_texts (sym (settings_at old.tenants t))) ∙ place.1)

      solo_at : (u : ℕ) (b : Bool) → nat_eq u t ≡ b → SoloRun (state_at old u) (own (tokens_of (state_at old u)) (one ∷ [])) (state_at (with_tenant old t after) u)
      solo_at u true is =
          let same : u ≡ t = (Decides-eqb u t).0 is in
          subst (λ k. SoloRun (state_at old k) (own (tokens_of (state_at old k)) (one ∷ [])) (state_at (with_tenant old t after) k)) (sym same)
          (subst (λ b. SoloRun (state_at old t) (cond b (one ∷ []) []) (state_at (with_tenant old t after) t)) (sym (is_own t ∙ place.1)) (request, asks, told, subst (λ r. AnsweredQuery (state_at old t) request r after) (sym told) is_answered_query, get_or-set_same old.tenants t after no_state place.0))
      solo_at u false is =
          let differ : u ≢ t = not_from_Decides (nat_eq u t) (Decides-eqb u t) is in
          subst (λ b. SoloRun (state_at old u) (cond b (one ∷ []) []) (state_at (with_tenant old t after) u)) (sym (is_own u ∙ others u (λ e. differ (sym e))))
          (get_or-set_other old.tenants t u after no_state differ)

      pub by_tenant : Runs old (one ∷ []) (with_tenant old t after)
      by_tenant =
          record {
            cache = refl;
            settings = map-set_same (λ (s : State). s.settings) old.tenants t after no_state (settings_stay (state_at old t) request);
            strangers = (λ none. let here : is_among (tokens_of (state_at old t)) (token_of request) ≡ false = sym (ap (shows_one_of (tokens_of (state_at old t))) asks) ∙ none t in absurd (true≢false (sym place.1 ∙ here)), tt);
            solo = λ u. solo_at u (nat_eq u t) refl;
          }

-- an answer that says want of memory leaves the server
kept_tenant : (old : ServerState) (t : ℕ) (request : Request) → is_want_of_memory (solo (state_at old t) request).reply ≡ true → with_tenant old t (solo (state_at old t) request).state ≡ old
kept_tenant old t request h =
    ap (with_tenant old t) (refused_keeps (state_at old t) request h) ∙ ap (λ ts. let s : ServerState = record { cache = old.cache; names = old.names; tenants = ts } in s) (set-get_or old.tenants t no_state)

abbrev only : (body reply : List ℕ) → List Exchange
only body reply = record { body = body; reply = reply } ∷ []

-- one request, as the tenant found by its token answers it
pub answered : (old new : ServerState) (body reply : List ℕ) (request : Request) → has_duplicate [] (all_tokens (settings_of old)) ≡ false
    → ((t : ℕ) → AnsweredAlone (state_at old t) request) → is_short body ≡ true → meaning body ≡ Some request → new.cache.capacity ≡ old.cache.capacity → Answers old.tenants request reply new.tenants
    → Runs old (record { body = body; reply = reply } ∷ []) new
answered old new body reply request distinct all_answered short means capacity step = by_place (place_of (token_of request) old.tenants) refl step
  where
    by_reply : (t : ℕ) → place_of (token_of request) old.tenants ≡ Some t → reply ≡ (solo (state_at old t) request).reply → (b : Bool) → is_want_of_memory reply ≡ b
        → Runs old (only body reply) (with_tenant old t (solo (state_at old t) request).state)
    by_reply t found told true is =
        subst (Runs old (only body reply)) (sym (kept_tenant old t request (sym (ap is_want_of_memory told) ∙ is)))
        (out_of_memory old body reply short ((bytes_eq-Decides reply (refusal_text OutOfMemory)).0 is))
    by_reply t found told false is = by_tenant old body request short means t found distinct (all_answered t) reply told is

    by_place : (o : Option ℕ) → place_of (token_of request) old.tenants ≡ o → StepAt o old.tenants request reply new.tenants → Runs old (only body reply) new
    by_place None none step = moved old new (only body reply) old.tenants capacity step.1 (unknown old body request short means reply none step.0)
    by_place (Some t) found (inl h) = moved old new (only body reply) old.tenants capacity h.1 (out_of_memory old body reply short h.0)
    by_place (Some t) found (inr h) = moved old new (only body reply) (slice_set old.tenants t (solo (state_at old t) request).state) capacity h.1 (by_reply t found h.0 (is_want_of_memory reply) refl)

-- a body that isn't read
pub unread : (server : ServerState) (body reply : List ℕ) (e : Fault) → is_short body ≡ true → reply ≡ refusal_text e → (e ≢ OutOfMemory → e ≡ BadRequest)
    → (e ≢ OutOfMemory → meaning body ≡ None) → Runs server (record { body = body; reply = reply } ∷ []) server
unread server body reply e short told kind none = by_memory (is_want_of_memory reply) refl
  where
    by_memory : (b : Bool) → is_want_of_memory reply ≡ b → Runs server (record { body = body; reply = reply } ∷ []) server
    by_memory true is = out_of_memory server body reply short ((bytes_eq-Decides reply (refusal_text OutOfMemory)).0 is)
    by_memory false is =
        let other : e ≢ OutOfMemory = λ same. true≢false (sym ((bytes_eq-Decides reply (refusal_text OutOfMemory)).1 (told ∙ ap refusal_text same)) ∙ is) in
        let nothing : asked body ≡ None = ap (λ b. cond b (meaning body) None) short ∙ none other in
        left_alone server body reply (λ _. (λ long. cc, λ _. inl (told ∙ ap refusal_text (kind other) ∙ ap (λ r. refusal_text (fault_of_request r)) (sym (none other)))))
        (λ t. ap (λ r. shows_one_of (tokens_of (state_at server t)) r && not (is_want_of_memory reply)) nothing)

-- a tenant that is found is one of them
pub place_below : (token : List ℕ) (tenants : List State) (t : ℕ) → place_of token tenants ≡ Some t → t < length tenants
place_below token tenants t found = (position-Some (λ (s : State). is_among (tokens_of s) token) tenants t no_state found).0
