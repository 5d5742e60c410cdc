-- What is answered again leads every tenant to where it was led before.
use Rattle.std.proofs.Common.{◌≡◌, inl, inr, ℕ, suc, ◌+◌, Bool, true, false, ◌&&◌, ◌==◌, not, List, [], ◌∷◌, ◌++◌, Option, Some, None, get_or, refl, sym, ap, ◌∙◌, subst, append_assoc, append-nil, cond, arith}
use Rattle.std.proofs.lemmas.Iterator.Adapters.{position_from-zero}
use Rattle.std.proofs.lemmas.List.Quantifiers.{position-Some}
use Rattle.std.specs.List.{position_from}
use Rattle.std.proofs.lemmas.Bool.Decides.{nat_tests}
use Rattle.std.specs.Prelude.{option_and_then, option_map, unwrap_or}
use Rattle.pg_journal.specs.Reading.{Replayed}
use Rattle.pg_journal.specs.Records.{Kept}
use Rattle.pg_listen.specs.Courses.{Course}
use Rattle.pg_listen.specs.Events.{Event, received, answered, sent, by_server, settling}
use Rattle.pg_json.specs.Requests.{Request, token_of}
use Rattle.pg_listen.specs.Keeping.{IsKeptOf, Again, AnswersFor, AnswersNamed, IsReplyOf, name_of, place_named, record_of}
use Rattle.pg_listen.proofs.RefusalLemmas.{not_wanting}
use Rattle.pg_meaning.specs.declared.fault.Fault.TheVariants.{OutOfMemory}
use Rattle.pg_listen.specs.Moments.{Moment, AnswersKept, SettlesKept, IsWritten, DoesKept, AreAlike, LeadsAgain}
use Rattle.pg_server.specs.Exchange.{Exchange}
use Rattle.pg_meaning.specs.Names.{is_among}
use Rattle.pg_server.proofs.TenantNameLemmas.{named_once}
use Rattle.pg_server.proofs.TransactionLemmas.{answered_alone}
use Rattle.pg_server.specs.Handles.{Handles, is_at, own_token, tenant_asked, token_for}
use Rattle.pg_server.specs.Runs.{asked, shows_one_of, is_want_of_memory, own, requests_of, TwoWorlds}
use Rattle.pg_server.specs.State.{ServerState, state_at, state_in}
use Rattle.pg_server.specs.Step.{place_of}
use Rattle.pg_tenant.proofs.HolderLemmas.{holders_ask}
use Rattle.pg_tenant.specs.Changes.{IsNoRefusal, may_change}
use Rattle.pg_tenant.specs.Holders.{holder_of}
use Rattle.pg_tenant.specs.Settings.{standing_token}
use Rattle.pg_tenant.specs.Solo.{solo}
use Rattle.pg_tenant.specs.State.{State, no_state, tokens_of}
use Rattle.pg_value.specs.Texts.{has_duplicate}

-- a list of records in two parts
parts : (names : List (List ℕ)) (old new : ServerState) (xs ys : List Kept) → Replayed (Again names) old (xs ++ ys) new → (mid : ServerState) × Replayed (Again names) old xs mid × Replayed (Again names) mid ys new
parts names old new [] ys is = (old, refl, is)
parts names old new (x ∷ xs) ys is =
    let p = parts names is.0 new xs ys is.2 in
    (p.0, (is.0, is.1, p.1), p.2)

-- the requests of one exchange that isn't answered by want of memory
own_one : (tokens : List (List ℕ)) (body reply : List ℕ) → is_want_of_memory reply ≡ false
    → requests_of (own tokens (record { body = body; reply = reply } ∷ [])) ≡ cond (shows_one_of tokens (asked body)) (asked body ∷ []) []
own_one tokens body reply is = ap (λ (w : Bool). requests_of (cond (shows_one_of tokens (asked body) && not w) (record { body = body; reply = reply } ∷ []) [])) is ∙ by_own (shows_one_of tokens (asked body))
  where
    by_own : (b : Bool) → requests_of (cond (b && not false) (record { body = body; reply = reply } ∷ []) []) ≡ cond b (asked body ∷ []) []
    by_own true = refl
    by_own false = refl

alike_after : TwoWorlds → (old new old' new' : ServerState) (body reply reply' : List ℕ) → Handles old body reply new → Handles old' body reply' new'
    → is_want_of_memory reply ≡ false → is_want_of_memory reply' ≡ false → AreAlike old' old → AreAlike new' new
alike_after two old new old' new' body reply reply' h h' answers answers' alike t =
    let e : Exchange = record { body = body; reply = reply } in
    let e' : Exchange = record { body = body; reply = reply' } in
    let same : requests_of (own (tokens_of (state_at old' t)) (e' ∷ [])) ≡ requests_of (own (tokens_of (state_at old t)) (e ∷ [])) =
    own_one (tokens_of (state_at old' t)) body reply' answers' ∙ ap (λ s. cond (shows_one_of (tokens_of s) (asked body)) (asked body ∷ []) []) (alike t) ∙ sym (own_one (tokens_of (state_at old t)) body reply answers) in
    (two old' new' (e' ∷ []) old new (e ∷ []) t t h'.run h.run (alike t) same).1

leads_nil : {D : Type 0} (m : Moment D) → LeadsAgain m m
leads_nil m = ([], sym (append-nil (m.kept ++ m.waiting)), λ old' new' alike is t. ap (λ s. state_at s t) is ∙ alike t)

leads_trans : {D : Type 0} (old mid new : Moment D) → mid.names ≡ old.names → LeadsAgain old mid → LeadsAgain mid new → LeadsAgain old new
leads_trans old mid new called a b = (
  a.0 ++ b.0,
  b.1 ∙ ap (λ (l : List Kept). l ++ b.0) a.1 ∙ append_assoc (old.kept ++ old.waiting) a.0 b.0,
  λ old' new' alike is.
      let p = parts old.names old' new' a.0 b.0 is in
      b.2 p.0 new' (a.2 old' p.0 alike p.1) (subst (λ ns. Replayed (Again ns) p.0 b.0 new') (sym called) p.2),
)

-- ---- whose a request is, among tenants that are alike

module _ (p : State → Bool) (past : p no_state ≡ false) where
  passed : (i : ℕ) (y : State) (found more : Option ℕ) → no_state ≡ y → more ≡ found → found ≡ cond (p y) (Some i) more
  passed i y found more same is = sym (ap (λ s. cond (p s) (Some i) more) (sym same) ∙ ap (λ b. cond b (Some i) more) past ∙ is)

  none_first : (i : ℕ) (ys : List State) → ((t : ℕ) → no_state ≡ get_or ys t no_state) → position_from p i ys ≡ None
  none_first i [] alike = refl
  none_first i (y ∷ ys) alike = sym (passed i y None (position_from p (i + 1) ys) (alike 0) (none_first (i + 1) ys (λ t. alike (suc t))))

  same_first : (i : ℕ) (xs ys : List State) → ((t : ℕ) → get_or xs t no_state ≡ get_or ys t no_state) → position_from p i xs ≡ position_from p i ys
  same_first i [] ys alike = sym (none_first i ys alike)
  same_first i (x ∷ xs) [] alike = none_first i (x ∷ xs) (λ t. sym (alike t))
  same_first i (x ∷ xs) (y ∷ ys) alike = (λ j. cond (p (alike 0 j)) (Some i) (same_first (i + 1) xs ys (λ t. alike (suc t)) j))

same_place : (token : List ℕ) (xs ys : List State) → ((t : ℕ) → get_or xs t no_state ≡ get_or ys t no_state) → place_of token xs ≡ place_of token ys
same_place token xs ys alike =
    let shown : State → Bool = λ s. is_among (tokens_of s) token in
    position_from-zero shown xs ∙ same_first shown refl 0 xs ys alike ∙ sym (position_from-zero shown ys)

itself : (t : ℕ) → (t == t) ≡ true
itself t = grind (arith, nat_tests)

-- what may change a tenant is a request
is_asked : (o : Option Request) → option_map may_change o ≡ Some true → (request : Request) × (o ≡ Some request)
is_asked None is = absurd (cc)
is_asked (Some request) is = (request, refl)

-- ---- with which token a request is asked again

-- what was done showed the token with which its tenant asks it
module _ (old old' new : ServerState) (body reply : List ℕ) (t : ℕ) (handles : Handles old body reply new) (is_done : IsNoRefusal reply) (asks : tenant_asked old.tenants body ≡ Some t) (alike : AreAlike old' old) where
  shows_own : (request : Request) → asked body ≡ Some request → token_for t old'.tenants request ≡ token_of request
  shows_own request is = by_holder (holder_of (state_in old'.tenants t) request) refl
    where
      here : place_of (token_of request) old.tenants ≡ Some t
      here = ap (λ o. option_and_then (λ r. place_of (token_of r) old.tenants) o) (sym is) ∙ asks

      mine : is_among (tokens_of (state_at old t)) (token_of request) ≡ true
      mine = (position-Some (λ (s : State). is_among (tokens_of s) (token_of request)) old.tenants t no_state here).1

      answer : reply ≡ (solo (state_at old t) request).reply
      answer = answered_alone old new (record { body = body; reply = reply }) request t handles.run is mine (is_done OutOfMemory)

      there : place_of (token_of request) old'.tenants ≡ Some t
      there = same_place (token_of request) old'.tenants old.tenants alike ∙ here

      by_holder : (o : Option (List ℕ)) → holder_of (state_in old'.tenants t) request ≡ o → token_for t old'.tenants request ≡ token_of request
      by_holder (Some token) holds =
          ap (λ o. unwrap_or o (own_token t old'.tenants (token_of request))) holds
          ∙ holders_ask (state_at old t) request token (subst IsNoRefusal answer is_done) (ap (λ s. holder_of s request) (sym (alike t)) ∙ holds)
      by_holder None none =
          ap (λ o. unwrap_or o (own_token t old'.tenants (token_of request))) none
          ∙ ap (λ o. cond (is_at t o) (token_of request) (standing_token (state_in old'.tenants t).settings)) there
          ∙ ap (λ b. cond b (token_of request) (standing_token (state_in old'.tenants t).settings)) (itself t)

-- what was kept with the name of its tenant is answered as by `handle`
abbrev ShowsOwn : ℕ → ServerState → List ℕ → Type 0
ShowsOwn t server body = (request : Request) → asked body ≡ Some request → token_for t server.tenants request ≡ token_of request

named_again : (names : List (List ℕ)) (tenant : List ℕ) (t : ℕ) (old new : ServerState) (body : List ℕ) (reply : Option (List ℕ)) → has_duplicate [] names ≡ false → get_or names t [] ≡ tenant
    → (request : Request) → asked body ≡ Some request → ShowsOwn t old body → AnswersNamed names tenant old body reply new → (r : List ℕ) × (reply ≡ Some r) × Handles old body r new
named_again names [] t old new body None once is request asks shows answers = absurd answers
named_again names [] t old new body (Some r) once is request asks shows answers = (r, refl, answers)
named_again names (x ∷ xs) t old new body reply once is request asks shows answers =
    let place : place_named names (x ∷ xs) ≡ Some t = subst (λ n. place_named names n ≡ Some t) is (named_once names t x xs once is) in
    by_reply reply (subst (λ o. AnswersFor o old body reply new) place answers)
  where
    by_reply : (reply : Option (List ℕ)) → AnswersFor (Some t) old body reply new → (r : List ℕ) × (reply ≡ Some r) × Handles old body r new
    by_reply None answers = absurd answers
    by_reply (Some r) answers = (r, refl, answers.own request asks (shows request asks))

kept_again : (names : List (List ℕ)) (o : Option ℕ) (old new : ServerState) (body : List ℕ) (reply : Option (List ℕ)) → has_duplicate [] names ≡ false
    → (request : Request) → asked body ≡ Some request → ((t : ℕ) → o ≡ Some t → ShowsOwn t old body) → AnswersNamed names (name_of names o) old body reply new → (r : List ℕ) × (reply ≡ Some r) × Handles old body r new
kept_again names None old new body None once request asks shows answers = absurd answers
kept_again names None old new body (Some r) once request asks shows answers = (r, refl, answers)
kept_again names (Some t) old new body reply once request asks shows answers = named_again names (get_or names t []) t old new body reply once refl request asks (shows t refl) answers

module _ (two : TwoWorlds) {D : Type 0} where
  by_kind : (old : Moment D) (body reply : List ℕ) (new : Moment D) → has_duplicate [] old.names ≡ false → Handles old.server body reply new.server → (more : List Kept) → IsKeptOf old.names old.server body reply new.server more
      → new.kept ++ new.waiting ≡ (old.kept ++ old.waiting) ++ more → LeadsAgain old new
  by_kind old body reply new once handles more (inl is) log = (
    more,
    log,
    λ old' new' alike replayed.
        let one = subst (λ (l : List Kept). Replayed (Again old.names) old' l new') is.0 replayed in
        let again = one.1 in
        let request = is_asked (asked body) is.2 in
        let r = kept_again old.names (tenant_asked old.server.tenants body) old' one.0 body again.0 once request.0 request.1
        (λ t asks. shows_own old.server old' new.server body reply t handles is.1 asks alike) again.1 in
        let same = subst (IsReplyOf (record_of (name_of old.names (tenant_asked old.server.tenants body)) body reply)) r.1 again.2 in
        subst (λ s. AreAlike s new.server) (sym one.2) (alike_after two old.server new.server old' one.0 body reply r.0 handles r.2 (not_wanting reply (is.1 OutOfMemory)) same.0 alike),
  )
  by_kind old body reply new once handles more (inr is) log = (
    more,
    log,
    λ old' new' alike replayed t.
        let none : new' ≡ old' = subst (λ (l : List Kept). Replayed (Again old.names) old' l new') is.0 replayed in
        ap (λ s. state_at s t) none ∙ alike t ∙ ap (λ ts. state_in ts t) (sym is.1),
  )

  log_more : (old new : Moment D) (more : List Kept) → new.kept ≡ old.kept → new.waiting ≡ old.waiting ++ more → new.kept ++ new.waiting ≡ (old.kept ++ old.waiting) ++ more
  log_more old new more kept waiting = (λ i. kept i ++ waiting i) ∙ sym (append_assoc old.kept old.waiting more)

  same_server : (old new : Moment D) → new.server ≡ old.server → new.kept ++ new.waiting ≡ old.kept ++ old.waiting → LeadsAgain old new
  same_server old new server log = (
    [],
    log ∙ sym (append-nil (old.kept ++ old.waiting)),
    λ old' new' alike is t. ap (λ s. state_at s t) is ∙ alike t ∙ ap (λ s. state_at s t) (sym server),
  )

  written : (old new : Moment D) → new.server ≡ old.server → IsWritten old new → LeadsAgain old new
  written old new server (inl w) = same_server old new server ((λ i. w.0 i ++ w.1 i) ∙ append-nil (old.kept ++ old.waiting))
  written old new server (inr w) = same_server old new server (λ i. w.1 i ++ w.2 i)

  module _ (seen : D → List ℕ) (may_leave : D → List ℕ → Type 0) (moment : D → ℕ) (left_since : D → ℕ → List ℕ → Type 0) where
    by_answer : (old : Moment D) (body reply : List ℕ) (new : Moment D) → has_duplicate [] old.names ≡ false → AnswersKept old body reply new → LeadsAgain old new
    by_answer old body reply new once a = by_kind old body reply new once a.handles a.more a.is_kept (log_more old new a.more a.kept a.waiting)

    by_settling : (old new : Moment D) → SettlesKept moment left_since old new → LeadsAgain old new
    by_settling old new (server, called, inl same) = subst (LeadsAgain old) (sym same) (leads_nil old)
    by_settling old new (server, called, inr p) = written old new server p.1

    step : (old new : Moment D) (event : Event) → has_duplicate [] old.names ≡ false → DoesKept seen may_leave moment left_since old event new → LeadsAgain old new
    step old new (received c bytes) once does = subst (LeadsAgain old) (sym does) (leads_nil old)
    step old new (answered c e) once does = by_answer old e.body e.reply new once does
    step old new (sent c bytes) once does = subst (LeadsAgain old) (sym does.1) (leads_nil old)
    step old new (by_server e) once does = by_answer old e.body e.reply new once does
    step old new settling once does = by_settling old new does

    step_names : (old new : Moment D) (event : Event) → DoesKept seen may_leave moment left_since old event new → new.names ≡ old.names
    step_names old new (received c bytes) does = ap (λ m. m.names) does
    step_names old new (answered c e) does = does.names
    step_names old new (sent c bytes) does = ap (λ m. m.names) does.1
    step_names old new (by_server e) does = does.names
    step_names old new settling does = does.1

    pub leads_again : (old new : Moment D) (events : List Event) → has_duplicate [] old.names ≡ false → Course (DoesKept seen may_leave moment left_since) old events new → LeadsAgain old new
    leads_again old new [] once course = subst (LeadsAgain old) (sym course) (leads_nil old)
    leads_again old new (event ∷ events) once course =
        let called = step_names old course.0 event course.1 in
        leads_trans old course.0 new called (step old course.0 event once course.1)
        (leads_again course.0 new events (ap (λ ns. has_duplicate [] ns) called ∙ once) course.2)
