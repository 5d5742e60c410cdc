-- What is done in a transaction: a rollback gives back the state of the begin, a commit keeps what was done, and no other tenant waits.
use Rattle.std.proofs.Common.{◌≡◌, ◌≢◌, ℕ, Bool, true, false, cond, List, [], ◌∷◌, ◌++◌, Option, Some, None, Result, Ok, Err, bytes_eq, refl, sym, ap, subst, ◌∙◌}
use Rattle.std.specs.Prelude.{◌&&◌, not, is_some}
use Rattle.std.specs.List.{AllByRecursion}
use Rattle.std.proofs.lemmas.Bool.{true≢false}
use Rattle.std.proofs.lemmas.Slice.Eq.{bytes_eq-Decides}
use Rattle.pg_json.proofs.Codes.{done_is_no_refusal}
use Rattle.pg_json.specs.Refusals.{refusal_text, done_text}
use Rattle.pg_json.specs.Requests.{Request, token_of, query, status, create_index, drop_index, begin, commit, rollback, pull, drop_page}
use Rattle.pg_meaning.specs.Answer.{◌>>◌, unless}
use Rattle.pg_meaning.specs.Graph.{Graph}
use Rattle.pg_meaning.specs.Names.{is_among}
use Rattle.pg_meaning.specs.declared.fault.Fault.{Fault}
use Rattle.pg_meaning.specs.declared.fault.Fault.TheVariants.{ReadOnly, TenantBusy, TransactionOpen, NoTransaction, OutOfMemory}
use Rattle.pg_server.specs.Exchange.{Exchange}
use Rattle.pg_server.specs.Runs.{Runs, SoloRun, asked, is_want_of_memory, own, shows_one_of}
use Rattle.pg_server.specs.State.{ServerState, state_at}
use Rattle.pg_server.specs.Transactions.{IsDone, asks_end, has_ended, RollbackTakesBack, RollbacksTakeBack, HasOpen, CommitKeeps, OthersWait, NoneWaitsForOthers}
use Rattle.pg_tenant.proofs.TransactionLemmas as tenant
use Rattle.pg_tenant.specs.Settings.{may_write}
use Rattle.pg_tenant.specs.Solo.{Replied, commits, done, end_tested, gone_back, is_busy, reported, rolls_back, serves, solo}
use Rattle.pg_tenant.specs.State.{State, Transaction, is_open, tokens_of}
use Rattle.pg_tenant.specs.TransactionLaws.{ends}

-- ---- what is answered by its success

abbrev IsDoneBy : State → Result Replied Fault → Type 0
IsDoneBy s r = (reported s r).reply ≡ done_text

-- no test refused what was done
passed : (s : State) (b : Bool) (f : Fault) (r : Result Replied Fault) → IsDoneBy s (unless b f >> r) → (b ≡ true) × IsDoneBy s r
passed s true f r is = (refl, is)
passed s false f r is = absurd (done_is_no_refusal f (sym is))

free : (b : Bool) → not b ≡ true → b ≡ false
free true h = cc
free false h = refl

-- what was done was not busy, and did what it asked
does_alike : (s : State) (request : Request) → (solo s request).reply ≡ done_text → (is_busy s.transaction (token_of request) ≡ false) × IsDoneBy s (serves s request) × (solo s request ≡ reported s (serves s request))
does_alike s request is =
    let p = passed s (not (is_busy s.transaction (token_of request))) TenantBusy (serves s request) is in
    (free (is_busy s.transaction (token_of request)) p.0, p.1, ap (λ b. reported s (unless b TenantBusy >> serves s request)) p.0)

-- what was not done left the state, of a request that is answered by its success alone
abbrev DoesOrKeeps : State → Result Replied Fault → Type 0
DoesOrKeeps s r = (reported s r).reply ≢ done_text → (reported s r).state ≡ s

tested : (s : State) (b : Bool) (f : Fault) (r : Result Replied Fault) → DoesOrKeeps s r → DoesOrKeeps s (unless b f >> r)
tested s true f r h = h
tested s false f r h = λ _. refl

ended : (s : State) (t : Result (Unit {0}) Fault) (after : State) → DoesOrKeeps s (t >> Ok (done after))
ended s (Ok u) after = λ other. absurd (other refl)
ended s (Err f) after = λ _. refl

-- ---- begin

abbrev opened : State → (token : List ℕ) → State
opened s token = record s { transaction = Some (record { token = token; begun = s.graph }) }

none_open : (o : Option Transaction) → not (is_some o) ≡ true → o ≡ None
none_open None h = refl
none_open (Some t) h = cc

begun : (s : State) (token : List ℕ) → (solo s (begin token)).reply ≡ done_text → (s.transaction ≡ None) × ((solo s (begin token)).state ≡ opened s token)
begun s token is =
    let d = does_alike s (begin token) is in
    let w = passed s (may_write s.settings token) ReadOnly (unless (not (is_open s)) TransactionOpen >> Ok (done (opened s token))) d.1 in
    let o = passed s (not (is_open s)) TransactionOpen (Ok (done (opened s token))) w.1 in
    let after : Replied → State = λ r. r.state in (
      none_open s.transaction o.0,
      ap after d.2 ∙ ap (λ b. (reported s (unless b ReadOnly >> (unless (not (is_open s)) TransactionOpen >> Ok (done (opened s token))))).state) w.0
          ∙ ap (λ b. (reported s (unless b TransactionOpen >> Ok (done (opened s token)))).state) o.0,
    )

-- ---- commit and rollback

both_passed : (s : State) (w o : Bool) (after : State) → IsDoneBy s ((unless w ReadOnly >> unless o NoTransaction) >> Ok (done after))
    → (o ≡ true) × ((reported s ((unless w ReadOnly >> unless o NoTransaction) >> Ok (done after))).state ≡ after)
both_passed s true true after is = (refl, refl)
both_passed s true false after is = absurd (done_is_no_refusal NoTransaction (sym is))
both_passed s false o after is = absurd (done_is_no_refusal ReadOnly (sym is))

there : (o : Option Transaction) → is_some o ≡ true → (t : Transaction) × (o ≡ Some t)
there (Some t) h = (t, refl)
there None h = cc

same : (b : Bool) → not b ≡ false → b ≡ true
same true h = refl
same false h = cc

-- an end that was done had the transaction of its token open
ends_own : (s : State) (token : List ℕ) (after : State) → is_busy s.transaction token ≡ false → IsDoneBy s (end_tested s token >> Ok (done after))
    → HasOpen s token × ((reported s (end_tested s token >> Ok (done after))).state ≡ after)
ends_own s token after waits is =
    let p = both_passed s (may_write s.settings token) (is_open s) after is in
    let it = there s.transaction p.0 in
    let mine : not (bytes_eq it.0.token token) ≡ false = sym (ap (λ o. is_busy o token) it.1) ∙ waits in
    ((it.0, it.1, (bytes_eq-Decides it.0.token token).0 (same (bytes_eq it.0.token token) mine)), p.1)

committed : (s : State) (token : List ℕ) → (solo s (commit token)).reply ≡ done_text → HasOpen s token × ((solo s (commit token)).state ≡ record s { transaction = None })
committed s token is =
    let d = does_alike s (commit token) is in
    let e = ends_own s token (record s { transaction = None }) d.0 d.1 in
    let after : Replied → State = λ r. r.state in
    (e.0, ap after d.2 ∙ e.1)

abbrev back_by : State → Option Transaction → State
back_by s o = elim o [ Some t ↦ record s { graph = t.begun; transaction = None } | None ↦ s ]

rolled_back : (s : State) (token : List ℕ) → (solo s (rollback token)).reply ≡ done_text → (t : Transaction) × (s.transaction ≡ Some t) × ((solo s (rollback token)).state ≡ record s { graph = t.begun; transaction = None })
rolled_back s token is =
    let d = does_alike s (rollback token) is in
    let e = ends_own s token (gone_back s) d.0 d.1 in
    let after : Replied → State = λ r. r.state in
    (e.0.0, e.0.1, ap after d.2 ∙ e.1 ∙ ap (back_by s) e.0.1)

-- an end that was not done left the state
not_ended : (s : State) (request : Request) → ends request ≡ true → (solo s request).reply ≢ done_text → (solo s request).state ≡ s
not_ended s (query token text parameters page) h = cc
not_ended s (pull token page) h = cc
not_ended s (drop_page token page) h = cc
not_ended s (status token) h = cc
not_ended s (create_index token label key) h = cc
not_ended s (drop_index token label key) h = cc
not_ended s (begin token) h = cc
not_ended s (commit token) h = tested s (not (is_busy s.transaction token)) TenantBusy (commits s token) (ended s (end_tested s token) (record s { transaction = None }))
not_ended s (rollback token) h = tested s (not (is_busy s.transaction token)) TenantBusy (rolls_back s token) (ended s (end_tested s token) (gone_back s))

-- ---- from the begin to the rollback

abbrev with_graph : State → Graph → State
with_graph s g = record s { graph = g }

-- one exchange that ended no transaction
step : (s : State) (t : Transaction) (request : Request) (reply : List ℕ) → s.transaction ≡ Some t → reply ≡ (solo s request).reply → ends request && bytes_eq reply done_text ≡ false
    → (solo s request).state ≡ with_graph s (solo s request).state.graph
step s t request reply is_there told h = by_end (ends request) refl h
  where
    by_end : (b : Bool) → ends request ≡ b → b && bytes_eq reply done_text ≡ false → (solo s request).state ≡ with_graph s (solo s request).state.graph
    by_end false is h = tenant.only_the_graph s t request is_there is
    by_end true is h =
        let other : (solo s request).reply ≢ done_text = λ same. true≢false (sym ((bytes_eq-Decides reply done_text).1 (told ∙ same)) ∙ h) in
        let kept = not_ended s request is other in
        kept ∙ ap (λ (x : State). with_graph s x.graph) (sym kept)

abbrev in_turn : State → (token : List ℕ) → Graph → State
in_turn s token g = with_graph (opened s token) g

back : (s : State) (token ending : List ℕ) (g : Graph) (last : Exchange) (new : State) → s.transaction ≡ None → IsDone last (rollback ending) → SoloRun (in_turn s token g) (last ∷ []) new → new ≡ s
back s token ending g last new none is run =
    let found : Some run.0 ≡ Some (rollback ending) = sym run.1 ∙ is.asks in
    let request : run.0 ≡ rollback ending = cc in
    let before = in_turn s token g in
    let ran : (solo before (rollback ending)).reply ≡ done_text = sym (run.2 ∙ ap (λ r. (solo before r).reply) request) ∙ is.reply in
    let r = rolled_back before ending ran in
    let mine : Transaction = record { token = token; begun = s.graph } in
    let is_there : Some mine ≡ Some r.0 = r.1 in
    let is_mine : mine ≡ r.0 = cc in
    run.4 ∙ ap (λ q. (solo before q).state) request ∙ r.2 ∙ ap (λ (t : Transaction). let x : State = record before { graph = t.begun; transaction = None } in x) (sym is_mine)
    ∙ ap (λ (o : Option Transaction). let x : State = record s { transaction = o } in x) (sym none)

turns : (s : State) (token ending : List ℕ) (between : List Exchange) (g : Graph) (last : Exchange) (new : State) → s.transaction ≡ None → AllByRecursion (λ e. has_ended e ≡ false) between
    → IsDone last (rollback ending) → SoloRun (in_turn s token g) (between ++ last ∷ []) new → new ≡ s
turns s token ending [] g last new none stays is run = back s token ending g last new none is run
turns s token ending (e ∷ between) g last new none stays is run =
    let before = in_turn s token g in
    let not_end : ends run.0 && bytes_eq e.reply done_text ≡ false = ap (λ r. asks_end r && bytes_eq e.reply done_text) (sym run.1) ∙ stays.0 in
    let kept = step before (record { token = token; begun = s.graph }) run.0 e.reply refl run.2 not_end in
    turns s token ending between (solo before run.0).state.graph last new none stays.1 is (subst (λ x. SoloRun x (between ++ last ∷ []) new) kept run.4)

taken_back : (old new : State) (token ending : List ℕ) (first : Exchange) (between : List Exchange) (last : Exchange) → IsDone first (begin token) → AllByRecursion (λ e. has_ended e ≡ false) between
    → IsDone last (rollback ending) → SoloRun old (first ∷ between ++ last ∷ []) new → new ≡ old
taken_back old new token ending first between last first_done stays last_done run =
    let found : Some run.0 ≡ Some (begin token) = sym run.1 ∙ first_done.asks in
    let request : run.0 ≡ begin token = cc in
    let ran : (solo old (begin token)).reply ≡ done_text = sym (run.2 ∙ ap (λ r. (solo old r).reply) request) ∙ first_done.reply in
    let b = begun old token ran in
    turns old token ending between old.graph last new b.0 stays last_done (subst (λ x. SoloRun x (between ++ last ∷ []) new) (ap (λ r. (solo old r).state) request ∙ b.1) run.4)

pub rollback_takes_back : RollbackTakesBack
rollback_takes_back old new es it run =
    taken_back old new it.token it.ending it.first it.between it.last it.begun it.stays it.ended (subst (λ xs. SoloRun old xs new) it.are run)

pub rollbacks_take_back : RollbacksTakeBack
rollbacks_take_back old new es t run it = rollback_takes_back (state_at old t) (state_at new t) (own (tokens_of (state_at old t)) es) it (run.solo t)

pub commit_keeps : CommitKeeps
commit_keeps old new token e is run =
    let found : Some run.0 ≡ Some (commit token) = sym run.1 ∙ is.asks in
    let request : run.0 ≡ commit token = cc in
    let ran : (solo old (commit token)).reply ≡ done_text = sym (run.2 ∙ ap (λ r. (solo old r).reply) request) ∙ is.reply in
    let c = committed old token ran in
    (c.0, run.4 ∙ ap (λ r. (solo old r).state) request ∙ c.1)

-- ---- who waits

pub others_wait : OthersWait
others_wait old new t request e is_there asks other run =
    let found : Some run.0 ≡ Some request = sym run.1 ∙ asks in
    let it : run.0 ≡ request = cc in
    let waits = ap (solo old) it ∙ tenant.others_wait old t request is_there other in
    let reply_in : Replied → List ℕ = λ r. r.reply in
    let after : Replied → State = λ r. r.state in
    (run.2 ∙ ap reply_in waits, run.4 ∙ ap after waits)

free_answer : (s : State) (request : Request) → s.transaction ≡ None → solo s request ≡ reported s (serves s request)
free_answer s request none = ap (λ o. reported s (unless (not (is_busy o (token_of request))) TenantBusy >> serves s request)) none

-- a tenant's own exchange is in its run, unless it was answered by want of memory
pub answered_alone : (old new : ServerState) (e : Exchange) (request : Request) (t : ℕ) → Runs old (e ∷ []) new → asked e.body ≡ Some request → is_among (tokens_of (state_at old t)) (token_of request) ≡ true
    → e.reply ≢ refusal_text OutOfMemory → e.reply ≡ (solo (state_at old t) request).reply
answered_alone old new e request t run asks mine answered = by_own (shows_one_of (tokens_of (state_at old t)) (asked e.body) && not (is_want_of_memory e.reply)) refl (run.solo t)
  where
    by_own : (b : Bool) → shows_one_of (tokens_of (state_at old t)) (asked e.body) && not (is_want_of_memory e.reply) ≡ b → SoloRun (state_at old t) (cond b (e ∷ []) []) (state_at new t)
        → e.reply ≡ (solo (state_at old t) request).reply
    by_own true is run =
        let found : Some run.0 ≡ Some request = sym run.1 ∙ asks in
        let it : run.0 ≡ request = cc in
        run.2 ∙ ap (λ r. (solo (state_at old t) r).reply) it
    by_own false is run =
        let shown : true && not (is_want_of_memory e.reply) ≡ false =
        ap (λ b. b && not (is_want_of_memory e.reply)) (sym (ap (shows_one_of (tokens_of (state_at old t))) asks ∙ mine)) ∙ is in
        absurd (answered ((bytes_eq-Decides e.reply (refusal_text OutOfMemory)).0 (same (is_want_of_memory e.reply) shown)))

pub none_waits_for_others : NoneWaitsForOthers
none_waits_for_others old new e request t run asks mine none answered =
    answered_alone old new e request t run asks mine answered ∙ ap (λ (r : Replied). r.reply) (free_answer (state_at old t) request none)
