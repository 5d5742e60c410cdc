-- What each request leaves as it was: its tenant's settings, and all of the tenant where it is refused.
use Rattle.std.proofs.Common.{◌≡◌, ℕ, List, length, Bool, true, false, not, cond, Option, Some, None, Result, Ok, Err, refl, ap, ◌∙◌}
use Rattle.std.specs.Prelude.{nat_le, drop, take}
use Rattle.pg_json.proofs.Codes.{done_is_no_refusal, pulled_is_no_refusal}
use Rattle.pg_json.specs.Pages.{pulled_text}
use Rattle.pg_json.specs.Refusals.{refusal_text}
use Rattle.pg_json.specs.Replies.{max_reply}
use Rattle.pg_json.specs.Requests.{Request, token_of, query, status, create_index, drop_index, begin, commit, rollback, pull, drop_page}
use Rattle.pg_meaning.specs.Answer.{◌>>=◌, ◌>>◌, unless}
use Rattle.pg_meaning.specs.Plans.{Catalogue}
use Rattle.pg_meaning.specs.Queries.{Outcome}
use Rattle.pg_meaning.specs.Value.{Entries}
use Rattle.pg_meaning.specs.declared.fault.Fault.{Fault}
use Rattle.pg_meaning.specs.declared.fault.Fault.TheVariants.{ReadOnly, ReplyTooLong, TenantBusy, TransactionOpen}
use Rattle.pg_pages.specs.Held.{Held, Page, dropped, left_with, page_of, pulled}
use Rattle.pg_tenant.proofs.AnswerLemmas.{NoRefusal, shown_is_no_refusal}
use Rattle.pg_tenant.specs.Answers.{Answered, limited, shown_if_fitting}
use Rattle.pg_tenant.specs.Indexes.{index_created, index_dropped}
use Rattle.pg_tenant.specs.Outcomes.{text_outcome}
use Rattle.pg_tenant.specs.Settings.{may_write}
use Rattle.pg_tenant.specs.Solo.{Replied, done, end_tested, gone_back, is_busy, page_tested, pages_tested, query_answered, replies, reported, serves, solo, status_text, with_answer, with_indexes, with_status}
use Rattle.pg_tenant.specs.State.{State, Transaction, is_open}
use Rattle.pg_tenant.specs.Step.{reply_of}
use Rattle.pg_tenant.specs.TransactionLaws.{RefusalsLeave}

-- what is replied is no refusal, or leaves the state; and the settings are the same
abbrev Leaves : State → Result Replied Fault → Type 0
Leaves s (Ok r) = ((f : Fault) → r.reply ≡ refusal_text f → r.state ≡ s) × (r.state.settings ≡ s.settings)
Leaves s (Err e) = Unit {0}

behind : (s : State) (t : Result (Unit {0}) Fault) (r : Result Replied Fault) → Leaves s r → Leaves s (t >> r)
behind s (Ok tt) r k = k
behind s (Err e) r k = tt

-- what is done is no refusal
is_done : (s after : State) → after.settings ≡ s.settings → Leaves s (Ok (done after))
is_done s after same = (λ f is. absurd (done_is_no_refusal f is), same)

of_query : (s : State) (answer : Result Answered Fault) → NoRefusal answer → Leaves s (with_answer s answer)
of_query s (Ok a) tells = (λ f is. absurd (tells f is), refl)
of_query s (Err e) tells = tt

of_status : (s : State) (fits : Bool) → Leaves s (cond fits (Ok (status_text s)) (Err ReplyTooLong) >>= λ reply. Ok (replies reply s))
of_status s true = (λ f is. refl, refl)
of_status s false = tt

of_indexes : (s : State) (indexes : Result Catalogue Fault) → Leaves s (with_indexes s indexes)
of_indexes s (Ok is) = is_done s (record s { indexes = is }) refl
of_indexes s (Err e) = tt

abbrev back : State → Option Transaction → State
back s t = elim t [ Some x ↦ record s { graph = x.begun; transaction = None } | None ↦ s ]

back_settings : (s : State) (t : Option Transaction) → (back s t).settings ≡ s.settings
back_settings s (Some t) = refl
back_settings s None = refl

abbrev text_of : State → (token text : List ℕ) → Entries → Result Outcome Fault
text_of s token text parameters = text_outcome (may_write s.settings token) s.settings.max_steps s.settings.max_elements parameters s.indexes s.graph text

behind_test : (t : Result (Unit {0}) Fault) (answer : Result Answered Fault) → NoRefusal answer → NoRefusal (t >> answer)
behind_test (Ok tt) answer tells = tells
behind_test (Err e) answer tells = tt

-- what a page gives is no refusal
pull_by : (s : State) (p : Result Page Fault) → Leaves s ((p >>= λ q. let left = left_with q (drop q.size q.rows) s.held in let r : Result (List ℕ × Held) Fault = Ok (pulled_text left.0 (take q.size q.rows), left.1) in r)
    >>= λ g. Ok (replies g.0 (record s { held = g.1 })))
pull_by s (Ok q) = (λ f is. absurd (pulled_is_no_refusal (left_with q (drop q.size q.rows) s.held).0 (take q.size q.rows) f is), refl)
pull_by s (Err e) = tt

of_pull : (s : State) (token : List ℕ) (number : ℕ) → Leaves s (pulled s.held token number >>= λ p. Ok (replies p.0 (record s { held = p.1 })))
of_pull s token number = pull_by s (page_of s.held token number)

of_drop : (s : State) (left : Result Held Fault) → Leaves s (left >>= λ held. Ok (done (record s { held = held })))
of_drop s (Ok held) = is_done s (record s { held = held }) refl
of_drop s (Err e) = tt

served : (s : State) (request : Request) → Leaves s (serves s request)
served s (query token text parameters page) =
    of_query s (query_answered s token text parameters page)
    (behind_test (page_tested s page) (shown_if_fitting s.held s.settings.max_held token page (text_of s token text parameters))
    (shown_is_no_refusal s.held s.settings.max_held token page (text_of s token text parameters)))
served s (status token) = of_status s (nat_le (length (status_text s)) max_reply)
served s (create_index token label key) = of_indexes s (index_created (may_write s.settings token) (is_open s) s.indexes label key)
served s (drop_index token label key) = of_indexes s (index_dropped (may_write s.settings token) (is_open s) s.indexes label key)
served s (begin token) =
    let t : Transaction = record { token = token; begun = s.graph } in
    let after : State = record s { transaction = Some t } in
    behind s (unless (may_write s.settings token) ReadOnly) (unless (not (is_open s)) TransactionOpen >> Ok (done after))
    (behind s (unless (not (is_open s)) TransactionOpen) (Ok (done after)) (is_done s after refl))
served s (commit token) = behind s (end_tested s token) (Ok (done (record s { transaction = None }))) (is_done s (record s { transaction = None }) refl)
served s (pull token page) =
    behind s (pages_tested s) (pulled s.held token page >>= λ p. Ok (replies p.0 (record s { held = p.1 }))) (of_pull s token page)
served s (drop_page token page) =
    behind s (pages_tested s) (dropped s.held token page >>= λ held. Ok (done (record s { held = held }))) (of_drop s (dropped s.held token page))
served s (rollback token) = behind s (end_tested s token) (Ok (done (gone_back s))) (is_done s (gone_back s) (back_settings s s.transaction))

abbrev tested : State → Request → Result Replied Fault
tested s request = unless (not (is_busy s.transaction (token_of request))) TenantBusy >> serves s request

answered_leaves : (s : State) (request : Request) → Leaves s (tested s request)
answered_leaves s request = behind s (unless (not (is_busy s.transaction (token_of request))) TenantBusy) (serves s request) (served s request)

by_report : (s : State) (r : Result Replied Fault) (f : Fault) → Leaves s r → (reported s r).reply ≡ refusal_text f → (reported s r).state ≡ s
by_report s (Ok r) f k is = k.0 f is
by_report s (Err e) f k is = refl

pub refusals_leave : RefusalsLeave
refusals_leave s request f is = by_report s (tested s request) f (answered_leaves s request) is

settings_reported : (s : State) (r : Result Replied Fault) → Leaves s r → (reported s r).state.settings ≡ s.settings
settings_reported s (Ok r) k = k.1
settings_reported s (Err e) k = refl

pub settings_stay : (s : State) (request : Request) → (solo s request).state.settings ≡ s.settings
settings_stay s request = settings_reported s (tested s request) (answered_leaves s request)

-- ---- the reply of a status, where no transaction is open

by_limit : (s : State) (text : Result (List ℕ) Fault) → (reported s (text >>= λ reply. Ok (replies reply s))).reply ≡ reply_of text
by_limit s (Ok text) = refl
by_limit s (Err e) = refl

pub status_reply : (s : State) (token : List ℕ) → s.transaction ≡ None → (solo s (status token)).reply ≡ reply_of (limited (status_text s))
status_reply s token none =
    ap (λ o. (reported s (unless (not (is_busy o token)) TenantBusy >> with_status s)).reply) none ∙ by_limit s (limited (status_text s))
