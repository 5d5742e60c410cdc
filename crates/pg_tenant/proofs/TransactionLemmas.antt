-- What a transaction is to its tenant.
use Rattle.std.proofs.Common.{◌≡◌, ℕ, List, length, Bool, true, false, not, cond, Option, Some, None, is_some, Result, Ok, Err, refl, sym, ap, subst, ◌∙◌}
use Rattle.std.proofs.lemmas.Slice.Eq.{bytes_eq-Decides}
use Rattle.std.specs.Prelude.{nat_le}
use Rattle.pg_json.specs.Replies.{max_reply}
use Rattle.pg_json.specs.Requests.{Request, token_of, query, status, create_index, drop_index, begin, commit, rollback, pull, drop_page}
use Rattle.pg_meaning.specs.Answer.{◌>>=◌, ◌>>◌, unless}
use Rattle.pg_meaning.specs.declared.fault.Fault.{Fault}
use Rattle.pg_meaning.specs.declared.fault.Fault.TheVariants.{ReadOnly, ReplyTooLong, NoTransaction, TenantBusy, TransactionOpen}
use Rattle.pg_meaning.specs.Queries.{Outcome}
use Rattle.pg_meaning.specs.Value.{Entries}
use Rattle.pg_pages.specs.Held.{dropped, pulled}
use Rattle.pg_tenant.specs.Answers.{fitting, shown, shown_if_fitting}
use Rattle.pg_tenant.specs.Indexes.{index_created, index_dropped}
use Rattle.pg_tenant.specs.Outcomes.{text_outcome}
use Rattle.pg_tenant.specs.Settings.{may_write}
use Rattle.pg_tenant.specs.Solo.{Replied, done, is_busy, pages_tested, query_answered, replies, reported, serves, status_text, with_answer, with_indexes}
use Rattle.pg_tenant.specs.State.{State, Transaction, is_open}
use Rattle.pg_tenant.specs.TransactionLaws.{BeginsAreWritten, CommitsKeep, OnlyTheGraph, OthersWait, RollbacksGoBack, ends}

-- an answer that leaves all but the graph
abbrev Keeps : State → Result Replied Fault → Type 0
Keeps s (Ok r) = r.state ≡ record s { graph = r.state.graph }
Keeps s (Err f) = Unit {0}

behind : (s : State) (t : Result (Unit {0}) Fault) (r : Result Replied Fault) → Keeps s r → Keeps s (t >> r)
behind s (Ok tt) r k = k
behind s (Err f) r k = tt

reported_keeps : (s : State) (r : Result Replied Fault) → Keeps s r → (reported s r).state ≡ record s { graph = (reported s r).state.graph }
reported_keeps s (Ok r) k = k
reported_keeps s (Err f) k = refl

-- all rows at once leave what is held
of_outcome : (s : State) (token : List ℕ) (r : Result Outcome Fault) → Keeps s (with_answer s (r >>= shown s.held s.settings.max_held token None))
of_outcome s token (Ok o) = refl
of_outcome s token (Err f) = tt

-- and pages are refused
of_query : (s : State) (t : Transaction) (token text : List ℕ) (parameters : Entries) (page : Option ℕ) → s.transaction ≡ Some t → Keeps s (with_answer s (query_answered s token text parameters page))
of_query s t token text parameters None given =
    of_outcome s token (fitting (text_outcome (may_write s.settings token) s.settings.max_steps s.settings.max_elements parameters s.indexes s.graph text))
of_query s t token text parameters (Some size) given =
    subst (λ o. Keeps s (with_answer s (unless (not (is_some o)) TransactionOpen >> shown_if_fitting s.held s.settings.max_held token (Some size)
    (text_outcome (may_write s.settings token) s.settings.max_steps s.settings.max_elements parameters s.indexes s.graph text)))) (sym given) tt

of_pages : (s : State) (t : Transaction) (r : Result Replied Fault) → s.transaction ≡ Some t → Keeps s (pages_tested s >> r)
of_pages s t r given = subst (λ o. Keeps s (unless (not (is_some o)) TransactionOpen >> r)) (sym given) tt

of_status : (s : State) (fits : Bool) → Keeps s (cond fits (Ok (status_text s)) (Err ReplyTooLong) >>= λ reply. Ok (replies reply s))
of_status s true = refl
of_status s false = tt

-- what an open transaction refuses
created_keeps : (s : State) (w : Bool) (label key : List ℕ) → Keeps s (with_indexes s (index_created w true s.indexes label key))
created_keeps s true label key = tt
created_keeps s false label key = tt

dropped_keeps : (s : State) (w : Bool) (label key : List ℕ) → Keeps s (with_indexes s (index_dropped w true s.indexes label key))
dropped_keeps s true label key = tt
dropped_keeps s false label key = tt

served : (s : State) (t : Transaction) (request : Request) → s.transaction ≡ Some t → ends request ≡ false → Keeps s (serves s request)
served s t (query token text parameters page) given h = of_query s t token text parameters page given
served s t (status token) given h = of_status s (nat_le (length (status_text s)) max_reply)
served s t (create_index token label key) given h =
    subst (λ o. Keeps s (with_indexes s (index_created (may_write s.settings token) (is_some o) s.indexes label key))) (sym given) (created_keeps s (may_write s.settings token) label key)
served s t (drop_index token label key) given h =
    subst (λ o. Keeps s (with_indexes s (index_dropped (may_write s.settings token) (is_some o) s.indexes label key))) (sym given) (dropped_keeps s (may_write s.settings token) label key)
served s t (begin token) given h =
    let again : Transaction = record { token = token; begun = s.graph } in
    let r : Result Replied Fault = Ok (done (record s { transaction = Some again })) in
    behind s (unless (may_write s.settings token) ReadOnly) (unless (not (is_open s)) TransactionOpen >> r)
    (subst (λ o. Keeps s (unless (not (is_some o)) TransactionOpen >> r)) (sym given) tt)
served s t (commit token) given h = cc
served s t (rollback token) given h = cc
served s t (pull token page) given h = of_pages s t (pulled s.held token page >>= λ p. Ok (replies p.0 (record s { held = p.1 }))) given
served s t (drop_page token page) given h = of_pages s t (dropped s.held token page >>= λ held. Ok (done (record s { held = held }))) given

pub only_the_graph : OnlyTheGraph
only_the_graph s t request given h =
    reported_keeps s (unless (not (is_busy s.transaction (token_of request))) TenantBusy >> serves s request)
    (behind s (unless (not (is_busy s.transaction (token_of request))) TenantBusy) (serves s request) (served s t request given h))

pub others_wait : OthersWait
others_wait s t request given h =
    ap (λ o. reported s (unless (not (is_busy o (token_of request))) TenantBusy >> serves s request)) given
    ∙ ap (λ b. reported s (unless (not (not b)) TenantBusy >> serves s request)) h

pub begins_are_written : BeginsAreWritten
begins_are_written s token none writes =
    let t : Transaction = record { token = token; begun = s.graph } in
    let r : Result Replied Fault = Ok (done (record s { transaction = Some t })) in
    ap (λ o. reported s (unless (not (is_busy o token)) TenantBusy >> (unless (may_write s.settings token) ReadOnly >> (unless (not (is_some o)) TransactionOpen >> r)))) none
    ∙ ap (λ w. reported s (unless w ReadOnly >> r)) writes

-- ---- its end, by its own token

module _ (s : State) (t : Transaction) (given : s.transaction ≡ Some t) (writes : may_write s.settings t.token ≡ true) where
  pub its_own : (r : Result Replied Fault) → reported s (unless (not (is_busy s.transaction t.token)) TenantBusy >> ((unless (may_write s.settings t.token) ReadOnly >> unless (is_open s) NoTransaction) >> r)) ≡ reported s r
  its_own r =
      ap (λ o. reported s (unless (not (is_busy o t.token)) TenantBusy >> ((unless (may_write s.settings t.token) ReadOnly >> unless (is_some o) NoTransaction) >> r))) given
      ∙ ap (λ b. reported s (unless (not (not b)) TenantBusy >> ((unless (may_write s.settings t.token) ReadOnly >> unless true NoTransaction) >> r))) ((bytes_eq-Decides t.token t.token).1 refl)
      ∙ ap (λ w. reported s ((unless w ReadOnly >> unless true NoTransaction) >> r)) writes

pub commits_keep : CommitsKeep
commits_keep s t given writes = its_own s t given writes (Ok (done (record s { transaction = None })))

abbrev back : State → Option Transaction → State
back s o = elim o [ Some t ↦ record s { graph = t.begun; transaction = None } | None ↦ s ]

pub rollbacks_go_back : RollbacksGoBack
rollbacks_go_back s t given writes = its_own s t given writes (Ok (done (back s s.transaction))) ∙ ap (λ o. done (back s o)) given
