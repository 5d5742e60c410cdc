-- A request that may not change its tenant leaves it.
use Rattle.std.proofs.Common.{◌≡◌, ℕ, List, [], ◌∷◌, length, Bool, true, false, not, cond, Some, None, Result, Ok, Err, refl, ap}
use Rattle.std.specs.Prelude.{IfOk, nat_le}
use Rattle.std.specs.List.{AllByRecursion}
use Rattle.std.proofs.lemmas.Bool.{or_parts, true≢false}
use Rattle.pg_soundness.proofs.WholeQueriesAnswers.{reading_leaves_the_graph}
use Rattle.pg_soundness.specs.WholeQueries.{changes, makes, removes}
use Rattle.pg_json.specs.Replies.{max_reply}
use Rattle.pg_json.specs.Requests.{Request, token_of, query, status, create_index, drop_index, begin, commit, rollback, pull, drop_page}
use Rattle.pg_meaning.specs.Agreement.{OutcomeAgrees}
use Rattle.pg_meaning.specs.Answer.{◌>>=◌, ◌>>◌, unless}
use Rattle.pg_meaning.specs.Grammar.{kind_of}
use Rattle.pg_meaning.specs.Graph.{Graph, IsGraph}
use Rattle.pg_meaning.specs.Queries.{Outcome, answer_of}
use Rattle.pg_meaning.specs.Tree.{Clause, Query, match_paths, unwind, create, merge, set_items, remove_items, delete, with_rows, return_rows}
use Rattle.pg_meaning.specs.Value.{Entries}
use Rattle.pg_meaning.specs.declared.fault.Fault.{Fault}
use Rattle.pg_meaning.specs.declared.fault.Fault.TheVariants.{ReplyTooLong, TenantBusy}
use Rattle.pg_plan.specs.Updates.{any_updates, is_updating, updates}
use Rattle.pg_tenant.proofs.OutcomeLemmas.{text_means}
use Rattle.pg_tenant.specs.Answers.{fitting, outcome_text, shown}
use Rattle.pg_tenant.specs.Changes.{OthersLeave, is_update, may_change}
use Rattle.pg_tenant.specs.Outcomes.{are_given, permitted, query_outcome, text_query}
use Rattle.pg_tenant.specs.Settings.{may_write}
use Rattle.pg_tenant.specs.Solo.{Replied, is_busy, query_answered, replies, reported, serves, status_text, with_answer}
use Rattle.pg_tenant.specs.State.{State}

-- ---- clauses that only read

OnlyReads : Clause → Type 0
OnlyReads c = (makes c ≡ false) × (changes c ≡ false) × (removes c ≡ false)

only_reads : (c : Clause) → is_updating (kind_of c) ≡ false → OnlyReads c
unfolding OnlyReads
only_reads (match_paths is_optional paths where_) h = (refl, refl, refl)
only_reads (unwind e name) h = (refl, refl, refl)
only_reads (create paths) h = absurd (true≢false h)
only_reads (merge p parts) h = absurd (true≢false h)
only_reads (set_items items) h = absurd (true≢false h)
only_reads (remove_items items) h = absurd (true≢false h)
only_reads (delete is_detach es) h = absurd (true≢false h)
only_reads (with_rows p where_) h = (refl, refl, refl)
only_reads (return_rows p) h = (refl, refl, refl)

none_updates : (cs : List Clause) → any_updates cs ≡ false
    → AllByRecursion (λ c. makes c ≡ false) cs × AllByRecursion (λ c. changes c ≡ false) cs × AllByRecursion (λ c. removes c ≡ false) cs
unfolding OnlyReads
none_updates [] h = (tt, tt, tt)
none_updates (c ∷ cs) h =
    let parts = or_parts (is_updating (kind_of c)) (any_updates cs) h in
    let first = only_reads c parts.0 in
    let others = none_updates cs parts.1 in
    ((first.0, others.0), (first.1, others.1), (first.2, others.2))

-- ---- a query without updates and without a page

-- what is done leaves the state
abbrev Leaves : State → Result Replied Fault → Type 0
Leaves s r = IfOk r (λ replied. replied.state ≡ s)

behind : (s : State) (t : Result (Unit {0}) Fault) (r : Result Replied Fault) → Leaves s r → Leaves s (t >> r)
behind s (Ok tt) r k = k
behind s (Err e) r k = tt

module _ (s : State) (token text : List ℕ) (parameters : Entries) (graph : IsGraph s.graph) where
  abbrev Stays : Result Outcome Fault → Type 0
  Stays r = IfOk r (λ o. o.graph ≡ s.graph)

  behind_test : (t : Result (Unit {0}) Fault) (r : Result Outcome Fault) → (t ≡ Ok tt → Stays r) → Stays (t >> r)
  behind_test (Ok tt) r k = k refl
  behind_test (Err e) r k = tt

  by_agreement : (q : Query) → updates q ≡ false → (r : Result Outcome Fault) → OutcomeAgrees q parameters s.settings.max_elements s.graph r → Stays r
  by_agreement q reads (Ok o) agrees =
      reading_leaves_the_graph q parameters s.settings.max_elements s.graph o.columns o.rows o.graph (none_updates q.clauses reads) graph agrees.0
  by_agreement q reads (Err e) agrees = tt

  abbrev clauses : Query → Result Outcome Fault
  clauses q = answer_of s.indexes q parameters s.graph s.settings.max_steps s.settings.max_elements

  by_text : (r : Result Query Fault) → text_query text ≡ r → is_update r ≡ false
      → Stays (r >>= query_outcome (may_write s.settings token) s.settings.max_steps s.settings.max_elements parameters s.indexes s.graph)
  by_text (Ok q) is reads =
      behind_test (permitted (may_write s.settings token) s.settings.max_steps s.settings.max_elements parameters q) (are_given parameters q >> clauses q)
      (λ allowed. behind_test (are_given parameters q) (clauses q)
      (λ given. by_agreement q reads (clauses q) (text_means s.settings.max_steps s.settings.max_elements parameters s.indexes s.graph text q graph is given)))
  by_text (Err e) is reads = tt

  -- all rows at once: nothing is held
  by_length : (o : Outcome) → o.graph ≡ s.graph → (fits : Bool)
      → Leaves s (with_answer s ((cond fits (Ok (outcome_text o)) (Err ReplyTooLong) >>= λ reply. Ok o) >>= shown s.held s.settings.max_held token None))
  by_length o same true = ap (λ (g : Graph). let x : State = record s { graph = g } in x) same
  by_length o same false = tt

  by_outcome : (r : Result Outcome Fault) → Stays r → Leaves s (with_answer s (fitting r >>= shown s.held s.settings.max_held token None))
  by_outcome (Ok o) same = by_length o same (nat_le (length (outcome_text o)) max_reply)
  by_outcome (Err e) same = tt

  pub query_leaves : is_update (text_query text) ≡ false → Leaves s (with_answer s (query_answered s token text parameters None))
  query_leaves reads =
      by_outcome (text_query text >>= query_outcome (may_write s.settings token) s.settings.max_steps s.settings.max_elements parameters s.indexes s.graph)
      (by_text (text_query text) refl reads)

-- ---- all requests

status_leaves : (s : State) (fits : Bool) → Leaves s (cond fits (Ok (status_text s)) (Err ReplyTooLong) >>= λ reply. Ok (replies reply s))
status_leaves s true = refl
status_leaves s false = tt

served : (s : State) (request : Request) → IsGraph s.graph → may_change request ≡ false → Leaves s (serves s request)
served s (query token text parameters None) graph none = query_leaves s token text parameters graph none
served s (query token text parameters (Some size)) graph none = absurd (true≢false none)
served s (status token) graph none = status_leaves s (nat_le (length (status_text s)) max_reply)
served s (create_index token label key) graph none = absurd (true≢false none)
served s (drop_index token label key) graph none = absurd (true≢false none)
served s (begin token) graph none = absurd (true≢false none)
served s (commit token) graph none = absurd (true≢false none)
served s (rollback token) graph none = absurd (true≢false none)
served s (pull token page) graph none = absurd (true≢false none)
served s (drop_page token page) graph none = absurd (true≢false none)

by_report : (s : State) (r : Result Replied Fault) → Leaves s r → (reported s r).state ≡ s
by_report s (Ok replied) k = k
by_report s (Err e) k = refl

pub others_leave : OthersLeave
others_leave s request graph none =
    by_report s (unless (not (is_busy s.transaction (token_of request))) TenantBusy >> serves s request)
    (behind s (unless (not (is_busy s.transaction (token_of request))) TenantBusy) (serves s request) (served s request graph none))
