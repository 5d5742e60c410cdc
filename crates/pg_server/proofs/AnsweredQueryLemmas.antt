-- What a tenant alone answers a query is an answered query.
use Rattle.std.proofs.Common.{◌≡◌, ℕ, List, [], ◌∷◌, Bool, true, false, cond, length, not, Option, Some, None, is_some, Result, Ok, Err, refl, sym, ap, ap₂, subst, inl, inr}
use Rattle.std.specs.Prelude.{◌+◌, ◌≤◌, ◌&&◌, ◌||◌, ◌++◌, nat_le, nat_lt, drop, take}
use Rattle.std.proofs.lemmas.Bool.{leb-false, leb-true, ltb-false, ltb-true}
use Rattle.pg_json.specs.Pages.{paged_text}
use Rattle.pg_json.specs.Replies.{max_reply}
use Rattle.pg_json.specs.Requests.{Request, query, status, create_index, drop_index, begin, commit, rollback, pull, drop_page}
use Rattle.pg_meaning.specs.Agreement.{OutcomeAgrees}
use Rattle.pg_meaning.specs.Answer.{◌>>=◌, ◌>>◌, unless}
use Rattle.pg_meaning.specs.Grammar.{parameters_of}
use Rattle.pg_meaning.specs.Graph.{Graph, IsGraph}
use Rattle.pg_meaning.specs.Meaning.{Means}
use Rattle.pg_meaning.specs.Meters.{greatest_id}
use Rattle.pg_meaning.specs.Queries.{Outcome, answer_of}
use Rattle.pg_meaning.specs.Tree.{Query}
use Rattle.pg_meaning.specs.Value.{Entries}
use Rattle.pg_meaning.specs.declared.fault.Fault.{Fault}
use Rattle.pg_meaning.specs.declared.fault.Fault.TheVariants.{TenantBusy, TransactionOpen, ReadOnly, MissingParameter, ReplyTooLong, HeldRowsQuota, IdsExhausted}
use Rattle.pg_pages.specs.Held.{Held, held_rows, hold}
use Rattle.pg_plan.specs.Updates.{updates}
use Rattle.pg_server.specs.AnsweredQueries.{AnsweredQuery, HoldsOthers, IsNotHeld, MayAnswer, MayNotHold, MayRefuse, MayRefuseQuery, ShowsRows}
use Rattle.pg_tenant.proofs.OutcomeLemmas.{text_means}
use Rattle.pg_tenant.specs.Answers.{Answered, answered, column_items, outcome_text, row_texts, shown, shown_if_fitting}
use Rattle.pg_tenant.specs.Outcomes.{all_given, are_given, query_outcome, text_query}
use Rattle.pg_tenant.specs.Settings.{may_write}
use Rattle.pg_tenant.specs.Solo.{Replied, is_busy, page_tested, query_answered, reported, solo, with_answer}
use Rattle.pg_tenant.specs.State.{State, is_open}

-- the request's own answer and the state after it
abbrev pub AnsweredAlone : State → Request → Type 0
AnsweredAlone s request = AnsweredQuery s request (solo s request).reply (solo s request).state

-- ---- what is held

module _ (s : State) (token : List ℕ) where
  abbrev Kept : (size : ℕ) → (others : List (List ℕ)) → Result (Option ℕ × Held) Fault → Type 0
  Kept size others (Ok k) = HoldsOthers s token size others k.0 k.1
  Kept size others (Err f) = MayNotHold s others f

  kept : (size : ℕ) (others : List (List ℕ)) → Kept size others (hold s.held s.settings.max_held token size others)
  kept size [] = (refl, refl)
  kept size (row ∷ rows) = by (nat_le (held_rows s.held.pages + length (row ∷ rows)) s.settings.max_held) (nat_lt s.held.next greatest_id) refl refl
    where
      by : (a b : Bool) → nat_le (held_rows s.held.pages + length (row ∷ rows)) s.settings.max_held ≡ a → nat_lt s.held.next greatest_id ≡ b
          → Kept size (row ∷ rows) (unless a HeldRowsQuota >> (unless b IdsExhausted
          >> Ok (Some s.held.next, (let h : Held = record { pages = s.held.pages ++ record { number = s.held.next; token = token; size = size; rows = row ∷ rows } ∷ []; next = s.held.next + 1 } in h))))
      by true true a b = ((λ is. cc), leb-true (held_rows s.held.pages + length (row ∷ rows)) s.settings.max_held a, refl, ltb-true s.held.next greatest_id b, refl)
      by true false a b = inr (refl, (λ is. cc), ltb-false s.held.next greatest_id b)
      by false t a b = inl (refl, leb-false (held_rows s.held.pages + length (row ∷ rows)) s.settings.max_held a)

  -- ---- what is shown

  module _ (q : Query) (parameters : Entries) (o : Outcome) (means : Means q parameters s.settings.max_elements s.graph o.columns o.rows o.graph) where
    abbrev Shown : Option ℕ → Result Answered Fault → Type 0
    Shown page (Ok a) = (o.graph ≡ a.graph) × ShowsRows s token page o a.reply a.held
    Shown page (Err f) = IsNotHeld s q parameters page o f

    paged : (size : ℕ) (k : Result (Option ℕ × Held) Fault) → Kept size (drop size (row_texts o)) k
        → Shown (Some size) ((k >>= λ kept. let r : Result (List ℕ × Held) Fault = Ok (paged_text (column_items o) kept.0 (take size (row_texts o)) o.steps, kept.1) in r) >>= λ p. Ok (answered p.0 o.graph p.1))
    paged size (Ok k) h = (refl, (k.0, refl, h))
    paged size (Err f) h = (means, h)

    shows : (page : Option ℕ) → Shown page (shown s.held s.settings.max_held token page o)
    shows None = (refl, (refl, refl))
    shows (Some size) = paged size (hold s.held s.settings.max_held token size (drop size (row_texts o))) (kept size (drop size (row_texts o)))

-- ---- a query

-- in a transaction none is answered page by page
open_of : (s : State) (page : Option ℕ) (f : Fault) → page_tested s page ≡ Err f → (f ≡ TransactionOpen) × (is_some page ≡ true) × (is_open s ≡ true)
open_of s None f h = cc
open_of s (Some size) f h = by (is_open s) refl h
  where
    by : (b : Bool) → is_open s ≡ b → unless (not b) TransactionOpen ≡ Err f → (f ≡ TransactionOpen) × (true ≡ true) × (is_open s ≡ true)
    by true is h = let same : TransactionOpen ≡ f = cc in (sym same, refl, is)
    by false is h = cc

closed_of : (s : State) (page : Option ℕ) → page_tested s page ≡ Ok tt → is_some page && is_open s ≡ false
closed_of s None h = refl
closed_of s (Some size) h = by (is_open s) h
  where
    by : (b : Bool) → unless (not b) TransactionOpen ≡ Ok tt → b ≡ false
    by true h = cc
    by false h = refl

module _ (s : State) (token text : List ℕ) (parameters : Entries) (page : Option ℕ) (graph : IsGraph s.graph) where
  -- so it is with this answer
  abbrev Is : Result Replied Fault → Type 0
  Is r = AnsweredQuery s (query token text parameters page) (reported s r).reply (reported s r).state

  refused : (f : Fault) → MayRefuse s token text parameters page f → Is (Err f)
  refused f due = inr (record { fault = f; told = refl; kept = refl; due = due })

  abbrev fits : Result Outcome Fault → Result Answered Fault
  fits outcome = shown_if_fitting s.held s.settings.max_held token page outcome

  module _ (free : is_busy s.transaction token ≡ false) (closed : is_some page && is_open s ≡ false) where
    module _ (q : Query) (reads : text_query text ≡ Ok q) where
      refused_query : (f : Fault) → MayRefuseQuery s token parameters page q f → Is (Err f)
      refused_query f due = refused f (inr (inr (inr (q, reads, due))))

      by_shown : MayAnswer s token parameters page q → (o : Outcome) (means : Means q parameters s.settings.max_elements s.graph o.columns o.rows o.graph) → length (outcome_text o) ≤ max_reply → (r : Result Answered Fault) → Shown s token q parameters o means page r → Is (with_answer s r)
      by_shown tests o means short (Ok a) h =
          inl (record {
            q = q;
            reads = reads;
            columns = o.columns;
            rows = o.rows;
            steps = o.steps;
            tested = tests;
            means = subst (λ g. Means q parameters s.settings.max_elements s.graph o.columns o.rows g) h.0 means;
            fits = subst (λ (g : Graph). length (outcome_text (record { columns = o.columns; rows = o.rows; graph = g; steps = o.steps })) ≤ max_reply) h.0 short;
            shows = subst (λ (g : Graph). ShowsRows s token page (record { columns = o.columns; rows = o.rows; graph = g; steps = o.steps }) a.reply a.held) h.0 h.1;
            stays = refl;
          })
      by_shown tests o means short (Err f) h = refused_query f (inr (inr (inr (inr (inr (o, h))))))

      by_length : MayAnswer s token parameters page q → (o : Outcome) → Means q parameters s.settings.max_elements s.graph o.columns o.rows o.graph → (b : Bool) → nat_le (length (outcome_text o)) max_reply ≡ b
          → Is (with_answer s ((cond b (Ok (outcome_text o)) (Err ReplyTooLong) >>= λ reply. Ok o) >>= shown s.held s.settings.max_held token page))
      by_length tests o means true is = by_shown tests o means (leb-true (length (outcome_text o)) max_reply is) (shown s.held s.settings.max_held token page o) (shows s token q parameters o means page)
      by_length tests o means false is = refused_query ReplyTooLong (inr (inr (inr (inr (inl (refl, o, (means, leb-false (length (outcome_text o)) max_reply is)))))))

      by_outcome : MayAnswer s token parameters page q → (r : Result Outcome Fault) → OutcomeAgrees q parameters s.settings.max_elements s.graph r → Is (with_answer s (fits r))
      by_outcome tests (Ok o) agrees = by_length tests o agrees.0 (nat_le (length (outcome_text o)) max_reply) refl
      by_outcome tests (Err f) (inl quota) = refused_query f (inr (inr (inl quota)))
      by_outcome tests (Err f) (inr may) = refused_query f (inr (inr (inr (inl may))))

      abbrev clauses : Result Outcome Fault
      clauses = answer_of s.indexes q parameters s.graph s.settings.max_steps s.settings.max_elements

      by_given : may_write s.settings token || not (updates q) ≡ true → (b : Bool) → all_given (parameters_of q) parameters ≡ b → Is (with_answer s (fits (unless b MissingParameter >> clauses)))
      by_given rights true is =
          by_outcome (free, closed, rights, is) clauses (text_means s.settings.max_steps s.settings.max_elements parameters s.indexes s.graph text q graph reads (ap (λ b. unless b MissingParameter) is))
      by_given rights false is = refused_query MissingParameter (inr (inl (refl, is)))

      by_rights : (w u : Bool) → may_write s.settings token ≡ w → updates q ≡ u → Is (with_answer s (fits (unless (w || not u) ReadOnly >> (are_given parameters q >> clauses))))
      by_rights true u w is = by_given (ap (λ w. w || not (updates q)) w) (all_given (parameters_of q) parameters) refl
      by_rights false true w is = refused_query ReadOnly (inl (refl, w, is))
      by_rights false false w is = by_given (ap₂ (λ w u. w || not u) w is) (all_given (parameters_of q) parameters) refl

    by_text : (r : Result Query Fault) → text_query text ≡ r
        → Is (with_answer s (fits (r >>= query_outcome (may_write s.settings token) s.settings.max_steps s.settings.max_elements parameters s.indexes s.graph)))
    by_text (Ok q) is = by_rights q is (may_write s.settings token) (updates q) refl refl
    by_text (Err f) is = refused f (inr (inr (inl is)))

  by_page : is_busy s.transaction token ≡ false → (r : Result (Unit {0}) Fault) → page_tested s page ≡ r
      → Is (with_answer s (r >> fits (text_query text >>= query_outcome (may_write s.settings token) s.settings.max_steps s.settings.max_elements parameters s.indexes s.graph)))
  by_page free (Ok tt) is = by_text free (closed_of s page is) (text_query text) refl
  by_page free (Err f) is = refused f (inr (inl (open_of s page f is)))

  by_busy : (b : Bool) → is_busy s.transaction token ≡ b → Is (unless (not b) TenantBusy >> with_answer s (query_answered s token text parameters page))
  by_busy true is = refused TenantBusy (inl (refl, is))
  by_busy false is = by_page is (page_tested s page) refl

  query_alone : Is (unless (not (is_busy s.transaction token)) TenantBusy >> with_answer s (query_answered s token text parameters page))
  query_alone = by_busy (is_busy s.transaction token) refl

pub answered_by_meaning : (s : State) (request : Request) → IsGraph s.graph → AnsweredAlone s request
answered_by_meaning s (query token text parameters page) is = query_alone s token text parameters page is
answered_by_meaning s (status token) is = tt
answered_by_meaning s (create_index token label key) is = tt
answered_by_meaning s (drop_index token label key) is = tt
answered_by_meaning s (begin token) is = tt
answered_by_meaning s (commit token) is = tt
answered_by_meaning s (rollback token) is = tt
answered_by_meaning s (pull token page) is = tt
answered_by_meaning s (drop_page token page) is = tt
