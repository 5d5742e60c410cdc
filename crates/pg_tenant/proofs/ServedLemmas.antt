-- From what the parts of an answer ensure to what the request does.
use Rattle.std.proofs.Common.{◌≡◌, ◌≢◌, ◌≤◌, ℕ, Bool, true, false, not, bytes_eq, List, [], length, get_or, set, Option, Some, None, is_some, Result, Ok, Err, refl, sym, ap, subst, ◌∙◌, inl, inr, arith}
use Rattle.std.specs.Prelude.{◌||◌, IfErr, IfOk, OnErr, OnOk, drop, option_map, take}
use Rattle.std.proofs.lemmas.Bool.{cases_lt}
use Rattle.std.proofs.lemmas.List.{get_or-set_same, get_or_past, length-set, set-get_or}
use Rattle.std.specs.Option.{option_map_or}
use Rattle.pg_json.proofs.Codes.{done_is_no_refusal, pulled_is_no_refusal}
use Rattle.pg_json.specs.Refusals.{refusal_text, done_text}
use Rattle.pg_json.specs.Requests.{Request, token_of, query, status, begin, commit, rollback, pull, drop_page}
use Rattle.pg_json.specs.Pages.{QueryText, pulled_text}
use Rattle.pg_live.specs.Live.{Aside, Begun, Live, begun_at, open_at, pairs_at, with_open, with_pairs}
use Rattle.pg_live.specs.Settled.{Settles}
use Rattle.pg_meaning.specs.Answer.{◌>>=◌, ◌>>◌, unless}
use Rattle.pg_meaning.specs.Graph.{Graph}
use Rattle.pg_meaning.specs.Plans.{Catalogue}
use Rattle.pg_meaning.specs.Queries.{Outcome, under_plan}
use Rattle.pg_meaning.specs.Value.{Entries}
use Rattle.pg_meaning.specs.declared.fault.Fault.{Fault}
use Rattle.pg_meaning.specs.declared.fault.Fault.TheVariants.{OutOfMemory, ReadOnly, TenantBusy, TransactionOpen, NoTransaction, NoSuchPage}
use Rattle.pg_names.specs.Names.{KeepsNames}
use Rattle.pg_plan.specs.Plans.{IsPlanOfText, plan_anchors, plan_query}
use Rattle.pg_plan.specs.Reading.{greatest_text}
use Rattle.pg_plan.specs.Updates.{updates}
use Rattle.pg_plan.specs.declared.plan.Plan.{Plan}
use Rattle.pg_pages.specs.Gives.{GivesHeld}
use Rattle.pg_pages.specs.Held.{Held, Page, dropped, left_with, page_of, pulled, without_page}
use Rattle.pg_tenant.proofs.AnswerLemmas.{NoRefusal, shown_is_no_refusal}
use Rattle.pg_tenant.proofs.ListedLemmas.{still_listed}
use Rattle.pg_tenant.proofs.OutcomeLemmas.{plans_answer}
use Rattle.pg_tenant.proofs.SettledLemmas.{answer_or_refused, shown_settled}
use Rattle.pg_tenant.specs.Answers.{Answered, shown_if_fitting}
use Rattle.pg_tenant.specs.Changes.{IsNoRefusal}
use Rattle.pg_tenant.specs.Indexes.{indexes_of}
use Rattle.pg_tenant.specs.Listed.{KeepsListed}
use Rattle.pg_tenant.specs.Outcomes.{are_given, early_tests, plan_outcome, query_outcome, text_outcome, text_query}
use Rattle.pg_tenant.specs.Replies.{IsAnswer, IsShown}
use Rattle.pg_tenant.specs.Settings.{TenantSettings, may_write}
use Rattle.pg_tenant.specs.Solo.{Replied, done, end_tested, gone_back, is_busy, page_tested, pages_tested, pulls, replies, reported, serves, with_answer, with_status}
use Rattle.pg_tenant.specs.State.{State, Transaction, is_open}
use Rattle.pg_tenant.specs.Step.{AddsNames, Answers, Gives, KeepsOthers, RunsPlan, Serves, plan_answered, reply_of, takes_memory}
use Rattle.pg_tenant.specs.TenantStates.{state_of, state_over, token_at, transaction_of}
use Rattle.pg_tenant.specs.declared.tenant.Tenant.{Tenant}

-- ---- names

pub names_stay : (reply : List ℕ) (names : List (List ℕ)) → AddsNames reply names names
names_stay reply names = record { kept = λ number text h. h; refused = λ fault is. refl }

-- what is answered is no refusal
pub names_added : (old new : List (List ℕ)) (r : Result (List ℕ) Fault) → KeepsNames old new → IfOk r (λ bytes. (fault : Fault) → bytes ≢ refusal_text fault) → OnErr r (new ≡ old) → AddsNames (reply_of r) old new
names_added old new (Ok bytes) kept told same = record { kept = kept; refused = λ fault is. absurd (told fault is) }
names_added old new (Err e) kept told same = record { kept = kept; refused = λ fault is. same }

-- ---- the live graph

-- the indexes of all places
module _ {L : Type 0} (old new : Live L) (place : new.aside.place ≡ old.aside.place) (pairs : new.aside.pairs ≡ old.aside.pairs) where
  pub same_pairs : pairs_at new.aside ≡ pairs_at old.aside
  same_pairs = λ i. get_or (pairs i) (place i) []

  pairs_put : new.aside.pairs ≡ set old.aside.pairs old.aside.place (pairs_at new.aside)
  pairs_put = pairs ∙ sym (set-get_or old.aside.pairs old.aside.place []) ∙ ap (set old.aside.pairs old.aside.place) (sym same_pairs)

module _ {L : Type 0} (old new : Live L) (place : new.aside.place ≡ old.aside.place) (begins : new.aside.begins ≡ old.aside.begins) where
  same_open : open_at new.aside ≡ open_at old.aside
  same_open = λ i. get_or (begins i) (place i) None

  pub others_kept : new.aside.others ≡ old.aside.others → new.aside.pairs ≡ old.aside.pairs → KeepsOthers old new
  others_kept others pairs = record {
    place = place;
    others = others;
    begins = begins ∙ sym (set-get_or old.aside.begins old.aside.place None) ∙ ap (set old.aside.begins old.aside.place) (sym same_open);
    pairs = pairs_put old new place pairs;
  }

  -- all but the graph is as it was
  pub graph_changed : (tenant : Tenant) → state_over tenant new ≡ state_of tenant new.graph (open_at old.aside)
  graph_changed tenant = ap (state_of tenant new.graph) same_open

  pub unchanged : (tenant : Tenant) → new.graph ≡ old.graph → state_over tenant new ≡ state_over tenant old
  unchanged tenant same = λ i. state_of tenant (same i) (same_open i)

-- nothing was done
pub none_touched : {L : Type 0} (live : Live L) → KeepsOthers live live
none_touched live = others_kept live live refl refl refl refl

-- ---- what is refused

pub refused_as : (s : State) (outcome : Result Replied Fault) (e : Fault) → (e ≢ OutOfMemory → outcome ≡ Err e) → Gives s (reported s outcome) (Err e) s
refused_as s outcome e h = (refl, λ other. (sym (ap (λ o. (reported s o).reply) (h other)), ap (λ o. (reported s o).state) (h other)))

pub refuses : {L : Type 0} (tenant : Tenant) (live : Live L) (request : Request) (e : Fault) → (e ≢ OutOfMemory → serves (state_over tenant live) request ≡ Err e)
    → (takes_memory request ≡ false → e ≢ OutOfMemory) → Serves tenant tenant live live request (Err e)
refuses tenant live request e h memory = record {
  answers = refused_as (state_over tenant live) (serves (state_over tenant live) request) e h;
  names = names_stay (refusal_text e) live.names;
  others = none_touched live;
  listed = λ lists. lists;
  settings = refl;
  memory = memory;
  accepted = tt;
}

-- ---- what is done

pub does : {L : Type 0} (was now : Tenant) (old new : Live L) (request : Request) (bytes : List ℕ) (after : State) → bytes ≡ done_text → serves (state_over was old) request ≡ Ok (done after)
    → state_over now new ≡ after → KeepsNames old.names new.names → KeepsOthers old new → KeepsListed was now old new → now.settings ≡ was.settings → Serves was now old new request (Ok bytes)
does was now old new request bytes after is served same names others listed settings = record {
  answers = (is ∙ sym (ap (λ o. (reported (state_over was old) o).reply) served), same ∙ sym (ap (λ o. (reported (state_over was old) o).state) served));
  names = names_added old.names new.names (Ok bytes) names (λ fault told. done_is_no_refusal fault (sym is ∙ told)) tt;
  others = others;
  listed = listed;
  settings = settings;
  memory = λ h. tt;
  accepted = λ fault told. done_is_no_refusal fault (sym is ∙ told);
}

-- ---- the tests before any clause

module _ (first second : Result (Unit {0}) Fault) (clauses : Result Outcome Fault) where
  pub refused_early : (e : Fault) → (first >> second) ≡ Err e → (first >> (second >> clauses)) ≡ Err e
  refused_early e h = by first second h
    where
      by : (a b : Result (Unit {0}) Fault) → (a >> b) ≡ Err e → (a >> (b >> clauses)) ≡ Err e
      by (Ok x) (Ok y) h = cc
      by (Ok x) (Err f) h = let same : f ≡ e = cc in ap Err same
      by (Err f) b h = let same : f ≡ e = cc in ap Err same

  pub passed_early : (first >> second) ≡ Ok tt → (first >> (second >> clauses)) ≡ clauses
  passed_early h = by first second h
    where
      by : (a b : Result (Unit {0}) Fault) → (a >> b) ≡ Ok tt → (a >> (b >> clauses)) ≡ clauses
      by (Ok x) (Ok y) h = refl
      by (Ok x) (Err f) h = cc
      by (Err f) b h = cc

-- ---- a query

module _ {L : Type 0} (was now : Tenant) (old new : Live L) (settings : now.settings ≡ was.settings) (indexes : now.indexes ≡ was.indexes) (token : List ℕ) (plan : Plan) (parameters : Entries) (page : Option ℕ) where
  abbrev before : State
  before = state_over was old

  abbrev outcome : Result Outcome Fault
  outcome = plan_outcome (may_write was.settings token) was.settings.max_steps was.settings.max_elements parameters old.graph plan

  abbrev shows : Result Answered Fault
  shows = shown_if_fitting was.pages was.settings.max_held token page outcome

  abbrev told : Result Answered Fault → Replied
  told answer = reported before (with_answer before answer)

  -- the tenant over the new graph, with what it holds
  after_is : (begun : Option Begun) → state_of now new.graph begun ≡ record (state_of was new.graph begun) { held = now.pages }
  after_is begun = λ i. record {
    settings = settings i;
    graph = new.graph;
    indexes = indexes_of (indexes i);
    transaction = transaction_of (settings i) begun;
    held = now.pages;
  }

  by_result : (r : Result (List ℕ) Fault) → Settles old new r → IsShown r shows new.graph was.pages now.pages → RunsPlan token plan parameters page before r (state_over now new)
  by_result (Ok bytes) settles is = (
    sym (ap (λ a. (told a).reply) is),
    graph_changed old new settles.place settles.begins now ∙ after_is (open_at old.aside) ∙ sym (ap (λ a. (told a).state) is),
  )
  by_result (Err e) settles is = (
    unchanged old new settles.place settles.begins now settles.same ∙ (λ i. record {
      settings = settings i;
      graph = old.graph;
      indexes = indexes_of (indexes i);
      transaction = transaction_of (settings i) (open_at old.aside);
      held = is.0 i;
    }),
    λ other. (sym (ap (λ a. (told a).reply) (is.1 other)), ap (λ a. (told a).state) (is.1 other)),
  )

  pub runs_plan : (r : Result (List ℕ) Fault) → Settles old new r → IsShown r shows new.graph was.pages now.pages → RunsPlan token plan parameters page before r (state_over now new)
  runs_plan r settles is = by_result r settles is

  -- from what the parts of an answer ensure, once the early tests are passed
  module _ (writes notes : Bool) (steps elements most : ℕ) (writes_is : writes ≡ may_write was.settings token) (notes_is : notes ≡ is_some page) (steps_is : steps ≡ was.settings.max_steps)
      (elements_is : elements ≡ was.settings.max_elements) (most_is : most ≡ was.settings.max_held) where
    clauses_are : early_tests writes parameters (plan_query plan) ≡ Ok tt → under_plan (plan_anchors plan) (plan_query plan) parameters old.graph steps elements ≡ outcome
    clauses_are tested =
        (λ i. under_plan (plan_anchors plan) (plan_query plan) parameters old.graph (steps_is i) (elements_is i))
        ∙ sym (passed_early (unless (may_write was.settings token || not (updates (plan_query plan))) ReadOnly) (are_given parameters (plan_query plan))
        (under_plan (plan_anchors plan) (plan_query plan) parameters old.graph was.settings.max_steps was.settings.max_elements)
        (ap (λ w. early_tests w parameters (plan_query plan)) (sym writes_is) ∙ tested))

    pub plan_shown : (early : Result (Unit {0}) Fault) → early ≡ early_tests writes parameters (plan_query plan) → early ≡ Ok tt → (run made : Result QueryText Fault) (mid end : Graph)
        → IsAnswer notes run (under_plan (plan_anchors plan) (plan_query plan) parameters old.graph steps elements) mid → IfOk made (λ m. run ≡ Ok m) → IfErr made (λ e. e ≢ OutOfMemory → run ≡ Err e)
        → (reply : Result (List ℕ) Fault)
        → ((o : Result Outcome Fault) (left : Graph) → IsAnswer (is_some page) made o left → IsShown reply (shown_if_fitting was.pages most token page o) left was.pages now.pages)
        → (r : Result (List ℕ) Fault) → r ≡ reply → OnOk r (end ≡ mid) → IsShown r shows end was.pages now.pages
    plan_shown early is passed run made mid end ran ok err reply given r same kept =
        let answer = answer_or_refused notes made run _ mid ok err ran in
        let whole = subst (λ (o : Result Outcome Fault). IsAnswer notes made o mid) (clauses_are (sym is ∙ passed)) answer in
        let is_shown = given outcome mid (subst (λ n. IsAnswer n made outcome mid) notes_is whole) in
        shown_settled r reply shows mid end was.pages now.pages same
        (subst (λ (m : ℕ). IsShown reply (shown_if_fitting was.pages m token page outcome) mid was.pages now.pages) most_is is_shown) kept

  pub no_refusal : (r : Result (List ℕ) Fault) → IsShown r shows new.graph was.pages now.pages → IfOk r IsNoRefusal
  no_refusal (Ok bytes) is = subst NoRefusal is (shown_is_no_refusal was.pages was.settings.max_held token page outcome)
  no_refusal (Err e) is = tt

  pub plan_names : (r : Result (List ℕ) Fault) → Settles old new r → IsShown r shows new.graph was.pages now.pages → AddsNames (reply_of r) old.names new.names
  plan_names r settles is = names_added old.names new.names r settles.kept (no_refusal r is) settles.same_names

pub plan_others : {L : Type 0} (old new : Live L) (r : Result (List ℕ) Fault) → Settles old new r → KeepsOthers old new
plan_others old new r settles = others_kept old new settles.place settles.begins settles.others settles.pairs

pub plan_listed : {L : Type 0} (was now : Tenant) (old new : Live L) (r : Result (List ℕ) Fault) → now.indexes ≡ was.indexes → Settles old new r → KeepsListed was now old new
plan_listed was now old new r indexes settles = still_listed was now old new indexes settles.kept (same_pairs old new settles.place settles.pairs)

-- ---- a query's text

abbrev pub text_answered : State → (token text : List ℕ) → (parameters : Entries) → (page : Option ℕ) → Result Answered Fault
text_answered s token text parameters page =
    shown_if_fitting s.held s.settings.max_held token page (text_outcome (may_write s.settings token) s.settings.max_steps s.settings.max_elements parameters s.indexes s.graph text)

-- the text's plan for the tenant's indexes answers for the text
pub answers_alike : (s : State) (token text : List ℕ) (parameters : Entries) (page : Option ℕ) (plan : Plan) → length text ≤ greatest_text → IsPlanOfText text s.indexes plan
    → plan_answered s token plan parameters page ≡ text_answered s token text parameters page
answers_alike s token text parameters page plan short is =
    ap (shown_if_fitting s.held s.settings.max_held token page)
    (sym (plans_answer (may_write s.settings token) s.settings.max_steps s.settings.max_elements parameters s.indexes s.graph text plan short is))

module _ {L : Type 0} (was now : Tenant) (old new : Live L) (token text : List ℕ) (parameters : Entries) (page : Option ℕ) where
  abbrev here : State
  here = state_over was old

  abbrev behind_test : Result (Unit {0}) Fault → Result Answered Fault → Result Replied Fault
  behind_test test answer = with_answer here (test >> answer)

  pub serves_plan : (plan : Plan) (r : Result (List ℕ) Fault) → page_tested here page ≡ Ok tt → length text ≤ greatest_text → IsPlanOfText text here.indexes plan
      → RunsPlan token plan parameters page here r (state_over now new) → AddsNames (reply_of r) old.names new.names → KeepsOthers old new → KeepsListed was now old new → now.settings ≡ was.settings → IfOk r IsNoRefusal
      → Serves was now old new (query token text parameters page) r
  serves_plan plan r tested short is runs names others listed settings accepted = record {
    answers = subst (λ a. Gives here (reported here a) r (state_over now new))
        (ap (with_answer here) (answers_alike here token text parameters page plan short is) ∙ sym (ap (λ t. behind_test t (text_answered here token text parameters page)) tested)) runs;
    names = names;
    others = others;
    listed = listed;
    settings = settings;
    memory = λ h. absurd (let no : true ≡ false = h in cc);
    accepted = accepted;
  }

-- ---- a query that is refused before it has a plan

module _ {L : Type 0} (tenant : Tenant) (live : Live L) (token text : List ℕ) (parameters : Entries) (page : Option ℕ) (e : Fault) where
  abbrev there : State
  there = state_over tenant live

  takes : takes_memory (query token text parameters page) ≡ false → e ≢ OutOfMemory
  takes none = absurd (let no : true ≡ false = none in cc)

  -- a text that has no plan
  pub serves_no_plan : page_tested there page ≡ Ok tt → (e ≢ OutOfMemory → text_query text ≡ Err e) → Serves tenant tenant live live (query token text parameters page) (Err e)
  serves_no_plan tested h =
      refuses tenant live (query token text parameters page) e
      (λ other. ap (λ t. with_answer there (t >> text_answered there token text parameters page)) tested
      ∙ ap (λ q. with_answer there (shown_if_fitting there.held there.settings.max_held token page
      (q >>= query_outcome (may_write there.settings token) there.settings.max_steps there.settings.max_elements parameters there.indexes there.graph))) (h other))
      takes

  -- pages in a transaction
  pub serves_no_page : page_tested there page ≡ Err e → Serves tenant tenant live live (query token text parameters page) (Err e)
  serves_no_page tested =
      refuses tenant live (query token text parameters page) e
      (λ other. ap (λ t. with_answer there (t >> text_answered there token text parameters page)) tested)
      takes

-- ---- held rows

module _ {L : Type 0} (was now : Tenant) (live : Live L) (settings : now.settings ≡ was.settings) (indexes : now.indexes ≡ was.indexes) where
  abbrev held_before : State
  held_before = state_over was live

  with_pages : state_over now live ≡ record (state_over was live) { held = now.pages }
  with_pages = λ i. record {
    settings = settings i;
    graph = live.graph;
    indexes = indexes_of (indexes i);
    transaction = transaction_of (settings i) (open_at live.aside);
    held = now.pages;
  }

  held_same : now.pages ≡ was.pages → state_over now live ≡ state_over was live
  held_same pages = with_pages ∙ ap (λ (h : Held). let s : State = record (state_over was live) { held = h } in s) pages

  -- the rows of a page that is there
  abbrev rows_of : Result Page Fault → Result (List ℕ × Held) Fault
  rows_of found = found >>= λ p. let left = left_with p (drop p.size p.rows) was.pages in Ok (pulled_text left.0 (take p.size p.rows), left.1)

  -- what a change of the pages alone gives
  abbrev pull_given : (t : Result (Unit {0}) Fault) → Result (List ℕ × Held) Fault → Result Replied Fault
  pull_given t pulled = t >> (pulled >>= λ p. Ok (replies p.0 (record held_before { held = p.1 })))

  pull_answers : (token : List ℕ) (number : ℕ) (r : Result (List ℕ) Fault) → pages_tested held_before ≡ Ok tt → GivesHeld r (pulled was.pages token number) was.pages now.pages
      → Gives held_before (reported held_before (pulls held_before token number)) r (state_over now live)
  pull_answers token number (Ok bytes) tested given =
      let is : pulls held_before token number ≡ Ok (replies bytes (record held_before { held = now.pages })) =
      ap (λ t. pull_given t (pulled was.pages token number)) tested ∙ ap (pull_given (Ok tt)) given in
      (sym (ap (λ o. (reported held_before o).reply) is), with_pages ∙ sym (ap (λ o. (reported held_before o).state) is))
  pull_answers token number (Err e) tested given = (
    held_same given.0,
    λ other.
        let is : pulls held_before token number ≡ Err e = ap (λ t. pull_given t (pulled was.pages token number)) tested ∙ ap (pull_given (Ok tt)) (given.1 other) in
        (sym (ap (λ o. (reported held_before o).reply) is), ap (λ o. (reported held_before o).state) is),
  )

  pulled_rows : (p : Result Page Fault) → IfOk (rows_of p) (λ g. IsNoRefusal g.0)
  pulled_rows (Ok p) = pulled_is_no_refusal (left_with p (drop p.size p.rows) was.pages).0 (take p.size p.rows)
  pulled_rows (Err e) = tt

  pull_accepted : (token : List ℕ) (number : ℕ) (r : Result (List ℕ) Fault) → GivesHeld r (pulled was.pages token number) was.pages now.pages → IfOk r IsNoRefusal
  pull_accepted token number (Ok bytes) given = subst (λ (g : Result (List ℕ × Held) Fault). IfOk g (λ x. IsNoRefusal x.0)) given (pulled_rows (page_of was.pages token number))
  pull_accepted token number (Err e) given = tt

  held_listed : KeepsListed was now live live
  held_listed = still_listed was now live live indexes (λ n t h. h) refl

  pub serves_pull : (token : List ℕ) (number : ℕ) (r : Result (List ℕ) Fault) → pages_tested held_before ≡ Ok tt → GivesHeld r (pulled was.pages token number) was.pages now.pages
      → Serves was now live live (pull token number) r
  serves_pull token number r tested given = record {
    answers = pull_answers token number r tested given;
    names = names_stay (reply_of r) live.names;
    others = none_touched live;
    listed = held_listed;
    settings = settings;
    memory = λ h. absurd (let no : true ≡ false = h in cc);
    accepted = pull_accepted token number r given;
  }

  abbrev drop_given : (t : Result (Unit {0}) Fault) → Result Held Fault → Result Replied Fault
  drop_given t left = t >> (left >>= λ held. Ok (done (record held_before { held = held })))

  pub serves_drop : (token : List ℕ) (number : ℕ) (bytes : List ℕ) → bytes ≡ done_text → pages_tested held_before ≡ Ok tt → dropped was.pages token number ≡ Ok now.pages
      → Serves was now live live (drop_page token number) (Ok bytes)
  serves_drop token number bytes is tested given =
      does was now live live (drop_page token number) bytes (record held_before { held = now.pages }) is
      (ap (λ t. drop_given t (dropped was.pages token number)) tested ∙ ap (drop_given (Ok tt)) given) with_pages (λ n t h. h) (none_touched live) held_listed settings

-- a page that isn't there, or a transaction
no_page_of : (found : Option Page) (e : Fault) → (let r : Result Page Fault = elim found [ Some p ↦ Ok p | None ↦ Err NoSuchPage ] in r) ≡ Err e → e ≡ NoSuchPage
no_page_of (Some p) e h = cc
no_page_of None e h = cc

module _ {L : Type 0} (tenant : Tenant) (live : Live L) (token : List ℕ) (number : ℕ) (e : Fault) where
  abbrev held_here : State
  held_here = state_over tenant live

  not_open : (opened : Bool) → unless (not opened) TransactionOpen ≡ Err e → e ≢ OutOfMemory
  not_open true h is = cc
  not_open false h is = cc

  drop_refused_by : (p : Result Page Fault) → (p >>= λ q. Ok (record tenant.pages { pages = without_page number tenant.pages.pages })) ≡ Err e → p ≡ Err e
  drop_refused_by (Ok p) h = cc
  drop_refused_by (Err f) h = let same : f ≡ e = cc in ap Err same

  pub pull_in_transaction : pages_tested held_here ≡ Err e → Serves tenant tenant live live (pull token number) (Err e)
  pull_in_transaction tested =
      refuses tenant live (pull token number) e (λ other. ap (λ t. t >> (pulled tenant.pages token number >>= λ p. Ok (replies p.0 (record held_here { held = p.1 })))) tested)
      (λ none. absurd (let no : true ≡ false = none in cc))

  pub drop_in_transaction : pages_tested held_here ≡ Err e → Serves tenant tenant live live (drop_page token number) (Err e)
  drop_in_transaction tested =
      refuses tenant live (drop_page token number) e (λ other. ap (λ t. t >> (dropped tenant.pages token number >>= λ held. Ok (done (record held_here { held = held })))) tested)
      (λ none. not_open (is_open held_here) tested)

  pub no_page_dropped : pages_tested held_here ≡ Ok tt → dropped tenant.pages token number ≡ Err e → Serves tenant tenant live live (drop_page token number) (Err e)
  no_page_dropped tested given =
      refuses tenant live (drop_page token number) e
      (λ other. ap (λ t. t >> (dropped tenant.pages token number >>= λ held. Ok (done (record held_here { held = held })))) tested
      ∙ ap (λ d. d >>= λ held. Ok (done (record held_here { held = held }))) given)
      (λ none is. let found = no_page_of _ e (drop_refused_by (page_of tenant.pages token number) given) in cc)

-- ---- transactions

-- a tenant is open where its live graph is
pub is_open_as : (settings : TenantSettings) (begun : Option Begun) → is_some (transaction_of settings begun) ≡ is_some (option_map (λ b. b.holder) begun)
is_open_as settings None = refl
is_open_as settings (Some b) = refl

module _ (settings : TenantSettings) where
  pub busy_as : (begun : Option Begun) (holder : ℕ) (token : List ℕ) → Some holder ≡ option_map (λ b. b.holder) begun → is_busy (transaction_of settings begun) token ≡ not (bytes_eq (token_at settings holder) token)
  busy_as None holder token is = cc
  busy_as (Some b) holder token is = let same : holder ≡ b.holder = cc in ap (λ h. not (bytes_eq (token_at settings h) token)) (sym same)

  pub free_as : (begun : Option Begun) (token : List ℕ) → None ≡ option_map (λ b. b.holder) begun → is_busy (transaction_of settings begun) token ≡ false
  free_as None token is = refl
  free_as (Some b) token is = cc

abbrev pub tests : (writes opened : Bool) → Result Replied Fault → Result Replied Fault
tests writes opened r = unless writes ReadOnly >> (unless (not opened) TransactionOpen >> r)

-- ---- what was begun, kept and taken back

module _ {L : Type 0} (tenant : Tenant) (old new : Live L) (token : List ℕ) where
  abbrev s : State
  s = state_over tenant old

  -- other places, where what is open here changes
  pub others_where_opened : (begun : Option Begun) (graph : Graph) → new.aside ≡ with_open begun (begun_at graph old.names old.aside) → open_at new.aside ≡ begun → KeepsOthers old new
  others_where_opened begun graph aside is = record {
    place = ap (λ (a : Aside). a.place) aside;
    others = ap (λ (a : Aside). a.others) aside;
    begins = ap (λ (a : Aside). a.begins) aside ∙ ap (set old.aside.begins old.aside.place) (sym is);
    pairs = pairs_put old new (ap (λ (a : Aside). a.place) aside) (ap (λ (a : Aside). a.pairs) aside);
  }

  -- its own indexes stay
  listed_where_opened : (begun : Option Begun) (graph : Graph) → new.aside ≡ with_open begun (begun_at graph old.names old.aside) → new.names ≡ old.names → KeepsListed tenant tenant old new
  listed_where_opened begun graph aside names =
      still_listed tenant tenant old new refl (subst (KeepsNames old.names) (sym names) (λ n t h. h))
      (same_pairs old new (ap (λ (a : Aside). a.place) aside) (ap (λ (a : Aside). a.pairs) aside))

  begun_state : (holder : ℕ) → token_at tenant.settings holder ≡ token → new.graph ≡ old.graph → open_at new.aside ≡ Some (record { holder = holder; graph = old.graph })
      → state_over tenant new ≡ record s { transaction = Some (record { token = token; begun = old.graph }) }
  begun_state holder is graph opened =
      (λ i. state_of tenant (graph i) (opened i))
      ∙ ap (λ t. let x : State = record s { transaction = Some (record { token = t; begun = old.graph }) } in x) is

  pub begins_one : (holder : ℕ) (bytes : List ℕ) → bytes ≡ done_text → true ≡ may_write tenant.settings token → is_open s ≡ false → token_at tenant.settings holder ≡ token
      → new.graph ≡ old.graph → new.names ≡ old.names → new.aside ≡ with_open (Some (record { holder = holder; graph = old.graph })) (begun_at old.graph old.names old.aside)
      → open_at new.aside ≡ Some (record { holder = holder; graph = old.graph }) → Serves tenant tenant old new (begin token) (Ok bytes)
  begins_one holder bytes told writes closed is graph names aside opened =
      let t : Transaction = record { token = token; begun = old.graph } in
      let after : State = record s { transaction = Some t } in
      does tenant tenant old new (begin token) bytes after told
      (ap (λ w. tests w (is_open s) (Ok (done after))) (sym writes) ∙ ap (λ o. tests true o (Ok (done after))) closed)
      (begun_state holder is graph opened)
      (subst (KeepsNames old.names) (sym names) (λ n t h. h))
      (others_where_opened (Some (record { holder = holder; graph = old.graph })) old.graph aside opened)
      (listed_where_opened (Some (record { holder = holder; graph = old.graph })) old.graph aside names) refl

  -- ---- its end

  closed_after : (begins : List (Option Begun)) (k : ℕ) → get_or (set begins k None) k None ≡ None
  closed_after begins k =
      elim (cases_lt k (length begins)) as (λ _. get_or (set begins k None) k None ≡ None) [
        | inl lt ↦ get_or-set_same begins k None None lt
        | inr ge ↦ get_or_past (set begins k None) k None (omega (arith, ge, length-set begins k None))
      ]

  closed : (graph : Graph) → new.aside ≡ with_open None (begun_at graph old.names old.aside) → open_at new.aside ≡ None
  closed graph aside = ap open_at aside ∙ closed_after old.aside.begins old.aside.place

  abbrev ended : State → Result (Unit {0}) Fault → Result Replied Fault
  ended after test = test >> Ok (done after)

  pub keeps_one : (bytes : List ℕ) → bytes ≡ done_text → end_tested s token ≡ Ok tt → new.graph ≡ old.graph → new.names ≡ old.names
      → new.aside ≡ with_open None (begun_at old.graph old.names old.aside) → Serves tenant tenant old new (commit token) (Ok bytes)
  keeps_one bytes told tested graph names aside =
      let after : State = record s { transaction = None } in
      does tenant tenant old new (commit token) bytes after told (ap (ended after) tested) (λ i. state_of tenant (graph i) (closed old.graph aside i))
      (subst (KeepsNames old.names) (sym names) (λ n t h. h)) (others_where_opened None old.graph aside (closed old.graph aside)) (listed_where_opened None old.graph aside names) refl

  went_back : (begun : Option Begun) → state_of tenant (option_map_or (λ b. b.graph) begun old.graph) None ≡ gone_back (state_of tenant old.graph begun)
  went_back (Some b) = refl
  went_back None = refl

  pub takes_back : (bytes : List ℕ) → bytes ≡ done_text → end_tested s token ≡ Ok tt → new.graph ≡ option_map_or (λ b. b.graph) (open_at old.aside) old.graph → new.names ≡ old.names
      → new.aside ≡ with_open None (begun_at new.graph old.names old.aside) → Serves tenant tenant old new (rollback token) (Ok bytes)
  takes_back bytes told tested graph names aside =
      does tenant tenant old new (rollback token) bytes (gone_back s) told (ap (ended (gone_back s)) tested)
      ((λ i. state_of tenant (graph i) (closed new.graph aside i)) ∙ went_back (open_at old.aside))
      (subst (KeepsNames old.names) (sym names) (λ n t h. h)) (others_where_opened None new.graph aside (closed new.graph aside)) (listed_where_opened None new.graph aside names) refl

-- a refusal of the tests is none of memory
end_refusal : (writes opened : Bool) (e : Fault) → (unless writes ReadOnly >> unless opened NoTransaction) ≡ Err e → e ≢ OutOfMemory
end_refusal true true e h is = cc
end_refusal true false e h is = cc
end_refusal false opened e h is = cc

module _ {L : Type 0} (tenant : Tenant) (live : Live L) (token : List ℕ) (e : Fault) (refused : end_tested (state_over tenant live) token ≡ Err e) where
  abbrev state : State
  state = state_over tenant live

  no_memory_asked : e ≢ OutOfMemory
  no_memory_asked = end_refusal (may_write tenant.settings token) (is_open state) e refused

  pub commit_refused : Serves tenant tenant live live (commit token) (Err e)
  commit_refused = refuses tenant live (commit token) e (λ other. ap (λ t. t >> Ok (done (record state { transaction = None }))) refused) (λ none. no_memory_asked)

  pub rollback_refused : Serves tenant tenant live live (rollback token) (Err e)
  rollback_refused = refuses tenant live (rollback token) e (λ other. ap (λ t. t >> Ok (done (gone_back state))) refused) (λ none. no_memory_asked)

-- ---- begin, refused

module _ {L : Type 0} (tenant : Tenant) (live : Live L) (token : List ℕ) where
  abbrev at : State
  at = state_over tenant live

  abbrev first : Result Replied Fault
  first = Ok (done (record at { transaction = Some (record { token = token; begun = live.graph }) }))

  pub may_not_begin : may_write tenant.settings token ≡ false → Serves tenant tenant live live (begin token) (Err ReadOnly)
  may_not_begin reads = refuses tenant live (begin token) ReadOnly (λ other. ap (λ w. tests w (is_open at) first) reads) (λ none is. cc)

  pub begun_already : may_write tenant.settings token ≡ true → is_open at ≡ true → Serves tenant tenant live live (begin token) (Err TransactionOpen)
  begun_already writes opened =
      refuses tenant live (begin token) TransactionOpen (λ other. ap (λ w. tests w (is_open at) first) writes ∙ ap (λ o. tests true o first) opened) (λ none is. cc)

-- ---- status

pub serves_status : {L : Type 0} (tenant : Tenant) (live : Live L) (r : Result (List ℕ) Fault) (token : List ℕ) → IfOk r IsNoRefusal → Gives (state_over tenant live) (reported (state_over tenant live) (with_status (state_over tenant live))) r (state_over tenant live)
    → Serves tenant tenant live live (status token) r
serves_status tenant live r token accepted given = record {
  answers = given;
  names = names_stay (reply_of r) live.names;
  others = none_touched live;
  listed = λ lists. lists;
  settings = refl;
  memory = λ none. absurd (let no : true ≡ false = none in cc);
  accepted = accepted;
}

-- ---- index requests

module _ {L : Type 0} (was now : Tenant) (old new : Live L) (graph : new.graph ≡ old.graph) (aside : new.aside ≡ with_pairs (pairs_at new.aside) (begun_at old.graph new.names old.aside)) where
  place : new.aside.place ≡ old.aside.place
  place = ap (λ (a : Aside). a.place) aside

  begins : new.aside.begins ≡ old.aside.begins
  begins = ap (λ (a : Aside). a.begins) aside

  index_others : KeepsOthers old new
  index_others = record {
    place = place;
    others = ap (λ (a : Aside). a.others) aside;
    begins = begins ∙ sym (set-get_or old.aside.begins old.aside.place None) ∙ ap (set old.aside.begins old.aside.place) (sym (same_open old new place begins));
    pairs = ap (λ (a : Aside). a.pairs) aside;
  }

  pub index_done : (request : Request) (bytes : List ℕ) (indexes : Catalogue) → bytes ≡ done_text → serves (state_over was old) request ≡ Ok (done (record (state_over was old) { indexes = indexes }))
      → now.settings ≡ was.settings → indexes_of now.indexes ≡ indexes → now.pages ≡ was.pages → KeepsNames old.names new.names → KeepsListed was now old new → Serves was now old new request (Ok bytes)
  index_done request bytes indexes told served settings is pages names listed =
      does was now old new request bytes (record (state_over was old) { indexes = indexes }) told served
      (λ i. record { settings = settings i; graph = graph i; indexes = is i; transaction = transaction_of (settings i) (same_open old new place begins i); held = pages i }) names index_others listed settings

  -- no memory for what an index takes
  pub index_failed : (request : Request) (e : Fault) → e ≡ OutOfMemory → takes_memory request ≡ true → new.names ≡ old.names → pairs_at new.aside ≡ pairs_at old.aside → Serves was was old new request (Err e)
  index_failed request e none memory names pairs = record {
    answers = (unchanged old new place begins was graph, λ other. absurd (other none));
    names = names_added old.names new.names (Err e) (subst (KeepsNames old.names) (sym names) (λ n t h. h)) tt names;
    others = index_others;
    listed = still_listed was was old new refl (subst (KeepsNames old.names) (sym names) (λ n t h. h)) pairs;
    settings = refl;
    memory = λ no. absurd (let clash : true ≡ false = sym memory ∙ no in cc);
    accepted = tt;
  }

-- ---- who waits, and who doesn't

module _ (s : State) (request : Request) where
  abbrev by_busy : Bool → Replied
  by_busy b = reported s (unless (not b) TenantBusy >> serves s request)

  pub answers_busy : is_busy s.transaction (token_of request) ≡ true → Answers s request (Err TenantBusy) s
  answers_busy busy = (refl, λ other. (sym (ap (λ b. (by_busy b).reply) busy), ap (λ b. (by_busy b).state) busy))

  pub answers_free : (r : Result (List ℕ) Fault) (after : State) → is_busy s.transaction (token_of request) ≡ false → Gives s (reported s (serves s request)) r after → Answers s request r after
  answers_free r after free given = subst (λ replied. Gives s replied r after) (sym (ap by_busy free)) given
