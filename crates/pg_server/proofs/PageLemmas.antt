-- What is held under a page's number: where it stays, and what pulls take of it.
use Rattle.std.proofs.Common.{◌≡◌, ◌≢◌, ℕ, zero, suc, ◌+◌, ◌<◌, Bool, true, false, cond, List, [], ◌∷◌, ◌++◌, length, map, take, drop, Option, Some, None, Result, Ok, Err, arith, bytes_eq, refl, sym, ap, subst, ◌∙◌, inl, inr}
use Rattle.std.specs.Prelude.{◌⊎◌, ◌&&◌, nat_eq, nat_lt, nat_le, not, is_some, filter, find, if◌then◌else◌, option_map}
use Rattle.std.specs.List.{AllByRecursion}
use Rattle.std.proofs.lemmas.Bool.{true≢false, eq-eqb, eqb-true, ne_eqb, and_parts}
use Rattle.std.proofs.lemmas.List.{append_assoc, append-nil, take-append-drop}
use Rattle.std.proofs.lemmas.List.Elements.{filter-append}
use Rattle.std.proofs.lemmas.Slice.Eq.{bytes_eq-Decides}
use Rattle.pg_json.specs.Pages.{paged_text, pulled_text}
use Rattle.pg_json.specs.Refusals.{refusal_text, done_text}
use Rattle.pg_json.specs.Replies.{max_reply}
use Rattle.pg_json.specs.Requests.{Request, token_of, query, status, create_index, drop_index, begin, commit, rollback, pull, drop_page}
use Rattle.pg_meaning.specs.Answer.{◌>>=◌, ◌>>◌, unless}
use Rattle.pg_meaning.specs.Meters.{greatest_id}
use Rattle.pg_meaning.specs.Plans.{Catalogue}
use Rattle.pg_meaning.specs.Queries.{Outcome}
use Rattle.pg_meaning.specs.Value.{Entries}
use Rattle.pg_meaning.specs.declared.fault.Fault.{Fault}
use Rattle.pg_meaning.specs.declared.fault.Fault.TheVariants.{ReadOnly, ReplyTooLong, TenantBusy, TransactionOpen, NoSuchPage, HeldRowsQuota, IdsExhausted}
use Rattle.pg_pages.specs.Held.{Held, Page, hold, held_rows, page_of, given_rows, with_rows, without_page, left_with}
use Rattle.pg_server.specs.Exchange.{Exchange}
use Rattle.pg_server.specs.Pages.{ArePages, PagesStay, PagesStayInRuns, PullsGive, IsRefused, GivesPages, GivesAll, PagesGive, RunsGivePages, left_of, next_rows, number_if_any, outcome_in, rows_pulled, rows_taken}
use Rattle.pg_server.specs.Runs.{SoloRun, own}
use Rattle.pg_server.specs.State.{state_at, state_in}
use Rattle.pg_server.specs.Transactions.{IsDone}
use Rattle.pg_tenant.specs.Answers.{Answered, answered, column_items, row_texts, shown}
use Rattle.pg_tenant.specs.Indexes.{index_created, index_dropped}
use Rattle.pg_tenant.specs.Settings.{TenantSettings, may_write}
use Rattle.pg_tenant.specs.Solo.{Replied, done, end_tested, is_busy, page_tested, pages_tested, drops, replies, reported, serves, solo, status_text, with_answer, with_indexes}
use Rattle.pg_tenant.specs.State.{State, Transaction, is_open, opening, tokens_of}

same_number : (n : ℕ) → nat_eq n n ≡ true
same_number n = eq-eqb n n refl

same_text : (t : List ℕ) → bytes_eq t t ≡ true
same_text t = (bytes_eq-Decides t t).1 refl

-- ---- a property of what is held, through one request

abbrev pull_by : State → Result Page Fault → Result Replied Fault
pull_by s page =
    (page >>= λ q. let left = left_with q (drop q.size q.rows) s.held in let r : Result (List ℕ × Held) Fault = Ok (pulled_text left.0 (take q.size q.rows), left.1) in r)
    >>= λ g. Ok (replies g.0 (record s { held = g.1 }))

abbrev drop_by : State → (number : ℕ) → Result Page Fault → Result Replied Fault
drop_by s number page =
    (page >>= λ q. let r : Result Held Fault = Ok (record s.held { pages = without_page number s.held.pages }) in r)
    >>= λ held. Ok (done (record s { held = held }))

abbrev asks_no_page : Request → Bool
asks_no_page (query token text parameters page) = true
asks_no_page (status token) = true
asks_no_page (create_index token label key) = true
asks_no_page (drop_index token label key) = true
asks_no_page (begin token) = true
asks_no_page (commit token) = true
asks_no_page (rollback token) = true
asks_no_page (pull token page) = false
asks_no_page (drop_page token page) = false

abbrev OfKept : (Held → Type 0) → Result (Option ℕ × Held) Fault → Type 0
OfKept P (Ok kept) = P kept.1
OfKept P (Err f) = Unit {0}

module _ (P : Held → Type 0) (s : State) (same : P s.held) where
  abbrev Moves : Result Replied Fault → Type 0
  Moves (Ok r) = P r.state.held
  Moves (Err f) = Unit {0}

  behind : (t : Result (Unit {0}) Fault) (r : Result Replied Fault) → Moves r → Moves (t >> r)
  behind (Ok tt) r k = k
  behind (Err f) r k = tt

  by_report : (r : Result Replied Fault) → Moves r → P (reported s r).state.held
  by_report (Ok r) k = k
  by_report (Err f) k = same

  -- one behind the test of who waits
  served : (request : Request) → Moves (serves s request) → P (solo s request).state.held
  served request k =
      let waits = unless (not (is_busy s.transaction (token_of request))) TenantBusy in
      by_report (waits >> serves s request) (behind waits (serves s request) k)

  of_indexes : (indexes : Result Catalogue Fault) → Moves (with_indexes s indexes)
  of_indexes (Ok is) = same
  of_indexes (Err f) = tt

  of_status : (fits : Bool) → Moves (cond fits (Ok (status_text s)) (Err ReplyTooLong) >>= λ reply. Ok (replies reply s))
  of_status true = same
  of_status false = tt

  abbrev back : Option Transaction → State
  back t = elim t [ Some x ↦ record s { graph = x.begun; transaction = None } | None ↦ s ]

  of_back : (t : Option Transaction) → P (back t).held
  of_back (Some t) = same
  of_back None = same

  of_kept : (size : ℕ) (o : Outcome) (kept : Result (Option ℕ × Held) Fault) → OfKept P kept
      → Moves (with_answer s ((kept >>= λ k. let r : Result (List ℕ × Held) Fault = Ok (paged_text (column_items o) k.0 (take size (row_texts o)) o.steps, k.1) in r) >>= λ p. Ok (answered p.0 o.graph p.1)))
  of_kept size o (Ok kept) k = k
  of_kept size o (Err f) k = tt

  behind_test : (t : Result (Unit {0}) Fault) (a : Result Answered Fault) → Moves (with_answer s a) → Moves (with_answer s (t >> a))
  behind_test (Ok tt) a k = k
  behind_test (Err f) a k = tt

  module _ (holds : (max_held : ℕ) (token : List ℕ) (size : ℕ) (rows : List (List ℕ)) → OfKept P (hold s.held max_held token size rows)) where
    of_shown : (token : List ℕ) (page : Option ℕ) (r : Result Outcome Fault) → Moves (with_answer s (r >>= shown s.held s.settings.max_held token page))
    of_shown token None (Ok o) = same
    of_shown token (Some size) (Ok o) =
        of_kept size o (hold s.held s.settings.max_held token size (drop size (row_texts o))) (holds s.settings.max_held token size (drop size (row_texts o)))
    of_shown token page (Err f) = tt

    of_request : (request : Request) → asks_no_page request ≡ true → Moves (serves s request)
    of_request (query token text parameters page) h =
        let outcome = outcome_in s token text parameters in
        behind_test (page_tested s page) (outcome >>= shown s.held s.settings.max_held token page) (of_shown token page outcome)
    of_request (status token) h = of_status (nat_le (length (status_text s)) max_reply)
    of_request (create_index token label key) h = of_indexes (index_created (may_write s.settings token) (is_open s) s.indexes label key)
    of_request (drop_index token label key) h = of_indexes (index_dropped (may_write s.settings token) (is_open s) s.indexes label key)
    of_request (begin token) h =
        let t : Transaction = record { token = token; begun = s.graph } in
        let r : Result Replied Fault = Ok (done (record s { transaction = Some t })) in
        behind (unless (may_write s.settings token) ReadOnly) (unless (not (is_open s)) TransactionOpen >> r) (behind (unless (not (is_open s)) TransactionOpen) r same)
    of_request (commit token) h = behind (end_tested s token) (Ok (done (record s { transaction = None }))) same
    of_request (rollback token) h = behind (end_tested s token) (Ok (done (back s.transaction))) (of_back s.transaction)
    of_request (pull token page) h = cc
    of_request (drop_page token page) h = cc

    pub other_moves : (request : Request) → asks_no_page request ≡ true → P (solo s request).state.held
    other_moves request h = served request (of_request request h)

  of_pull : (page : Result Page Fault) → ((p : Page) → page ≡ Ok p → P (left_with p (drop p.size p.rows) s.held).1) → Moves (pull_by s page)
  of_pull (Ok p) k = k p refl
  of_pull (Err f) k = tt

  pub pull_moves : (token : List ℕ) (number : ℕ) → ((p : Page) → page_of s.held token number ≡ Ok p → P (left_with p (drop p.size p.rows) s.held).1)
      → P (solo s (pull token number)).state.held
  pull_moves token number k =
      served (pull token number) (behind (pages_tested s) (pull_by s (page_of s.held token number)) (of_pull (page_of s.held token number) k))

  of_drop : (number : ℕ) (page : Result Page Fault) → ((p : Page) → page ≡ Ok p → P (record s.held { pages = without_page number s.held.pages })) → Moves (drop_by s number page)
  of_drop number (Ok p) k = k p refl
  of_drop number (Err f) k = tt

  pub drop_moves : (token : List ℕ) (number : ℕ) → ((p : Page) → page_of s.held token number ≡ Ok p → P (record s.held { pages = without_page number s.held.pages }))
      → P (solo s (drop_page token number)).state.held
  drop_moves token number k =
      served (drop_page token number) (behind (pages_tested s) (drop_by s number (page_of s.held token number)) (of_drop number (page_of s.held token number) k))

-- ---- the numbers of pages

abbrev AreBelow : ℕ → List Page → Type 0
AreBelow next pages = AllByRecursion (λ p. p.number < next) pages

abbrev AreHeld : Held → Type 0
AreHeld held = AreBelow held.next held.pages

below_filter : (next : ℕ) (test : Page → Bool) (pages : List Page) → AreBelow next pages → AreBelow next (filter test pages)
below_filter next test [] all = tt
below_filter next test (p ∷ pages) all = by_test (test p) (below_filter next test pages all.1)
  where
    by_test : (b : Bool) → AreBelow next (filter test pages) → AreBelow next (cond b (p ∷ filter test pages) (filter test pages))
    by_test true rest = (all.0, rest)
    by_test false rest = rest

number_stays : (number : ℕ) (rows : List (List ℕ)) (p : Page) → (given_rows number rows p).number ≡ p.number
number_stays number rows p = by_test (nat_eq p.number number)
  where
    by_test : (b : Bool) → (let q : Page = if b then record p { rows = rows } else p in q).number ≡ p.number
    by_test true = refl
    by_test false = refl

below_map : (next number : ℕ) (rows : List (List ℕ)) (pages : List Page) → AreBelow next pages → AreBelow next (with_rows number rows pages)
below_map next number rows [] all = tt
below_map next number rows (p ∷ pages) all = (subst (λ n. n < next) (sym (number_stays number rows p)) all.0, below_map next number rows pages all.1)

below_next : (next : ℕ) (p : Page) (pages : List Page) → p.number ≡ next → AreBelow next pages → AreBelow (next + 1) (pages ++ p ∷ [])
below_next next p [] is all = (omega (arith, is), tt)
below_next next p (q ∷ pages) is all = (omega (arith, all.0), below_next next p pages is all.1)

-- what a hold gives, by its tests
abbrev held_by : Held → (token : List ℕ) → (size : ℕ) → (rows : List (List ℕ)) → (room numbers : Bool) → Result (Option ℕ × Held) Fault
held_by held token size rows room numbers =
    let page : Page = record { number = held.next; token = token; size = size; rows = rows } in
    unless room HeldRowsQuota >> (unless numbers IdsExhausted >> Ok (Some held.next, record { pages = held.pages ++ page ∷ []; next = held.next + 1 }))

hold_below : (held : Held) (max_held : ℕ) (token : List ℕ) (size : ℕ) (rows : List (List ℕ)) → AreHeld held → OfKept AreHeld (hold held max_held token size rows)
hold_below held max_held token size [] all = all
hold_below held max_held token size (row ∷ rows) all = by_tests (nat_le (held_rows held.pages + length (row ∷ rows)) max_held) (nat_lt held.next greatest_id)
  where
    by_tests : (room numbers : Bool) → OfKept AreHeld (held_by held token size (row ∷ rows) room numbers)
    by_tests true true = below_next held.next (record { number = held.next; token = token; size = size; rows = row ∷ rows }) held.pages refl all
    by_tests true false = tt
    by_tests false numbers = tt

left_below : (p : Page) (rows : List (List ℕ)) (held : Held) → AreHeld held → AreHeld (left_with p rows held).1
left_below p [] held all = below_filter held.next (λ q. not (nat_eq q.number p.number)) held.pages all
left_below p (row ∷ rows) held all = below_map held.next p.number (row ∷ rows) held.pages all

stay : (s : State) (request : Request) → ArePages s → ArePages (solo s request).state
stay s (pull token number) all = pull_moves AreHeld s all token number (λ p is. left_below p (drop p.size p.rows) s.held all)
stay s (drop_page token number) all = drop_moves AreHeld s all token number (λ p is. below_filter s.held.next (λ q. not (nat_eq q.number number)) s.held.pages all)
stay s (query token text parameters page) all = other_moves AreHeld s all (λ m t n r. hold_below s.held m t n r all) (query token text parameters page) refl
stay s (status token) all = other_moves AreHeld s all (λ m t n r. hold_below s.held m t n r all) (status token) refl
stay s (create_index token label key) all = other_moves AreHeld s all (λ m t n r. hold_below s.held m t n r all) (create_index token label key) refl
stay s (drop_index token label key) all = other_moves AreHeld s all (λ m t n r. hold_below s.held m t n r all) (drop_index token label key) refl
stay s (begin token) all = other_moves AreHeld s all (λ m t n r. hold_below s.held m t n r all) (begin token) refl
stay s (commit token) all = other_moves AreHeld s all (λ m t n r. hold_below s.held m t n r all) (commit token) refl
stay s (rollback token) all = other_moves AreHeld s all (λ m t n r. hold_below s.held m t n r all) (rollback token) refl

pub pages_stay : PagesStay
pages_stay = (λ settings. tt, stay)

run_stays : (es : List Exchange) (old new : State) → SoloRun old es new → ArePages old → ArePages new
run_stays [] old new run all = subst ArePages (sym run) all
run_stays (e ∷ es) old new run all = run_stays es (solo old run.0).state new run.4 (stay old run.0 all)

opened : (tenants : List TenantSettings) (t : ℕ) → ArePages (state_in (map opening tenants) t)
opened [] t = tt
opened (settings ∷ tenants) zero = tt
opened (settings ∷ tenants) (suc t) = opened tenants t

pub pages_stay_in_runs : PagesStayInRuns
pages_stay_in_runs = (
  λ settings t. opened settings.tenants t,
  λ old new es t runs all. run_stays (own (tokens_of (state_at old t)) es) (state_at old t) (state_at new t) (runs.solo t) all,
)

-- ---- one page

-- the number of a page that is found
found_number : (token : List ℕ) (number : ℕ) (pages : List Page) (q : Page) → find (λ p. nat_eq p.number number && bytes_eq p.token token) pages ≡ Some q → q.number ≡ number
found_number token number [] q is = cc
found_number token number (p ∷ pages) q is = by_tests (nat_eq p.number number) (bytes_eq p.token token) refl (found_number token number pages q) is
  where
    by_tests : (n t : Bool) → nat_eq p.number number ≡ n → (find (λ p. nat_eq p.number number && bytes_eq p.token token) pages ≡ Some q → q.number ≡ number)
        → cond (n && t) (Some p) (find (λ p. nat_eq p.number number && bytes_eq p.token token) pages) ≡ Some q → q.number ≡ number
    by_tests true true same later is = let it : p ≡ q = cc in subst (λ (x : Page). x.number ≡ number) it (eqb-true p.number number same)
    by_tests true false same later is = later is
    by_tests false t same later is = later is

abbrev page_by : Option Page → Result Page Fault
page_by o = elim o [ Some p ↦ Ok p | None ↦ Err NoSuchPage ]

found_page : (o : Option Page) (p : Page) → page_by o ≡ Ok p → o ≡ Some p
found_page (Some q) p is = let it : q ≡ p = cc in ap (λ x. Some x) it
found_page None p is = cc

number_of_page : (held : Held) (token : List ℕ) (number : ℕ) (p : Page) → page_of held token number ≡ Ok p → p.number ≡ number
number_of_page held token number p is =
    let found = find (λ q. nat_eq q.number number && bytes_eq q.token token) held.pages in
    found_number token number held.pages p (found_page found p is)

module _ (token : List ℕ) (number size : ℕ) where
  abbrev the_page : List (List ℕ) → Page
  the_page rows = record { number = number; token = token; size = size; rows = rows }

  -- the pages of this number, where so many rows are left
  abbrev standing : List (List ℕ) → List Page
  standing [] = []
  standing (row ∷ rows) = the_page (row ∷ rows) ∷ []

  abbrev of_number : List Page → List Page
  of_number pages = filter (λ p. nat_eq p.number number) pages

  abbrev Stands : List (List ℕ) → Held → Type 0
  Stands rows held = (number < held.next) × (of_number held.pages ≡ standing rows)

  -- ---- where it is looked up

  found_among : (t : List ℕ) (pages : List Page) → find (λ p. nat_eq p.number number && bytes_eq p.token t) pages ≡ find (λ p. bytes_eq p.token t) (of_number pages)
  found_among t [] = refl
  found_among t (p ∷ pages) = by_number (nat_eq p.number number) (found_among t pages)
    where
      by_number : (b : Bool) → find (λ p. nat_eq p.number number && bytes_eq p.token t) pages ≡ find (λ p. bytes_eq p.token t) (of_number pages)
          → cond (b && bytes_eq p.token t) (Some p) (find (λ p. nat_eq p.number number && bytes_eq p.token t) pages) ≡ find (λ p. bytes_eq p.token t) (cond b (p ∷ of_number pages) (of_number pages))
      by_number true later = ap (cond (bytes_eq p.token t) (Some p)) later
      by_number false later = later

  page_at : (held : Held) (t : List ℕ) (rows : List (List ℕ)) → Stands rows held → page_of held t number ≡ page_by (find (λ p. bytes_eq p.token t) (standing rows))
  page_at held t rows st = ap page_by (found_among t held.pages ∙ ap (find (λ p. bytes_eq p.token t)) st.1)

  none_elsewhere : (t : List ℕ) (rows : List (List ℕ)) → bytes_eq token t ≡ false → page_by (find (λ p. bytes_eq p.token t) (standing rows)) ≡ Err NoSuchPage
  none_elsewhere t [] apart = refl
  none_elsewhere t (row ∷ rows) apart = ap (λ b. page_by (cond b (Some (the_page (row ∷ rows))) None)) apart

  elsewhere : (held : Held) (t : List ℕ) (rows : List (List ℕ)) → Stands rows held → bytes_eq token t ≡ false → page_of held t number ≡ Err NoSuchPage
  elsewhere held t rows st apart = page_at held t rows st ∙ none_elsewhere t rows apart

  abbrev own_page : List (List ℕ) → Result Page Fault
  own_page [] = Err NoSuchPage
  own_page (row ∷ rows) = Ok (the_page (row ∷ rows))

  own_found : (rows : List (List ℕ)) → page_by (find (λ p. bytes_eq p.token token) (standing rows)) ≡ own_page rows
  own_found [] = refl
  own_found (row ∷ rows) = ap (λ b. page_by (cond b (Some (the_page (row ∷ rows))) None)) (same_text token)

  its_own : (held : Held) (rows : List (List ℕ)) → Stands rows held → page_of held token number ≡ own_page rows
  its_own held rows st = page_at held token rows st ∙ own_found rows

  -- ---- what a pull and a drop leave

  without_other : (m : ℕ) (pages : List Page) → nat_eq m number ≡ false → of_number (without_page m pages) ≡ of_number pages
  without_other m [] apart = refl
  without_other m (p ∷ pages) apart = by_number (nat_eq p.number m) refl (without_other m pages apart)
    where
      by_number : (b : Bool) → nat_eq p.number m ≡ b → of_number (without_page m pages) ≡ of_number pages
          → of_number (cond (not b) (p ∷ without_page m pages) (without_page m pages)) ≡ cond (nat_eq p.number number) (p ∷ of_number pages) (of_number pages)
      by_number true is later =
          later ∙ sym (ap (λ b. cond b (p ∷ of_number pages) (of_number pages)) (ap (λ n. nat_eq n number) (eqb-true p.number m is) ∙ apart))
      by_number false is later = ap (λ ps. cond (nat_eq p.number number) (p ∷ ps) ps) later

  without_own : (pages : List Page) → of_number (without_page number pages) ≡ []
  without_own [] = refl
  without_own (p ∷ pages) = by_number (nat_eq p.number number) refl (without_own pages)
    where
      by_number : (b : Bool) → nat_eq p.number number ≡ b → of_number (without_page number pages) ≡ []
          → of_number (cond (not b) (p ∷ without_page number pages) (without_page number pages)) ≡ []
      by_number true is later = later
      by_number false is later = ap (λ b. cond b (p ∷ of_number (without_page number pages)) (of_number (without_page number pages))) is ∙ later

  with_others : (m : ℕ) (rows : List (List ℕ)) (pages : List Page) → of_number (with_rows m rows pages) ≡ with_rows m rows (of_number pages)
  with_others m rows [] = refl
  with_others m rows (p ∷ pages) =
      let after = of_number (with_rows m rows pages) in
      ap (λ n. cond (nat_eq n number) (given_rows m rows p ∷ after) after) (number_stays m rows p) ∙ by_number (nat_eq p.number number) (with_others m rows pages)
    where
      by_number : (b : Bool) → of_number (with_rows m rows pages) ≡ with_rows m rows (of_number pages)
          → cond b (given_rows m rows p ∷ of_number (with_rows m rows pages)) (of_number (with_rows m rows pages)) ≡ with_rows m rows (cond b (p ∷ of_number pages) (of_number pages))
      by_number true later = ap (λ ps. given_rows m rows p ∷ ps) later
      by_number false later = later

  untouched : (m : ℕ) (given rows : List (List ℕ)) → nat_eq number m ≡ false → with_rows m given (standing rows) ≡ standing rows
  untouched m given [] apart = refl
  untouched m given (row ∷ rows) apart =
      ap (λ b. let q : Page = if b then record (the_page (row ∷ rows)) { rows = given } else the_page (row ∷ rows) in q ∷ []) apart

  touched : (given : List (List ℕ)) (row : List ℕ) (rows : List (List ℕ)) → with_rows number given (standing (row ∷ rows)) ≡ the_page given ∷ []
  touched given row rows =
      ap (λ b. let q : Page = if b then record (the_page (row ∷ rows)) { rows = given } else the_page (row ∷ rows) in q ∷ []) (same_number number)

  other_way : (m : ℕ) → nat_eq m number ≡ false → nat_eq number m ≡ false
  other_way m apart = ne_eqb number m (λ is. true≢false (sym (eq-eqb m number (sym is)) ∙ apart))

  left_elsewhere : (p : Page) (given : List (List ℕ)) (held : Held) (rows : List (List ℕ)) → nat_eq p.number number ≡ false → Stands rows held → Stands rows (left_with p given held).1
  left_elsewhere p [] held rows apart st = (st.0, without_other p.number held.pages apart ∙ st.1)
  left_elsewhere p (row ∷ given) held rows apart st =
      (st.0, with_others p.number (row ∷ given) held.pages ∙ ap (with_rows p.number (row ∷ given)) st.1 ∙ untouched p.number (row ∷ given) rows (other_way p.number apart))

  left_here : (row : List ℕ) (rows given : List (List ℕ)) (held : Held) → Stands (row ∷ rows) held → Stands given (left_with (the_page (row ∷ rows)) given held).1
  left_here row rows [] held st = (st.0, without_own held.pages)
  left_here row rows (g ∷ given) held st = (st.0, with_others number (g ∷ given) held.pages ∙ ap (with_rows number (g ∷ given)) st.1 ∙ touched (g ∷ given) row rows)

  -- ---- what a hold leaves

  one_more : (p : Page) (pages : List Page) → of_number (pages ++ p ∷ []) ≡ of_number pages ++ cond (nat_eq p.number number) (p ∷ []) []
  one_more p pages = filter-append (λ q. nat_eq q.number number) pages (p ∷ [])

  hold_elsewhere : (held : Held) (max_held : ℕ) (t : List ℕ) (n : ℕ) (given rows : List (List ℕ)) → Stands rows held → OfKept (Stands rows) (hold held max_held t n given)
  hold_elsewhere held max_held t n [] rows st = st
  hold_elsewhere held max_held t n (g ∷ given) rows st = by_tests (nat_le (held_rows held.pages + length (g ∷ given)) max_held) (nat_lt held.next greatest_id)
    where
      below : number < held.next → number < held.next + 1
      below h = omega (arith, h)

      later : held.next ≡ number → ⊥
      later is = omega (arith, is, st.0)

      by_tests : (room numbers : Bool) → OfKept (Stands rows) (held_by held t n (g ∷ given) room numbers)
      by_tests true true =
          let p : Page = record { number = held.next; token = t; size = n; rows = g ∷ given } in
          (below st.0, one_more p held.pages ∙ ap (λ b. of_number held.pages ++ cond b (p ∷ []) []) (ne_eqb held.next number later) ∙ append-nil (of_number held.pages) ∙ st.1)
      by_tests true false = tt
      by_tests false numbers = tt

  -- ---- through a tenant's requests

  abbrev Step : State → (rows : List (List ℕ)) → Request → Type 0
  Step s rows request = (rest : List (List ℕ)) × Stands rest (solo s request).state.held × (rows_taken s token number request ++ rest ≡ rows)

  other_step : (s : State) (rows : List (List ℕ)) (request : Request) → Stands rows s.held → asks_no_page request ≡ true → Stands rows (solo s request).state.held
  other_step s rows request st h = other_moves (Stands rows) s st (λ m t n given. hold_elsewhere s.held m t n given rows st) request h

  -- what is asked of another page
  abbrev names_it : (t : List ℕ) → (n : ℕ) → Bool
  names_it t n = bytes_eq t token && nat_eq n number

  token_apart : (t : List ℕ) → bytes_eq t token ≡ false → bytes_eq token t ≡ false
  token_apart t apart = by_test (bytes_eq token t) refl
    where
      by_test : (b : Bool) → bytes_eq token t ≡ b → b ≡ false
      by_test true is = absurd (true≢false (sym ((bytes_eq-Decides t token).1 (sym ((bytes_eq-Decides token t).0 is))) ∙ apart))
      by_test false is = refl

  -- a page that is found so has another number
  found_elsewhere : (held : Held) (rows : List (List ℕ)) (t : List ℕ) (n : ℕ) (p : Page) → Stands rows held → names_it t n ≡ false → page_of held t n ≡ Ok p → nat_eq n number ≡ false
  found_elsewhere held rows t n p st apart is = by_tests (bytes_eq t token) (nat_eq n number) refl refl apart
    where
      by_tests : (b c : Bool) → bytes_eq t token ≡ b → nat_eq n number ≡ c → b && c ≡ false → c ≡ false
      by_tests b false of_token of_number h = refl
      by_tests true true of_token of_number h = cc
      by_tests false true of_token of_number h =
          let none : page_of held t n ≡ Err NoSuchPage = ap (page_of held t) (eqb-true n number of_number) ∙ elsewhere held t rows st (token_apart t of_token) in
          let clash : Ok p ≡ Err NoSuchPage = sym is ∙ none in
          cc

  other_pull : (s : State) (rows : List (List ℕ)) (t : List ℕ) (n : ℕ) → Stands rows s.held → names_it t n ≡ false → Stands rows (solo s (pull t n)).state.held
  other_pull s rows t n st apart = pull_moves (Stands rows) s st t n (λ p is.
      left_elsewhere p (drop p.size p.rows) s.held rows (ap (λ m. nat_eq m number) (number_of_page s.held t n p is) ∙ found_elsewhere s.held rows t n p st apart is) st)

  other_drop : (s : State) (rows : List (List ℕ)) (t : List ℕ) (n : ℕ) → Stands rows s.held → names_it t n ≡ false → Stands rows (solo s (drop_page t n)).state.held
  other_drop s rows t n st apart = drop_moves (Stands rows) s st t n (λ p is.
      (st.0, without_other n s.held.pages (found_elsewhere s.held rows t n p st apart is) ∙ st.1))

  -- ---- a pull of it

  abbrev rows_by : Result Page Fault → List (List ℕ)
  rows_by page = elim page [ Ok p ↦ p.rows | Err fault ↦ [] ]

  abbrev next_by : Result Page Fault → List (List ℕ)
  next_by page = elim page [ Ok p ↦ take p.size p.rows | Err fault ↦ [] ]

  -- by the transaction that is open, and by the page that is found
  abbrev pull_after : State → Option Transaction → Result Page Fault → Replied
  pull_after s o page = reported s (unless (not (is_busy o token)) TenantBusy >> (unless (not (is_some o)) TransactionOpen >> pull_by s page))

  abbrev taken_by : Option Transaction → (named : Bool) → Result Page Fault → List (List ℕ)
  taken_by o named page = if not (is_some o) && named then next_by page else []

  refused_state : (s : State) (b : Bool) (f g : Fault) → (reported s (unless b f >> Err g)).state ≡ s
  refused_state s true f g = refl
  refused_state s false f g = refl

  free_pull : (s : State) (rows : List (List ℕ)) → Stands rows s.held → (rest : List (List ℕ)) × Stands rest (reported s (pull_by s (own_page rows))).state.held × (next_by (own_page rows) ++ rest ≡ rows)
  free_pull s [] st = ([], st, refl)
  free_pull s (row ∷ rows) st = (drop size (row ∷ rows), left_here row rows (drop size (row ∷ rows)) s.held st, take-append-drop size (row ∷ rows))

  abbrev PullStep : State → List (List ℕ) → Option Transaction → (named : Bool) → Result Page Fault → Type 0
  PullStep s rows o named page = (rest : List (List ℕ)) × Stands rest (pull_after s o page).state.held × (taken_by o named page ++ rest ≡ rows)

  pull_by_open : (s : State) (rows : List (List ℕ)) (o : Option Transaction) → Stands rows s.held → PullStep s rows o true (own_page rows)
  pull_by_open s rows (Some t) st =
      (rows, subst (λ (x : State). Stands rows x.held) (sym (refused_state s (not (is_busy (Some t) token)) TenantBusy TransactionOpen)) st, refl)
  pull_by_open s rows None st = free_pull s rows st

  named_so : (free : Bool) → free && bytes_eq token token && nat_eq number number ≡ free && true
  named_so free = ap (λ b. free && b && nat_eq number number) (same_text token) ∙ ap (λ b. free && true && b) (same_number number) ∙ both free
    where
      both : (b : Bool) → b && true && true ≡ b && true
      both true = refl
      both false = refl

  own_pull : (s : State) (rows : List (List ℕ)) → Stands rows s.held → Step s rows (pull token number)
  own_pull s rows st =
      let step = subst (PullStep s rows s.transaction true) (sym (its_own s.held rows st)) (pull_by_open s rows s.transaction st) in
      (step.0, step.1, ap (λ b. (let taken : List (List ℕ) = if b then next_rows s token number else [] in taken) ++ step.0) (named_so (not (is_open s))) ∙ step.2)

  none_taken : (s : State) (t : List ℕ) (n : ℕ) → names_it t n ≡ false → rows_taken s token number (pull t n) ≡ []
  none_taken s t n apart = ap (λ b. let taken : List (List ℕ) = if b then next_rows s token number else [] in taken) (none (not (is_open s)) (bytes_eq t token) (nat_eq n number) apart)
    where
      none : (a b c : Bool) → b && c ≡ false → a && b && c ≡ false
      none true b c h = h
      none false b c h = refl

  -- the page that is named is this one, or another
  is_it : (t : List ℕ) (n : ℕ) → names_it t n ≡ true → (t ≡ token) × (n ≡ number)
  is_it t n h = let parts = and_parts (bytes_eq t token) (nat_eq n number) h in ((bytes_eq-Decides t token).0 parts.0, eqb-true n number parts.1)

  pull_step : (s : State) (rows : List (List ℕ)) (t : List ℕ) (n : ℕ) → Stands rows s.held → Step s rows (pull t n)
  pull_step s rows t n st = by_name (names_it t n) refl
    where
      by_name : (b : Bool) → names_it t n ≡ b → Step s rows (pull t n)
      by_name true is = let it = is_it t n is in subst (λ m. Step s rows (pull t m)) (sym it.1) (subst (λ x. Step s rows (pull x number)) (sym it.0) (own_pull s rows st))
      by_name false is = (rows, other_pull s rows t n st is, ap (λ taken. taken ++ rows) (none_taken s t n is))

  -- ---- a drop of it

  abbrev DoesOrKeeps : State → Result Replied Fault → Type 0
  DoesOrKeeps s r = (reported s r).reply ≢ done_text → (reported s r).state ≡ s

  tested : (s : State) (b : Bool) (f : Fault) (r : Result Replied Fault) → DoesOrKeeps s r → DoesOrKeeps s (unless b f >> r)
  tested s true f r h = h
  tested s false f r h = λ _. refl

  by_drop : (s : State) (n : ℕ) (page : Result Page Fault) → DoesOrKeeps s (drop_by s n page)
  by_drop s n (Ok p) = λ other. absurd (other refl)
  by_drop s n (Err f) = λ _. refl

  not_dropped : (s : State) (t : List ℕ) (n : ℕ) → (solo s (drop_page t n)).reply ≢ done_text → (solo s (drop_page t n)).state ≡ s
  not_dropped s t n =
      tested s (not (is_busy s.transaction t)) TenantBusy (drops s t n) (tested s (not (is_open s)) TransactionOpen (drop_by s n (page_of s.held t n)) (by_drop s n (page_of s.held t n)))

  abbrev NotDropped : State → Request → Type 0
  NotDropped s request = request ≡ drop_page token number → (solo s request).reply ≢ done_text

  drop_step : (s : State) (rows : List (List ℕ)) (t : List ℕ) (n : ℕ) → Stands rows s.held → NotDropped s (drop_page t n) → Stands rows (solo s (drop_page t n)).state.held
  drop_step s rows t n st kept = by_name (names_it t n) refl
    where
      by_name : (b : Bool) → names_it t n ≡ b → Stands rows (solo s (drop_page t n)).state.held
      by_name true is =
          let it = is_it t n is in
          let same : drop_page t n ≡ drop_page token number = ap (λ x. drop_page x n) it.0 ∙ ap (drop_page token) it.1 in
          subst (λ (x : State). Stands rows x.held) (sym (not_dropped s t n (kept same))) st
      by_name false is = other_drop s rows t n st is

  step : (s : State) (rows : List (List ℕ)) (request : Request) → Stands rows s.held → NotDropped s request → Step s rows request
  step s rows (pull t n) st kept = pull_step s rows t n st
  step s rows (drop_page t n) st kept = (rows, drop_step s rows t n st kept, refl)
  step s rows (query t text parameters page) st kept = (rows, other_step s rows (query t text parameters page) st refl, refl)
  step s rows (status t) st kept = (rows, other_step s rows (status t) st refl, refl)
  step s rows (create_index t label key) st kept = (rows, other_step s rows (create_index t label key) st refl, refl)
  step s rows (drop_index t label key) st kept = (rows, other_step s rows (drop_index t label key) st refl, refl)
  step s rows (begin t) st kept = (rows, other_step s rows (begin t) st refl, refl)
  step s rows (commit t) st kept = (rows, other_step s rows (commit t) st refl, refl)
  step s rows (rollback t) st kept = (rows, other_step s rows (rollback t) st refl, refl)

  -- ---- through a run

  rows_of_own : (rows : List (List ℕ)) → rows_by (own_page rows) ≡ rows
  rows_of_own [] = refl
  rows_of_own (row ∷ rows) = refl

  left_is : (s : State) (rows : List (List ℕ)) → Stands rows s.held → left_of s token number ≡ rows
  left_is s rows st = ap rows_by (its_own s.held rows st) ∙ rows_of_own rows

  abbrev Kept : Exchange → Type 0
  Kept e = IsDone e (drop_page token number) → ⊥

  abbrev pulled_after : State → List Exchange → Option Request → List (List ℕ)
  pulled_after s es o = elim o [
    | Some request ↦ rows_taken s token number request ++ rows_pulled (solo s request).state token number es
    | None ↦ rows_pulled s token number es
  ]

  run_gives : (es : List Exchange) (s new : State) (rows : List (List ℕ)) → Stands rows s.held → SoloRun s es new → AllByRecursion Kept es
      → rows_pulled s token number es ++ left_of new token number ≡ rows
  run_gives [] s new rows st run kept = ap (λ x. left_of x token number) run ∙ left_is s rows st
  run_gives (e ∷ es) s new rows st run kept =
      let request = run.0 in
      let now = step s rows request st (λ same is. kept.0 (record { asks = run.1 ∙ ap (λ r. Some r) same; reply = run.2 ∙ is })) in
      let later = run_gives es (solo s request).state new now.0 now.1 run.4 kept.1 in
      let taken = rows_taken s token number request in
      let rest = rows_pulled (solo s request).state token number es in
      ap (λ o. pulled_after s es o ++ left_of new token number) run.1
      ∙ append_assoc taken rest (left_of new token number)
      ∙ ap (λ rs. taken ++ rs) later
      ∙ now.2

  -- ---- from the first page on

  none_of_next : (next : ℕ) (pages : List Page) → AreBelow next pages → next ≡ number → of_number pages ≡ []
  none_of_next next [] all is = refl
  none_of_next next (p ∷ pages) all is =
      ap (λ b. cond b (p ∷ of_number pages) (of_number pages)) (ne_eqb p.number number (λ same. omega (arith, all.0, is, same))) ∙ none_of_next next pages all.1 is

-- the new page stands
new_stands : (held : Held) (token : List ℕ) (size : ℕ) (row : List ℕ) (rows : List (List ℕ)) → AreHeld held
    → Stands token held.next size (row ∷ rows) (record { pages = held.pages ++ record { number = held.next; token = token; size = size; rows = row ∷ rows } ∷ []; next = held.next + 1 })
new_stands held token size row rows all =
    let p : Page = record { number = held.next; token = token; size = size; rows = row ∷ rows } in (
      omega arith,
      one_more token held.next size p held.pages ∙ ap (λ ps. ps ++ cond (nat_eq held.next held.next) (p ∷ []) []) (none_of_next token held.next size held.next held.pages all refl)
          ∙ ap (λ b. cond b (p ∷ []) []) (same_number held.next),
    )

module _ (old new : State) (es : List Exchange) (token text : List ℕ) (parameters : Entries) (size : ℕ) (o : Outcome) (all : ArePages old) where
  abbrev first_rows : List (List ℕ)
  first_rows = take size (row_texts o)

  abbrev asks : Request
  asks = query token text parameters (Some size)

  abbrev Given : List ℕ → State → Type 0
  Given reply after =
      ((reply ≡ refusal_text HeldRowsQuota) ⊎ (reply ≡ refusal_text IdsExhausted))
      ⊎ ((page : Option ℕ) × (reply ≡ paged_text (column_items o) page first_rows o.steps) × GivesAll after es new token page first_rows (row_texts o))

  abbrev first_by : Result (Option ℕ × Held) Fault → Replied
  first_by kept =
      reported old (with_answer old ((kept >>= λ k. let r : Result (List ℕ × Held) Fault = Ok (paged_text (column_items o) k.0 first_rows o.steps, k.1) in r) >>= λ p. Ok (answered p.0 o.graph p.1)))

  abbrev Follows : Replied → Type 0
  Follows r = SoloRun r.state es new → Given r.reply r.state

  by_tests : (row : List ℕ) (rows : List (List ℕ)) → first_rows ++ (row ∷ rows) ≡ row_texts o → (room numbers : Bool) → Follows (first_by (held_by old.held token size (row ∷ rows) room numbers))
  by_tests row rows parts true true = λ run. inr (
    Some old.held.next,
    refl,
    λ kept.
        ap (λ rs. first_rows ++ rs) (run_gives token old.held.next size es (first_by (held_by old.held token size (row ∷ rows) true true)).state new (row ∷ rows)
        (new_stands old.held token size row rows all) run kept) ∙ parts,
  )
  by_tests row rows parts true false = λ run. inl (inr refl)
  by_tests row rows parts false numbers = λ run. inl (inl refl)

  by_rest : (rest : List (List ℕ)) → first_rows ++ rest ≡ row_texts o → Follows (first_by (hold old.held old.settings.max_held token size rest))
  by_rest [] parts = λ run. inr (None, refl, sym (append-nil first_rows) ∙ parts)
  by_rest (row ∷ rows) parts = by_tests row rows parts (nat_le (held_rows old.held.pages + length (row ∷ rows)) old.settings.max_held) (nat_lt old.held.next greatest_id)

  free_query : old.transaction ≡ None → outcome_in old token text parameters ≡ Ok o → solo old asks ≡ first_by (hold old.held old.settings.max_held token size (drop size (row_texts o)))
  free_query none fits =
      let outcome = outcome_in old token text parameters in
      ap (λ x. reported old (unless (not (is_busy x token)) TenantBusy >> with_answer old (unless (not (is_some x)) TransactionOpen >> (outcome >>= shown old.held old.settings.max_held token (Some size))))) none
      ∙ ap (λ r. reported old (with_answer old (r >>= shown old.held old.settings.max_held token (Some size)))) fits

  pub query_gives : old.transaction ≡ None → outcome_in old token text parameters ≡ Ok o → SoloRun (solo old asks).state es new → Given (solo old asks).reply (solo old asks).state
  query_gives none fits run = subst Follows (sym (free_query none fits)) (by_rest (drop size (row_texts o)) (take-append-drop size (row_texts o))) run

pub pages_give : PagesGive
pages_give old new e es token text parameters size o all none fits asks run =
    let is_some_request : Some run.0 ≡ Some (query token text parameters (Some size)) = sym run.1 ∙ asks in
    let request : run.0 ≡ query token text parameters (Some size) = cc in
    let replied : e.reply ≡ (solo old (query token text parameters (Some size))).reply = run.2 ∙ ap (λ r. (solo old r).reply) request in
    let rest = subst (λ r. SoloRun (solo old r).state es new) request run.4 in
    subst (λ reply. GivesPages old (query token text parameters (Some size)) reply es new token size o) (sym replied) (query_gives old new es token text parameters size o all none fits rest)

-- what is behind the first exchanges of a run
behind_run : (before rest : List Exchange) (old mid new : State) → SoloRun old (before ++ rest) new → SoloRun old before mid → SoloRun mid rest new
behind_run [] rest old mid new run alone = subst (λ s. SoloRun s rest new) (sym alone) run
behind_run (e ∷ before) rest old mid new run alone =
    let both : Some run.0 ≡ Some alone.0 = sym run.1 ∙ alone.1 in
    let request : run.0 ≡ alone.0 = cc in
    behind_run before rest (solo old run.0).state mid new run.4 (subst (λ r. SoloRun (solo old r).state before mid) (sym request) alone.4)

pub runs_give_pages : RunsGivePages
runs_give_pages old new t all before mid e es token text parameters size o runs own_are alone are none fits asks =
    pages_give mid (state_at new t) e es token text parameters size o (run_stays before (state_at old t) mid alone are) none fits asks
    (behind_run before (e ∷ es) (state_at old t) mid (state_at new t) (subst (λ xs. SoloRun (state_at old t) xs (state_at new t)) own_are (runs.solo t)) alone)

-- ---- what a pull is answered

gone : (token : List ℕ) (number : ℕ) (pages : List Page) → find (λ q. nat_eq q.number number && bytes_eq q.token token) (without_page number pages) ≡ None
gone token number [] = refl
gone token number (p ∷ pages) = by_number (nat_eq p.number number) refl (gone token number pages)
  where
    by_number : (b : Bool) → nat_eq p.number number ≡ b → find (λ q. nat_eq q.number number && bytes_eq q.token token) (without_page number pages) ≡ None
        → find (λ q. nat_eq q.number number && bytes_eq q.token token) (cond (not b) (p ∷ without_page number pages) (without_page number pages)) ≡ None
    by_number true is later = later
    by_number false is later = ap (λ b. cond (b && bytes_eq p.token token) (Some p) (find (λ q. nat_eq q.number number && bytes_eq q.token token) (without_page number pages))) is ∙ later

token_stays : (number : ℕ) (rows : List (List ℕ)) (p : Page) → (given_rows number rows p).token ≡ p.token
token_stays number rows p = by_test (nat_eq p.number number)
  where
    by_test : (b : Bool) → (let q : Page = if b then record p { rows = rows } else p in q).token ≡ p.token
    by_test true = refl
    by_test false = refl

given_found : (token : List ℕ) (number : ℕ) (rows : List (List ℕ)) (pages : List Page)
    → find (λ q. nat_eq q.number number && bytes_eq q.token token) (with_rows number rows pages) ≡ option_map (given_rows number rows) (find (λ q. nat_eq q.number number && bytes_eq q.token token) pages)
given_found token number rows [] = refl
given_found token number rows (p ∷ pages) =
    let after = find (λ q. nat_eq q.number number && bytes_eq q.token token) (with_rows number rows pages) in
    let given = given_rows number rows p in
    ap (λ n. cond (nat_eq n number && bytes_eq given.token token) (Some given) after) (number_stays number rows p)
    ∙ ap (λ t. cond (nat_eq p.number number && bytes_eq t token) (Some given) after) (token_stays number rows p)
    ∙ by_test (nat_eq p.number number && bytes_eq p.token token) (given_found token number rows pages)
  where
    by_test : (b : Bool) → find (λ q. nat_eq q.number number && bytes_eq q.token token) (with_rows number rows pages) ≡ option_map (given_rows number rows) (find (λ q. nat_eq q.number number && bytes_eq q.token token) pages)
        → cond b (Some (given_rows number rows p)) (find (λ q. nat_eq q.number number && bytes_eq q.token token) (with_rows number rows pages))
        ≡ option_map (given_rows number rows) (cond b (Some p) (find (λ q. nat_eq q.number number && bytes_eq q.token token) pages))
    by_test true later = refl
    by_test false later = later

module _ (s : State) (token : List ℕ) (number : ℕ) where
  abbrev found_rows : Result Page Fault → List (List ℕ)
  found_rows page = elim page [ Ok p ↦ p.rows | Err fault ↦ [] ]

  abbrev found_next : Result Page Fault → List (List ℕ)
  found_next page = elim page [ Ok p ↦ take p.size p.rows | Err fault ↦ [] ]

  -- what is left of a page is what was not pulled
  left_after : (p : Page) (rows : List (List ℕ)) → p.number ≡ number → page_of s.held token number ≡ Ok p → left_of (record s { held = (left_with p rows s.held).1 }) token number ≡ rows
  left_after p [] same is =
      ap (λ n. left_of (record s { held = record s.held { pages = without_page n s.held.pages } }) token number) same
      ∙ ap (λ x. found_rows (page_by x)) (gone token number s.held.pages)
  left_after p (row ∷ rows) same is =
      let found = find (λ q. nat_eq q.number number && bytes_eq q.token token) s.held.pages in
      ap (λ n. left_of (record s { held = record s.held { pages = with_rows n (row ∷ rows) s.held.pages } }) token number) same
      ∙ ap (λ x. found_rows (page_by x)) (given_found token number (row ∷ rows) s.held.pages ∙ ap (option_map (given_rows number (row ∷ rows))) (found_page found p is))
      ∙ ap (λ b. (let q : Page = if b then record p { rows = row ∷ rows } else p in q).rows) (eq-eqb p.number number same)

  number_left : (p : Page) (rows : List (List ℕ)) → p.number ≡ number → (left_with p rows s.held).0 ≡ number_if_any rows number
  number_left p [] same = refl
  number_left p (row ∷ rows) same = ap (λ n. Some n) same

  abbrev Told : Replied → (taken : List (List ℕ)) → Type 0
  Told after taken =
      (IsRefused after.reply × (taken ≡ []) × (after.state ≡ s))
      ⊎ ((after.reply ≡ pulled_text (number_if_any (left_of after.state token number) number) taken) × (taken ++ left_of after.state token number ≡ left_of s token number))

  told_page : (page : Result Page Fault) → page_of s.held token number ≡ page → Told (reported s (pull_by s page)) (found_next page)
  told_page (Err f) is = inl ((f, refl), refl, refl)
  told_page (Ok p) is =
      let same = number_of_page s.held token number p is in
      let rest = drop p.size p.rows in
      let left = left_after p rest same is in
      inr (
        ap (λ n. pulled_text n (take p.size p.rows)) (number_left p rest same ∙ ap (λ rows. number_if_any rows number) (sym left)),
        ap (λ rows. take p.size p.rows ++ rows) left ∙ take-append-drop p.size p.rows ∙ sym (ap found_rows is),
      )

  told_busy : (free : Bool) → Told (reported s (unless free TenantBusy >> Err TransactionOpen)) []
  told_busy true = inl ((TransactionOpen, refl), refl, refl)
  told_busy false = inl ((TenantBusy, refl), refl, refl)

  told_by : (o : Option Transaction) → Told (reported s (unless (not (is_busy o token)) TenantBusy >> (unless (not (is_some o)) TransactionOpen >> pull_by s (page_of s.held token number))))
      (let taken : List (List ℕ) = if not (is_some o) && true then next_rows s token number else [] in taken)
  told_by (Some t) = told_busy (not (is_busy (Some t) token))
  told_by None = told_page (page_of s.held token number) refl

pub pulls_give : PullsGive
pulls_give s token number =
    subst (Told s token number (solo s (pull token number)))
    (ap (λ b. let taken : List (List ℕ) = if b then next_rows s token number else [] in taken) (sym (named_so token number 0 (not (is_open s))))) (told_by s token number s.transaction)
