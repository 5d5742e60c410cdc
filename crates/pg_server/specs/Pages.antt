-- What pages promise: a query's first page and its pulls give the rows that the query had.
use Rattle.std.specs.Prelude.{◌≡◌, ℕ, nat_eq, ◌<◌, ◌⊎◌, ◌&&◌, not, List, [], ◌∷◌, ◌++◌, take, Option, Some, None, Result, Ok, Err, if◌then◌else◌, bytes_eq}
use Rattle.std.specs.List.{AllByRecursion}
use Rattle.pg_json.specs.Pages.{paged_text, pulled_text}
use Rattle.pg_json.specs.Refusals.{refusal_text}
use Rattle.pg_json.specs.Requests.{Request, query, status, create_index, drop_index, begin, commit, rollback, pull, drop_page}
use Rattle.pg_meaning.specs.Queries.{Outcome}
use Rattle.pg_meaning.specs.Value.{Entries}
use Rattle.pg_meaning.specs.declared.fault.Fault.{Fault}
use Rattle.pg_meaning.specs.declared.fault.Fault.TheVariants.{IdsExhausted, HeldRowsQuota}
use Rattle.pg_pages.specs.Held.{page_of}
use Rattle.pg_server.specs.Exchange.{Exchange}
use Rattle.pg_server.specs.Runs.{Runs, SoloRun, asked, own}
use Rattle.pg_server.specs.Settings.{Settings}
use Rattle.pg_server.specs.State.{ServerState, opening_server, state_at}
use Rattle.pg_server.specs.Transactions.{IsDone}
use Rattle.pg_tenant.specs.Answers.{column_items, fitting, outcome_text, row_texts}
use Rattle.pg_tenant.specs.Outcomes.{text_outcome}
use Rattle.pg_tenant.specs.Settings.{TenantSettings, may_write}
use Rattle.pg_tenant.specs.Solo.{replies, solo}
use Rattle.pg_tenant.specs.State.{State, is_open, opening, tokens_of}

-- ---- numbers

-- each page has a number that was taken before the next one
abbrev pub ArePages : State → Type 0
ArePages s = AllByRecursion (λ p. p.number < s.held.next) s.held.pages

-- it is so of a tenant that is opened, and it stays so whatever is asked
abbrev pub PagesStay : Type 0
PagesStay =
    ((settings : TenantSettings) → ArePages (opening settings))
    × ((s : State) (request : Request) → ArePages s → ArePages (solo s request).state)

-- and of each tenant of a server
abbrev pub PagesStayInRuns : Type 0
PagesStayInRuns =
    ((settings : Settings) (t : ℕ) → ArePages (state_at (opening_server settings) t))
    × ((old new : ServerState) (es : List Exchange) (t : ℕ) → Runs old es new
    → ArePages (state_at old t) → ArePages (state_at new t))

-- ---- rows

-- the rows of a page that are held, none where there is no such page
abbrev pub left_of : State → (token : List ℕ) → (number : ℕ) → List (List ℕ)
left_of s token number = elim (page_of s.held token number) [ Ok p ↦ p.rows | Err fault ↦ [] ]

-- and those that a pull takes of it
abbrev pub next_rows : State → (token : List ℕ) → (number : ℕ) → List (List ℕ)
next_rows s token number =
    elim (page_of s.held token number) [ Ok p ↦ take p.size p.rows | Err fault ↦ [] ]

-- what a request takes of this page: its next rows, where it pulls them and no transaction is open
abbrev pub rows_taken : State → (token : List ℕ) → (number : ℕ) → Request → List (List ℕ)
rows_taken s token number (pull t n) =
    if not (is_open s) && bytes_eq t token && nat_eq n number then next_rows s token number else []
rows_taken s token number (drop_page t n) = []
rows_taken s token number (query t text parameters page) = []
rows_taken s token number (status t) = []
rows_taken s token number (create_index t label key) = []
rows_taken s token number (drop_index t label key) = []
rows_taken s token number (begin t) = []
rows_taken s token number (commit t) = []
rows_taken s token number (rollback t) = []

-- what a tenant's exchanges take of this page, in their order
abbrev pub rows_pulled : State → (token : List ℕ) → (number : ℕ) → List Exchange → List (List ℕ)
rows_pulled s token number [] = []
rows_pulled s token number (e ∷ es) = elim (asked e.body) [
  | Some request ↦
      rows_taken s token number request ++ rows_pulled (solo s request).state token number es
  | None ↦ rows_pulled s token number es
]

-- the number under which rows are held, where there are any
abbrev pub number_if_any : (rows : List (List ℕ)) → (number : ℕ) → Option ℕ
number_if_any [] number = None
number_if_any (row ∷ rows) number = Some number

abbrev pub IsRefused : List ℕ → Type 0
IsRefused reply = (fault : Fault) × (reply ≡ refusal_text fault)

-- A pull that is refused takes nothing. Each other one is answered the rows that it takes, and the
-- number, unless none are left. What it takes and what it leaves are what was held.
abbrev pub PullsGive : Type 0
PullsGive =
    (s : State) (token : List ℕ) (number : ℕ)
    → let after = solo s (pull token number) in
    let taken = rows_taken s token number (pull token number) in
    (IsRefused after.reply × (taken ≡ []) × (after.state ≡ s))
    ⊎ ((after.reply ≡ pulled_text (number_if_any (left_of after.state token number) number) taken)
    × (taken ++ left_of after.state token number ≡ left_of s token number))

-- ---- queries

-- what a query gives in this state, if its reply with all rows isn't too long
abbrev pub outcome_in : State → (token text : List ℕ) → Entries → Result Outcome Fault
outcome_in s token text parameters =
    fitting (text_outcome (may_write s.settings token) s.settings.max_steps s.settings.max_elements
    parameters s.indexes s.graph text)

-- without pages all rows are answered
abbrev pub WholesGive : Type 0
WholesGive =
    (s : State) (token text : List ℕ) (parameters : Entries) (o : Outcome) → s.transaction ≡ None
    → outcome_in s token text parameters ≡ Ok o
    → solo s (query token text parameters None)
    ≡ replies (outcome_text o) (record s { graph = o.graph })

-- The first rows are all where no page is held. Else, unless the page is dropped, they are followed
-- by those that were pulled since, and these by those that are held still.
abbrev pub GivesAll :
    State → List Exchange → State → (token : List ℕ) → (page : Option ℕ)
    → (first all : List (List ℕ)) → Type 0
GivesAll s es new token None first all = first ≡ all
GivesAll s es new token (Some number) first all =
    AllByRecursion (λ e. IsDone e (drop_page token number) → ⊥) es
    → first ++ (rows_pulled s token number es ++ left_of new token number) ≡ all

-- a query with pages is refused for want of room or of numbers, or it gives its first rows, and the
-- requests behind it give the others
abbrev pub GivesPages :
    State → Request → (reply : List ℕ) → List Exchange → State → (token : List ℕ) → (size : ℕ)
    → Outcome → Type 0
GivesPages old request reply es new token size o =
    ((reply ≡ refusal_text HeldRowsQuota) ⊎ (reply ≡ refusal_text IdsExhausted))
    ⊎ ((page : Option ℕ)
    × (reply ≡ paged_text (column_items o) page (take size (row_texts o)) o.steps)
    × GivesAll (solo old request).state es new token page (take size (row_texts o)) (row_texts o))

-- a tenant's exchanges that begin with a query with pages, whatever is asked behind it
abbrev pub PagesGive : Type 0
PagesGive =
    (old new : State) (e : Exchange) (es : List Exchange)
    (token text : List ℕ) (parameters : Entries) (size : ℕ) (o : Outcome)
    → ArePages old → old.transaction ≡ None → outcome_in old token text parameters ≡ Ok o
    → asked e.body ≡ Some (query token text parameters (Some size)) → SoloRun old (e ∷ es) new
    → GivesPages old (query token text parameters (Some size)) e.reply es new token size o

-- So it is for each tenant of a server, whatever it asked before and whatever others asked. The
-- query is asked in the tenant's state `mid`.
abbrev pub RunsGivePages : Type 0
RunsGivePages =
    (old new : ServerState) (t : ℕ) (all before : List Exchange) (mid : State) (e : Exchange)
    (es : List Exchange) (token text : List ℕ) (parameters : Entries) (size : ℕ) (o : Outcome)
    → Runs old all new → own (tokens_of (state_at old t)) all ≡ before ++ e ∷ es
    → SoloRun (state_at old t) before mid
    → ArePages (state_at old t) → mid.transaction ≡ None
    → outcome_in mid token text parameters ≡ Ok o
    → asked e.body ≡ Some (query token text parameters (Some size))
    → GivesPages mid (query token text parameters (Some size)) e.reply es (state_at new t)
    token size o
