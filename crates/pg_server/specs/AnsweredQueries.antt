-- AnsweredQuery: how the reply to a query, and the state after it, are ones that the language's meaning gives.
use Rattle.std.specs.Prelude.{◌≡◌, ◌≢◌, ℕ, ◌+◌, ◌<◌, ◌≤◌, ◌⊎◌, true, false, not, ◌&&◌, ◌||◌, List, [], ◌∷◌, ◌++◌, length, take, drop, Option, Some, None, is_some, Ok, Err}
use Rattle.pg_json.specs.Pages.{paged_text}
use Rattle.pg_json.specs.Refusals.{refusal_text}
use Rattle.pg_json.specs.Replies.{max_reply}
use Rattle.pg_json.specs.Requests.{Request, query, status, create_index, drop_index, begin, commit, rollback, pull, drop_page}
use Rattle.pg_meaning.specs.Grammar.{parameters_of}
use Rattle.pg_meaning.specs.Meaning.{Means, MayFault}
use Rattle.pg_meaning.specs.Meters.{greatest_id}
use Rattle.pg_meaning.specs.Queries.{Outcome}
use Rattle.pg_meaning.specs.Tree.{Query}
use Rattle.pg_meaning.specs.Value.{Value, Entries}
use Rattle.pg_meaning.specs.declared.fault.Fault.{Fault}
use Rattle.pg_meaning.specs.declared.fault.Fault.TheVariants.{TenantBusy, TransactionOpen, ReadOnly, MissingParameter, StepQuota, ReplyTooLong, HeldRowsQuota, IdsExhausted}
use Rattle.pg_pages.specs.Held.{Held, Page, held_rows}
use Rattle.pg_plan.specs.Updates.{updates}
use Rattle.pg_tenant.specs.Answers.{column_items, outcome_text, row_texts}
use Rattle.pg_tenant.specs.Outcomes.{all_given, text_query}
use Rattle.pg_tenant.specs.Settings.{may_write}
use Rattle.pg_tenant.specs.Solo.{is_busy}
use Rattle.pg_tenant.specs.State.{State, is_open}

-- ---- what a reply shows

-- the rows that are left wait under the next number, behind all others; where none are left, no number is taken
abbrev pub HoldsOthers : (old : State) → (token : List ℕ) → (size : ℕ) → (others : List (List ℕ)) → (number : Option ℕ) → (new : Held) → Type 0
HoldsOthers old token size others None new = (others ≡ []) × (new ≡ old.held)
HoldsOthers old token size others (Some n) new =
    (others ≢ [])
    × (held_rows old.held.pages + length others ≤ old.settings.max_held)
    × (n ≡ old.held.next)
    × (n < greatest_id)
    × (new ≡ (let page : Page = record { number = n; token = token; size = size; rows = others } in let h : Held = record { pages = old.held.pages ++ page ∷ []; next = n + 1 } in h))

-- the reply is the text of all rows, and nothing more is held; or that of the first `size`, and the others are held
abbrev pub ShowsRows : (old : State) → (token : List ℕ) → (page : Option ℕ) → Outcome → (reply : List ℕ) → (new : Held) → Type 0
ShowsRows old token None o reply new = (reply ≡ outcome_text o) × (new ≡ old.held)
ShowsRows old token (Some size) o reply new =
    (number : Option ℕ)
    × (reply ≡ paged_text (column_items o) number (take size (row_texts o)) o.steps)
    × HoldsOthers old token size (drop size (row_texts o)) number new

-- ---- answered

-- what is tested of the request before it is answered
abbrev pub MayAnswer : State → (token : List ℕ) → (parameters : Entries) → (page : Option ℕ) → Query → Type 0
MayAnswer old token parameters page q =
    (is_busy old.transaction token ≡ false)
    × (is_some page && is_open old ≡ false)
    × (may_write old.settings token || not (updates q) ≡ true)
    × (all_given (parameters_of q) parameters ≡ true)

-- columns, rows and the new graph are ones that the meaning of the query gives, and the reply shows exactly these
pub record GivenByMeaning (old : State) (token text : List ℕ) (parameters : Entries) (page : Option ℕ) (reply : List ℕ) (new : State) : Type 0 where
  pub q : Query
  pub reads : text_query text ≡ Ok q
  pub columns : List (List ℕ)
  pub rows : List (List Value)
  pub steps : ℕ
  pub tested : MayAnswer old token parameters page q
  pub means : Means q parameters old.settings.max_elements old.graph columns rows new.graph
  pub fits : length (outcome_text (record { columns = columns; rows = rows; graph = new.graph; steps = steps })) ≤ max_reply
  pub shows : ShowsRows old token page (record { columns = columns; rows = rows; graph = new.graph; steps = steps }) reply new.held
  pub stays : new ≡ record old { graph = new.graph; held = new.held }

-- ---- refused

-- the meaning gives the query these rows and a graph, whose reply with all rows is too long
abbrev pub IsTooLong : State → Query → (parameters : Entries) → Outcome → Type 0
IsTooLong old q parameters o = Means q parameters old.settings.max_elements old.graph o.columns o.rows o.graph × (max_reply < length (outcome_text o))

-- why rows can't be held
abbrev pub MayNotHold : State → (others : List (List ℕ)) → Fault → Type 0
MayNotHold old others fault =
    ((fault ≡ HeldRowsQuota) × (old.settings.max_held < held_rows old.held.pages + length others))
    ⊎ ((fault ≡ IdsExhausted) × (others ≢ []) × (greatest_id ≤ old.held.next))

-- with a page: the meaning gives the query these rows and a graph, and those after the first `size` can't be held
abbrev pub IsNotHeld : State → Query → (parameters : Entries) → (page : Option ℕ) → Outcome → Fault → Type 0
IsNotHeld old q parameters None o fault = ⊥
IsNotHeld old q parameters (Some size) o fault = Means q parameters old.settings.max_elements old.graph o.columns o.rows o.graph × MayNotHold old (drop size (row_texts o)) fault

-- the faults of a query that its text reads as
abbrev pub MayRefuseQuery : State → (token : List ℕ) → (parameters : Entries) → (page : Option ℕ) → Query → Fault → Type 0
MayRefuseQuery old token parameters page q fault =
    ((fault ≡ ReadOnly) × (may_write old.settings token ≡ false) × (updates q ≡ true))
    ⊎ ((fault ≡ MissingParameter) × (all_given (parameters_of q) parameters ≡ false))
    ⊎ (fault ≡ StepQuota)
    ⊎ MayFault q parameters old.settings.max_elements old.graph fault
    ⊎ ((fault ≡ ReplyTooLong) × (o : Outcome) × IsTooLong old q parameters o)
    ⊎ ((o : Outcome) × IsNotHeld old q parameters page o fault)

-- the faults of a query's request
abbrev pub MayRefuse : State → (token text : List ℕ) → (parameters : Entries) → (page : Option ℕ) → Fault → Type 0
MayRefuse old token text parameters page fault =
    ((fault ≡ TenantBusy) × (is_busy old.transaction token ≡ true))
    ⊎ ((fault ≡ TransactionOpen) × (is_some page ≡ true) × (is_open old ≡ true))
    ⊎ (text_query text ≡ Err fault)
    ⊎ ((q : Query) × (text_query text ≡ Ok q) × MayRefuseQuery old token parameters page q fault)

-- a fault in which the request may end is told, and nothing is changed
pub record RefusedQuery (old : State) (token text : List ℕ) (parameters : Entries) (page : Option ℕ) (reply : List ℕ) (new : State) : Type 0 where
  pub fault : Fault
  pub told : reply ≡ refusal_text fault
  pub kept : new ≡ old
  pub due : MayRefuse old token text parameters page fault

-- ---- both

-- the reply to a query and the state after it; of other requests nothing is said
abbrev pub AnsweredQuery : (old : State) → Request → (reply : List ℕ) → (new : State) → Type 0
AnsweredQuery old (query token text parameters page) reply new = GivenByMeaning old token text parameters page reply new ⊎ RefusedQuery old token text parameters page reply new
AnsweredQuery old (status token) reply new = Unit {0}
AnsweredQuery old (create_index token label key) reply new = Unit {0}
AnsweredQuery old (drop_index token label key) reply new = Unit {0}
AnsweredQuery old (begin token) reply new = Unit {0}
AnsweredQuery old (commit token) reply new = Unit {0}
AnsweredQuery old (rollback token) reply new = Unit {0}
AnsweredQuery old (pull token page) reply new = Unit {0}
AnsweredQuery old (drop_page token page) reply new = Unit {0}
