-- Solo: one tenant's answer to a request of its own, from its own state.
use Rattle.std.specs.Prelude.{ℕ, Bool, false, not, List, map, Option, Some, None, Result, Ok, Err}
use Rattle.std.specs.Str.{bytes_eq}
use Rattle.serde_json.specs.Data.{Items}
use Rattle.serde_json.specs.Written.{compact_text}
use Rattle.pg_json.specs.Refusals.{refusal_text, done_text}
use Rattle.pg_json.specs.Replies.{items_of, index_data, status_data}
use Rattle.pg_json.specs.Requests.{Request, token_of, query, status, create_index, drop_index, begin, commit, rollback, pull, drop_page}
use Rattle.pg_meaning.specs.Answer.{◌>>=◌, ◌>>◌, unless}
use Rattle.pg_meaning.specs.Graph.{element_count}
use Rattle.pg_meaning.specs.Plans.{Catalogue}
use Rattle.pg_meaning.specs.Value.{Entries}
use Rattle.pg_meaning.specs.declared.fault.Fault.{Fault}
use Rattle.pg_meaning.specs.declared.fault.Fault.TheVariants.{ReadOnly, TenantBusy, NoTransaction, TransactionOpen}
use Rattle.pg_pages.specs.Held.{dropped, pulled}
use Rattle.pg_tenant.specs.Answers.{Answered, limited, shown_if_fitting}
use Rattle.pg_tenant.specs.Indexes.{index_created, index_dropped}
use Rattle.pg_tenant.specs.Outcomes.{text_outcome}
use Rattle.pg_tenant.specs.Settings.{may_write}
use Rattle.pg_tenant.specs.State.{State, Transaction, is_open}

-- a reply, and the state that it leaves
pub record Replied : Type 0 where
  pub reply : List ℕ
  pub state : State

abbrev pub replies : List ℕ → State → Replied
replies reply s = record { reply = reply; state = s }

abbrev pub done : State → Replied
done s = replies done_text s

-- ---- queries and pages

-- in a transaction no rows are held, and none are pulled
abbrev pub pages_tested : State → Result (Unit {0}) Fault
pages_tested s = unless (not (is_open s)) TransactionOpen

-- all rows at once, or page by page
abbrev pub page_tested : State → (page : Option ℕ) → Result (Unit {0}) Fault
page_tested s None = Ok tt
page_tested s (Some size) = pages_tested s

abbrev pub query_answered : State → (token text : List ℕ) → (parameters : Entries) → (page : Option ℕ) → Result Answered Fault
query_answered s token text parameters page =
    page_tested s page
    >> shown_if_fitting s.held s.settings.max_held token page
    (text_outcome (may_write s.settings token) s.settings.max_steps s.settings.max_elements parameters s.indexes s.graph text)

abbrev pub with_answer : State → Result Answered Fault → Result Replied Fault
with_answer s answer = answer >>= λ a. Ok (replies a.reply (record s { graph = a.graph; held = a.held }))

-- the next rows of a page of the token's
abbrev pub pulls : State → (token : List ℕ) → (number : ℕ) → Result Replied Fault
pulls s token number = pages_tested s >> (pulled s.held token number >>= λ p. Ok (replies p.0 (record s { held = p.1 })))

-- such a page is gone
abbrev pub drops : State → (token : List ℕ) → (number : ℕ) → Result Replied Fault
drops s token number = pages_tested s >> (dropped s.held token number >>= λ held. Ok (done (record s { held = held })))

-- ---- indexes and status

abbrev pub with_indexes : State → Result Catalogue Fault → Result Replied Fault
with_indexes s indexes = indexes >>= λ is. Ok (done (record s { indexes = is }))

abbrev pub index_items : Catalogue → Items
index_items indexes = items_of (map (λ i. index_data i.0 i.1) indexes)

-- {"code":0,"elements":n,"indexes":[[label,key],..],"max_elements":n,"max_steps":n,"next_node":n,"next_rel":n}
unfoldable pub status_text : State → List ℕ
status_text s = compact_text (status_data (element_count s.graph) (index_items s.indexes) s.settings.max_elements s.settings.max_steps s.graph.next_node s.graph.next_relationship)

abbrev pub with_status : State → Result Replied Fault
with_status s = limited (status_text s) >>= λ reply. Ok (replies reply s)

-- ---- transactions

abbrev pub begins : State → (token : List ℕ) → Result Replied Fault
begins s token = do
  unless (may_write s.settings token) ReadOnly
  unless (not (is_open s)) TransactionOpen
  let t : Transaction = record { token = token; begun = s.graph }
  Ok (done (record s { transaction = Some t }))

-- the token may end a transaction, and one is open
abbrev pub end_tested : State → (token : List ℕ) → Result (Unit {0}) Fault
end_tested s token = unless (may_write s.settings token) ReadOnly >> unless (is_open s) NoTransaction

-- what was done stays
abbrev pub commits : State → (token : List ℕ) → Result Replied Fault
commits s token = end_tested s token >> Ok (done (record s { transaction = None }))

-- the graph is that of the begin again, its counters too
abbrev pub gone_back : State → State
gone_back s = elim s.transaction [ Some t ↦ record s { graph = t.begun; transaction = None } | None ↦ s ]

abbrev pub rolls_back : State → (token : List ℕ) → Result Replied Fault
rolls_back s token = end_tested s token >> Ok (done (gone_back s))

-- ---- requests

abbrev pub serves : State → Request → Result Replied Fault
serves s (query token text parameters page) = with_answer s (query_answered s token text parameters page)
serves s (status token) = with_status s
serves s (create_index token label key) = with_indexes s (index_created (may_write s.settings token) (is_open s) s.indexes label key)
serves s (drop_index token label key) = with_indexes s (index_dropped (may_write s.settings token) (is_open s) s.indexes label key)
serves s (begin token) = begins s token
serves s (commit token) = commits s token
serves s (rollback token) = rolls_back s token
serves s (pull token page) = pulls s token page
serves s (drop_page token page) = drops s token page

-- while one token has a transaction open, the tenant's others wait
abbrev pub is_busy : Option Transaction → (token : List ℕ) → Bool
is_busy None token = false
is_busy (Some t) token = not (bytes_eq t.token token)

-- each refusal leaves the tenant as it was
abbrev pub reported : State → Result Replied Fault → Replied
reported s (Ok replied) = replied
reported s (Err fault) = replies (refusal_text fault) s

abbrev pub solo : State → Request → Replied
solo s request = reported s (unless (not (is_busy s.transaction (token_of request))) TenantBusy >> serves s request)
