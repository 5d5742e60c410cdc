-- Which requests may change what their tenant has, and what is told of that.
use Rattle.std.specs.Prelude.{◌≡◌, ◌≢◌, ℕ, Bool, true, false, ◌||◌, List, is_some, Result, Ok, Err}
use Rattle.pg_json.specs.Refusals.{refusal_text}
use Rattle.pg_json.specs.Requests.{Request, query, status, create_index, drop_index, begin, commit, rollback, pull, drop_page}
use Rattle.pg_meaning.specs.Graph.{IsGraph}
use Rattle.pg_meaning.specs.Tree.{Query}
use Rattle.pg_meaning.specs.declared.fault.Fault.{Fault}
use Rattle.pg_plan.specs.Updates.{updates}
use Rattle.pg_tenant.specs.Outcomes.{text_query}
use Rattle.pg_tenant.specs.Solo.{solo}
use Rattle.pg_tenant.specs.State.{State}
use Rattle.pg_tenant.specs.declared.noted.Noted.{Noted}

-- the text is a query that has an updating clause
abbrev pub is_update : Result Query Fault → Bool
is_update (Ok q) = updates q
is_update (Err e) = false

-- Each request that is done may, but a status, and a query without a page whose text has no updating clause. A page holds rows.
abbrev pub may_change : Request → Bool
may_change (query token text parameters page) = is_some page || is_update (text_query text)
may_change (status token) = false
may_change (create_index token label key) = true
may_change (drop_index token label key) = true
may_change (begin token) = true
may_change (commit token) = true
may_change (rollback token) = true
may_change (pull token page) = true
may_change (drop_page token page) = true

-- the others leave all that their tenant has
abbrev pub OthersLeave : Type 0
OthersLeave = (s : State) (request : Request) → IsGraph s.graph → may_change request ≡ false → (solo s request).state ≡ s

-- ---- what is told

-- the text of no refusal
abbrev pub IsNoRefusal : List ℕ → Type 0
IsNoRefusal reply = (fault : Fault) → reply ≢ refusal_text fault

-- the reply alone
abbrev pub reply_in : Result Noted Fault → Result (List ℕ) Fault
reply_in (Ok noted) = Ok noted.reply
reply_in (Err e) = Err e
