-- Replies to RETURN 1: one that is an answered query, and some that are none.
use Rattle.std.specs.Prelude.{◌≡◌, ℕ, pos, false, List, [], ◌∷◌, Some, None, Ok, codes}
use Rattle.pg_json.specs.Refusals.{refusal_text}
use Rattle.pg_json.specs.Requests.{Request, query}
use Rattle.pg_meaning.specs.Graph.{empty_graph}
use Rattle.pg_meaning.specs.Tree.{Item, Projection, Query, literal, return_rows}
use Rattle.pg_meaning.specs.Value.{Value, integer, no_entries}
use Rattle.pg_meaning.specs.declared.fault.Fault.{Fault}
use Rattle.pg_meaning.specs.declared.fault.Fault.TheVariants.{StepQuota, TenantBusy}
use Rattle.pg_pages.specs.Held.{Page}
use Rattle.pg_server.specs.AnsweredQueries.{AnsweredQuery}
use Rattle.pg_tenant.specs.Answers.{outcome_text}
use Rattle.pg_tenant.specs.InstancesOfTransactions.{idle, mid, one_node}
use Rattle.pg_tenant.specs.Outcomes.{text_query}
use Rattle.pg_tenant.specs.State.{State}

abbrev pub one_item : Item
one_item = record { start = 7; source = codes "1"; value = literal (integer (pos 1)); alias = None }

abbrev pub one_returned : Projection
one_returned = record { distinct = false; star = None; items = one_item ∷ []; order = []; skip = None; limit = None }

abbrev pub returns_one : Query
returns_one = record { clauses = return_rows one_returned ∷ []; semicolon = false }

abbrev pub asks_one : (token : List ℕ) → Request
asks_one token = query token (codes "RETURN 1") no_entries None

abbrev pub row_of : ℕ → List Value
row_of n = integer (pos n) ∷ []

-- a column 1, with these rows
abbrev pub told_rows : List (List Value) → (steps : ℕ) → List ℕ
told_rows rows steps = outcome_text (record { columns = codes "1" ∷ []; rows = rows; graph = empty_graph; steps = steps })

abbrev pub grown : State
grown = record idle { graph = one_node }

-- the same, one row at a time, and a state in which a row waits
abbrev pub pages_one : Request
pages_one = query (codes "a") (codes "RETURN 1") no_entries (Some 1)

abbrev pub waiting : State
waiting = let page : Page = record { number = 0; token = codes "a"; size = 1; rows = codes "[1]" ∷ [] } in record idle { held = record { pages = page ∷ []; next = 1 } }

-- the row [1], and no row more, none less and no other; over the graph as it was; not while another token has a transaction open; no row waits that is shown
abbrev pub InstancesOfAnswers : Type 0
InstancesOfAnswers =
    (text_query (codes "RETURN 1") ≡ Ok returns_one)
    × AnsweredQuery idle (asks_one (codes "a")) (told_rows (row_of 1 ∷ []) 2) idle
    × ((steps : ℕ) → AnsweredQuery idle (asks_one (codes "a")) (told_rows (row_of 1 ∷ row_of 1 ∷ []) steps) idle → ⊥)
    × ((steps : ℕ) → AnsweredQuery idle (asks_one (codes "a")) (told_rows [] steps) idle → ⊥)
    × ((steps : ℕ) → AnsweredQuery idle (asks_one (codes "a")) (told_rows (row_of 2 ∷ []) steps) idle → ⊥)
    × ((steps : ℕ) → AnsweredQuery idle (asks_one (codes "a")) (told_rows (row_of 1 ∷ []) steps) grown → ⊥)
    × ((steps : ℕ) → AnsweredQuery mid (asks_one (codes "a")) (told_rows (row_of 1 ∷ []) steps) mid → ⊥)
    × ((reply : List ℕ) → AnsweredQuery idle pages_one reply waiting → ⊥)

-- a refusal changes nothing
abbrev pub InstancesOfRefusals : Type 0
InstancesOfRefusals =
    AnsweredQuery idle (asks_one (codes "a")) (refusal_text StepQuota) idle
    × ((fault : Fault) → AnsweredQuery idle (asks_one (codes "a")) (refusal_text fault) grown → ⊥)
    × AnsweredQuery mid (asks_one (codes "a")) (refusal_text TenantBusy) mid

abbrev pub InstancesOfAnsweredQueries : Type 0
InstancesOfAnsweredQueries = InstancesOfAnswers × InstancesOfRefusals
