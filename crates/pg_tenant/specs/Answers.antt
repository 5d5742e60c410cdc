-- What a query is answered: the text of a reply, the graph that it leaves, and the rows that are held after it.
use Rattle.std.specs.Prelude.{ℕ, nat_le, List, map, length, Option, Some, None, Result, Ok, Err, if◌then◌else◌}
use Rattle.serde_json.specs.Data.{Data, Items, array, string}
use Rattle.serde_json.specs.Written.{compact_text}
use Rattle.pg_json.specs.Pages.{row_text}
use Rattle.pg_json.specs.Replies.{items_of, query_data, max_reply}
use Rattle.pg_meaning.specs.Answer.{◌>>=◌}
use Rattle.pg_meaning.specs.Graph.{Graph}
use Rattle.pg_meaning.specs.Queries.{Outcome}
use Rattle.pg_meaning.specs.Value.{Value, values_of}
use Rattle.pg_meaning.specs.declared.fault.Fault.{Fault}
use Rattle.pg_meaning.specs.declared.fault.Fault.TheVariants.{ReplyTooLong}
use Rattle.pg_pages.specs.Held.{Held, first_page}
use Rattle.pg_run.specs.Printed.{printed_items}
use Rattle.pg_run.specs.Told.{printed_rows}

abbrev pub row_data : Graph → List Value → Data
row_data graph row = array (printed_items graph (values_of row))

abbrev pub column_items : Outcome → Items
column_items o = items_of (map string o.columns)

abbrev pub outcome_data : Outcome → Data
outcome_data o = query_data (column_items o) (items_of (map (row_data o.graph) o.rows)) o.steps

-- {"code":0,"columns":[..],"rows":[[..],..],"steps":n}
unfoldable pub outcome_text : Outcome → List ℕ
outcome_text o = compact_text (outcome_data o)

-- each row as it is printed
abbrev pub row_texts : Outcome → List (List ℕ)
row_texts o = map row_text (printed_rows o.graph o.rows)

-- a reply that would be too long is refused
abbrev pub limited : List ℕ → Result (List ℕ) Fault
limited reply = if nat_le (length reply) max_reply then Ok reply else Err ReplyTooLong

-- an outcome whose reply with all rows isn't too long
abbrev pub fitting : Result Outcome Fault → Result Outcome Fault
fitting outcome = outcome >>= λ o. limited (outcome_text o) >>= λ reply. Ok o

-- a reply, the graph that it leaves, and what is held after it
pub record Answered : Type 0 where
  pub reply : List ℕ
  pub graph : Graph
  pub held : Held

abbrev pub answered : (reply : List ℕ) → Graph → Held → Answered
answered reply graph held = record { reply = reply; graph = graph; held = held }

-- all rows at once; or the first `size`, while the others are held for the token
abbrev pub shown : Held → (max_held : ℕ) → (token : List ℕ) → (page : Option ℕ) → Outcome → Result Answered Fault
shown held max_held token None o = Ok (answered (outcome_text o) o.graph held)
shown held max_held token (Some size) o =
    first_page held max_held token size (column_items o) (row_texts o) o.steps >>= λ p. Ok (answered p.0 o.graph p.1)

abbrev pub shown_if_fitting : Held → (max_held : ℕ) → (token : List ℕ) → (page : Option ℕ) → Result Outcome Fault → Result Answered Fault
shown_if_fitting held max_held token page outcome = fitting outcome >>= shown held max_held token page
