-- A query's reply while its rows are told: written as long as it may fit, then looked through for its fault alone.
use Rattle.std.specs.Prelude.{◌≡◌, ◌≢◌, ℕ, ◌+◌, ◌-◌, nat_le, Bool, List, [], ◌∷◌, ◌++◌, length, map, Result, Ok, Err, OnOk, Option, Some, None, if◌then◌else◌}
use Rattle.serde_json.specs.Data.{Data, Items}
use Rattle.pg_json.specs.Replies.{max_reply}
use Rattle.pg_json.specs.Room.{items_least}
use Rattle.pg_json.specs.Pages.{QueryText, query_text}
use Rattle.pg_json.specs.Rows.{rows_data}
use Rattle.pg_json.specs.Telling.{HasRow, HasWritten}
use Rattle.pg_meaning.specs.Answer.{◌>>◌}
use Rattle.pg_meaning.specs.Graph.{Graph}
use Rattle.pg_meaning.specs.Queries.{test_items}
use Rattle.pg_meaning.specs.Value.{Value, values_of}
use Rattle.pg_meaning.specs.declared.fault.Fault.{Fault}
use Rattle.pg_meaning.specs.declared.fault.Fault.TheVariants.{OutOfMemory, ReplyTooLong}
use Rattle.pg_run.specs.Printed.{printed, printed_items}
use Rattle.pg_run.specs.Told.{printed_rows, test_told}
use Rattle.pg_run.specs.declared.reply_writer.ReplyWriter.{ReplyWriter}

-- ---- what a query's rows are answered

-- a reply whose text may be one
abbrev pub fitting : QueryText → Result QueryText Fault
fitting reply = if nat_le (length reply.text) max_reply then Ok reply else Err ReplyTooLong

-- the reply of these rows, with their ends where they are noted: a deleted element is told before a length
abbrev pub told : (notes : Bool) → Graph → (columns : Items) → List (List Value) → (steps : ℕ) → Result QueryText Fault
told notes graph columns rows steps = test_told graph rows >> fitting (query_text notes columns (printed_rows graph rows) steps)

-- ---- before all rows are there

-- what the test has found so far
abbrev pub Tested : Option Fault → Result (Unit {0}) Fault → Type 0
Tested None r = r ≡ Ok tt
Tested (Some e) r = e ≢ OutOfMemory → r ≡ Err e

-- a length that the rows' text has at least
abbrev pub rows_least : Graph → List (List Value) → ℕ
rows_least graph rows = items_least (rows_data (printed_rows graph rows))

-- one byte more than a reply may have
abbrev pub whole_room : ℕ
whole_room = max_reply + 1

-- these rows are told
pub record IsTelling (notes : Bool) (graph : Graph) (columns : Items) (rows : List (List Value)) (t : ReplyWriter) : Type 0 where
  pub tested : Tested t.fault (test_told graph rows)
  pub counted : t.fault ≡ None → t.room ≡ whole_room - rows_least graph rows
  pub written : t.fault ≡ None → t.room ≢ 0 → HasWritten t.reply notes columns (printed_rows graph rows)

-- these rows are told, and of one row more these values
pub record IsTellingRow (notes : Bool) (graph : Graph) (columns : Items) (rows : List (List Value)) (row : List Value) (t : ReplyWriter) : Type 0 where
  pub tested : Tested t.fault (test_told graph rows >> test_items graph (values_of row))
  pub counted : t.fault ≡ None → t.room ≡ whole_room - rows_least graph rows - items_least (printed_items graph (values_of row))
  pub written : t.fault ≡ None → t.room ≢ 0 → HasRow t.reply notes columns (printed_rows graph rows) (map (printed graph) row)

-- the room is less by what is put, and while some is left this is the row's next value
pub record Puts {E : Type 0} (result : Result (Unit {0}) E) (old new : ReplyWriter) (d : Data) (taken : ℕ) : Type 0 where
  pub fault : new.fault ≡ old.fault
  pub room : new.room ≡ old.room - taken
  pub lost : new.room ≡ 0 → new.reply ≡ old.reply
  pub written : (notes : Bool) (columns : Items) (rows : List Items) (row : List Data)
      → OnOk result (new.room ≢ 0 → HasRow old.reply notes columns rows row → HasRow new.reply notes columns rows (row ++ d ∷ []))

-- no reply of rows can come of it any more: a fault was found, or there is no room for what was told
abbrev pub IsLost : ReplyWriter → Type 0
IsLost t = t.fault ≡ None → t.room ≡ 0
