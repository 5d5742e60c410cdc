-- UNWIND over rows of values, whose names stand apart.
use Rattle.std.specs.Prelude.{ℕ, ◌+◌, Bool, cond, List, [], ◌∷◌, ◌++◌, map, Result}
use Rattle.std.specs.Global.{Vec}
use Rattle.pg_meaning.specs.Answer.{◌>>=◌, each_answer}
use Rattle.pg_meaning.specs.Expressions.{evaluate}
use Rattle.pg_meaning.specs.Graph.{Graph}
use Rattle.pg_meaning.specs.Reading.{unwound}
use Rattle.pg_meaning.specs.Tree.{Expression}
use Rattle.pg_meaning.specs.Value.{Value as Datum, Entries}
use Rattle.pg_meaning.specs.declared.fault.Fault.{Fault}
use Rattle.pg_rows.specs.Named.{row_of}
use Rattle.pg_value_core.specs.View.{view}
use Rattle.pg_value_core.specs.declared.value.Value.{Value}

-- the items of the list at a row
abbrev pub list_given : Entries → Graph → Expression → (names : List (List ℕ)) → List Datum → Result (List Datum) Fault
list_given parameters graph e names values = evaluate (row_of names values) parameters graph e >>= unwound

abbrev pub lists_given : Entries → Graph → Expression → (names : List (List ℕ)) → List (List Datum) → Result (List (List Datum)) Fault
lists_given parameters graph e names rows = each_answer (list_given parameters graph e names) rows

abbrev pub lists_view : List (Vec Value) → List (List Datum)
lists_view lists = map (λ l. map view l.items) lists

abbrev pub with_column : Bool → ℕ → ℕ
with_column has_column width = cond has_column (width + 1) width

-- a row with an item behind it, where the items have a column of their own
abbrev pub with_item : (has_column : Bool) → List Datum → Datum → List Datum
with_item has_column row v = cond has_column (row ++ v ∷ []) row

abbrev pub with_items : (has_column : Bool) → List Datum → List Datum → List (List Datum)
with_items has_column row items = map (with_item has_column row) items

-- row after row, as long as there are lists
abbrev pub rows_unwound : (has_column : Bool) → List (List Datum) → List (List Datum) → List (List Datum)
rows_unwound has_column rows [] = []
rows_unwound has_column [] (l ∷ ls) = []
rows_unwound has_column (r ∷ rs) (l ∷ ls) = with_items has_column r l ++ rows_unwound has_column rs ls
