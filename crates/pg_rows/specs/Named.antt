-- Rows whose columns have names: the definitions' rows, of names and values that stand apart.
use Rattle.std.specs.Prelude.{◌≡◌, ◌<◌, ◌≤◌, ℕ, Some, true, false, cond, is_some, List, [], ◌∷◌, ◌++◌, map, length, zip, position, bytes_eq, slice_get}
use Rattle.std.specs.Option.{option_and_then}
use Rattle.pg_meaning.specs.Rows.{Row, value_in, values_in, bind_new}
use Rattle.pg_meaning.specs.Value.{Value}

-- the values under the names
abbrev pub row_of : (names : List (List ℕ)) → List Value → Row
row_of names values = zip names values

abbrev pub rows_named : (names : List (List ℕ)) → List (List Value) → List Row
rows_named names rows = map (row_of names) rows

-- the names with one more at the end, unless it is there
abbrev pub with_name : List ℕ → (names : List (List ℕ)) → List (List ℕ)
with_name name names = cond (is_some (position (bytes_eq name) names)) names (names ++ name ∷ [])

-- so many of the first names are each the first of their name
abbrev pub AreFirsts : ℕ → (names : List (List ℕ)) → Type 0
AreFirsts n names = (n ≤ length names) × ((i : ℕ) (x : List ℕ) → i < n → slice_get names i ≡ Some x → position (bytes_eq x) names ≡ Some i)

-- a variable's value stands in the first column of its name
abbrev pub ValuesStandInColumns : Type 0
ValuesStandInColumns = (name : List ℕ) (names : List (List ℕ)) (values : List Value) → value_in name (row_of names values) ≡ option_and_then (slice_get values) (position (bytes_eq name) names)

-- a row with a value for each name and one more value is the row with one more variable
abbrev pub NewColumnsBind : Type 0
NewColumnsBind = (name : List ℕ) (names : List (List ℕ)) (values : List Value) (v : Value) → length values ≡ length names → is_some (position (bytes_eq name) names) ≡ false
    → row_of (with_name name names) (values ++ v ∷ []) ≡ bind_new name v (row_of names values)

-- a name that is there binds nothing new
abbrev pub OldColumnsStay : Type 0
OldColumnsStay = (name : List ℕ) (names : List (List ℕ)) (values : List Value) (v : Value) → length values ≡ length names → is_some (position (bytes_eq name) names) ≡ true
    → row_of (with_name name names) values ≡ bind_new name v (row_of names values)

-- the values of a row under names are the row's own
abbrev pub ValuesAreTheRow : Type 0
ValuesAreTheRow = (names : List (List ℕ)) (values : List Value) → length values ≡ length names → values_in (row_of names values) ≡ values
