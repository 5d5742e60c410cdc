-- Rows that are moved out one after the other.
use Rattle.std.specs.Prelude.{List, [], ◌∷◌, drop}
use Rattle.pg_meaning.specs.Value.{Value}
use Rattle.pg_rows.specs.Tables.{table}
use Rattle.pg_rows.specs.declared.left.RowsLeft.{RowsLeft}

-- the rows that are left, the next of them first
abbrev pub rows_left : RowsLeft → List (List Value)
rows_left l = drop l.at (table l.rows)

-- the next row, and no values where there is none
abbrev pub first_row : List (List Value) → List Value
first_row [] = []
first_row (r ∷ rs) = r
