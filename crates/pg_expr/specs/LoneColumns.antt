-- Expressions that are a column of the rows, or read nothing else of a row.
use Rattle.std.specs.Prelude.{◌≡◌, ℕ, List, Some, position, bytes_eq, slice_get}
use Rattle.pg_meaning.specs.Expressions.{evaluate}
use Rattle.pg_meaning.specs.Graph.{Graph}
use Rattle.pg_meaning.specs.Tree.{Name, Expression, variable}
use Rattle.pg_meaning.specs.Value.{Value, Entries}
use Rattle.pg_rows.specs.Named.{row_of}

-- a variable alone, which stands first in this column
pub record IsLoneColumn (names : List (List ℕ)) (e : Expression) (at : ℕ) : Type 0 where
  pub name : Name
  pub is : e ≡ variable name
  pub first : position (bytes_eq name.text) names ≡ Some at

-- it gives the same at all rows that have the same in this column
abbrev pub ReadsColumn : (names : List (List ℕ)) → Expression → (at : ℕ) → Type 0
ReadsColumn names e at = (parameters : Entries) (g : Graph) (r s : List Value) → slice_get r at ≡ slice_get s at
    → evaluate (row_of names r) parameters g e ≡ evaluate (row_of names s) parameters g e
