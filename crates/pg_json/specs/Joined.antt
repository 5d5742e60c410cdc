-- Rows in a text, one after the other.
use Rattle.std.specs.Prelude.{◌≡◌, ◌≤◌, ℕ, zero, suc, ◌+◌, List, [], ◌∷◌, ◌++◌, length, codes, decimal}
use Rattle.pg_json.specs.Pages.{QueryText, ends_from, rows_joined}
use Rattle.pg_json.specs.Replies.{max_reply}

-- what stands before a row behind so many others
abbrev pub comma_after : ℕ → List ℕ
comma_after zero = []
comma_after (suc n) = codes ","

abbrev pub comma_behind : {X : Type 0} → List X → List ℕ
comma_behind xs = comma_after (length xs)

-- where a row begins, by how many stand before it
abbrev pub row_begin : ℕ → List (List ℕ) → ℕ
row_begin zero rows = 0
row_begin (suc n) [] = 0
row_begin (suc n) (row ∷ rows) = length row + 1 + row_begin n rows

-- `,"steps":n}`
abbrev pub steps_text : ℕ → List ℕ
steps_text steps = codes ",\"steps\":" ++ decimal steps ++ codes "}"

-- one row more
abbrev pub with_row : QueryText → List ℕ → QueryText
with_row q row = record {
  text = q.text ++ (comma_behind q.row_ends ++ row);
  columns_end = q.columns_end;
  row_ends = q.row_ends ++ length (q.text ++ (comma_behind q.row_ends ++ row)) ∷ [];
}

-- the reply that ends behind these rows
abbrev pub with_end : QueryText → ℕ → QueryText
with_end q steps = record { text = q.text ++ codes "]" ++ steps_text steps; columns_end = q.columns_end; row_ends = q.row_ends }

-- the rows, whose ends are noted, stand behind `,"rows":[` and before what ends the reply
pub record IsCut (text : List ℕ) (columns_end : ℕ) (row_ends : List ℕ) (behind : List ℕ) : Type 0 where
  pub before : List ℕ
  pub rows : List (List ℕ)
  pub parts : text ≡ before ++ (rows_joined rows ++ behind)
  pub begins : length before ≡ columns_end + 9
  pub ends : row_ends ≡ ends_from (columns_end + 9) rows

-- behind the rows stands at least `,"steps":0}`
pub record IsReply (text : List ℕ) (columns_end : ℕ) (row_ends : List ℕ) : Type 0 where
  pub behind : List ℕ
  pub last : 11 ≤ length behind
  pub within : length text ≤ max_reply
  pub cut : IsCut text columns_end row_ends behind

-- the text has nothing but these rows, and less than a reply by what stands around them
pub record IsHeld (text : List ℕ) (row_ends : List ℕ) (next start : ℕ) : Type 0 where
  pub rows : List (List ℕ)
  pub joined : text ≡ rows_joined rows
  pub ends : row_ends ≡ ends_from 0 rows
  pub given : next ≤ length rows
  pub begins : start ≡ row_begin next rows
  pub within : length text + 16 ≤ max_reply
