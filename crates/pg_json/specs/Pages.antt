-- The replies that give some rows and tell where the others are held. A row is a text already: it was printed when its query was answered.
use Rattle.std.specs.Prelude.{ℕ, ◌+◌, Bool, cond, List, [], ◌∷◌, ◌++◌, length, map, Option, Some, None, codes, decimal}
use Rattle.serde_json.specs.Data.{Items, array}
use Rattle.serde_json.specs.Written.{compact_text}
use Rattle.pg_json.specs.Rows.{rows_text}

-- ---- pages

-- after each comma a further one
abbrev pub further_rows : List (List ℕ) → List ℕ
further_rows [] = []
further_rows (row ∷ rows) = codes "," ++ row ++ further_rows rows

abbrev pub rows_joined : List (List ℕ) → List ℕ
rows_joined [] = []
rows_joined (row ∷ rows) = row ++ further_rows rows

-- the number under which the other rows are held, null where there is none
abbrev pub number_or_null : Option ℕ → List ℕ
number_or_null None = codes "null"
number_or_null (Some n) = decimal n

-- {"code":0,"columns":[..]
abbrev pub columns_begun : Items → List ℕ
columns_begun columns = codes "{\"code\":0,\"columns\":" ++ compact_text (array columns)

-- {"code":0,"columns":[..],"page":p,"rows":[..],"steps":n}
unfoldable pub paged_text : (columns : Items) → (page : Option ℕ) → (rows : List (List ℕ)) → (steps : ℕ) → List ℕ
paged_text columns page rows steps =
    columns_begun columns ++ codes ",\"page\":" ++ number_or_null page ++ codes ",\"rows\":[" ++ rows_joined rows ++ codes "],\"steps\":" ++ decimal steps ++ codes "}"

-- {"code":0,"page":p,"rows":[..]}
unfoldable pub pulled_text : (page : Option ℕ) → (rows : List (List ℕ)) → List ℕ
pulled_text page rows = codes "{\"code\":0,\"page\":" ++ number_or_null page ++ codes ",\"rows\":[" ++ rows_joined rows ++ codes "]}"

-- ---- a reply that can be cut between its rows

-- [..]
abbrev pub row_text : Items → List ℕ
row_text row = compact_text (array row)

-- where each row's text ends, where the first begins at a place
abbrev pub ends_from : (start : ℕ) → List (List ℕ) → List ℕ
ends_from start [] = []
ends_from start (row ∷ rows) = (start + length row) ∷ ends_from (start + length row + 1) rows

-- a query's reply, and the places where its columns and each row end, if these were noted
pub record QueryText : Type 0 where
  pub text : List ℕ
  pub columns_end : ℕ
  pub row_ends : List ℕ

-- the rows begin after `,"rows":[`
abbrev pub rows_start : Items → ℕ
rows_start columns = length (columns_begun columns) + 9

abbrev pub query_text : (notes : Bool) → (columns : Items) → (rows : List Items) → (steps : ℕ) → QueryText
query_text notes columns rows steps = record {
  text = rows_text columns rows steps;
  columns_end = cond notes (length (columns_begun columns)) 0;
  row_ends = cond notes (ends_from (rows_start columns) (map row_text rows)) [];
}
