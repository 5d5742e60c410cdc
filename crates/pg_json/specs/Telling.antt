-- A query's reply while its columns are named and its rows are told.
use Rattle.std.specs.Prelude.{◌≡◌, ℕ, Bool, true, false, List, [], ◌∷◌, ◌++◌, length, map, codes}
use Rattle.json.specs.Print.{print}
use Rattle.json.specs.Tree.{items_tokens}
use Rattle.json.specs.Written.{Written}
use Rattle.serde_json.specs.Data.{Data, Items, item, array, string}
use Rattle.serde_json.specs.Written.{items_outline}
use Rattle.pg_json.specs.Joined.{steps_text}
use Rattle.pg_json.specs.Pages.{QueryText, columns_begun, ends_from, row_text, rows_joined, rows_start}
use Rattle.pg_json.specs.Replies.{data_of}
use Rattle.pg_json.specs.Rows.{rows_before}
use Rattle.pg_json.specs.declared.plain_rows.PlainRows.{PlainRows}
use Rattle.pg_json.specs.declared.rows.ReplyColumns.{ReplyColumns}
use Rattle.pg_json.specs.declared.rows.Rows.{Rows}
use Rattle.pg_json.specs.declared.rows.Rows.TheVariants.{Plain, Noted}
use Rattle.pg_json.specs.declared.rows.RowsReply.{RowsReply}

-- what stands before the first column
abbrev pub columns_open : List ℕ
columns_open = codes "{\"code\":0,\"columns\":["

-- the names, and what follows them
abbrev pub names_before : List (List ℕ) → Items → Items
names_before [] ds = ds
names_before (n ∷ ns) ds = item (string n) (names_before ns ds)

-- with any further columns behind it, what is written is a beginning of the whole
pub record HasNames (w : Written) (names : List (List ℕ)) : Type 0 where
  pub before : w.before ≡ columns_open
  pub more : (ds : Items) → w.tokens ++ items_tokens (items_outline ds) ≡ items_tokens (items_outline (names_before names ds))

pub record HasNamed (r : ReplyColumns) (names : List (List ℕ)) : Type 0 where
  pub so_far : HasNames r.to names

-- what stands before the first row
abbrev pub rows_begun : Items → List ℕ
rows_begun columns = columns_begun columns ++ codes ",\"rows\":["

-- with any further rows behind it, what is written behind the columns is a beginning of the rows
pub record HasPlain (p : PlainRows) (columns : Items) (rows : List Items) : Type 0 where
  pub before : p.to.before ≡ rows_begun columns
  pub more : (ds : Items) → p.to.tokens ++ items_tokens (items_outline ds) ≡ items_tokens (items_outline (rows_before rows ds))

-- the values, and what follows them
abbrev pub row_before : List Data → Items → Items
row_before [] ds = ds
row_before (d ∷ row) ds = item d (row_before row ds)

-- with any further values behind it, and any rows behind these, what is written is a beginning of the rows
pub record HasPlainRow (p : PlainRows) (columns : Items) (rows : List Items) (row : List Data) : Type 0 where
  pub before : p.to.before ≡ rows_begun columns
  pub more : (vs ds : Items) → p.to.tokens ++ (items_tokens (items_outline vs) ++ items_tokens (items_outline ds)) ≡ items_tokens (items_outline (rows_before rows (item (array (row_before row vs)) ds)))

-- the reply that ends behind these rows
abbrev pub plain_end : PlainRows → ℕ → QueryText
plain_end p steps = record { text = p.to.before ++ print p.to.tokens ++ codes "]" ++ steps_text steps; columns_end = 0; row_ends = [] }

-- the text up to the rows so far, and where they end
pub record HasNoted (q : QueryText) (columns : Items) (rows : List Items) : Type 0 where
  pub columns_end : q.columns_end ≡ length (columns_begun columns)
  pub text : q.text ≡ rows_begun columns ++ rows_joined (map row_text rows)
  pub row_ends : q.row_ends ≡ ends_from (rows_start columns) (map row_text rows)

abbrev pub AreWritten : Rows → (notes : Bool) → (columns : Items) → (rows : List Items) → Type 0
AreWritten (Plain p) notes columns rows = (notes ≡ false) × HasPlain p columns rows
AreWritten (Noted q told) notes columns rows = (notes ≡ true) × HasNoted q.value columns rows

-- these rows are written, and of one row more these values are told
abbrev pub AreTold : Rows → (notes : Bool) → (columns : Items) → (rows : List Items) → (row : List Data) → Type 0
AreTold (Plain p) notes columns rows row = (notes ≡ false) × HasPlainRow p columns rows row
AreTold (Noted q told) notes columns rows row = (notes ≡ true) × (HasNoted q.value columns rows × (row ≡ map data_of told.items))

-- the columns and the rows so far are written, and where these end if that is noted
pub record HasWritten (r : RowsReply) (notes : Bool) (columns : Items) (rows : List Items) : Type 0 where
  pub so_far : AreWritten r.rows notes columns rows

-- the same, and of one row more these values
pub record HasRow (r : RowsReply) (notes : Bool) (columns : Items) (rows : List Items) (row : List Data) : Type 0 where
  pub so_far : AreTold r.rows notes columns rows row
