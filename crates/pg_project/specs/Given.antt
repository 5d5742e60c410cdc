-- What the parts of a projection give at rows of values, whose names stand apart.
use Rattle.std.specs.List.{list_all, list_any}
use Rattle.std.specs.Prelude.{ℕ, Bool, true, false, cond, List, [], ◌∷◌, ◌++◌, map, take, drop, Result, Ok, Option, Some, None, is_some, is_none, ◌||◌, ◌&&◌, position, slice_index_or, unwrap_or, not}
use Rattle.pg_expr.specs.Prepared.{tree_of}
use Rattle.pg_expr.specs.declared.prepared.Prepared.{Prepared}
use Rattle.pg_meaning.specs.Aggregates.{aggregate_of}
use Rattle.pg_meaning.specs.Answer.{Answer, ◌>>=◌, each_answer}
use Rattle.pg_meaning.specs.Conditions.{condition}
use Rattle.pg_meaning.specs.Expressions.{evaluate}
use Rattle.pg_meaning.specs.Graph.{Graph}
use Rattle.pg_meaning.specs.Projections.{count_of, limited}
use Rattle.pg_meaning.specs.Names.{is_among}
use Rattle.pg_meaning.specs.Tree.{Expression, variable, SortItem, Projection}
use Rattle.pg_meaning.specs.Trees.{same_expression}
use Rattle.pg_meaning.specs.Value.{Value as Datum, null, Entries}
use Rattle.pg_meaning.specs.declared.fault.Fault.{Fault}
use Rattle.pg_rows.specs.Named.{row_of}
use Rattle.pg_rows.specs.Sorts.{directions, sorted_places}
use Rattle.pg_rows.specs.Tables.{first_places, rows_at_places}

abbrev pub trees_of : (names : List (List ℕ)) → List Prepared → List Expression
trees_of names ready = map (tree_of names) ready

-- ---- items

abbrev pub value_given : Entries → Graph → (names : List (List ℕ)) → List Datum → Expression → Answer
value_given parameters graph names values e = evaluate (row_of names values) parameters graph e

abbrev pub values_given : Entries → Graph → (names : List (List ℕ)) → List Expression → List Datum → Result (List Datum) Fault
values_given parameters graph names es values = each_answer (value_given parameters graph names values) es

-- with the row behind them where it is kept
abbrev pub wide_given : Entries → Graph → (names : List (List ℕ)) → List Expression → (keeps : Bool) → List Datum → Result (List Datum) Fault
wide_given parameters graph names es keeps values = values_given parameters graph names es values >>= λ vs. Ok (vs ++ cond keeps values [])

abbrev pub wide_rows_given : Entries → Graph → (names : List (List ℕ)) → List Expression → (keeps : Bool) → List (List Datum) → Result (List (List Datum)) Fault
wide_rows_given parameters graph names es keeps rows = each_answer (wide_given parameters graph names es keeps) rows

-- ---- DISTINCT

abbrev pub distinct_given : Bool → List (List Datum) → List (List Datum)
distinct_given true rows = rows_at_places rows (first_places [] 0 rows)
distinct_given false rows = rows

-- ---- ORDER BY

-- the value of an item, or of an expression
pub data Key : Type 0 where
  item : ℕ → Key
  other : Expression → Key

abbrev pub chosen_key : Expression → Option ℕ → Key
chosen_key e None = other e
chosen_key e (Some i) = item i

abbrev pub sort_source : List Expression → Expression → Key
sort_source es e = chosen_key e (position (λ x. same_expression x e) es)

abbrev pub key_given : Entries → Graph → (names : List (List ℕ)) → List Datum → Key → Answer
key_given parameters graph names values (item i) = Ok (slice_index_or values i null)
key_given parameters graph names values (other e) = value_given parameters graph names values e

abbrev pub keys_given : Entries → Graph → (names : List (List ℕ)) → List Key → List Datum → Result (List Datum) Fault
keys_given parameters graph names keys values = each_answer (key_given parameters graph names values) keys

abbrev pub all_keys_given : Entries → Graph → (names : List (List ℕ)) → List Key → List (List Datum) → Result (List (List Datum)) Fault
all_keys_given parameters graph names keys rows = each_answer (keys_given parameters graph names keys) rows

abbrev pub ordered_given : Entries → Graph → (names : List (List ℕ)) → List Expression → List SortItem → List (List Datum) → Result (List (List Datum)) Fault
ordered_given parameters graph names es [] rows = Ok rows
ordered_given parameters graph names es (o ∷ os) rows =
    all_keys_given parameters graph names (map (λ x. sort_source es x.key) (o ∷ os)) rows >>= λ keys. Ok (rows_at_places rows (sorted_places (directions (o ∷ os)) keys))

-- ---- WHERE

-- the first values of the rows that meet the condition
abbrev pub passing_given : Entries → Graph → (names : List (List ℕ)) → Option Expression → (width : ℕ) → List (List Datum) → Result (List (List Datum)) Fault
passing_given parameters graph names where_ width [] = Ok []
passing_given parameters graph names where_ width (r ∷ rs) = do
  passes ← condition where_ (row_of names r) parameters graph
  others ← passing_given parameters graph names where_ width rs
  Ok (elim passes [ true ↦ take width r ∷ others | false ↦ others ])

-- ---- SKIP and LIMIT

-- how many rows are left out, and how many are let in at most
pub record Cut : Type 0 where
  pub skip : ℕ
  pub limit : Option ℕ

abbrev pub count_at : Entries → Graph → Option Expression → Result (Option ℕ) Fault
count_at parameters graph None = Ok None
count_at parameters graph (Some e) = evaluate [] parameters graph e >>= count_of >>= λ n. Ok (Some n)

abbrev pub cut_given : Entries → Graph → (skip limit : Option Expression) → Result Cut Fault
cut_given parameters graph skip limit = count_at parameters graph skip >>= λ n. count_at parameters graph limit >>= λ m. Ok (record { skip = unwrap_or n 0; limit = m })

abbrev pub cut_of : Cut → List (List Datum) → List (List Datum)
cut_of c rows = limited c.limit (drop c.skip rows)

-- the sorted rows that are let in
abbrev pub let_in_given : Entries → Graph → (names : List (List ℕ)) → List Expression → List SortItem → Cut → List (List Datum) → Result (List (List Datum)) Fault
let_in_given parameters graph names es order c rows = ordered_given parameters graph names es order rows >>= λ sorted. Ok (cut_of c sorted)

-- ---- behind the items

abbrev pub tail_given : Entries → Graph → (names : List (List ℕ)) → List Expression → (distinct : Bool) → List SortItem → Cut → Option Expression → (width : ℕ) → List (List Datum) → Result (List (List Datum)) Fault
tail_given parameters graph names es distinct order c where_ width rows =
    ordered_given parameters graph names es order (distinct_given distinct rows) >>= λ sorted. passing_given parameters graph names where_ width (cut_of c sorted)

-- ---- the names that sorts and WHERE see beside the columns

abbrev pub has_aggregate : List Expression → Bool
has_aggregate es = list_any (λ e. is_some (aggregate_of e)) es

-- behind DISTINCT, and behind groups, the columns alone are seen
abbrev pub earlier_names : (hidden : Bool) → List (List ℕ) → List (List ℕ)
earlier_names hidden names = cond (not hidden) names []

abbrev pub has_none : {X : Type 0} → List X → Bool
has_none [] = true
has_none (x ∷ xs) = false

-- the variable of a column
abbrev pub is_column : (columns : List (List ℕ)) → Expression → Bool
is_column columns (variable x) = is_among columns x.text
is_column columns e = false

abbrev pub sorts_by_columns : (columns : List (List ℕ)) → List SortItem → Bool
sorts_by_columns columns order = list_all (λ (o : SortItem). is_column columns o.key) order

-- where nothing behind the items can look at the earlier variables: there is no condition, and each sort is by a column
abbrev pub hides_earlier : (columns : List (List ℕ)) → Projection → Option Expression → Bool
hides_earlier columns p where_ = p.distinct || (sorts_by_columns columns p.order && is_none where_)
