-- Earlier variables at which nothing behind the items looks: each sort is by a column.
use Rattle.std.proofs.Common.{◌≡◌, ℕ, ◌+◌, ◌||◌, Bool, true, false, cond, List, [], ◌∷◌, ◌++◌, map, Result, Ok, Err, IfOk, Option, Some, None, is_some, bytes_eq, position, slice_get, refl, sym, ap, ◌∙◌, true≢false}
use Rattle.std.proofs.lemmas.Iterator.Adapters.{position_from-zero}
use Rattle.std.specs.List.{AllByRecursion, list_any, position_from}
use Rattle.std.specs.Map.{lookup}
use Rattle.std.specs.Ordering.{is_gt}
use Rattle.pg_meaning.specs.Answer.{◌>>=◌, each_answer}
use Rattle.pg_meaning.specs.EntriesLaws.{both}
use Rattle.pg_meaning.specs.Expressions.{evaluate, or_fault}
use Rattle.pg_meaning.specs.Graph.{Graph}
use Rattle.pg_meaning.specs.Meters.{Setting}
use Rattle.pg_meaning.specs.Names.{is_among}
use Rattle.pg_meaning.specs.Projections.{Projected, column_value, insert_keyed, keyed, keys_order, ordered_rows, projected, sort_key, sorted_keyed}
use Rattle.pg_meaning.specs.Rows.{Row}
use Rattle.pg_meaning.specs.Scopes.{Column}
use Rattle.pg_meaning.specs.Tree.{Expression, variable, SortItem}
use Rattle.pg_meaning.specs.Trees.{same_expression}
use Rattle.pg_meaning.specs.Value.{Value, null}
use Rattle.pg_meaning.specs.declared.fault.Fault.{Fault}
use Rattle.pg_meaning.specs.declared.fault.Fault.TheVariants.{UndefinedVariable}
use Rattle.pg_project.specs.Given.{is_column, sorts_by_columns}

-- ---- names

found_from : (t : List ℕ → Bool) (i : ℕ) (xs : List (List ℕ)) → is_some (position_from t i xs) ≡ list_any t xs
found_from t i [] = refl
found_from t i (x ∷ xs) = by (t x) (found_from t (i + 1) xs)
  where
    by : (b : Bool) → is_some (position_from t (i + 1) xs) ≡ list_any t xs → is_some (cond b (Some i) (position_from t (i + 1) xs)) ≡ (b || list_any t xs)
    by true h = refl
    by false h = h

pub among : (name : List ℕ) (names : List (List ℕ)) → is_some (position (bytes_eq name) names) ≡ is_among names name
among name names = ap is_some (position_from-zero (bytes_eq name) names) ∙ found_from (bytes_eq name) 0 names

abbrev pub names_in : Row → List (List ℕ)
names_in row = map (λ b. b.0) row

-- what a row has under a name, it has also where more stands behind it
lookup_before : (t : List ℕ → Bool) (row more : Row) → list_any t (names_in row) ≡ true → lookup t (row ++ more) ≡ lookup t row
lookup_before t [] more h = absurd (true≢false (sym h))
lookup_before t (b ∷ row) more h = by (t b.0) h (lookup_before t row more)
  where
    by : (c : Bool) → (c || list_any t (names_in row)) ≡ true → (list_any t (names_in row) ≡ true → lookup t (row ++ more) ≡ lookup t row) → cond c (Some b.1) (lookup t (row ++ more)) ≡ cond c (Some b.1) (lookup t row)
    by true h later = refl
    by false h later = later h

-- ---- a row of columns alone

abbrev pub stripped : Projected → Projected
stripped p = record { columns = p.columns; earlier = [] }

abbrev pub names_of : List Column → List (List ℕ)
names_of columns = map (λ (c : Column). c.name) columns

-- it has the columns
abbrev pub IsNamed : List Column → Projected → Type 0
IsNamed columns p = names_in p.columns ≡ names_of columns

module _ (s : Setting) (graph : Graph) (columns : List Column) where
  abbrev names : List (List ℕ)
  names = names_of columns

  key_alone : (p : Projected) → IsNamed columns p → (e : Expression) → is_column names e ≡ true → evaluate (p.columns ++ []) s.parameters graph e ≡ evaluate (p.columns ++ p.earlier) s.parameters graph e
  key_alone p named (variable x) h =
      let here : list_any (bytes_eq x.text) (names_in p.columns) ≡ true = ap (list_any (bytes_eq x.text)) named ∙ h in
      ap (λ o. or_fault o UndefinedVariable) (lookup_before (bytes_eq x.text) p.columns [] here ∙ sym (lookup_before (bytes_eq x.text) p.columns p.earlier here))
  key_alone p named e h = absurd (true≢false (sym h))

  sort_alone : (p : Projected) → IsNamed columns p → (o : SortItem) → is_column names o.key ≡ true → sort_key s.parameters graph columns (stripped p) o ≡ sort_key s.parameters graph columns p o
  sort_alone p named o h = by (position (λ (c : Column). same_expression c.value o.key) columns)
    where
      by : (at : Option ℕ)
          → elim at as (λ at. Result Value Fault) [ Some i ↦ elim (slice_get p.columns i) [ Some b ↦ Ok b.1 | None ↦ Ok null ] | None ↦ evaluate (p.columns ++ []) s.parameters graph o.key ]
          ≡ elim at as (λ at. Result Value Fault) [ Some i ↦ elim (slice_get p.columns i) [ Some b ↦ Ok b.1 | None ↦ Ok null ] | None ↦ evaluate (p.columns ++ p.earlier) s.parameters graph o.key ]
      by (Some i) = refl
      by None = key_alone p named o.key h

  sorts_alone : (p : Projected) → IsNamed columns p → (os : List SortItem) → sorts_by_columns names os ≡ true
      → each_answer (sort_key s.parameters graph columns (stripped p)) os ≡ each_answer (sort_key s.parameters graph columns p) os
  sorts_alone p named [] h = refl
  sorts_alone p named (o ∷ os) h =
      let parts = both (is_column names o.key) (sorts_by_columns names os) h in
      λ i. sort_alone p named o parts.0 i >>= λ v. sorts_alone p named os parts.1 i >>= λ vs. Ok (v ∷ vs)

  -- ---- sorted rows

  abbrev Keyed : Type 0
  Keyed = List Value × Projected

  abbrev key_stripped : Keyed → Keyed
  key_stripped k = (k.0, stripped k.1)

  insert_alone : (os : List SortItem) (x : Keyed) (ys : List Keyed) → insert_keyed os (key_stripped x) (map key_stripped ys) ≡ map key_stripped (insert_keyed os x ys)
  insert_alone os x [] = refl
  insert_alone os x (y ∷ ys) = by (is_gt (keys_order os x.0 y.0)) (insert_alone os x ys)
    where
      by : (b : Bool) → insert_keyed os (key_stripped x) (map key_stripped ys) ≡ map key_stripped (insert_keyed os x ys)
          → cond b (key_stripped y ∷ insert_keyed os (key_stripped x) (map key_stripped ys)) (key_stripped x ∷ key_stripped y ∷ map key_stripped ys) ≡ map key_stripped (cond b (y ∷ insert_keyed os x ys) (x ∷ y ∷ ys))
      by true h = ap (λ zs. key_stripped y ∷ zs) h
      by false h = refl

  sorted_alone : (os : List SortItem) (ks : List Keyed) → sorted_keyed os (map key_stripped ks) ≡ map key_stripped (sorted_keyed os ks)
  sorted_alone os [] = refl
  sorted_alone os (k ∷ ks) = ap (insert_keyed os (key_stripped k)) (sorted_alone os ks) ∙ insert_alone os k (sorted_keyed os ks)

  rows_alone : (ks : List Keyed) → map (λ k. k.1) (map key_stripped ks) ≡ map stripped (map (λ k. k.1) ks)
  rows_alone [] = refl
  rows_alone (k ∷ ks) = ap (λ ps. stripped k.1 ∷ ps) (rows_alone ks)

  keyed_alone : (os : List SortItem) → sorts_by_columns names os ≡ true → (p : Projected) → IsNamed columns p → keyed s graph columns os (stripped p) ≡ (keyed s graph columns os p >>= λ k. Ok (key_stripped k))
  keyed_alone os h p named =
      ap (λ a. a >>= λ vs. Ok (vs, stripped p)) (sorts_alone p named os h)
      ∙ by (each_answer (sort_key s.parameters graph columns p) os)
    where
      by : (a : Result (List Value) Fault) → (a >>= λ vs. Ok (vs, stripped p)) ≡ ((a >>= λ vs. Ok (let k : Keyed = (vs, p) in k)) >>= λ k. Ok (key_stripped k))
      by (Ok vs) = refl
      by (Err f) = refl

  all_keyed : (os : List SortItem) → sorts_by_columns names os ≡ true → (ps : List Projected) → AllByRecursion (IsNamed columns) ps
      → each_answer (keyed s graph columns os) (map stripped ps) ≡ (each_answer (keyed s graph columns os) ps >>= λ ks. Ok (map key_stripped ks))
  all_keyed os h [] named = refl
  all_keyed os h (p ∷ ps) named =
      (λ i. keyed_alone os h p named.0 i >>= λ k. all_keyed os h ps named.1 i >>= λ ks. Ok (k ∷ ks))
      ∙ by (keyed s graph columns os p) (each_answer (keyed s graph columns os) ps)
    where
      by : (a : Result Keyed Fault) (b : Result (List Keyed) Fault)
          → ((a >>= λ k. Ok (key_stripped k)) >>= λ k. (b >>= λ ks. Ok (map key_stripped ks)) >>= λ ks. Ok (k ∷ ks)) ≡ ((a >>= λ k. b >>= λ ks. Ok (k ∷ ks)) >>= λ ks. Ok (map key_stripped ks))
      by (Ok k) (Ok ks) = refl
      by (Ok k) (Err f) = refl
      by (Err f) b = refl

  pub ordered_alone : (os : List SortItem) → sorts_by_columns names os ≡ true → (ps : List Projected) → AllByRecursion (IsNamed columns) ps
      → ordered_rows s graph columns os (map stripped ps) ≡ (ordered_rows s graph columns os ps >>= λ qs. Ok (map stripped qs))
  ordered_alone [] h ps named = refl
  ordered_alone (o ∷ os) h ps named =
      ap (λ a. a >>= λ ks. Ok (map (λ k. k.1) (sorted_keyed (o ∷ os) ks))) (all_keyed (o ∷ os) h ps named)
      ∙ by (each_answer (keyed s graph columns (o ∷ os)) ps)
    where
      by : (a : Result (List Keyed) Fault)
          → ((a >>= λ ks. Ok (map key_stripped ks)) >>= λ ks. Ok (map (λ k. k.1) (sorted_keyed (o ∷ os) ks))) ≡ ((a >>= λ ks. Ok (map (λ k. k.1) (sorted_keyed (o ∷ os) ks))) >>= λ qs. Ok (map stripped qs))
      by (Ok ks) = ap Ok (ap (map (λ k. k.1)) (sorted_alone (o ∷ os) ks) ∙ rows_alone (sorted_keyed (o ∷ os) ks))
      by (Err f) = refl

  -- ---- the items

  value_named : (row : Row) (c : Column) → IfOk (column_value s.parameters graph row c) (λ b. b.0 ≡ c.name)
  value_named row c = by (evaluate row s.parameters graph c.value)
    where
      by : (a : Result Value Fault) → IfOk (a >>= λ v. Ok (let b : List ℕ × Value = (c.name, v) in b)) (λ b. b.0 ≡ c.name)
      by (Ok v) = refl
      by (Err f) = tt

  values_named : (row : Row) (cs : List Column) → IfOk (each_answer (column_value s.parameters graph row) cs) (λ vs. names_in vs ≡ names_of cs)
  values_named row [] = refl
  values_named row (c ∷ cs) = by (column_value s.parameters graph row c) (each_answer (column_value s.parameters graph row) cs) (value_named row c) (values_named row cs)
    where
      by : (a : Result (List ℕ × Value) Fault) (b : Result Row Fault) → IfOk a (λ v. v.0 ≡ c.name) → IfOk b (λ vs. names_in vs ≡ names_of cs)
          → IfOk (a >>= λ v. b >>= λ vs. Ok (v ∷ vs)) (λ vs. names_in vs ≡ c.name ∷ names_of cs)
      by (Ok v) (Ok vs) h k = λ i. h i ∷ k i
      by (Ok v) (Err f) h k = tt
      by (Err f) b h k = tt

  pub items_named : (rows : List Row) → IfOk (each_answer (projected s.parameters graph false columns) rows) (AllByRecursion (IsNamed columns))
  items_named [] = tt
  items_named (row ∷ rows) = by (each_answer (column_value s.parameters graph row) columns) (each_answer (projected s.parameters graph false columns) rows) (values_named row columns) (items_named rows)
    where
      by : (a : Result Row Fault) (b : Result (List Projected) Fault) → IfOk a (λ vs. names_in vs ≡ names) → IfOk b (AllByRecursion (IsNamed columns))
          → IfOk ((a >>= λ vs. Ok (let p : Projected = record { columns = vs; earlier = row } in p)) >>= λ p. b >>= λ ps. Ok (p ∷ ps)) (AllByRecursion (IsNamed columns))
      by (Ok vs) (Ok ps) h k = (h, k)
      by (Ok vs) (Err f) h k = tt
      by (Err f) b h k = tt

  pub items_alone : (rows : List Row) → each_answer (projected s.parameters graph true columns) rows ≡ (each_answer (projected s.parameters graph false columns) rows >>= λ ps. Ok (map stripped ps))
  items_alone [] = refl
  items_alone (row ∷ rows) =
      ap (λ a. projected s.parameters graph true columns row >>= λ p. a >>= λ ps. Ok (p ∷ ps)) (items_alone rows)
      ∙ by (each_answer (column_value s.parameters graph row) columns) (each_answer (projected s.parameters graph false columns) rows)
    where
      by : (a : Result Row Fault) (b : Result (List Projected) Fault)
          → ((a >>= λ vs. Ok (let p : Projected = record { columns = vs; earlier = [] } in p)) >>= λ p. (b >>= λ ps. Ok (map stripped ps)) >>= λ ps. Ok (p ∷ ps))
          ≡ (((a >>= λ vs. Ok (let p : Projected = record { columns = vs; earlier = row } in p)) >>= λ p. b >>= λ ps. Ok (p ∷ ps)) >>= λ ps. Ok (map stripped ps))
      by (Ok vs) (Ok ps) = refl
      by (Ok vs) (Err f) = refl
      by (Err f) b = refl
