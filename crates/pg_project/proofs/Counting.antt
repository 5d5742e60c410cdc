-- RETURN that only counts rows looks at none of them.
use Rattle.std.proofs.Common.{◌≡◌, ℕ, Bool, true, false, cond, not, ◌||◌, ◌==◌, List, [], ◌∷◌, ◌++◌, map, length, is_some, option_map, Option, Some, None, Result, Ok, Err, refl, sym, ap, ◌∙◌, arith}
use Rattle.std.proofs.lemmas.Bool.Decides.{nat_tests}
use Rattle.std.specs.List.{list_any}
use Rattle.pg_meaning.specs.Aggregates.{Aggregate, Summary, aggregate_named}
use Rattle.pg_meaning.specs.Answer.{◌>>=◌, each_answer, each_step}
use Rattle.pg_meaning.specs.Expressions.{evaluate}
use Rattle.pg_meaning.specs.Graph.{Graph}
use Rattle.pg_meaning.specs.Meters.{Setting, State, spend}
use Rattle.pg_meaning.specs.Names.{Names}
use Rattle.pg_meaning.specs.Parse.{expressions_of}
use Rattle.pg_meaning.specs.Projections.{Group, Projected, argument_value, count_given, distinct_rows, first_groups, fold_cell, fold_cells, fold_value, group_columns, group_row, grouped, grouping_columns, into_groups, item_rows, keep_first, limited, ordered_rows, passing_rows, projected, project_clause, skipped}
use Rattle.pg_meaning.specs.Rows.{Row}
use Rattle.pg_meaning.specs.Scopes.{Column, is_aggregate, return_column, return_columns, star_columns}
use Rattle.pg_meaning.specs.Tree.{Expression, call, Item, Name, Projection, SortItem}
use Rattle.pg_meaning.specs.Value.{Value, boolean}
use Rattle.pg_meaning.specs.declared.fault.Fault.{Fault}
use Rattle.pg_project.specs.Returned.{CountsRows, OnlyCounts, return_clause}

-- ---- one column, of an aggregate that takes no argument

module _ (graph : Graph) (c : Column) (h : CountsRows c.value) where
  cell_counted : (s : Setting) (row : Row) (cell : List Value) → fold_cell s graph row true c cell ≡ fold_value true h.aggregate cell (boolean true)
  cell_counted s row cell =
      (λ i. elim (h.is i) as (λ o. Result (List Value) Fault) [
        | None ↦ evaluate row s.parameters graph c.value >>= λ v. Ok (keep_first cell v)
        | Some a ↦ argument_value s.parameters graph row a >>= fold_value true a cell
      ])
      ∙ (λ i. elim (h.alone i) as (λ o. Result Value Fault) [ None ↦ Ok (boolean true) | Some e ↦ evaluate row s.parameters graph e ] >>= fold_value true h.aggregate cell)

  abbrev counted_cells : List (List Value) → Result (List (List Value)) Fault
  counted_cells [] = fold_value true h.aggregate [] (boolean true) >>= λ d. Ok (d ∷ [])
  counted_cells (cell ∷ cells) = fold_value true h.aggregate cell (boolean true) >>= λ d. Ok (d ∷ [])

  cells_counted : (s : Setting) (row : Row) (cells : List (List Value)) → fold_cells s graph row true (c ∷ []) cells ≡ counted_cells cells
  cells_counted s row [] = ap (λ r. r >>= λ d. Ok (d ∷ [])) (cell_counted s row [])
  cells_counted s row (cell ∷ cells) = ap (λ r. r >>= λ d. Ok (d ∷ [])) (cell_counted s row cell)

  none_groups : grouping_columns (c ∷ []) ≡ []
  none_groups = λ i. cond (not (is_some (h.is i))) (c ∷ []) []

  aggregates : list_any is_aggregate (c ∷ []) ≡ true
  aggregates = λ i. is_some (h.is i) || false

  module _ (s t : Setting) (row other : Row) where
    into_first : (key : List Value) (cells : List (List Value)) (gs : List Group) → into_groups s graph (c ∷ []) row [] gs ≡ into_groups t graph (c ∷ []) other [] gs
        → into_groups s graph (c ∷ []) row [] (record { key = key; cells = cells } ∷ gs) ≡ into_groups t graph (c ∷ []) other [] (record { key = key; cells = cells } ∷ gs)
    into_first [] cells gs later = ap (λ r. r >>= λ ds. Ok (record { key = []; cells = ds } ∷ gs)) (cells_counted s row cells ∙ sym (cells_counted t other cells))
    into_first (v ∷ vs) cells gs later = ap (λ r. r >>= λ hs. Ok (record { key = v ∷ vs; cells = cells } ∷ hs)) later

    into_same : (groups : List Group) → into_groups s graph (c ∷ []) row [] groups ≡ into_groups t graph (c ∷ []) other [] groups
    into_same [] = ap (λ r. r >>= λ cells. Ok (record { key = []; cells = cells } ∷ [])) (cells_counted s row [] ∙ sym (cells_counted t other []))
    into_same (g ∷ gs) = into_first g.key g.cells gs (into_same gs)

  row_into : (s : Setting) (groups : List Group) (row : Row) → group_row s graph (c ∷ []) groups row ≡ into_groups s graph (c ∷ []) row [] groups
  row_into s groups row = λ i. elim (each_answer (λ x. evaluate row s.parameters graph x.value) (none_groups i)) as (λ k. Result (List Group) Fault) [
    | Ok vs ↦ into_groups s graph (c ∷ []) row vs groups
    | Err f ↦ fold_cells s graph row false (c ∷ []) [] >>= λ cells. Err f
  ]

  rows_same : (s t : Setting) (groups : List Group) (rows others : List Row) → length rows ≡ length others → each_step (group_row s graph (c ∷ [])) groups rows ≡ each_step (group_row t graph (c ∷ [])) groups others
  rows_same s t groups [] [] many = refl
  rows_same s t groups [] (o ∷ os) many = absurd (omega (arith, many))
  rows_same s t groups (r ∷ rs) [] many = absurd (omega (arith, many))
  rows_same s t groups (r ∷ rs) (o ∷ os) many =
      λ i. (row_into s groups r ∙ into_same s t r o groups ∙ sym (row_into t groups o)) i >>= λ gs. rows_same s t gs rs os (omega (arith, many)) i

  items_same : (s t : Setting) (distinct : Bool) (rows others : List Row) → length rows ≡ length others → item_rows s graph distinct (c ∷ []) rows ≡ item_rows t graph distinct (c ∷ []) others
  items_same s t distinct rows others many =
      groups s rows
      ∙ ap (λ r. r >>= λ groups. Ok (map (λ (g : Group). let p : Projected = record { columns = group_columns (c ∷ []) g.cells; earlier = [] } in p) groups)) (rows_same s t (first_groups (c ∷ [])) rows others many)
      ∙ sym (groups t others)
    where
      groups : (u : Setting) (rs : List Row) → item_rows u graph distinct (c ∷ []) rs ≡ grouped u graph (c ∷ []) rs
      groups u rs = λ i. elim (aggregates i) as (λ b. Result (List Projected) Fault) [
        | true ↦ grouped u graph (c ∷ []) rs
        | false ↦ each_answer (projected u.parameters graph distinct (c ∷ [])) rs
      ]

-- ---- sorts and conditions look at no name of the scope

module _ (s : Setting) (names : Names) (graph : Graph) where
  abbrev renamed : Setting
  renamed = record s { scope = names }

  order_same : (columns : List Column) (order : List SortItem) (ps : List Projected) → ordered_rows renamed graph columns order ps ≡ ordered_rows s graph columns order ps
  order_same columns [] ps = refl
  order_same columns (o ∷ os) ps = refl

  passing_same : (ps : List Projected) → passing_rows renamed graph None ps ≡ passing_rows s graph None ps
  passing_same [] = refl
  passing_same (p ∷ ps) = ap (λ r. r >>= λ others. Ok (p ∷ others)) (passing_same ps)

-- ---- the clause

columns_are : (p : Projection) (item : Item) (names : Names) → p.star ≡ None → p.items ≡ item ∷ [] → return_columns names p ≡ return_column item ∷ []
columns_are p item names star items = λ i. star_columns names (star i) ++ map return_column (items i)

module _ (p : Projection) (item : Item) (star : p.star ≡ None) (items : p.items ≡ item ∷ []) (h : CountsRows item.value) where
  clause_same : (s : Setting) (names : Names) (state : State) (rows : List Row) → length rows ≡ length state.rows
      → return_clause (record s { scope = names }) p (record state { rows = rows }) ≡ return_clause s p state
  clause_same s names state rows many =
      ap (λ cs. project_clause (record s { scope = names }) cs p None (record state { rows = rows })) (columns_are p item names star items)
      ∙ (λ i. spend s state.steps (many i) >>= λ steps.
      count_given s.parameters state.graph p.skip >>= λ skip.
      count_given s.parameters state.graph p.limit >>= λ limit.
      items_same state.graph (return_column item) h (record s { scope = names }) s p.distinct rows state.rows many i >>= λ found.
      order_same s names state.graph (return_column item ∷ []) p.order (distinct_rows p.distinct found) i >>= λ sorted.
      passing_same s names state.graph (limited limit (skipped skip sorted)) i >>= λ kept.
      Ok (record { graph = state.graph; rows = map (λ (r : Projected). r.columns) kept; steps = steps }))
      ∙ sym (ap (λ cs. project_clause s cs p None state) (columns_are p item s.scope star items))

  pub counts_only : OnlyCounts p
  counts_only = record { columns = λ names others. columns_are p item names star items ∙ sym (columns_are p item others star items); rows = clause_same }

-- ---- in the program's words

no_length : (n : ℕ) → (n == 0) ≡ true → n ≡ 0
no_length n h = grind (arith, nat_tests)

pub taken_alone : {X Y : Type 0} (view : X → Summary) (o : Option X) (read : Y → Expression) (name : Name) (star distinct : Bool) (es : List Y) → option_map view o ≡ aggregate_named name.text → is_some o ≡ true → (length es == 0) ≡ true
    → CountsRows (call name star distinct (expressions_of (map read es)))
taken_alone view o read name star distinct (e ∷ es) same some none = absurd (omega (arith, no_length (length (e ∷ es)) none))
taken_alone view None read name star distinct [] same some none = absurd (cc)
taken_alone view (Some x) read name star distinct [] same some none = record {
  aggregate = record { summary = view x; distinct = distinct; argument = None };
  is = ap (option_map (λ s. let a : Aggregate = record { summary = s; distinct = distinct; argument = None } in a)) (sym same);
  alone = refl;
}

pub none_there : {X : Type 0} (o : Option X) (b : Bool) → is_some o ≡ not b → b ≡ true → o ≡ None
none_there None b same h = refl
none_there (Some x) b same h = absurd (cc)
