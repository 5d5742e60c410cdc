-- The cells of a group: what each column holds after some of the group's rows.
use Rattle.std.proofs.Common.{◌≡◌, ℕ, Bool, true, false, cond, not, ◌||◌, ◌⊎◌, inl, inr, List, [], ◌∷◌, ◌++◌, map, Option, Some, None, is_some, bytes_eq, Result, Ok, Err, refl, sym, ap, subst, ◌∙◌}
use Rattle.std.specs.List.{AllZip}
use Rattle.pg_meaning.specs.Aggregates.{Aggregate, aggregate_of, take_in, summarized}
use Rattle.pg_meaning.specs.Agreement.{given_in}
use Rattle.pg_meaning.specs.Answer.{◌>>=◌, ◌>>◌, each_answer, each_step}
use Rattle.pg_meaning.specs.AnswerLaws.{by_answer, went_wrong, answers_fault}
use Rattle.pg_meaning.specs.Expressions.{evaluate}
use Rattle.pg_meaning.specs.Graph.{Graph}
use Rattle.pg_meaning.specs.Lists.{IsIn}
use Rattle.pg_meaning.specs.Meaning.{taken_in, first_value, group_value, grouping_key, ArgumentFaults, ItemFaults}
use Rattle.pg_meaning.specs.Meters.{Setting}
use Rattle.pg_meaning.specs.Names.{is_among}
use Rattle.pg_meaning.specs.Projections.{argument_value, test_alone, fold_value, keep_first, fold_cell, fold_cells, grouping_columns, first_or_null, cell_value, group_columns}
use Rattle.pg_meaning.specs.Rows.{Row, value_in}
use Rattle.pg_meaning.specs.Scopes.{Column, is_aggregate}
use Rattle.pg_meaning.specs.Value.{Value}
use Rattle.pg_meaning.specs.declared.fault.Fault.{Fault}

-- ---- steps over more elements

module _ {S X : Type 0} (f : S → X → Result S Fault) where
  pub steps_on : (xs ys : List X) (t u : S) → each_step f t xs ≡ Ok u → each_step f t (xs ++ ys) ≡ each_step f u ys
  steps_on [] ys t u e = ap (λ (r : Result S Fault). r >>= λ v. each_step f v ys) e
  steps_on (x ∷ xs) ys t u e = by_first (f t x) e (λ v. steps_on xs ys v u)
    where
      by_first : (r : Result S Fault) → (r >>= λ v. each_step f v xs) ≡ Ok u → ((v : S) → each_step f v xs ≡ Ok u → each_step f v (xs ++ ys) ≡ each_step f u ys) → (r >>= λ v. each_step f v (xs ++ ys)) ≡ each_step f u ys
      by_first (Ok v) e rest = rest v e
      by_first (Err g) e rest = cc

  pub steps_fail : (xs ys : List X) (t : S) (g : Fault) → each_step f t xs ≡ Err g → each_step f t (xs ++ ys) ≡ Err g
  steps_fail [] ys t g e = cc
  steps_fail (x ∷ xs) ys t g e = by_first (f t x) e (λ v. steps_fail xs ys v g)
    where
      by_first : (r : Result S Fault) → (r >>= λ v. each_step f v xs) ≡ Err g → ((v : S) → each_step f v xs ≡ Err g → each_step f v (xs ++ ys) ≡ Err g) → (r >>= λ v. each_step f v (xs ++ ys)) ≡ Err g
      by_first (Ok v) e rest = rest v e
      by_first (Err h) e rest = e

  pub one_step : (x : X) (t : S) → each_step f t (x ∷ []) ≡ f t x
  one_step x t = by_result (f t x)
    where
      by_result : (r : Result S Fault) → (r >>= λ v. Ok v) ≡ r
      by_result (Ok v) = refl
      by_result (Err g) = refl

module _ (s : Setting) (graph : Graph) where
  -- ---- a cell

  -- of a grouping item the value at the first row
  abbrev HoldsFirst : Column → List Row → List Value → Type 0
  HoldsFirst c [] cell = cell ≡ []
  HoldsFirst c (row ∷ rows) cell = (v : Value) × (evaluate row s.parameters graph c.value ≡ Ok v) × (cell ≡ v ∷ [])

  abbrev HoldsBy : Column → Option Aggregate → List Row → List Value → Type 0
  HoldsBy c None rows cell = HoldsFirst c rows cell
  HoldsBy c (Some a) rows cell = taken_in (given_in s) graph a rows ≡ Ok cell

  abbrev pub Holds : List Row → Column → List Value → Type 0
  Holds rows c cell = HoldsBy c (aggregate_of c.value) rows cell

  -- a fault at one row more
  abbrev FaultBy : Column → Option Aggregate → List Row → Row → Fault → Type 0
  FaultBy c None rows row f = evaluate row s.parameters graph c.value ≡ Err f
  FaultBy c (Some a) rows row f = ArgumentFaults (given_in s) graph row a f ⊎ (taken_in (given_in s) graph a (rows ++ row ∷ []) ≡ Err f)

  abbrev fold_by : Column → Option Aggregate → Row → (has_group : Bool) → List Value → Result (List Value) Fault
  fold_by c o row has_group cell = elim o [
    | None ↦ evaluate row s.parameters graph c.value >>= λ v. Ok (keep_first cell v)
    | Some a ↦ argument_value s.parameters graph row a >>= fold_value has_group a cell
  ]

  abbrev CellStep : Column → Option Aggregate → List Row → Row → Result (List Value) Fault → Type 0
  CellStep c o rows row (Ok cell) = HoldsBy c o (rows ++ row ∷ []) cell
  CellStep c o rows row (Err f) = FaultBy c o rows row f

  first_step : (c : Column) (rows : List Row) (row : Row) (cell : List Value) → HoldsFirst c rows cell → (a : Result Value Fault) → evaluate row s.parameters graph c.value ≡ a
      → CellStep c None rows row (a >>= λ v. Ok (keep_first cell v))
  first_step c [] row cell h (Ok v) e = (v, e, ap (λ l. keep_first l v) h)
  first_step c (first ∷ rows) row cell h (Ok v) e = (h.0, h.1, ap (λ l. keep_first l v) h.2)
  first_step c rows row cell h (Err f) e = e

  taken_step : (c : Column) (a : Aggregate) (rows : List Row) (row : Row) (cell : List Value) → taken_in (given_in s) graph a rows ≡ Ok cell → (r : Result Value Fault) → argument_value s.parameters graph row a ≡ r
      → CellStep c (Some a) rows row (r >>= take_in a cell)
  taken_step c a rows row cell h (Err f) e = inl (inl e)
  taken_step c a rows row cell h (Ok v) e = by_taken (take_in a cell v) refl
    where
      taken : taken_in (given_in s) graph a (rows ++ row ∷ []) ≡ take_in a cell v
      taken =
          steps_on (λ vs r. argument_value s.parameters graph r a >>= take_in a vs) rows (row ∷ []) [] cell h
          ∙ one_step (λ vs r. argument_value s.parameters graph r a >>= take_in a vs) row cell
          ∙ ap (λ r. r >>= take_in a cell) e

      by_taken : (t : Result (List Value) Fault) → take_in a cell v ≡ t → CellStep c (Some a) rows row t
      by_taken (Ok vs) is = taken ∙ is
      by_taken (Err f) is = inr (taken ∙ is)

  cell_step : (c : Column) (o : Option Aggregate) (rows : List Row) (row : Row) (cell : List Value) → HoldsBy c o rows cell → CellStep c o rows row (fold_by c o row true cell)
  cell_step c None rows row cell h = first_step c rows row cell h (evaluate row s.parameters graph c.value) refl
  cell_step c (Some a) rows row cell h = taken_step c a rows row cell h (argument_value s.parameters graph row a) refl

  -- ---- the cells of a group

  abbrev pub CellsFault : List Column → List Row → Row → Fault → Type 0
  CellsFault columns rows row f = (c : Column) × IsIn c columns × FaultBy c (aggregate_of c.value) rows row f

  abbrev pub CellsStep : List Column → List Row → Row → Result (List (List Value)) Fault → Type 0
  CellsStep columns rows row (Ok cells) = AllZip (Holds (rows ++ row ∷ [])) columns cells
  CellsStep columns rows row (Err f) = CellsFault columns rows row f

  pub cells_step : (columns : List Column) (cells : List (List Value)) (rows : List Row) (row : Row) → AllZip (Holds rows) columns cells → CellsStep columns rows row (fold_cells s graph row true columns cells)
  cells_step [] [] rows row h = tt
  cells_step [] (cell ∷ cells) rows row h = absurd h
  cells_step (c ∷ cs) [] rows row h = absurd h
  cells_step (c ∷ cs) (cell ∷ cells) rows row h =
      let here = cell_step c (aggregate_of c.value) rows row cell h.0 in
      let more = cells_step cs cells rows row h.1 in
      by_answer (CellsStep (c ∷ cs) rows row) (fold_cell s graph row true c cell) (λ d. fold_cells s graph row true cs cells >>= λ ds. Ok (d ∷ ds))
      (λ d e. by_answer (CellsStep (c ∷ cs) rows row) (fold_cells s graph row true cs cells) (λ ds. Ok (d ∷ ds))
      (λ ds g. (subst (CellStep c (aggregate_of c.value) rows row) e here, subst (CellsStep cs rows row) g more))
      (λ f g. let found : CellsFault cs rows row f = subst (CellsStep cs rows row) g more in (found.0, inr found.1, found.2)))
      (λ f e. (c, inl refl, subst (CellStep c (aggregate_of c.value) rows row) e here))

  -- a group without cells yet
  pub no_cells : (row : Row) (has_group : Bool) (columns : List Column) → fold_cells s graph row has_group columns (map (λ c. []) columns) ≡ fold_cells s graph row has_group columns []
  no_cells row has_group [] = refl
  no_cells row has_group (c ∷ cs) = ap (λ r. fold_cell s graph row has_group c [] >>= λ d. r >>= λ ds. Ok (d ∷ ds)) (no_cells row has_group cs)

  pub nothing_held : (columns : List Column) → AllZip (Holds []) columns (map (λ c. []) columns)
  nothing_held [] = tt
  nothing_held (c ∷ cs) = (by_aggregate (aggregate_of c.value), nothing_held cs)
    where
      by_aggregate : (o : Option Aggregate) → HoldsBy c o [] []
      by_aggregate None = refl
      by_aggregate (Some a) = refl

  -- ---- faults of a row

  abbrev pub ItemFaultBy : Column → Option Aggregate → Row → Fault → Type 0
  ItemFaultBy c o row f = elim o [ None ↦ evaluate row s.parameters graph c.value ≡ Err f | Some a ↦ ArgumentFaults (given_in s) graph row a f ]

  -- of the row alone, or of what an aggregate has taken in
  pub either_fault : (c : Column) (rows : List Row) (row : Row) (f : Fault) → FaultBy c (aggregate_of c.value) rows row f
      → ItemFaultBy c (aggregate_of c.value) row f ⊎ ((a : Aggregate) × (aggregate_of c.value ≡ Some a) × (taken_in (given_in s) graph a (rows ++ row ∷ []) ≡ Err f))
  either_fault c rows row f = by_aggregate (aggregate_of c.value)
    where
      by_aggregate : (o : Option Aggregate) → FaultBy c o rows row f → ItemFaultBy c o row f ⊎ ((a : Aggregate) × (o ≡ Some a) × (taken_in (given_in s) graph a (rows ++ row ∷ []) ≡ Err f))
      by_aggregate None h = inl h
      by_aggregate (Some a) (inl h) = inl h
      by_aggregate (Some a) (inr h) = inr (a, refl, h)

  -- where a row has no group
  alone_by : (c : Column) (o : Option Aggregate) (row : Row) (f : Fault) → fold_by c o row false [] ≡ Err f → ItemFaultBy c o row f
  alone_by c None row f e = by_value (went_wrong (evaluate row s.parameters graph c.value) (λ v. Ok (keep_first [] v)) f e)
    where
      by_value : (evaluate row s.parameters graph c.value ≡ Err f) ⊎ ((v : Value) × (evaluate row s.parameters graph c.value ≡ Ok v) × (◌≡◌ {A = Result (List Value) Fault} (Ok (keep_first [] v)) (Err f))) → evaluate row s.parameters graph c.value ≡ Err f
      by_value (inl h) = h
      by_value (inr h) = let impossible = h.2 in cc
  alone_by c (Some a) row f e = by_value (went_wrong (argument_value s.parameters graph row a) (fold_value false a []) f e)
    where
      by_test : (t : Result (Unit {0}) Fault) → ◌≡◌ {A = Result (List Value) Fault} (t >> Ok []) (Err f) → t ≡ Err f
      by_test (Ok x) h = cc
      by_test (Err g) h = cc

      by_value : (argument_value s.parameters graph row a ≡ Err f) ⊎ ((v : Value) × (argument_value s.parameters graph row a ≡ Ok v) × (fold_value false a [] v ≡ Err f)) → ArgumentFaults (given_in s) graph row a f
      by_value (inl h) = inl h
      by_value (inr h) = inr (h.0, h.1, by_test (test_alone a.summary h.0) h.2)

  pub alone_fault : (columns : List Column) (row : Row) (f : Fault) → fold_cells s graph row false columns [] ≡ Err f → ItemFaults (given_in s) graph columns row f
  alone_fault [] row f e = cc
  alone_fault (c ∷ cs) row f e =
      by_first (went_wrong (fold_cell s graph row false c []) (λ d. fold_cells s graph row false cs [] >>= λ ds. Ok (d ∷ ds)) f e) (alone_fault cs row f)
    where
      by_rest : (d : List Value) → (fold_cells s graph row false cs [] ≡ Err f) ⊎ ((ds : List (List Value)) × (fold_cells s graph row false cs [] ≡ Ok ds) × (◌≡◌ {A = Result (List (List Value)) Fault} (Ok (d ∷ ds)) (Err f)))
          → (fold_cells s graph row false cs [] ≡ Err f → ItemFaults (given_in s) graph cs row f) → ItemFaults (given_in s) graph (c ∷ cs) row f
      by_rest d (inl h) rest = let found = rest h in (found.0, inr found.1, found.2)
      by_rest d (inr h) rest = let impossible = h.2 in cc

      by_first : (fold_cell s graph row false c [] ≡ Err f) ⊎ ((d : List Value) × (fold_cell s graph row false c [] ≡ Ok d) × ((fold_cells s graph row false cs [] >>= λ ds. Ok (d ∷ ds)) ≡ Err f))
          → (fold_cells s graph row false cs [] ≡ Err f → ItemFaults (given_in s) graph cs row f) → ItemFaults (given_in s) graph (c ∷ cs) row f
      by_first (inl h) rest = (c, inl refl, alone_by c (aggregate_of c.value) row f h)
      by_first (inr h) rest = by_rest h.0 (went_wrong (fold_cells s graph row false cs []) (λ ds. Ok (h.0 ∷ ds)) f h.2) rest

  -- a fault of the key is one of a grouping item
  key_by : (c : Column) (o : Option Aggregate) (row : Row) (f : Fault) → not (is_some o) ≡ true → evaluate row s.parameters graph c.value ≡ Err f → ItemFaultBy c o row f
  key_by c None row f none e = e
  key_by c (Some a) row f none e = cc

  grouping_in : (c : Column) (columns : List Column) → IsIn c (grouping_columns columns) → IsIn c columns × (not (is_aggregate c) ≡ true)
  grouping_in c [] i = absurd i
  grouping_in c (d ∷ ds) i = by_test (not (is_aggregate d)) refl (grouping_in c ds) i
    where
      by_test : (b : Bool) → not (is_aggregate d) ≡ b → (IsIn c (grouping_columns ds) → IsIn c ds × (not (is_aggregate c) ≡ true)) → IsIn c (cond b (d ∷ grouping_columns ds) (grouping_columns ds))
          → IsIn c (d ∷ ds) × (not (is_aggregate c) ≡ true)
      by_test true e rest (inl same) = (inl same, ap (λ x. not (is_aggregate x)) same ∙ e)
      by_test true e rest (inr i) = let h = rest i in (inr h.0, h.1)
      by_test false e rest i = let h = rest i in (inr h.0, h.1)

  pub key_fault : (columns : List Column) (row : Row) (f : Fault) → grouping_key (given_in s) graph columns row ≡ Err f → ItemFaults (given_in s) graph columns row f
  key_fault columns row f e =
      let found = answers_fault (λ (c : Column). evaluate row s.parameters graph c.value) (grouping_columns columns) f e in
      let place = grouping_in found.0 columns found.1 in
      (found.0, place.0, key_by found.0 (aggregate_of found.0.value) row f place.1 found.2)

  -- ---- what a group tells

  told_by : (c : Column) (o : Option Aggregate) (rows : List Row) (cell : List Value) → HoldsBy c o rows cell
      → elim o as (λ o. Result (List ℕ × Value) Fault) [ None ↦ first_value (given_in s) graph c.value rows >>= λ v. Ok (c.name, v) | Some a ↦ taken_in (given_in s) graph a rows >>= λ vs. Ok (c.name, summarized a.summary vs) ]
      ≡ Ok (c.name, elim o as (λ o. Value) [ None ↦ first_or_null cell | Some a ↦ summarized a.summary cell ])
  told_by c None [] cell h = ap (λ (l : List Value). let b : List ℕ × Value = (c.name, first_or_null l) in Ok b) (sym h)
  told_by c None (row ∷ rows) cell h = ap (λ (r : Result Value Fault). r >>= λ v. Ok (c.name, v)) h.1 ∙ ap (λ (l : List Value). let b : List ℕ × Value = (c.name, first_or_null l) in Ok b) (sym h.2)
  told_by c (Some a) rows cell h = ap (λ (r : Result (List Value) Fault). r >>= λ vs. Ok (c.name, summarized a.summary vs)) h

  pub group_told : (columns : List Column) (cells : List (List Value)) (rows : List Row) → AllZip (Holds rows) columns cells → each_answer (group_value (given_in s) graph rows) columns ≡ Ok (group_columns columns cells)
  group_told [] [] rows h = refl
  group_told [] (cell ∷ cells) rows h = absurd h
  group_told (c ∷ cs) [] rows h = absurd h
  group_told (c ∷ cs) (cell ∷ cells) rows h =
      ap (λ r. r >>= λ b. each_answer (group_value (given_in s) graph rows) cs >>= λ bs. Ok (b ∷ bs)) (told_by c (aggregate_of c.value) rows cell h.0)
      ∙ ap (λ r. r >>= λ bs. Ok ((c.name, cell_value c cell) ∷ bs)) (group_told cs cells rows h.1)

  -- a group binds the names of the columns
  pub group_binds : (columns : List Column) (cells : List (List Value)) (rows : List Row) → AllZip (Holds rows) columns cells → (name : List ℕ) → is_some (value_in name (group_columns columns cells)) ≡ is_among (map (λ (c : Column). c.name) columns) name
  group_binds [] [] rows h name = refl
  group_binds [] (cell ∷ cells) rows h name = absurd h
  group_binds (c ∷ cs) [] rows h name = absurd h
  group_binds (c ∷ cs) (cell ∷ cells) rows h name =
      elim (bytes_eq name c.name) as (λ b. is_some (cond b (Some (cell_value c cell)) (value_in name (group_columns cs cells))) ≡ (b || is_among (map (λ (c : Column). c.name) cs) name)) [
        | true ↦ refl
        | false ↦ group_binds cs cells rows h.1 name
      ]
