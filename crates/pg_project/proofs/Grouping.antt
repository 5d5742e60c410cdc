-- The groups of the definition and those that the program keeps, side by side.
use Rattle.std.proofs.Common.{◌≡◌, ℕ, Bool, true, false, cond, not, is_some, List, [], ◌∷◌, length, map, Result, Ok, Err, Option, Some, None, refl, sym, ap, ◌∙◌, subst, arith}
use Rattle.pg_project.proofs.Cells.{Cells, begun_cells, old_cells, new_cells, tested, Either, told_cells}
use Rattle.pg_project.proofs.Lifts.{Lifted, both}
use Rattle.pg_project.specs.Items.{item_by, before_keys, keys_in, aggregates_in, are_aggregates, columns_of, of_columns}
use Rattle.pg_project.specs.Kept.{Kept, Answers, answers_at, all_taken_in, begun, into_kept, items_tested, without_group, kept_row, first_kept, kept_rows, kept_values, merged, told_each, rows_given}
use Rattle.pg_meaning.specs.Aggregates.{Aggregate, aggregate_of}
use Rattle.pg_meaning.specs.Answer.{◌>>=◌, ◌>>◌, each_answer, each_step}
use Rattle.pg_meaning.specs.Expressions.{evaluate}
use Rattle.pg_meaning.specs.Graph.{Graph}
use Rattle.pg_meaning.specs.Meters.{Setting}
use Rattle.pg_meaning.specs.Projections.{Group, Projected, same_values, fold_cells, grouping_columns, into_groups, group_row, first_groups, group_columns, grouped}
use Rattle.pg_meaning.specs.Rows.{Row}
use Rattle.pg_meaning.specs.Scopes.{Column}
use Rattle.pg_meaning.specs.Tree.{Expression}
use Rattle.pg_meaning.specs.Value.{Value, Entries}
use Rattle.pg_meaning.specs.declared.fault.Fault.{Fault}
use Rattle.pg_rows.specs.Named.{row_of, rows_named}

-- the same keys, and cells that stand for what is kept
abbrev pub Agree : List Expression → List Group → List Kept → Type 0
Agree es [] [] = Unit {0}
Agree es (g ∷ gs) (k ∷ ks) = (g.key ≡ k.key) × Cells es g.key g.cells k.taken × Agree es gs ks
Agree es gs ks = ⊥

-- ---- the items that group

abbrev trees : List Column → List Expression
trees cs = map (λ c. c.value) cs

grouping_trees : (ns : List (List ℕ)) (es : List Expression) → length ns ≡ length es → trees (grouping_columns (columns_of ns es)) ≡ keys_in es
grouping_trees [] [] l = refl
grouping_trees [] (e ∷ es) l = absurd (omega arith)
grouping_trees (n ∷ ns) [] l = absurd (omega arith)
grouping_trees (n ∷ ns) (e ∷ es) l = by (grouping_trees ns es (omega arith)) (aggregate_of e)
  where
    others : List Column
    others = grouping_columns (columns_of ns es)

    by : trees (grouping_columns (columns_of ns es)) ≡ keys_in es → (o : Option Aggregate) → trees (cond (not (is_some o)) (record { name = n; value = e } ∷ others) others) ≡ before_keys (item_by e o) (keys_in es)
    by rest None = ap (λ xs. e ∷ xs) rest
    by rest (Some a) = rest

each_tree : (f : Answers) (cs : List Column) → each_answer (λ c. f c.value) cs ≡ each_answer f (trees cs)
each_tree f [] = refl
each_tree f (c ∷ cs) = ap (λ a. f c.value >>= λ v. a >>= λ vs. Ok (v ∷ vs)) (each_tree f cs)

first_agree : (ns : List (List ℕ)) (es : List Expression) → length ns ≡ length es → Agree es (first_groups (columns_of ns es)) (first_kept (keys_in es) (aggregates_in es))
first_agree ns es l = by (grouping_columns (columns_of ns es)) (keys_in es) (grouping_trees ns es l) refl
  where
    by : (cs : List Column) (ks : List Expression) → trees cs ≡ ks → keys_in es ≡ ks
        → Agree es (elim cs as (λ d. List Group) [ [] ↦ record { key = []; cells = map (λ c. []) (columns_of ns es) } ∷ [] | d ∷ ds ↦ [] ]) (first_kept ks (aggregates_in es))
    by [] [] h k = (refl, begun_cells ns es l k, tt)
    by [] (x ∷ xs) h k = absurd cc
    by (c ∷ cs) [] h k = absurd cc
    by (c ∷ cs) (x ∷ xs) h k = tt

-- ---- a row

module _ (s : Setting) (graph : Graph) (ns : List (List ℕ)) (es : List Expression) (long : length ns ≡ length es) (row : Row) where
  abbrev at : Answers
  at e = evaluate row s.parameters graph e

  abbrev columns : List Column
  columns = columns_of ns es

  into : (vs : List Value) → each_answer at (keys_in es) ≡ Ok vs → (gs : List Group) (ks : List Kept) → Agree es gs ks → Lifted (λ hs xs. Agree es hs xs) (into_groups s graph columns row vs gs) (into_kept at (aggregates_in es) vs ks)
  into vs keys [] [] h =
      both (λ cs us. Cells es vs cs us) (λ hs xs. Agree es hs xs) (fold_cells s graph row true columns []) (all_taken_in at (aggregates_in es) (begun (aggregates_in es)))
      (λ cs. Ok (record { key = vs; cells = cs } ∷ [])) (λ ts. Ok (record { key = vs; taken = ts } ∷ [])) (new_cells s graph row ns es long vs keys)
      (λ cs us r. (refl, r, tt))
  into vs keys [] (k ∷ ks) h = absurd h
  into vs keys (g ∷ gs) [] h = absurd h
  into vs keys (g ∷ gs) (k ∷ ks) h =
      subst (λ u. Lifted (λ hs xs. Agree es hs xs) (into_groups s graph columns row vs (g ∷ gs)) (kept_by u (same_values u vs))) h.0 (by (into vs keys gs ks h.2) (same_values g.key vs))
    where
      kept_by : List Value → Bool → Result (List Kept) Fault
      kept_by u b = elim b as (λ c. Result (List Kept) Fault) [
        | true ↦ all_taken_in at (aggregates_in es) k.taken >>= λ ts. Ok (record { key = u; taken = ts } ∷ ks)
        | false ↦ into_kept at (aggregates_in es) vs ks >>= λ hs. Ok (record { key = u; taken = k.taken } ∷ hs)
      ]

      grouped_by : Bool → Result (List Group) Fault
      grouped_by b = elim b as (λ c. Result (List Group) Fault) [
        | true ↦ fold_cells s graph row true columns g.cells >>= λ cells. Ok (record { key = g.key; cells = cells } ∷ gs)
        | false ↦ into_groups s graph columns row vs gs >>= λ hs. Ok (g ∷ hs)
      ]

      by : Lifted (λ hs xs. Agree es hs xs) (into_groups s graph columns row vs gs) (into_kept at (aggregates_in es) vs ks) → (b : Bool) → Lifted (λ hs xs. Agree es hs xs) (grouped_by b) (kept_by g.key b)
      by rest true =
          both (λ cs us. Cells es g.key cs us) (λ hs xs. Agree es hs xs) (fold_cells s graph row true columns g.cells) (all_taken_in at (aggregates_in es) k.taken)
          (λ cs. Ok (record { key = g.key; cells = cs } ∷ gs)) (λ ts. Ok (record { key = g.key; taken = ts } ∷ ks)) (old_cells s graph row ns es long g.key vs g.cells k.taken keys h.1)
          (λ cs us r. (refl, r, h.2))
      by rest false =
          both (λ hs xs. Agree es hs xs) (λ hs xs. Agree es hs xs) (into_groups s graph columns row vs gs) (into_kept at (aggregates_in es) vs ks)
          (λ hs. Ok (g ∷ hs)) (λ xs. Ok (record { key = g.key; taken = k.taken } ∷ xs)) rest
          (λ hs xs r. (refl, h.1, r))

  alone : (a : Result (List (List Value)) Fault) (b : Result (Unit {0}) Fault) (f : Fault) → Lifted Either a b
      → Lifted (λ hs xs. Agree es hs xs) (a >>= λ cells. let r : Result (List Group) Fault = Err f in r) (b >> (let r : Result (List Kept) Fault = Err f in r))
  alone (Ok x) (Ok y) f h = refl
  alone (Err e) (Err d) f h = h
  alone (Ok x) (Err d) f h = absurd h
  alone (Err e) (Ok y) f h = absurd h

  row_taken : (gs : List Group) (ks : List Kept) → Agree es gs ks → Lifted (λ hs xs. Agree es hs xs) (group_row s graph columns gs row) (kept_row at es ks)
  row_taken gs ks h =
      subst (λ a. Lifted (λ hs xs. Agree es hs xs) (grouped_at a) (kept_row at es ks)) (sym (each_tree at (grouping_columns columns) ∙ ap (each_answer at) (grouping_trees ns es long))) (by (each_answer at (keys_in es)) refl)
    where
      grouped_at : Result (List Value) Fault → Result (List Group) Fault
      grouped_at a = elim a as (λ b. Result (List Group) Fault) [
        | Ok vs ↦ into_groups s graph columns row vs gs
        | Err f ↦ fold_cells s graph row false columns [] >>= λ cells. Err f
      ]

      kept_at : Result (List Value) Fault → Result (List Kept) Fault
      kept_at a = elim a as (λ b. Result (List Kept) Fault) [
        | Ok vs ↦ into_kept at (aggregates_in es) vs ks
        | Err f ↦ without_group at es f
      ]

      by : (a : Result (List Value) Fault) → each_answer at (keys_in es) ≡ a → Lifted (λ hs xs. Agree es hs xs) (grouped_at a) (kept_at a)
      by (Ok vs) e = into vs e gs ks h
      by (Err f) e = alone (fold_cells s graph row false columns []) (items_tested at es) f (tested s graph row ns es long)

-- ---- all rows

module _ (s : Setting) (graph : Graph) (names ns : List (List ℕ)) (es : List Expression) (long : length ns ≡ length es) where
  rows_taken : (rows : List (List Value)) (gs : List Group) (ks : List Kept) → Agree es gs ks
      → Lifted (λ hs xs. Agree es hs xs) (each_step (group_row s graph (columns_of ns es)) gs (rows_named names rows)) (kept_rows s.parameters graph names es ks rows)
  rows_taken [] gs ks h = h
  rows_taken (r ∷ rs) gs ks h =
      both (λ hs xs. Agree es hs xs) (λ hs xs. Agree es hs xs) (group_row s graph (columns_of ns es) gs (row_of names r)) (kept_row (answers_at s.parameters graph names r) es ks)
      (λ hs. each_step (group_row s graph (columns_of ns es)) hs (rows_named names rs)) (λ xs. kept_rows s.parameters graph names es xs rs) (row_taken s graph ns es long (row_of names r) gs ks h)
      (λ hs xs r. rows_taken rs hs xs r)

  abbrev told : Group → Projected
  told g = record { columns = group_columns (columns_of ns es) g.cells; earlier = [] }

  told_rows : (gs : List Group) (ks : List Kept) → Agree es gs ks → map told gs ≡ map (of_columns ns) (map (kept_values es) ks)
  told_rows [] [] h = refl
  told_rows [] (k ∷ ks) h = absurd h
  told_rows (g ∷ gs) [] h = absurd h
  told_rows (g ∷ gs) (k ∷ ks) h = λ i. record { columns = row_told i; earlier = [] } ∷ told_rows gs ks h.2 i
    where
      row_told : group_columns (columns_of ns es) g.cells ≡ row_of ns (kept_values es k)
      row_told = told_cells ns es long g.key g.cells k.taken h.1 ∙ ap (λ u. row_of ns (merged (are_aggregates es) u (told_each k.taken))) h.0

  all_told : (a : Result (List Group) Fault) (b : Result (List Kept) Fault) → Lifted (λ hs xs. Agree es hs xs) a b
      → (a >>= λ gs. Ok (map told gs)) ≡ ((b >>= λ ks. Ok (map (kept_values es) ks)) >>= λ vs. Ok (map (of_columns ns) vs))
  all_told (Ok gs) (Ok ks) h = ap Ok (told_rows gs ks h)
  all_told (Err f) (Err g) h = ap Err h
  all_told (Ok gs) (Err g) h = absurd h
  all_told (Err f) (Ok ks) h = absurd h

  pub grouped_is : (rows : List (List Value)) → grouped s graph (columns_of ns es) (rows_named names rows) ≡ (rows_given s.parameters graph names es rows >>= λ vs. Ok (map (of_columns ns) vs))
  grouped_is rows =
      all_told (each_step (group_row s graph (columns_of ns es)) (first_groups (columns_of ns es)) (rows_named names rows)) (kept_rows s.parameters graph names es (first_kept (keys_in es) (aggregates_in es)) rows)
      (rows_taken rows (first_groups (columns_of ns es)) (first_kept (keys_in es) (aggregates_in es)) (first_agree ns es long))

  -- ---- as the program gives it

  module _ (parameters : Entries) (suits : s.parameters ≡ parameters) (rows : List (List Value)) where
    pub gives : (found : List (List Value)) → rows_given parameters graph names es rows ≡ Ok found → grouped s graph (columns_of ns es) (rows_named names rows) ≡ Ok (map (of_columns ns) found)
    gives found h = grouped_is rows ∙ ap (λ p. rows_given p graph names es rows >>= λ vs. Ok (map (of_columns ns) vs)) suits ∙ ap (λ a. a >>= λ vs. Ok (map (of_columns ns) vs)) h

    pub fails : (f : Fault) → rows_given parameters graph names es rows ≡ Err f → grouped s graph (columns_of ns es) (rows_named names rows) ≡ Err f
    fails f h = grouped_is rows ∙ ap (λ p. rows_given p graph names es rows >>= λ vs. Ok (map (of_columns ns) vs)) suits ∙ ap (λ a. a >>= λ vs. Ok (map (of_columns ns) vs)) h
