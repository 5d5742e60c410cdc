-- The parts of a projection are the definition's clause.
use Rattle.std.proofs.Common.{◌≡◌, ◌≢◌, ℕ, suc, ◌==◌, Bool, true, false, cond, not, List, [], ◌∷◌, ◌++◌, map, length, take, drop, Result, Ok, Err, IfOk, IfErr, Option, Some, None, refl, sym, ap, subst, ◌∙◌, arith}
use Rattle.std.proofs.lemmas.Bool.Decides.{nat_tests}
use Rattle.std.specs.List.{AllByRecursion, list_any}
use Rattle.std.specs.Prelude.{unwrap_or, is_some, is_none, ◌||◌, ◌&&◌}
use Rattle.pg_meaning.specs.Aggregates.{aggregate_of}
use Rattle.pg_meaning.specs.Answer.{◌>>=◌, each_answer}
use Rattle.pg_meaning.specs.Graph.{Graph}
use Rattle.pg_meaning.specs.Meters.{Setting, State, spend}
use Rattle.pg_meaning.specs.Projections.{Projected, column_value, count_given, distinct_rows, grouped, item_rows, limited, ordered_rows, passing_rows, project_clause, projected, skipped}
use Rattle.pg_meaning.specs.Rows.{Row}
use Rattle.pg_meaning.specs.Scopes.{Column, is_aggregate}
use Rattle.pg_meaning.specs.Tree.{Expression, SortItem, Projection}
use Rattle.pg_meaning.specs.Value.{Value, Entries}
use Rattle.pg_meaning.specs.declared.fault.Fault.{Fault}
use Rattle.pg_meaning.specs.declared.fault.Fault.TheVariants.{OutOfMemory}
use Rattle.pg_rows.specs.Named.{row_of, rows_named}
use Rattle.pg_rows.specs.States.{Named, seen, named_rows, state_of}
use Rattle.pg_rows.specs.Tables.{table}
use Rattle.pg_rows.specs.declared.named.BindingTable.{BindingTable}
use Rattle.pg_rows.specs.declared.table.Rows.{Rows}
use Rattle.pg_syntax_tree.specs.View.{sort_item_view}
use Rattle.pg_syntax_tree.specs.declared.clauses.SortItem.{SortItem as Sort}
use Rattle.pg_value_core.specs.Gives.{Gives}
use Rattle.pg_project.proofs.Arranged.{distinct_stand, ordered_stand}
use Rattle.pg_project.proofs.InTurn.{bound_twice, nothing_behind}
use Rattle.pg_project.proofs.Kept.{cut_map, passing_stand}
use Rattle.pg_project.proofs.Standing.{all_rows}
use Rattle.pg_project.proofs.Wide.{table_wide}
use Rattle.pg_project.specs.Items.{columns_of, of_columns}
use Rattle.pg_project.specs.Given.{Cut, count_at, cut_given, cut_of, distinct_given, earlier_names, has_aggregate, has_none, hides_earlier, ordered_given, sorts_by_columns, passing_given, tail_given, wide_rows_given}
use Rattle.pg_project.specs.Parts.{rows_ended, rows_projected, stands}
use Rattle.pg_project.proofs.Unseen.{IsNamed, items_alone, items_named, names_of, ordered_alone, stripped}

-- ---- the clause by its parts

count_is : (s : Setting) (graph : Graph) (e : Option Expression) → count_given s.parameters graph e ≡ count_at s.parameters graph e
count_is s graph None = refl
count_is s graph (Some e) = refl

skip_is : {X : Type 0} (n : Option ℕ) (xs : List X) → skipped n xs ≡ drop (unwrap_or n 0) xs
skip_is None xs = refl
skip_is (Some n) xs = refl

-- both counts as one
counted : {X : Type 0} (a b : Result (Option ℕ) Fault) (next : Option ℕ → Option ℕ → Result X Fault) (to : Cut → Result X Fault) → ((n m : Option ℕ) → next n m ≡ to (record { skip = unwrap_or n 0; limit = m }))
    → (a >>= λ n. b >>= λ m. next n m) ≡ ((a >>= λ n. b >>= λ m. Ok (record { skip = unwrap_or n 0; limit = m })) >>= to)
counted (Ok n) (Ok m) next to h = h n m
counted (Ok n) (Err f) next to h = refl
counted (Err f) b next to h = refl

module _ (s : Setting) (graph : Graph) (columns : List Column) (p : Projection) (where_ : Option Expression) (rows : List Row) (steps : ℕ) where
  abbrev after_rows : List Row → Result State Fault
  after_rows rs = Ok (record { graph = graph; rows = rs; steps = steps })

  abbrev own_columns : List Projected → Result (List Row) Fault
  own_columns kept = Ok (map (λ r. r.columns) kept)

  abbrev after_kept : List Projected → Result State Fault
  after_kept kept = after_rows (map (λ r. r.columns) kept)

  abbrev cut_at : Option ℕ → Option ℕ → Cut
  cut_at n m = record { skip = unwrap_or n 0; limit = m }

  abbrev passed : Cut → List Projected → Result (List Row) Fault
  passed c sorted = passing_rows s graph where_ (limited c.limit (drop c.skip sorted)) >>= own_columns

  one_passed : (n m : Option ℕ) (sorted : List Projected) → (passing_rows s graph where_ (limited m (skipped n sorted)) >>= after_kept) ≡ (passed (cut_at n m) sorted >>= after_rows)
  one_passed n m sorted =
      ap (λ xs. passing_rows s graph where_ (limited m xs) >>= after_kept) (skip_is n sorted)
      ∙ sym (bound_twice (passing_rows s graph where_ (limited m (drop (unwrap_or n 0) sorted))) own_columns after_rows)

  all_ended : (n m : Option ℕ) (items : List Projected)
      → (ordered_rows s graph columns p.order (distinct_rows p.distinct items) >>= λ sorted. passing_rows s graph where_ (limited m (skipped n sorted)) >>= after_kept) ≡ (rows_ended s graph columns p where_ (cut_at n m) items >>= after_rows)
  all_ended n m items =
      (λ i. ordered_rows s graph columns p.order (distinct_rows p.distinct items) >>= λ sorted. one_passed n m sorted i)
      ∙ sym (bound_twice (ordered_rows s graph columns p.order (distinct_rows p.distinct items)) (passed (cut_at n m)) after_rows)

  abbrev all_items : Result (List Projected) Fault
  all_items = item_rows s graph p.distinct columns rows

  all_cut : (n m : Option ℕ)
      → (all_items >>= λ items. ordered_rows s graph columns p.order (distinct_rows p.distinct items) >>= λ sorted. passing_rows s graph where_ (limited m (skipped n sorted)) >>= after_kept)
      ≡ ((all_items >>= rows_ended s graph columns p where_ (cut_at n m)) >>= after_rows)
  all_cut n m = (λ i. all_items >>= λ items. all_ended n m items i) ∙ sym (bound_twice all_items (rows_ended s graph columns p where_ (cut_at n m)) after_rows)

  abbrev behind_steps : Result State Fault
  behind_steps = do
    skip ← count_given s.parameters graph p.skip
    limit ← count_given s.parameters graph p.limit
    items ← item_rows s graph p.distinct columns rows
    sorted ← ordered_rows s graph columns p.order (distinct_rows p.distinct items)
    kept ← passing_rows s graph where_ (limited limit (skipped skip sorted))
    Ok (record { graph = graph; rows = map (λ r. r.columns) kept; steps = steps })

  all_behind : behind_steps ≡ (rows_projected s graph columns p where_ rows >>= after_rows)
  all_behind =
      (λ i. count_is s graph p.skip i >>= λ n. count_is s graph p.limit i >>= λ m. all_cut n m i)
      ∙ counted (count_at s.parameters graph p.skip) (count_at s.parameters graph p.limit) (λ n m. (all_items >>= rows_ended s graph columns p where_ (cut_at n m)) >>= after_rows) (λ c. (all_items >>= rows_ended s graph columns p where_ c) >>= after_rows) (λ n m. refl)
      ∙ sym (bound_twice (cut_given s.parameters graph p.skip p.limit) (λ c. all_items >>= rows_ended s graph columns p where_ c) after_rows)

same_long : {X Y : Type 0} (f : X → Y) (xs : List X) → length (map f xs) ≡ length xs
same_long f [] = refl
same_long f (x ∷ xs) = ap suc (same_long f xs)

-- over a table
module _ (s : Setting) (graph : Graph) (columns : List Column) (p : Projection) (where_ : Option Expression) (t : Named) (used : ℕ) where
  pub clause_is : (a : Result ℕ Fault) → spend s used (length t.rows) ≡ a
      → project_clause s columns p where_ (state_of graph t used) ≡ (a >>= λ steps. rows_projected s graph columns p where_ (named_rows t) >>= λ rs. Ok (record { graph = graph; rows = rs; steps = steps }))
  clause_is a h =
      (λ i. spend s used (same_long (row_of t.names) t.rows i) >>= λ steps. all_behind s graph columns p where_ (named_rows t) steps i)
      ∙ ap (λ b. b >>= λ steps. rows_projected s graph columns p where_ (named_rows t) >>= λ rs. Ok (record { graph = graph; rows = rs; steps = steps })) h

  pub steps_fail : (f : Fault) → spend s used (length t.rows) ≡ Err f → project_clause s columns p where_ (state_of graph t used) ≡ Err f
  steps_fail f h = clause_is (Err f) h

  module _ (steps : ℕ) (spent : spend s used (length t.rows) ≡ Ok steps) where
    pub rows_fail : (f : Fault) → rows_projected s graph columns p where_ (named_rows t) ≡ Err f → project_clause s columns p where_ (state_of graph t used) ≡ Err f
    rows_fail f h = clause_is (Ok steps) spent ∙ ap (λ a. a >>= λ rs. Ok (record { graph = graph; rows = rs; steps = steps })) h

    pub all_projected : (found : Named) → rows_projected s graph columns p where_ (named_rows t) ≡ Ok (named_rows found) → project_clause s columns p where_ (state_of graph t used) ≡ Ok (state_of graph found steps)
    all_projected found h = clause_is (Ok steps) spent ∙ ap (λ a. a >>= λ rs. Ok (record { graph = graph; rows = rs; steps = steps })) h

-- ---- items

pub aggregates_are : (ns : List (List ℕ)) (es : List Expression) → length ns ≡ length es → list_any is_aggregate (columns_of ns es) ≡ has_aggregate es
aggregates_are [] [] h = refl
aggregates_are [] (e ∷ es) h = absurd (omega arith)
aggregates_are (n ∷ ns) [] h = absurd (omega arith)
aggregates_are (n ∷ ns) (e ∷ es) h = ap (λ b. is_some (aggregate_of e) || b) (aggregates_are ns es (omega arith))

taken_row : (ns : List (List ℕ)) (vs : List Value) → row_of ns (take (length ns) vs) ≡ row_of ns vs
taken_row [] vs = refl
taken_row (n ∷ ns) [] = refl
taken_row (n ∷ ns) (v ∷ vs) = ap (λ row. (n, v) ∷ row) (taken_row ns vs)

pub of_columns_stand : (ns : List (List ℕ)) (ws : List (List Value)) → map (of_columns ns) ws ≡ map (stands ns []) ws
of_columns_stand ns [] = refl
of_columns_stand ns (w ∷ ws) = λ i. (let p : Projected = record { columns = sym (taken_row ns w) i; earlier = [] } in p) ∷ of_columns_stand ns ws i

module _ (s : Setting) (graph : Graph) (columns names : List (List ℕ)) (es : List Expression) (distinct : Bool) (rows : List (List Value)) (same : length columns ≡ length es) where
  abbrev items_by : Bool → Result (List Projected) Fault
  items_by b = elim b [ true ↦ grouped s graph (columns_of columns es) (rows_named names rows) | false ↦ each_answer (projected s.parameters graph distinct (columns_of columns es)) (rows_named names rows) ]

  abbrev seen_by : Bool → BindingTable → List Projected
  seen_by b t = map (stands columns (earlier_names (b || distinct) names)) (seen t).rows

  by_aggregate : (result : Result BindingTable Fault) (b : Bool) → has_aggregate es ≡ b → Gives result (items_by b) (seen_by b) → Gives result (item_rows s graph distinct (columns_of columns es) (rows_named names rows)) (seen_by (has_aggregate es))
  by_aggregate result b h given =
      subst (λ a. Gives result (items_by a) (seen_by (has_aggregate es))) (sym (aggregates_are columns es same)) (subst (λ a. Gives result (items_by a) (seen_by a)) (sym h) given)

  pub groups_give : (result : Result BindingTable Fault) → has_aggregate es ≡ true → Gives result (grouped s graph (columns_of columns es) (rows_named names rows)) (λ t. map (stands columns []) (seen t).rows)
      → Gives result (item_rows s graph distinct (columns_of columns es) (rows_named names rows)) (seen_by (has_aggregate es))
  groups_give result h given = by_aggregate result true h given

  pub groups_are : has_aggregate es ≡ true → item_rows s graph distinct (columns_of columns es) (rows_named names rows) ≡ grouped s graph (columns_of columns es) (rows_named names rows)
  groups_are h = ap items_by (aggregates_are columns es same ∙ h)

  module _ (parameters : Entries) (given : s.parameters ≡ parameters) where
    abbrev wide : Result (List (List Value)) Fault
    wide = wide_rows_given parameters graph names es (not distinct) rows

    plain_is : items_by false ≡ (wide >>= λ ws. Ok (map (stands columns (earlier_names distinct names)) ws))
    plain_is = all_rows s graph columns names es distinct same rows ∙ ap (λ ps. wide_rows_given ps graph names es (not distinct) rows >>= λ ws. Ok (map (stands columns (earlier_names distinct names)) ws)) given

    plain_gives : (result : Result BindingTable Fault) → IfOk result (λ t. wide ≡ Ok (seen t).rows) → IfErr result (λ e. e ≢ OutOfMemory → wide ≡ Err e) → Gives result (items_by false) (seen_by false)
    plain_gives (Ok t) ok err = record {
      ok = plain_is ∙ ap (λ a. a >>= λ ws. Ok (map (stands columns (earlier_names distinct names)) ws)) ok;
      err = tt;
    }
    plain_gives (Err e) ok err = record {
      ok = tt;
      err = λ other. plain_is ∙ ap (λ a. a >>= λ ws. Ok (map (stands columns (earlier_names distinct names)) ws)) (err other);
    }

    pub rows_give : (result : Result BindingTable Fault) → has_aggregate es ≡ false → IfOk result (λ t. wide ≡ Ok (seen t).rows) → IfErr result (λ e. e ≢ OutOfMemory → wide ≡ Err e)
        → Gives result (item_rows s graph distinct (columns_of columns es) (rows_named names rows)) (seen_by (has_aggregate es))
    rows_give result h ok err = by_aggregate result false h (plain_gives result ok err)

-- ---- behind the items

module _ (s : Setting) (graph : Graph) (columns earlier : List (List ℕ)) (es : List Expression) (same : length columns ≡ length es) (p : Projection) (where_ : Option Expression) (c : Cut) where
  abbrev ended : List Projected → Result (List Row) Fault
  ended sorted = passing_rows s graph where_ (limited c.limit (drop c.skip sorted)) >>= λ kept. Ok (map (λ (r : Projected). r.columns) kept)

  sorted_ends : (a : Result (List (List Value)) Fault)
      → ((a >>= λ us. Ok (map (stands columns earlier) us)) >>= ended)
      ≡ ((a >>= λ us. passing_given s.parameters graph (columns ++ earlier) where_ (length columns) (cut_of c us)) >>= λ found. Ok (rows_named columns found))
  sorted_ends (Err f) = refl
  sorted_ends (Ok us) =
      ap (λ xs. passing_rows s graph where_ xs >>= λ kept. Ok (map (λ (r : Projected). r.columns) kept)) (cut_map (stands columns earlier) c us)
      ∙ passing_stand s graph where_ columns earlier (cut_of c us)

  distinct_is : (d : Bool) (ws : List (List Value)) → (d ≡ true → AllByRecursion (λ w. length w ≡ length columns) ws) → distinct_rows d (map (stands columns earlier) ws) ≡ map (stands columns earlier) (distinct_given d ws)
  distinct_is false ws h = refl
  distinct_is true ws h = distinct_stand columns earlier ws (h refl)

  pub ended_stand : (ws : List (List Value)) → (p.distinct ≡ true → AllByRecursion (λ w. length w ≡ length columns) ws)
      → rows_ended s graph (columns_of columns es) p where_ c (map (stands columns earlier) ws) ≡ (tail_given s.parameters graph (columns ++ earlier) es p.distinct p.order c where_ (length columns) ws >>= λ found. Ok (rows_named columns found))
  ended_stand ws wide =
      ap (λ xs. ordered_rows s graph (columns_of columns es) p.order xs >>= ended) (distinct_is p.distinct ws wide)
      ∙ ap (λ a. a >>= ended) (ordered_stand s graph columns earlier es same p.order (distinct_given p.distinct ws))
      ∙ sorted_ends (ordered_given s.parameters graph (columns ++ earlier) es p.order (distinct_given p.distinct ws))

-- ---- earlier variables that nothing looks at

module _ (s : Setting) (graph : Graph) (columns : List Column) where
  abbrev pub in_columns : List Projected → Result (List Row) Fault
  in_columns items = Ok (map (λ (r : Projected). r.columns) items)

  abbrev pub column_rows : List Row → Result (List Row) Fault
  column_rows rows = each_answer (λ row. each_answer (column_value s.parameters graph row) columns) rows

  pub columns_only : (hidden : Bool) (rows : List Row) → (each_answer (projected s.parameters graph hidden columns) rows >>= in_columns) ≡ column_rows rows
  columns_only hidden [] = refl
  columns_only hidden (row ∷ rows) = by (each_answer (column_value s.parameters graph row) columns) (each_answer (projected s.parameters graph hidden columns) rows) (columns_only hidden rows)
    where
      by_rest : (vs : Row) (rest : Result (List Projected) Fault)
          → ((rest >>= λ ys. Ok ((let p : Projected = record { columns = vs; earlier = cond hidden [] row } in p) ∷ ys)) >>= in_columns) ≡ ((rest >>= in_columns) >>= λ ys. Ok (vs ∷ ys))
      by_rest vs (Ok ys) = refl
      by_rest vs (Err f) = refl

      by : (a : Result Row Fault) (rest : Result (List Projected) Fault) → (rest >>= in_columns) ≡ column_rows rows
          → (((a >>= λ vs. Ok (let p : Projected = record { columns = vs; earlier = cond hidden [] row } in p)) >>= λ y. rest >>= λ ys. Ok (y ∷ ys)) >>= in_columns) ≡ (a >>= λ y. column_rows rows >>= λ ys. Ok (y ∷ ys))
      by (Ok vs) rest h = by_rest vs rest ∙ ap (λ b. b >>= λ ys. Ok (vs ∷ ys)) h
      by (Err f) rest h = refl

  columns_alone : (items : List Projected) → map (λ (r : Projected). r.columns) (map stripped items) ≡ map (λ (r : Projected). r.columns) items
  columns_alone [] = refl
  columns_alone (p ∷ ps) = ap (λ rs. p.columns ∷ rs) (columns_alone ps)

  no_condition : (items : List Projected) → passing_rows s graph None items ≡ Ok items
  no_condition [] = refl
  no_condition (p ∷ ps) = ap (λ a. a >>= λ others. Ok (p ∷ others)) (no_condition ps)

  module _ (c : Cut) (rows : List Row) where
    abbrev pub cut_rows : List Row → Result (List Row) Fault
    cut_rows rs = Ok (limited c.limit (drop c.skip rs))

    abbrev pub behind : List SortItem → Bool → Option Expression → List Projected → Result (List Row) Fault
    behind order distinct where_ items = ordered_rows s graph columns order (distinct_rows distinct items) >>= λ sorted. passing_rows s graph where_ (limited c.limit (drop c.skip sorted)) >>= in_columns

    pub cut_later : (a : Result (List Projected) Fault) → (a >>= behind [] false None) ≡ ((a >>= in_columns) >>= cut_rows)
    cut_later (Ok items) =
        ap (λ a. a >>= in_columns) (no_condition (limited c.limit (drop c.skip items)))
        ∙ ap Ok (sym (cut_map (λ (r : Projected). r.columns) c items))
    cut_later (Err f) = refl

    abbrev cut_columns : List Projected → Result (List Row) Fault
    cut_columns sorted = passing_rows s graph None (limited c.limit (drop c.skip sorted)) >>= in_columns

    cut_alone : (sorted : List Projected) → cut_columns (map stripped sorted) ≡ cut_columns sorted
    cut_alone sorted =
        ap (λ a. a >>= in_columns) (no_condition (limited c.limit (drop c.skip (map stripped sorted))))
        ∙ ap in_columns (cut_map stripped c sorted)
        ∙ ap Ok (columns_alone (limited c.limit (drop c.skip sorted)))
        ∙ sym (ap (λ a. a >>= in_columns) (no_condition (limited c.limit (drop c.skip sorted))))

    behind_alone : (order : List SortItem) → sorts_by_columns (names_of columns) order ≡ true → (items : List Projected) → AllByRecursion (IsNamed columns) items → behind order false None (map stripped items) ≡ behind order false None items
    behind_alone order h items named =
        ap (λ a. a >>= cut_columns) (ordered_alone s graph columns order h items named)
        ∙ by (ordered_rows s graph columns order items)
      where
        by : (a : Result (List Projected) Fault) → ((a >>= λ sorted. Ok (map stripped sorted)) >>= cut_columns) ≡ (a >>= cut_columns)
        by (Ok sorted) = cut_alone sorted
        by (Err f) = refl

    abbrev items_by_kind : (hidden aggregated : Bool) → Result (List Projected) Fault
    items_by_kind hidden aggregated = elim aggregated [ true ↦ grouped s graph columns rows | false ↦ each_answer (projected s.parameters graph hidden columns) rows ]

    hidden_alike : (order : List SortItem) → sorts_by_columns (names_of columns) order ≡ true → (aggregated : Bool) → (items_by_kind false aggregated >>= behind order false None) ≡ (items_by_kind true aggregated >>= behind order false None)
    hidden_alike order h true = refl
    hidden_alike order h false =
        sym (ap (λ a. a >>= behind order false None) (items_alone s graph columns rows) ∙ by (each_answer (projected s.parameters graph false columns) rows) (items_named s graph columns rows))
      where
        by : (a : Result (List Projected) Fault) → IfOk a (AllByRecursion (IsNamed columns)) → ((a >>= λ items. Ok (map stripped items)) >>= behind order false None) ≡ (a >>= behind order false None)
        by (Ok items) named = behind_alone order h items named
        by (Err f) named = refl

    hidden_by : (distinct : Bool) (order : List SortItem) (where_ : Option Expression)
        → (item_rows s graph distinct columns rows >>= behind order distinct where_) ≡ (item_rows s graph (distinct || (sorts_by_columns (names_of columns) order && is_none where_)) columns rows >>= behind order distinct where_)
    hidden_by true order where_ = refl
    hidden_by false order None = by (sorts_by_columns (names_of columns) order) refl
      where
        by : (b : Bool) → sorts_by_columns (names_of columns) order ≡ b → (item_rows s graph false columns rows >>= behind order false None) ≡ (item_rows s graph (b && true) columns rows >>= behind order false None)
        by true h = hidden_alike order h (list_any is_aggregate columns)
        by false h = refl
    hidden_by false order (Some e) = by (sorts_by_columns (names_of columns) order)
      where
        by : (b : Bool) → (item_rows s graph false columns rows >>= behind order false (Some e)) ≡ (item_rows s graph (b && false) columns rows >>= behind order false (Some e))
        by true = refl
        by false = refl

    hidden_is : (p : Projection) (where_ : Option Expression) → (item_rows s graph p.distinct columns rows >>= rows_ended s graph columns p where_ c) ≡ (item_rows s graph (hides_earlier (names_of columns) p where_) columns rows >>= rows_ended s graph columns p where_ c)
    hidden_is p where_ = hidden_by p.distinct p.order where_

names_are : (ns : List (List ℕ)) (es : List Expression) → length ns ≡ length es → names_of (columns_of ns es) ≡ ns
names_are [] es h = refl
names_are (n ∷ ns) [] h = absurd (omega (arith, h))
names_are (n ∷ ns) (e ∷ es) h = ap (λ ms. n ∷ ms) (names_are ns es (omega (arith, h)))

zero_only : (n : ℕ) → (n == 0) ≡ true → n ≡ 0
zero_only n h = grind (arith, nat_tests)

more_than_none : (n : ℕ) → (suc n == 0) ≡ false
more_than_none n = by (suc n == 0) refl
  where
    by : (b : Bool) → (suc n == 0) ≡ b → b ≡ false
    by true h = absurd (omega (arith, zero_only (suc n) h))
    by false h = refl

pub none_viewed : (order : List Sort) → (length order == 0) ≡ has_none (map sort_item_view order)
none_viewed [] = refl
none_viewed (o ∷ os) = more_than_none (length os)

-- ---- as the program gives it

own_width : (columns names : List (List ℕ)) (aggregated distinct unseen : Bool) → distinct ≡ true → length (columns ++ earlier_names (aggregated || (distinct || unseen)) names) ≡ length columns
own_width columns names true d u h = ap length (nothing_behind columns)
own_width columns names false true u h = ap length (nothing_behind columns)
own_width columns names false false u h = cc

module _ (s : Setting) (graph : Graph) (parameters : Entries) (given : s.parameters ≡ parameters) (all : List Column) (p : Projection) (where_ : Option Expression) (rows : List Row) where
  cut_is : (a : Result Cut Fault) → cut_given parameters graph p.skip p.limit ≡ a → rows_projected s graph all p where_ rows ≡ (a >>= λ c. item_rows s graph p.distinct all rows >>= rows_ended s graph all p where_ c)
  cut_is a h = ap (λ b. b >>= λ c. item_rows s graph p.distinct all rows >>= rows_ended s graph all p where_ c) (ap (λ ps. cut_given ps graph p.skip p.limit) given ∙ h)

  pub cut_fails : (f : Fault) → cut_given parameters graph p.skip p.limit ≡ Err f → rows_projected s graph all p where_ rows ≡ Err f
  cut_fails f h = cut_is (Err f) h

  module _ (columns names : List (List ℕ)) (es : List Expression) (are : all ≡ columns_of columns es) (same : length columns ≡ length es) (c : Cut) (cut : cut_given parameters graph p.skip p.limit ≡ Ok c) where
    pub items_are : (a : Result (List Projected) Fault) → item_rows s graph (hides_earlier columns p where_) (columns_of columns es) rows ≡ a → rows_projected s graph all p where_ rows ≡ (a >>= rows_ended s graph (columns_of columns es) p where_ c)
    items_are a h =
        cut_is (Ok c) cut
        ∙ ap (λ cs. item_rows s graph p.distinct cs rows >>= rows_ended s graph cs p where_ c) are
        ∙ hidden_is s graph (columns_of columns es) c rows p where_
        ∙ ap (λ ns. item_rows s graph (hides_earlier ns p where_) (columns_of columns es) rows >>= rows_ended s graph (columns_of columns es) p where_ c) (names_are columns es same)
        ∙ ap (λ b. b >>= rows_ended s graph (columns_of columns es) p where_ c) h

    pub items_fail : (f : Fault) → item_rows s graph (hides_earlier columns p where_) (columns_of columns es) rows ≡ Err f → rows_projected s graph all p where_ rows ≡ Err f
    items_fail f h = items_are (Err f) h

    module _ (visible : List (List ℕ)) (r : Rows) (fits : r.width ≡ length visible) (width : ℕ) (long : width ≡ length columns) (named : visible ≡ columns ++ earlier_names (has_aggregate es || hides_earlier columns p where_) names)
        (items : item_rows s graph (hides_earlier columns p where_) (columns_of columns es) rows ≡ Ok (map (stands columns (earlier_names (has_aggregate es || hides_earlier columns p where_) names)) (table r))) where
      abbrev behind_items : Result (List (List Value)) Fault
      behind_items = tail_given parameters graph visible es p.distinct p.order c where_ width (table r)

      as_wide : p.distinct ≡ true → AllByRecursion (λ w. length w ≡ length columns) (table r)
      as_wide h = subst (λ n. AllByRecursion (λ w. length w ≡ n) (table r)) (fits ∙ ap length named ∙ own_width columns names (has_aggregate es) p.distinct (sorts_by_columns columns p.order && is_none where_) h) (table_wide r)

      ended_is : rows_projected s graph all p where_ rows ≡ (behind_items >>= λ found. Ok (rows_named columns found))
      ended_is =
          items_are (Ok (map (stands columns (earlier_names (has_aggregate es || hides_earlier columns p where_) names)) (table r))) items
          ∙ ended_stand s graph columns (earlier_names (has_aggregate es || hides_earlier columns p where_) names) es same p where_ c (table r) as_wide
          ∙ (λ i. tail_given (given i) graph (sym named i) es p.distinct p.order c where_ (sym long i) (table r) >>= λ found. Ok (rows_named columns found))

      pub ended_gives : (result : Result Rows Fault) → IfOk result (λ found. behind_items ≡ Ok (table found)) → IfErr result (λ e. e ≢ OutOfMemory → behind_items ≡ Err e) → Gives result (rows_projected s graph all p where_ rows) (λ found. rows_named columns (table found))
      ended_gives (Ok found) ok err = record {
        ok = ended_is ∙ ap (λ a. a >>= λ us. Ok (rows_named columns us)) ok;
        err = tt;
      }
      ended_gives (Err e) ok err = record {
        ok = tt;
        err = λ other. ended_is ∙ ap (λ a. a >>= λ us. Ok (rows_named columns us)) (err other);
      }
