-- WITH and RETURN go well or end in a fault of a run.
use Rattle.std.proofs.Common.{◌≡◌, ℕ, suc, Bool, true, false, cond, not, ◌&&◌, ◌||◌, inl, inr, ◌⊎◌, pos, negsuc, List, [], ◌∷◌, ◌++◌, map, filter, length, slice_get, position, Option, Some, None, is_some, bytes_eq, Result, Ok, Err, refl, sym, ap, subst, ◌∙◌, arith}
use Rattle.std.proofs.lemmas.List.{append-nil, length-map}
use Rattle.std.specs.Bool.{⊤}
use Rattle.std.specs.List.{AllByRecursion, list_any}
use Rattle.std.specs.Ordering.{is_gt}
use Rattle.pg_meaning.specs.Aggregates.{Summary, summing, collecting, Aggregate, aggregate_of, total, test_summand, extended, take_in}
use Rattle.pg_meaning.specs.Agreement.{AreRowsOf}
use Rattle.pg_meaning.specs.Answer.{◌>>=◌, each_answer, each_step}
use Rattle.pg_meaning.specs.Arithmetic.{is_in_range}
use Rattle.pg_meaning.specs.Conditions.{condition}
use Rattle.pg_soundness.proofs.RowNames.{BindsOnly}
use Rattle.pg_meaning.specs.Expressions.{evaluate}
use Rattle.pg_meaning.specs.Graph.{Graph}
use Rattle.pg_meaning.specs.ListsLaws.{all_mapped}
use Rattle.pg_meaning.specs.Measure.{is_within_limits}
use Rattle.pg_meaning.specs.Meters.{Setting, State, spend}
use Rattle.pg_meaning.specs.Names.{Names, is_among}
use Rattle.pg_meaning.specs.Order.{is_equivalent}
use Rattle.pg_meaning.specs.Projections.{count_of, count_given, skipped, limited, Projected, visible, column_value, projected, Group, same_values, argument_value, test_alone, fold_value, keep_first, fold_cell, fold_cells, grouping_columns, into_groups, group_row, first_groups, group_columns, grouped, item_rows, firsts, distinct_rows, sort_key, keyed as keyed_by, keys_order, insert_keyed, sorted_keyed, ordered_rows, passing_rows, project_clause}
use Rattle.pg_meaning.specs.Rows.{Row, value_in, values_in}
use Rattle.pg_meaning.specs.Scopes.{Column, is_aggregate, column_names}
use Rattle.pg_meaning.specs.StaticFaults.{visible_of}
use Rattle.pg_meaning.specs.Tree.{Expression, SortItem, Projection}
use Rattle.pg_meaning.specs.Trees.{same_expression}
use Rattle.pg_meaning.specs.Value.{Value, null, boolean, integer, list, values_of}
use Rattle.pg_meaning.specs.declared.fault.Fault.{Fault}
use Rattle.pg_meaning.specs.declared.fault.Fault.TheVariants.{Overflow, ValueTooLarge}
use Rattle.pg_soundness.proofs.FaultsItems.{has_place, ColumnReady, plain_ready}
use Rattle.pg_soundness.proofs.FaultsSteps.{Ends, ends_fine, fine_ends, ends_all, ends_then, ends_each, ends_steps, fine_spend, Ready, fine_ready, ReadyIfAny, fine_condition_at}
use Rattle.pg_soundness.proofs.FaultsValues.{Fine, fine_all, fine_after}
use Rattle.pg_soundness.proofs.MatchLists.{all_taken, all_dropped}
use Rattle.pg_soundness.specs.Faults.{is_of_run}

-- ---- aggregates at values

fine_cond : {X : Type 0} (b : Bool) (x : X) (f : Fault) → is_of_run f ≡ true → Fine (cond b (Ok x) (Err f))
fine_cond true x f h = tt
fine_cond false x f h = h

fine_extended : (a : Summary) (vs : List Value) (v : Value) → Fine (extended a vs v)
fine_extended summing vs (integer i) = fine_cond (is_in_range (total (vs ++ integer i ∷ []))) (vs ++ integer i ∷ []) Overflow refl
fine_extended summing vs v = refl
fine_extended collecting vs v = fine_cond (is_within_limits (list (values_of (vs ++ v ∷ [])))) (vs ++ v ∷ []) ValueTooLarge refl
fine_extended a vs v = tt

fine_take : (a : Aggregate) (vs : List Value) (v : Value) → Fine (take_in a vs v)
fine_take a vs null = tt
fine_take a vs v = elim (a.distinct && list_any (is_equivalent v) vs) as (λ b. Fine (elim b as (λ b. Result (List Value) Fault) [ true ↦ Ok vs | false ↦ extended a.summary vs v ])) [ true ↦ tt | false ↦ fine_extended a.summary vs v ]

fine_summand : (v : Value) → Fine (test_summand v)
fine_summand null = tt
fine_summand (integer i) = tt
fine_summand v = refl

fine_alone : (a : Summary) (v : Value) → Fine (test_alone a v)
fine_alone summing v = fine_summand v
fine_alone a v = tt

fine_fold : (b : Bool) (a : Aggregate) (vs : List Value) (v : Value) → Fine (fold_value b a vs v)
fine_fold true a vs v = fine_take a vs v
fine_fold false a vs v = fine_after (test_alone a.summary v) (Ok vs) (fine_alone a.summary v) tt

fine_count : (v : Value) → Fine (count_of v)
fine_count (integer (pos n)) = tt
fine_count (integer (negsuc n)) = refl
fine_count v = refl

-- ---- rows of columns

row_names : (row : Row) (q : List ℕ) → is_some (value_in q row) ≡ is_among (map (λ b. b.0) row) q
row_names [] q = refl
row_names (b ∷ row) q = elim (bytes_eq q b.0) as (λ c. is_some (cond c (Some b.1) (value_in q row)) ≡ (c || is_among (map (λ b. b.0) row) q)) [ true ↦ refl | false ↦ row_names row q ]

named_binds : (row : Row) (names : Names) → map (λ b. b.0) row ≡ names → BindsOnly names row
named_binds row names e q = row_names row q ∙ ap (λ ns. is_among ns q) e

joined_reads : (xs ys : Row) (q : List ℕ) → is_some (value_in q (xs ++ ys)) ≡ (is_some (value_in q xs) || is_some (value_in q ys))
joined_reads [] ys q = refl
joined_reads (b ∷ xs) ys q = elim (bytes_eq q b.0) as (λ c. is_some (cond c (Some b.1) (value_in q (xs ++ ys))) ≡ (is_some (cond c (Some b.1) (value_in q xs)) || is_some (value_in q ys))) [ true ↦ refl | false ↦ joined_reads xs ys q ]

joined_among : (xs ys : Names) (q : List ℕ) → is_among (xs ++ ys) q ≡ (is_among xs q || is_among ys q)
joined_among [] ys q = refl
joined_among (n ∷ xs) ys q = elim (bytes_eq q n) as (λ c. (c || is_among (xs ++ ys) q) ≡ ((c || is_among xs q) || is_among ys q)) [ true ↦ refl | false ↦ joined_among xs ys q ]

joined_binds : (names scope : Names) (row earlier : Row) → BindsOnly names row → BindsOnly scope earlier → BindsOnly (names ++ scope) (row ++ earlier)
joined_binds names scope row earlier h g q = joined_reads row earlier q ∙ (λ i. h q i || g q i) ∙ sym (joined_among names scope q)

module _ (s : Setting) (graph : Graph) (columns : List Column) (distinct : Bool) (ready : AllByRecursion (ColumnReady s.scope s.parameters) columns) where
  -- ---- groups

  fine_cell : (row : Row) → BindsOnly s.scope row → (has_group : Bool) (c : Column) (cell : List Value) → ColumnReady s.scope s.parameters c → Fine (fold_cell s graph row has_group c cell)
  fine_cell row b has_group c cell r = by_aggregate (aggregate_of c.value) r
    where
      by_argument : (a : Aggregate) (o : Option Expression) → ReadyIfAny s.scope s.parameters o → Fine (elim o as (λ o. Result Value Fault) [ None ↦ Ok (boolean true) | Some e ↦ evaluate row s.parameters graph e ])
      by_argument a None r = tt
      by_argument a (Some e) r = fine_ready s.scope s.parameters graph row b e r

      by_aggregate : (o : Option Aggregate) → elim o as (λ o. Type 0) [ None ↦ Ready s.scope s.parameters c.value | Some a ↦ ReadyIfAny s.scope s.parameters a.argument ]
          → Fine (elim o as (λ o. Result (List Value) Fault) [ None ↦ evaluate row s.parameters graph c.value >>= λ v. Ok (keep_first cell v) | Some a ↦ argument_value s.parameters graph row a >>= fold_value has_group a cell ])
      by_aggregate None r = fine_all (evaluate row s.parameters graph c.value) _ (fine_ready s.scope s.parameters graph row b c.value r) (λ v. tt)
      by_aggregate (Some a) r = fine_all (argument_value s.parameters graph row a) _ (by_argument a a.argument r) (λ v. fine_fold has_group a cell v)

  cells_end : (row : Row) → BindsOnly s.scope row → (has_group : Bool) (cs : List Column) (cells : List (List Value)) → AllByRecursion (ColumnReady s.scope s.parameters) cs → Ends (λ ds. length ds ≡ length cs) (fold_cells s graph row has_group cs cells)
  cells_end row b has_group [] cells r = refl
  cells_end row b has_group (c ∷ cs) [] r =
      ends_all (λ ds. length ds ≡ length (c ∷ cs)) (fold_cell s graph row has_group c []) _ (fine_cell row b has_group c [] r.0)
      (λ d. ends_then (λ ds. length ds ≡ length cs) (λ ds. length ds ≡ length (c ∷ cs)) (fold_cells s graph row has_group cs []) _ (cells_end row b has_group cs [] r.1) (λ ds e. ap suc e))
  cells_end row b has_group (c ∷ cs) (cell ∷ cells) r =
      ends_all (λ ds. length ds ≡ length (c ∷ cs)) (fold_cell s graph row has_group c cell) _ (fine_cell row b has_group c cell r.0)
      (λ d. ends_then (λ ds. length ds ≡ length cs) (λ ds. length ds ≡ length (c ∷ cs)) (fold_cells s graph row has_group cs cells) _ (cells_end row b has_group cs cells r.1) (λ ds e. ap suc e))

  abbrev IsSized : Group → Type 0
  IsSized g = length g.cells ≡ length columns

  abbrev AreSized : List Group → Type 0
  AreSized gs = AllByRecursion IsSized gs

  into_end : (row : Row) → BindsOnly s.scope row → (values : List Value) (gs : List Group) → AreSized gs → Ends AreSized (into_groups s graph columns row values gs)
  into_end row b values [] h = ends_then (λ ds. length ds ≡ length columns) AreSized (fold_cells s graph row true columns []) _ (cells_end row b true columns [] ready) (λ cells e. (e, tt))
  into_end row b values (g ∷ gs) h = by_same (same_values g.key values) (into_end row b values gs h.1)
    where
      by_same : (c : Bool) → Ends AreSized (into_groups s graph columns row values gs) → Ends AreSized (elim c as (λ c. Result (List Group) Fault) [
        | true ↦ fold_cells s graph row true columns g.cells >>= λ cells. Ok (record { key = g.key; cells = cells } ∷ gs)
        | false ↦ into_groups s graph columns row values gs >>= λ hs. Ok (g ∷ hs)
      ])
      by_same true rest = ends_then (λ ds. length ds ≡ length columns) AreSized (fold_cells s graph row true columns g.cells) _ (cells_end row b true columns g.cells ready) (λ cells e. (e, h.1))
      by_same false rest = ends_then AreSized AreSized (into_groups s graph columns row values gs) _ rest (λ hs k. (h.0, k))

  grouping_ready : (cs : List Column) → AllByRecursion (ColumnReady s.scope s.parameters) cs → AllByRecursion (λ c. Ready s.scope s.parameters c.value) (filter (λ c. not (is_aggregate c)) cs)
  grouping_ready [] r = tt
  grouping_ready (c ∷ cs) r = by_one (aggregate_of c.value) r.0 (grouping_ready cs r.1)
    where
      by_one : (o : Option Aggregate) → elim o as (λ o. Type 0) [ None ↦ Ready s.scope s.parameters c.value | Some a ↦ ReadyIfAny s.scope s.parameters a.argument ] → AllByRecursion (λ c. Ready s.scope s.parameters c.value) (filter (λ c. not (is_aggregate c)) cs)
          → AllByRecursion (λ c. Ready s.scope s.parameters c.value) (cond (not (is_some o)) (c ∷ filter (λ c. not (is_aggregate c)) cs) (filter (λ c. not (is_aggregate c)) cs))
      by_one None r rest = (r, rest)
      by_one (Some a) r rest = rest

  group_end : (gs : List Group) (row : Row) → AreSized gs → BindsOnly s.scope row → Ends AreSized (group_row s graph columns gs row)
  group_end gs row h b = by_key values (fine_ends (AllByRecursion (λ v. ⊤)) values (ends_each (λ c. Ready s.scope s.parameters c.value) (λ v. ⊤) (λ c. evaluate row s.parameters graph c.value) (λ c r. ends_fine (λ v. ⊤) (evaluate row s.parameters graph c.value) (fine_ready s.scope s.parameters graph row b c.value r) (λ v is. tt)) (grouping_columns columns) (grouping_ready columns ready)))
    where
      values : Result (List Value) Fault
      values = each_answer (λ c. evaluate row s.parameters graph c.value) (grouping_columns columns)

      by_key : (r : Result (List Value) Fault) → Fine r → Ends AreSized (elim r as (λ r. Result (List Group) Fault) [ Ok vs ↦ into_groups s graph columns row vs gs | Err f ↦ fold_cells s graph row false columns [] >>= λ cells. Err f ])
      by_key (Ok vs) g = into_end row b vs gs h
      by_key (Err f) g = ends_then (λ ds. length ds ≡ length columns) AreSized (fold_cells s graph row false columns []) _ (cells_end row b false columns [] ready) (λ cells e. g)

  first_sized : AreSized (first_groups columns)
  first_sized = elim (grouping_columns columns) as (λ cs. AreSized (elim cs as (λ cs. List Group) [ [] ↦ record { key = []; cells = map (λ c. []) columns } ∷ [] | c ∷ cs ↦ [] ])) [ [] ↦ (length-map columns (λ c. []), tt) | c ∷ cs ↦ tt ]

  group_named : (cs : List Column) (cells : List (List Value)) → length cells ≡ length cs → map (λ b. b.0) (group_columns cs cells) ≡ column_names cs
  group_named [] cells e = refl
  group_named (c ∷ cs) [] e = cc
  group_named (c ∷ cs) (cell ∷ cells) e = ap (λ ns. c.name ∷ ns) (group_named cs cells (one_less (length cells) (length cs) e))
    where
      one_less : (m n : ℕ) → suc m ≡ suc n → m ≡ n
      one_less m n e = omega (arith, e)

  -- ---- items

  -- its columns have their names, and WHERE and sorts see the earlier variables or none
  abbrev Shown : Bool → Projected → Type 0
  Shown hides r = (map (λ b. b.0) r.columns ≡ column_names columns) × elim hides as (λ h. Type 0) [ true ↦ r.earlier ≡ [] | false ↦ BindsOnly s.scope r.earlier ]

  abbrev AreShown : Bool → List Projected → Type 0
  AreShown hides ps = AllByRecursion (Shown hides) ps

  grouped_end : (rows : List Row) → AreRowsOf s.scope rows → Ends (AreShown true) (grouped s graph columns rows)
  grouped_end rows h =
      ends_then AreSized (AreShown true) (each_step (group_row s graph columns) (first_groups columns) rows) _ (ends_steps AreSized (BindsOnly s.scope) (group_row s graph columns) group_end (first_groups columns) rows first_sized h)
      (λ gs g. all_mapped (λ x. let p : Projected = record { columns = group_columns columns x.cells; earlier = [] } in p) IsSized (Shown true) (λ x e. (group_named columns x.cells e, refl)) gs g)

  values_end : (row : Row) → BindsOnly s.scope row → (cs : List Column) → AllByRecursion (λ c. Ready s.scope s.parameters c.value) cs → Ends (λ vs. map (λ b. b.0) vs ≡ column_names cs) (each_answer (column_value s.parameters graph row) cs)
  values_end row b [] r = refl
  values_end row b (c ∷ cs) r =
      ends_then (λ v. v.0 ≡ c.name) (λ vs. map (λ b. b.0) vs ≡ column_names (c ∷ cs)) (column_value s.parameters graph row c) (λ v. each_answer (column_value s.parameters graph row) cs >>= λ vs. Ok (v ∷ vs))
      (ends_all (λ v. v.0 ≡ c.name) (evaluate row s.parameters graph c.value) (λ v. Ok (c.name, v)) (fine_ready s.scope s.parameters graph row b c.value r.0) (λ v. refl))
      (λ v e. ends_then (λ vs. map (λ b. b.0) vs ≡ column_names cs) (λ vs. map (λ b. b.0) vs ≡ column_names (c ∷ cs)) (each_answer (column_value s.parameters graph row) cs) (λ vs. Ok (v ∷ vs)) (values_end row b cs r.1) (λ vs h i. e i ∷ h i))

  projected_end : list_any is_aggregate columns ≡ false → (row : Row) → BindsOnly s.scope row → Ends (Shown distinct) (projected s.parameters graph distinct columns row)
  projected_end plain row b =
      ends_then (λ vs. map (λ b. b.0) vs ≡ column_names columns) (Shown distinct) (each_answer (column_value s.parameters graph row) columns) _ (values_end row b columns (plain_ready s.scope s.parameters columns plain ready))
      (λ vs e. (e, earlier distinct))
    where
      earlier : (d : Bool) → elim d as (λ h. Type 0) [ true ↦ cond d [] row ≡ [] | false ↦ BindsOnly s.scope (cond d [] row) ]
      earlier true = refl
      earlier false = b

  abbrev hides : Bool
  hides = distinct || list_any is_aggregate columns

  items_end : (rows : List Row) → AreRowsOf s.scope rows → Ends (AreShown hides) (item_rows s graph distinct columns rows)
  items_end rows h = by_aggregates (list_any is_aggregate columns) refl
    where
      or_true : (b : Bool) → true ≡ (b || true)
      or_true true = refl
      or_true false = refl

      or_false : (b : Bool) → b ≡ (b || false)
      or_false true = refl
      or_false false = refl

      by_aggregates : (c : Bool) → list_any is_aggregate columns ≡ c → Ends (AreShown (distinct || c)) (elim c as (λ c. Result (List Projected) Fault) [ true ↦ grouped s graph columns rows | false ↦ each_answer (projected s.parameters graph distinct columns) rows ])
      by_aggregates true e = subst (λ d. Ends (AreShown d) (grouped s graph columns rows)) (or_true distinct) (grouped_end rows h)
      by_aggregates false e = subst (λ d. Ends (AreShown d) (each_answer (projected s.parameters graph distinct columns) rows)) (or_false distinct) (ends_each (BindsOnly s.scope) (Shown distinct) (projected s.parameters graph distinct columns) (projected_end e) rows h)

  shown_binds : (r : Projected) → Shown hides r → BindsOnly (column_names columns) r.columns
  shown_binds r h = named_binds r.columns (column_names columns) h.0

  visible_binds : (r : Projected) → Shown hides r → BindsOnly (visible_of s.scope columns distinct) (visible r)
  visible_binds r h = by_hidden hides h.1
    where
      by_hidden : (c : Bool) → elim c as (λ h. Type 0) [ true ↦ r.earlier ≡ [] | false ↦ BindsOnly s.scope r.earlier ] → BindsOnly (cond c (column_names columns) (column_names columns ++ s.scope)) (r.columns ++ r.earlier)
      by_hidden true e = subst (BindsOnly (column_names columns)) (sym (ap (λ ys. r.columns ++ ys) e ∙ append-nil r.columns)) (shown_binds r h)
      by_hidden false b = joined_binds (column_names columns) s.scope r.columns r.earlier (shown_binds r h) b

  -- ---- DISTINCT and ORDER BY

  firsts_shown : (seen : List (List Value)) (ps : List Projected) → AreShown hides ps → AreShown hides (firsts seen ps)
  firsts_shown seen [] h = tt
  firsts_shown seen (p ∷ ps) h =
      elim (list_any (same_values (values_in p.columns)) seen) as (λ c. AreShown hides (elim c as (λ c. List Projected) [ true ↦ firsts seen ps | false ↦ p ∷ firsts (values_in p.columns ∷ seen) ps ])) [
        | true ↦ firsts_shown seen ps h.1
        | false ↦ (h.0, firsts_shown (values_in p.columns ∷ seen) ps h.1)
      ]

  distinct_shown : (d : Bool) (ps : List Projected) → AreShown hides ps → AreShown hides (distinct_rows d ps)
  distinct_shown true ps h = firsts_shown [] ps h
  distinct_shown false ps h = h

  abbrev SortReady : SortItem → Type 0
  SortReady x = (list_any (λ c. same_expression c.value x.key) columns ≡ true) ⊎ Ready (visible_of s.scope columns distinct) s.parameters x.key

  fine_sort : (p : Projected) → Shown hides p → (x : SortItem) → SortReady x → Fine (sort_key s.parameters graph columns p x)
  fine_sort p h x r = by_place (position (λ c. same_expression c.value x.key) columns) refl r
    where
      by_column : (i : ℕ) → Fine (elim (slice_get p.columns i) as (λ o. Result Value Fault) [ Some b ↦ Ok b.1 | None ↦ Ok null ])
      by_column i = elim (slice_get p.columns i) as (λ o. Fine (elim o as (λ o. Result Value Fault) [ Some b ↦ Ok b.1 | None ↦ Ok null ])) [ Some b ↦ tt | None ↦ tt ]

      by_place : (o : Option ℕ) → position (λ c. same_expression c.value x.key) columns ≡ o → SortReady x → Fine (elim o as (λ o. Result Value Fault) [ Some i ↦ elim (slice_get p.columns i) as (λ o. Result Value Fault) [ Some b ↦ Ok b.1 | None ↦ Ok null ] | None ↦ evaluate (visible p) s.parameters graph x.key ])
      by_place (Some i) e r = by_column i
      by_place None e (inl is) = has_place (λ c. same_expression c.value x.key) columns is e
      by_place None e (inr r) = fine_ready (visible_of s.scope columns distinct) s.parameters graph (visible p) (visible_binds p h) x.key r

  inserted : (order : List SortItem) (x : List Value × Projected) (ys : List (List Value × Projected)) → Shown hides x.1 → AllByRecursion (λ y. Shown hides y.1) ys → AllByRecursion (λ y. Shown hides y.1) (insert_keyed order x ys)
  inserted order x [] h g = (h, tt)
  inserted order x (y ∷ ys) h g =
      elim (is_gt (keys_order order x.0 y.0)) as (λ c. AllByRecursion (λ y. Shown hides y.1) (cond c (y ∷ insert_keyed order x ys) (x ∷ y ∷ ys))) [ true ↦ (g.0, inserted order x ys h g.1) | false ↦ (h, g) ]

  sorted_shown : (order : List SortItem) (xs : List (List Value × Projected)) → AllByRecursion (λ y. Shown hides y.1) xs → AllByRecursion (λ y. Shown hides y.1) (sorted_keyed order xs)
  sorted_shown order [] h = tt
  sorted_shown order (x ∷ xs) h = inserted order x (sorted_keyed order xs) h.0 (sorted_shown order xs h.1)

  ordered_end : (order : List SortItem) → AllByRecursion SortReady order → (ps : List Projected) → AreShown hides ps → Ends (AreShown hides) (ordered_rows s graph columns order ps)
  ordered_end [] r ps h = h
  ordered_end (o ∷ os) r ps h =
      ends_then (AllByRecursion (λ y. Shown hides y.1)) (AreShown hides) (each_answer (keyed_by s graph columns (o ∷ os)) ps) _
      (ends_each (Shown hides) (λ y. Shown hides y.1) (keyed_by s graph columns (o ∷ os))
      (λ p g. ends_all (λ y. Shown hides y.1) (each_answer (sort_key s.parameters graph columns p) (o ∷ os)) (λ vs. Ok (vs, p))
      (fine_ends (AllByRecursion (λ v. ⊤)) (each_answer (sort_key s.parameters graph columns p) (o ∷ os)) (ends_each SortReady (λ v. ⊤) (sort_key s.parameters graph columns p) (λ x q. ends_fine (λ v. ⊤) (sort_key s.parameters graph columns p x) (fine_sort p g x q) (λ v is. tt)) (o ∷ os) r)) (λ vs. g)) ps h)
      (λ ks g. all_mapped (λ y. y.1) (λ y. Shown hides y.1) (Shown hides) (λ y q. q) (sorted_keyed (o ∷ os) ks) (sorted_shown (o ∷ os) ks g))

  -- ---- SKIP, LIMIT and WHERE

  fine_given : (o : Option Expression) → ReadyIfAny [] s.parameters o → Fine (count_given s.parameters graph o)
  fine_given None r = tt
  fine_given (Some e) r = fine_all (evaluate [] s.parameters graph e >>= count_of) _ (fine_all (evaluate [] s.parameters graph e) count_of (fine_ready [] s.parameters graph [] (λ q. refl) e r) fine_count) (λ n. tt)

  skipped_shown : (o : Option ℕ) (ps : List Projected) → AreShown hides ps → AreShown hides (skipped o ps)
  skipped_shown None ps h = h
  skipped_shown (Some n) ps h = all_dropped (Shown hides) n ps h

  limited_shown : (o : Option ℕ) (ps : List Projected) → AreShown hides ps → AreShown hides (limited o ps)
  limited_shown None ps h = h
  limited_shown (Some n) ps h = all_taken (Shown hides) n ps h

  passing_end : (where_ : Option Expression) → ReadyIfAny (visible_of s.scope columns distinct) s.parameters where_ → (ps : List Projected) → AreShown hides ps → Ends (AreShown hides) (passing_rows s graph where_ ps)
  passing_end where_ r [] h = tt
  passing_end where_ r (p ∷ ps) h =
      ends_all (AreShown hides) (condition where_ (visible p) s.parameters graph) _ (fine_condition_at (visible_of s.scope columns distinct) s.parameters graph (visible p) (visible_binds p h.0) where_ r)
      (λ b. ends_then (AreShown hides) (AreShown hides) (passing_rows s graph where_ ps) _ (passing_end where_ r ps h.1) (λ others g. kept b others g))
    where
      kept : (b : Bool) (others : List Projected) → AreShown hides others → AreShown hides (elim b as (λ b. List Projected) [ true ↦ p ∷ others | false ↦ others ])
      kept true others g = (h.0, g)
      kept false others g = g

pub project_ends : (s : Setting) (columns : List Column) (p : Projection) (where_ : Option Expression) (state : State) → AllByRecursion (ColumnReady s.scope s.parameters) columns → AllByRecursion (λ x. (list_any (λ c. same_expression c.value x.key) columns ≡ true) ⊎ Ready (visible_of s.scope columns p.distinct) s.parameters x.key) p.order
    → ReadyIfAny [] s.parameters p.skip → ReadyIfAny [] s.parameters p.limit → ReadyIfAny (visible_of s.scope columns p.distinct) s.parameters where_ → AreRowsOf s.scope state.rows → Ends (λ next. AreRowsOf (column_names columns) next.rows) (project_clause s columns p where_ state)
project_ends s columns p where_ state ready order skip limit passing rows =
    ends_all IsRow (spend s state.steps (length state.rows)) _ (fine_spend s state.steps (length state.rows))
    (λ steps. ends_all IsRow (count_given s.parameters state.graph p.skip) _ (fine_given s state.graph columns p.distinct ready p.skip skip)
    (λ m. ends_all IsRow (count_given s.parameters state.graph p.limit) _ (fine_given s state.graph columns p.distinct ready p.limit limit)
    (λ n. ends_then AllShown IsRow (item_rows s state.graph p.distinct columns state.rows) _ (items_end s state.graph columns p.distinct ready state.rows rows)
    (λ items h. ends_then AllShown IsRow (ordered_rows s state.graph columns p.order (distinct_rows p.distinct items)) _
    (ordered_end s state.graph columns p.distinct ready p.order order (distinct_rows p.distinct items) (distinct_shown s state.graph columns p.distinct ready p.distinct items h))
    (λ sorted g. ends_then AllShown IsRow (passing_rows s state.graph where_ (limited n (skipped m sorted))) _
    (passing_end s state.graph columns p.distinct ready where_ passing (limited n (skipped m sorted)) (limited_shown s state.graph columns p.distinct ready n (skipped m sorted) (skipped_shown s state.graph columns p.distinct ready m sorted g)))
    (λ kept r. all_mapped (λ x. x.columns) IsShown (BindsOnly (column_names columns)) (λ x q. shown_binds s state.graph columns p.distinct ready x q) kept r))))))
  where
    IsRow : State → Type 0
    IsRow next = AreRowsOf (column_names columns) next.rows

    IsShown : Projected → Type 0
    IsShown r = Shown s state.graph columns p.distinct ready (p.distinct || list_any is_aggregate columns) r

    AllShown : List Projected → Type 0
    AllShown ps = AllByRecursion IsShown ps
