-- What a projection gives over rows that agree on the variables that it reads.
use Rattle.std.proofs.Common.{◌≡◌, ℕ, ◌||◌, Bool, true, false, cond, List, [], ◌∷◌, ◌++◌, map, length, take, drop, zero, suc, Result, Ok, Err, Option, Some, None, not, is_some, bytes_eq, position, slice_get, option_map, refl, sym, subst, ◌∙◌}
use Rattle.std.specs.List.{AllZip, list_any}
use Rattle.std.specs.Map.{lookup}
use Rattle.std.specs.Ordering.{is_gt}
use Rattle.pg_meaning.specs.Aggregates.{Aggregate, Summary, aggregate_named, aggregate_of, first_argument}
use Rattle.pg_meaning.specs.Answer.{◌>>=◌, each_answer, each_step}
use Rattle.pg_meaning.specs.Expressions.{evaluate}
use Rattle.pg_meaning.specs.Graph.{Graph}
use Rattle.pg_meaning.specs.Meters.{Setting, State, spend}
use Rattle.pg_meaning.specs.Names.{Names}
use Rattle.pg_meaning.specs.Projections.{Group, Projected, argument_value, column_value, count_given, distinct_rows, firsts, first_groups, fold_cell, fold_cells, fold_value, group_columns, group_row, grouped, grouping_columns, insert_keyed, into_groups, item_rows, keep_first, keyed, keys_order, limited, ordered_rows, passing_rows, project_clause, projected, same_values, skipped, sort_key, sorted_keyed, visible}
use Rattle.pg_meaning.specs.Rows.{Row, value_in, values_in}
use Rattle.pg_meaning.specs.Scopes.{Column, is_aggregate, return_column, return_columns, star_columns}
use Rattle.pg_meaning.specs.Tree.{Expression, call, Expressions, no_expressions, expression, Item, SortItem, Projection}
use Rattle.pg_meaning.specs.Trees.{same_expression}
use Rattle.pg_meaning.specs.Value.{Value, boolean, null}
use Rattle.pg_meaning.specs.declared.fault.Fault.{Fault}
use Rattle.pg_reads.proofs.Alike.{agree_first, agree_second, evaluate_alike}
use Rattle.pg_reads.proofs.Lifts.{Lifted, both as both_lifted}
use Rattle.pg_reads.specs.Reads.{AgreeOn, ReadAlike, reads, any_reads, projection_reads}

abbrev columns_read : List ℕ → List Column → Bool
columns_read x cs = list_any (λ (c : Column). reads x c.value) cs

abbrev sorts_read : List ℕ → List SortItem → Bool
sorts_read x os = list_any (λ (o : SortItem). reads x o.key) os

items_are_columns : (x : List ℕ) (is : List Item) → columns_read x (map return_column is) ≡ list_any (λ (i : Item). reads x i.value) is
items_are_columns x [] = refl
items_are_columns x (i ∷ is) = λ j. reads x i.value || items_are_columns x is j

-- ---- one row

module _ (s : Setting) (scope : Names) (graph : Graph) where
  abbrev t : Setting
  t = record s { scope = scope }

  module _ (row other : Row) where
    argument_alike : (e : Expression) (a : Aggregate) → aggregate_of e ≡ Some a → AgreeOn (λ x. reads x e) row other → argument_value s.parameters graph row a ≡ argument_value s.parameters graph other a
    argument_alike (call name star distinct es) a is h = by_name (aggregate_named name.text) is
      where
        of_argument : (es : Expressions) → AgreeOn (λ x. any_reads x es) row other
            → elim (first_argument es) as (λ o. Result Value Fault) [ None ↦ Ok (boolean true) | Some e ↦ evaluate row s.parameters graph e ] ≡ elim (first_argument es) as (λ o. Result Value Fault) [ None ↦ Ok (boolean true) | Some e ↦ evaluate other s.parameters graph e ]
        of_argument no_expressions h = refl
        of_argument (expression e es) h = evaluate_alike row other s.parameters graph e (agree_first (λ x. reads x e) (λ x. any_reads x es) row other h)

        by_name : (o : Option Summary) → option_map (λ m. let b : Aggregate = record { summary = m; distinct = distinct; argument = first_argument es } in b) o ≡ Some a
            → argument_value s.parameters graph row a ≡ argument_value s.parameters graph other a
        by_name (Some m) is = subst (λ (o : Option Aggregate). elim o as (λ o. Type 0) [ None ↦ Unit {0} | Some b ↦ argument_value s.parameters graph row b ≡ argument_value s.parameters graph other b ]) is (of_argument es h)
        by_name None is = absurd (cc)
    argument_alike e a is h = absurd (cc)

    cell_alike : (has_group : Bool) (c : Column) (cell : List Value) → AgreeOn (λ x. reads x c.value) row other → fold_cell s graph row has_group c cell ≡ fold_cell t graph other has_group c cell
    cell_alike has_group c cell h = by (aggregate_of c.value) refl
      where
        by : (o : Option Aggregate) → aggregate_of c.value ≡ o
            → elim o as (λ o. Result (List Value) Fault) [ None ↦ evaluate row s.parameters graph c.value >>= λ v. Ok (keep_first cell v) | Some a ↦ argument_value s.parameters graph row a >>= fold_value has_group a cell ]
            ≡ elim o as (λ o. Result (List Value) Fault) [ None ↦ evaluate other s.parameters graph c.value >>= λ v. Ok (keep_first cell v) | Some a ↦ argument_value s.parameters graph other a >>= fold_value has_group a cell ]
        by None is = λ i. evaluate_alike row other s.parameters graph c.value h i >>= λ v. Ok (keep_first cell v)
        by (Some a) is = λ i. argument_alike c.value a is h i >>= fold_value has_group a cell

    abbrev Agree : List Column → Type 0
    Agree cs = AgreeOn (λ x. columns_read x cs) row other

    head_agrees : (c : Column) (cs : List Column) → Agree (c ∷ cs) → AgreeOn (λ x. reads x c.value) row other
    head_agrees c cs h = agree_first (λ x. reads x c.value) (λ x. columns_read x cs) row other h

    tail_agrees : (c : Column) (cs : List Column) → Agree (c ∷ cs) → Agree cs
    tail_agrees c cs h = agree_second (λ x. reads x c.value) (λ x. columns_read x cs) row other h

    cells_alike : (has_group : Bool) (cs : List Column) (cells : List (List Value)) → Agree cs → fold_cells s graph row has_group cs cells ≡ fold_cells t graph other has_group cs cells
    cells_alike has_group [] cells h = refl
    cells_alike has_group (c ∷ cs) [] h = λ i. cell_alike has_group c [] (head_agrees c cs h) i >>= λ d. cells_alike has_group cs [] (tail_agrees c cs h) i >>= λ ds. Ok (d ∷ ds)
    cells_alike has_group (c ∷ cs) (cell ∷ cells) h = λ i. cell_alike has_group c cell (head_agrees c cs h) i >>= λ d. cells_alike has_group cs cells (tail_agrees c cs h) i >>= λ ds. Ok (d ∷ ds)

    abbrev key_at : Row → List Column → Result (List Value) Fault
    key_at r cs = each_answer (λ (c : Column). evaluate r s.parameters graph c.value) cs

    key_alike : (cs : List Column) → Agree cs → key_at row (grouping_columns cs) ≡ key_at other (grouping_columns cs)
    key_alike [] h = refl
    key_alike (c ∷ cs) h = by (not (is_aggregate c)) (key_alike cs (tail_agrees c cs h))
      where
        by : (b : Bool) → key_at row (grouping_columns cs) ≡ key_at other (grouping_columns cs) → key_at row (cond b (c ∷ grouping_columns cs) (grouping_columns cs)) ≡ key_at other (cond b (c ∷ grouping_columns cs) (grouping_columns cs))
        by true rest = λ i. evaluate_alike row other s.parameters graph c.value (head_agrees c cs h) i >>= λ v. rest i >>= λ vs. Ok (v ∷ vs)
        by false rest = rest

    module _ (columns : List Column) (h : Agree columns) where
      into_alike : (key : List Value) (groups : List Group) → into_groups s graph columns row key groups ≡ into_groups t graph columns other key groups
      into_alike key [] = λ i. cells_alike true columns [] h i >>= λ cells. Ok ((let g : Group = record { key = key; cells = cells } in g) ∷ [])
      into_alike key (g ∷ gs) = λ i. elim (same_values g.key key) [
        | true ↦ cells_alike true columns g.cells h i >>= λ cells. Ok ((let f : Group = record { key = g.key; cells = cells } in f) ∷ gs)
        | false ↦ into_alike key gs i >>= λ hs. Ok (g ∷ hs)
      ]

      row_alike : (groups : List Group) → group_row s graph columns groups row ≡ group_row t graph columns groups other
      row_alike groups = λ i. elim (key_alike columns h i) as (λ r. Result (List Group) Fault) [
        | Ok vs ↦ into_alike vs groups i
        | Err f ↦ cells_alike false columns [] h i >>= λ cells. Err f
      ]

      values_alike : (cs : List Column) → Agree cs → each_answer (column_value s.parameters graph row) cs ≡ each_answer (column_value s.parameters graph other) cs
      values_alike [] k = refl
      values_alike (c ∷ cs) k = λ i. (evaluate_alike row other s.parameters graph c.value (head_agrees c cs k) i >>= λ v. Ok (let b : List ℕ × Value = (c.name, v) in b)) >>= λ b. values_alike cs (tail_agrees c cs k) i >>= λ bs. Ok (b ∷ bs)

-- ---- rows that come by themselves

pub behind_agree : (names : List ℕ → Bool) (columns row other : Row) → AgreeOn names row other → AgreeOn names (columns ++ row) (columns ++ other)
behind_agree names [] row other h = h
behind_agree names (b ∷ columns) row other h = λ x is i. cond (bytes_eq x b.0) (Some b.1) (behind_agree names columns row other h x is i)

module _ (s : Setting) (scope : Names) (graph : Graph) (columns : List Column) (order : List SortItem) where
  abbrev u : Setting
  u = record s { scope = scope }

  -- the same columns, and what the sorts read
  abbrev Like : Projected → Projected → Type 0
  Like p q = (p.columns ≡ q.columns) × AgreeOn (λ x. sorts_read x order) (visible p) (visible q)

  abbrev ReadsAlike : Row → Row → Type 0
  ReadsAlike row other = AgreeOn (λ x. columns_read x columns) row other × AgreeOn (λ x. sorts_read x order) row other

  projected_alike : (distinct : Bool) (row other : Row) → ReadsAlike row other → Lifted Like (projected s.parameters graph distinct columns row) (projected s.parameters graph distinct columns other)
  projected_alike distinct row other h =
      subst (λ (a : Result Row Fault). Lifted Like (projected s.parameters graph distinct columns row) (a >>= λ vs. Ok (let p : Projected = record { columns = vs; earlier = cond distinct [] other } in p)))
      (values_alike s scope graph row other columns h.0 columns h.0) (by (each_answer (column_value s.parameters graph row) columns))
    where
      earlier : (b : Bool) → AgreeOn (λ x. sorts_read x order) (cond b [] row) (cond b [] other)
      earlier true = λ x is. refl
      earlier false = h.1

      by : (a : Result Row Fault) → Lifted Like (a >>= λ vs. Ok (let p : Projected = record { columns = vs; earlier = cond distinct [] row } in p)) (a >>= λ vs. Ok (let p : Projected = record { columns = vs; earlier = cond distinct [] other } in p))
      by (Ok vs) = (refl, behind_agree (λ x. sorts_read x order) vs (cond distinct [] row) (cond distinct [] other) (earlier distinct))
      by (Err f) = refl

  all_projected : (distinct : Bool) (rows others : List Row) → AllZip ReadsAlike rows others
      → Lifted (AllZip Like) (each_answer (projected s.parameters graph distinct columns) rows) (each_answer (projected s.parameters graph distinct columns) others)
  all_projected distinct [] [] h = tt
  all_projected distinct [] (o ∷ os) h = absurd h
  all_projected distinct (r ∷ rs) [] h = absurd h
  all_projected distinct (r ∷ rs) (o ∷ os) h =
      both_lifted Like (AllZip Like) (projected s.parameters graph distinct columns r) (projected s.parameters graph distinct columns o)
      (λ p. each_answer (projected s.parameters graph distinct columns) rs >>= λ ps. Ok (p ∷ ps)) (λ q. each_answer (projected s.parameters graph distinct columns) os >>= λ qs. Ok (q ∷ qs))
      (projected_alike distinct r o h.0)
      (λ p q like. both_lifted (AllZip Like) (AllZip Like) (each_answer (projected s.parameters graph distinct columns) rs) (each_answer (projected s.parameters graph distinct columns) os) (λ ps. Ok (p ∷ ps)) (λ qs. Ok (q ∷ qs)) (all_projected distinct rs os h.1) (λ ps qs rest. (like, rest)))

  firsts_alike : (seen : List (List Value)) (ps qs : List Projected) → AllZip Like ps qs → AllZip Like (firsts seen ps) (firsts seen qs)
  firsts_alike seen [] [] h = tt
  firsts_alike seen [] (q ∷ qs) h = absurd h
  firsts_alike seen (p ∷ ps) [] h = absurd h
  firsts_alike seen (p ∷ ps) (q ∷ qs) h =
      subst (λ (cs : Row). AllZip Like (elim (list_any (same_values (values_in p.columns)) seen) as (λ b. List Projected) [ true ↦ firsts seen ps | false ↦ p ∷ firsts (values_in p.columns ∷ seen) ps ]) (elim (list_any (same_values (values_in cs)) seen) as (λ b. List Projected) [ true ↦ firsts seen qs | false ↦ q ∷ firsts (values_in cs ∷ seen) qs ]))
      h.0.0 (by (list_any (same_values (values_in p.columns)) seen) (firsts_alike seen ps qs h.1) (firsts_alike (values_in p.columns ∷ seen) ps qs h.1))
    where
      by : (b : Bool) → AllZip Like (firsts seen ps) (firsts seen qs) → AllZip Like (firsts (values_in p.columns ∷ seen) ps) (firsts (values_in p.columns ∷ seen) qs)
          → AllZip Like (elim b as (λ b. List Projected) [ true ↦ firsts seen ps | false ↦ p ∷ firsts (values_in p.columns ∷ seen) ps ]) (elim b as (λ b. List Projected) [ true ↦ firsts seen qs | false ↦ q ∷ firsts (values_in p.columns ∷ seen) qs ])
      by true left more = left
      by false left more = (h.0, more)

  distinct_alike : (distinct : Bool) (ps qs : List Projected) → AllZip Like ps qs → AllZip Like (distinct_rows distinct ps) (distinct_rows distinct qs)
  distinct_alike true ps qs h = firsts_alike [] ps qs h
  distinct_alike false ps qs h = h

  -- ---- sorts

  abbrev Keyed : Type 0
  Keyed = List Value × Projected

  abbrev KeyedLike : Keyed → Keyed → Type 0
  KeyedLike k l = (k.0 ≡ l.0) × Like k.1 l.1

  key_of_sort : (p q : Projected) → p.columns ≡ q.columns → (o : SortItem) → AgreeOn (λ x. reads x o.key) (visible p) (visible q) → sort_key s.parameters graph columns p o ≡ sort_key s.parameters graph columns q o
  key_of_sort p q same o h = λ i. elim (position (λ (c : Column). same_expression c.value o.key) columns) as (λ at. Result Value Fault) [
    | Some n ↦ elim (slice_get (same i) n) as (λ b. Result Value Fault) [ Some b ↦ Ok b.1 | None ↦ Ok null ]
    | None ↦ evaluate_alike (visible p) (visible q) s.parameters graph o.key h i
  ]

  keys_alike : (p q : Projected) → p.columns ≡ q.columns → (os : List SortItem) → AgreeOn (λ x. sorts_read x os) (visible p) (visible q) → each_answer (sort_key s.parameters graph columns p) os ≡ each_answer (sort_key s.parameters graph columns q) os
  keys_alike p q same [] h = refl
  keys_alike p q same (o ∷ os) h =
      λ i. key_of_sort p q same o (agree_first (λ x. reads x o.key) (λ x. sorts_read x os) (visible p) (visible q) h) i >>= λ v. keys_alike p q same os (agree_second (λ x. reads x o.key) (λ x. sorts_read x os) (visible p) (visible q) h) i >>= λ vs. Ok (v ∷ vs)

  keyed_alike : (p q : Projected) → Like p q → Lifted KeyedLike (keyed s graph columns order p) (keyed u graph columns order q)
  keyed_alike p q h =
      subst (λ (a : Result (List Value) Fault). Lifted KeyedLike (keyed s graph columns order p) (a >>= λ vs. Ok (let k : Keyed = (vs, q) in k))) (keys_alike p q h.0 order h.1) (by (each_answer (sort_key s.parameters graph columns p) order))
    where
      by : (a : Result (List Value) Fault) → Lifted KeyedLike (a >>= λ vs. Ok (let k : Keyed = (vs, p) in k)) (a >>= λ vs. Ok (let k : Keyed = (vs, q) in k))
      by (Ok vs) = (refl, h)
      by (Err f) = refl

  all_keyed : (ps qs : List Projected) → AllZip Like ps qs → Lifted (AllZip KeyedLike) (each_answer (keyed s graph columns order) ps) (each_answer (keyed u graph columns order) qs)
  all_keyed [] [] h = tt
  all_keyed [] (q ∷ qs) h = absurd h
  all_keyed (p ∷ ps) [] h = absurd h
  all_keyed (p ∷ ps) (q ∷ qs) h =
      both_lifted KeyedLike (AllZip KeyedLike) (keyed s graph columns order p) (keyed u graph columns order q)
      (λ k. each_answer (keyed s graph columns order) ps >>= λ ks. Ok (k ∷ ks)) (λ l. each_answer (keyed u graph columns order) qs >>= λ ls. Ok (l ∷ ls))
      (keyed_alike p q h.0)
      (λ k l like. both_lifted (AllZip KeyedLike) (AllZip KeyedLike) (each_answer (keyed s graph columns order) ps) (each_answer (keyed u graph columns order) qs) (λ ks. Ok (k ∷ ks)) (λ ls. Ok (l ∷ ls)) (all_keyed ps qs h.1) (λ ks ls rest. (like, rest)))

  insert_alike : (os : List SortItem) (k l : Keyed) → KeyedLike k l → (ks ls : List Keyed) → AllZip KeyedLike ks ls → AllZip KeyedLike (insert_keyed os k ks) (insert_keyed os l ls)
  insert_alike os k l like [] [] h = (like, tt)
  insert_alike os k l like [] (y ∷ ys) h = absurd h
  insert_alike os k l like (x ∷ xs) [] h = absurd h
  insert_alike os k l like (x ∷ xs) (y ∷ ys) h =
      subst (λ (b : Bool). AllZip KeyedLike (insert_keyed os k (x ∷ xs)) (cond b (y ∷ insert_keyed os l ys) (l ∷ y ∷ ys))) (λ i. is_gt (keys_order os (like.0 i) (h.0.0 i))) (by (is_gt (keys_order os k.0 x.0)) (insert_alike os k l like xs ys h.1))
    where
      by : (b : Bool) → AllZip KeyedLike (insert_keyed os k xs) (insert_keyed os l ys) → AllZip KeyedLike (cond b (x ∷ insert_keyed os k xs) (k ∷ x ∷ xs)) (cond b (y ∷ insert_keyed os l ys) (l ∷ y ∷ ys))
      by true later = (h.0, later)
      by false later = (like, h)

  sorted_alike : (os : List SortItem) (ks ls : List Keyed) → AllZip KeyedLike ks ls → AllZip KeyedLike (sorted_keyed os ks) (sorted_keyed os ls)
  sorted_alike os [] [] h = tt
  sorted_alike os [] (l ∷ ls) h = absurd h
  sorted_alike os (k ∷ ks) [] h = absurd h
  sorted_alike os (k ∷ ks) (l ∷ ls) h = insert_alike os k l h.0 (sorted_keyed os ks) (sorted_keyed os ls) (sorted_alike os ks ls h.1)

  rows_of_keyed : (ks ls : List Keyed) → AllZip KeyedLike ks ls → AllZip Like (map (λ k. k.1) ks) (map (λ k. k.1) ls)
  rows_of_keyed [] [] h = tt
  rows_of_keyed [] (l ∷ ls) h = absurd h
  rows_of_keyed (k ∷ ks) [] h = absurd h
  rows_of_keyed (k ∷ ks) (l ∷ ls) h = (h.0.1, rows_of_keyed ks ls h.1)

  ordered_alike : (os : List SortItem) → order ≡ os → (ps qs : List Projected) → AllZip Like ps qs → Lifted (AllZip Like) (ordered_rows s graph columns os ps) (ordered_rows u graph columns os qs)
  ordered_alike [] is ps qs h = h
  ordered_alike (o ∷ os) is ps qs h =
      subst (λ (xs : List SortItem). Lifted (AllZip Like) (each_answer (keyed s graph columns xs) ps >>= λ ks. Ok (map (λ (k : Keyed). k.1) (sorted_keyed xs ks))) (each_answer (keyed u graph columns xs) qs >>= λ ls. Ok (map (λ (l : Keyed). l.1) (sorted_keyed xs ls)))) is
      (both_lifted (AllZip KeyedLike) (AllZip Like) (each_answer (keyed s graph columns order) ps) (each_answer (keyed u graph columns order) qs) (λ ks. Ok (map (λ (k : Keyed). k.1) (sorted_keyed order ks))) (λ ls. Ok (map (λ (l : Keyed). l.1) (sorted_keyed order ls))) (all_keyed ps qs h)
      (λ ks ls like. rows_of_keyed (sorted_keyed order ks) (sorted_keyed order ls) (sorted_alike order ks ls like)))

  -- ---- SKIP, LIMIT and the columns

  drop_alike : (n : ℕ) (ps qs : List Projected) → AllZip Like ps qs → AllZip Like (drop n ps) (drop n qs)
  drop_alike zero ps qs h = h
  drop_alike (suc n) [] [] h = tt
  drop_alike (suc n) [] (q ∷ qs) h = absurd h
  drop_alike (suc n) (p ∷ ps) [] h = absurd h
  drop_alike (suc n) (p ∷ ps) (q ∷ qs) h = drop_alike n ps qs h.1

  take_alike : (n : ℕ) (ps qs : List Projected) → AllZip Like ps qs → AllZip Like (take n ps) (take n qs)
  take_alike zero ps qs h = tt
  take_alike (suc n) [] [] h = tt
  take_alike (suc n) [] (q ∷ qs) h = absurd h
  take_alike (suc n) (p ∷ ps) [] h = absurd h
  take_alike (suc n) (p ∷ ps) (q ∷ qs) h = (h.0, take_alike n ps qs h.1)

  cut_alike : (skip limit : Option ℕ) (ps qs : List Projected) → AllZip Like ps qs → AllZip Like (limited limit (skipped skip ps)) (limited limit (skipped skip qs))
  cut_alike None None ps qs h = h
  cut_alike (Some n) None ps qs h = drop_alike n ps qs h
  cut_alike None (Some m) ps qs h = take_alike m ps qs h
  cut_alike (Some n) (Some m) ps qs h = take_alike m (drop n ps) (drop n qs) (drop_alike n ps qs h)

  columns_alike : (ps qs : List Projected) → AllZip Like ps qs → map (λ (p : Projected). p.columns) ps ≡ map (λ (p : Projected). p.columns) qs
  columns_alike [] [] h = refl
  columns_alike [] (q ∷ qs) h = absurd h
  columns_alike (p ∷ ps) [] h = absurd h
  columns_alike (p ∷ ps) (q ∷ qs) h = λ i. h.0.0 i ∷ columns_alike ps qs h.1 i

  all_pass : (r : Setting) (ps : List Projected) → passing_rows r graph None ps ≡ Ok ps
  all_pass r [] = refl
  all_pass r (p ∷ ps) = λ i. all_pass r ps i >>= λ others. Ok (p ∷ others)

  -- ---- behind the items

  abbrev ended : Setting → (skip limit : Option ℕ) → (steps : ℕ) → List Projected → Result State Fault
  ended r skip limit steps sorted = passing_rows r graph None (limited limit (skipped skip sorted)) >>= λ kept. Ok (let last : State = record { graph = graph; rows = map (λ (p : Projected). p.columns) kept; steps = steps } in last)

  ended_alike : (skip limit : Option ℕ) (steps : ℕ) (ps qs : List Projected) → AllZip Like ps qs → ended s skip limit steps ps ≡ ended u skip limit steps qs
  ended_alike skip limit steps ps qs h =
      (λ i. all_pass s (limited limit (skipped skip ps)) i >>= λ kept. Ok (let last : State = record { graph = graph; rows = map (λ (p : Projected). p.columns) kept; steps = steps } in last))
      ∙ (λ i. let r : Result State Fault = Ok (record { graph = graph; rows = columns_alike (limited limit (skipped skip ps)) (limited limit (skipped skip qs)) (cut_alike skip limit ps qs h) i; steps = steps }) in r)
      ∙ sym (λ i. all_pass u (limited limit (skipped skip qs)) i >>= λ kept. Ok (let last : State = record { graph = graph; rows = map (λ (p : Projected). p.columns) kept; steps = steps } in last))

  by_items : (skip limit : Option ℕ) (steps : ℕ) (a b : Result (List Projected) Fault) → Lifted (AllZip Like) a b → (a >>= ended s skip limit steps) ≡ (b >>= ended u skip limit steps)
  by_items skip limit steps (Ok ps) (Ok qs) h = ended_alike skip limit steps ps qs h
  by_items skip limit steps (Ok ps) (Err f) h = absurd h
  by_items skip limit steps (Err f) (Ok qs) h = absurd h
  by_items skip limit steps (Err f) (Err g) h = λ i. Err (h i)

-- ---- groups

module _ (s : Setting) (scope : Names) (graph : Graph) (columns : List Column) where
  abbrev v : Setting
  v = record s { scope = scope }

  steps_alike : (rows others : List Row) → AllZip (AgreeOn (λ x. columns_read x columns)) rows others → (groups : List Group) → each_step (group_row s graph columns) groups rows ≡ each_step (group_row v graph columns) groups others
  steps_alike [] [] h groups = refl
  steps_alike [] (o ∷ os) h groups = absurd h
  steps_alike (r ∷ rs) [] h groups = absurd h
  steps_alike (r ∷ rs) (o ∷ os) h groups = λ i. row_alike s scope graph r o columns h.0 groups i >>= λ next. steps_alike rs os h.1 next i

  grouped_alike : (rows others : List Row) → AllZip (AgreeOn (λ x. columns_read x columns)) rows others → grouped s graph columns rows ≡ grouped v graph columns others
  grouped_alike rows others h = λ i. steps_alike rows others h (first_groups columns) i >>= λ groups. Ok (map (λ (g : Group). let p : Projected = record { columns = group_columns columns g.cells; earlier = [] } in p) groups)

-- ---- the clause

module _ (s : Setting) (scope : Names) (graph : Graph) (p : Projection) (columns : List Column) where
  abbrev w : Setting
  w = record s { scope = scope }

  abbrev Rows : List Row → List Row → Type 0
  Rows = AllZip (ReadsAlike s scope graph columns p.order)

  abbrev Items : List Projected → List Projected → Type 0
  Items = AllZip (Like s scope graph columns p.order)

  for_columns : (rows others : List Row) → Rows rows others → AllZip (AgreeOn (λ x. columns_read x columns)) rows others
  for_columns [] [] h = tt
  for_columns [] (o ∷ os) h = absurd h
  for_columns (r ∷ rs) [] h = absurd h
  for_columns (r ∷ rs) (o ∷ os) h = (h.0.0, for_columns rs os h.1)

  as_many : (rows others : List Row) → Rows rows others → length rows ≡ length others
  as_many [] [] h = refl
  as_many [] (o ∷ os) h = absurd h
  as_many (r ∷ rs) [] h = absurd h
  as_many (r ∷ rs) (o ∷ os) h = λ i. suc (as_many rs os h.1 i)

  like_themselves : (ps : List Projected) → Items ps ps
  like_themselves [] = tt
  like_themselves (q ∷ qs) = ((refl, λ x is. refl), like_themselves qs)

  same_lifted : (a : Result (List Projected) Fault) → Lifted Items a a
  same_lifted (Ok ps) = like_themselves ps
  same_lifted (Err f) = refl

  items_alike : (rows others : List Row) → Rows rows others → Lifted Items (item_rows s graph p.distinct columns rows) (item_rows w graph p.distinct columns others)
  items_alike rows others h = by (list_any is_aggregate columns)
    where
      by : (b : Bool) → Lifted Items (elim b as (λ b. Result (List Projected) Fault) [ true ↦ grouped s graph columns rows | false ↦ each_answer (projected s.parameters graph p.distinct columns) rows ])
          (elim b as (λ b. Result (List Projected) Fault) [ true ↦ grouped w graph columns others | false ↦ each_answer (projected s.parameters graph p.distinct columns) others ])
      by true = subst (λ (b : Result (List Projected) Fault). Lifted Items (grouped s graph columns rows) b) (grouped_alike s scope graph columns rows others (for_columns rows others h)) (same_lifted (grouped s graph columns rows))
      by false = all_projected s scope graph columns p.order p.distinct rows others h

  abbrev sorted_from : Setting → List Projected → Result (List Projected) Fault
  sorted_from r items = ordered_rows r graph columns p.order (distinct_rows p.distinct items)

  all_ended : (skip limit : Option ℕ) (steps : ℕ) (a b : Result (List Projected) Fault) → Lifted Items a b
      → (a >>= λ items. sorted_from s items >>= ended s scope graph columns p.order s skip limit steps) ≡ (b >>= λ items. sorted_from w items >>= ended s scope graph columns p.order w skip limit steps)
  all_ended skip limit steps (Ok ps) (Ok qs) h =
      by_items s scope graph columns p.order skip limit steps (sorted_from s ps) (sorted_from w qs)
      (ordered_alike s scope graph columns p.order p.order refl (distinct_rows p.distinct ps) (distinct_rows p.distinct qs) (distinct_alike s scope graph columns p.order p.distinct ps qs h))
  all_ended skip limit steps (Ok ps) (Err f) h = absurd h
  all_ended skip limit steps (Err f) (Ok qs) h = absurd h
  all_ended skip limit steps (Err f) (Err g) h = λ i. Err (h i)

  abbrev over : List Row → (steps : ℕ) → State
  over rows steps = record { graph = graph; rows = rows; steps = steps }

  clause_alike : (rows others : List Row) → Rows rows others → (steps : ℕ) → project_clause s columns p None (over rows steps) ≡ project_clause w columns p None (over others steps)
  clause_alike rows others h steps =
      λ i. spend s steps (as_many rows others h i) >>= λ after. count_given s.parameters graph p.skip >>= λ skip. count_given s.parameters graph p.limit >>= λ limit.
      all_ended skip limit after (item_rows s graph p.distinct columns rows) (item_rows w graph p.distinct columns others) (items_alike rows others h) i

-- RETURN gives the same, whatever else the rows have
module _ (s : Setting) (scope : Names) (graph : Graph) (p : Projection) where
  read_of_columns : (rows others : List Row) → ReadAlike p rows others → AllZip (ReadsAlike s scope graph (map return_column p.items) p.order) rows others
  read_of_columns [] [] h = tt
  read_of_columns [] (o ∷ os) h = absurd h
  read_of_columns (r ∷ rs) [] h = absurd h
  read_of_columns (r ∷ rs) (o ∷ os) h =
      let items : AgreeOn (λ x. list_any (λ (i : Item). reads x i.value) p.items) r o = agree_first (λ x. list_any (λ (i : Item). reads x i.value) p.items) (λ x. sorts_read x p.order) r o h.0 in
      (((λ x is. items x (sym (items_are_columns x p.items) ∙ is)), agree_second (λ x. list_any (λ (i : Item). reads x i.value) p.items) (λ x. sorts_read x p.order) r o h.0), read_of_columns rs os h.1)

  pub returned_alike : p.star ≡ None → (rows others : List Row) → ReadAlike p rows others → (steps : ℕ)
      → project_clause s (return_columns s.scope p) p None (record { graph = graph; rows = rows; steps = steps }) ≡ project_clause (record s { scope = scope }) (return_columns scope p) p None (record { graph = graph; rows = others; steps = steps })
  returned_alike none rows others h steps =
      (λ i. project_clause s (star_columns s.scope (none i) ++ map return_column p.items) p None (record { graph = graph; rows = rows; steps = steps }))
      ∙ clause_alike s scope graph p (map return_column p.items) rows others (read_of_columns rows others h) steps
      ∙ sym (λ i. project_clause (record s { scope = scope }) (star_columns scope (none i) ++ map return_column p.items) p None (record { graph = graph; rows = others; steps = steps }))

pub columns_stay : (p : Projection) (names others : Names) → p.star ≡ None → return_columns names p ≡ return_columns others p
columns_stay p names others none = (λ i. star_columns names (none i) ++ map return_column p.items) ∙ sym (λ i. star_columns others (none i) ++ map return_column p.items)
