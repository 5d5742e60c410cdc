-- Rows that a projection gives as they are.
use Rattle.std.proofs.Common.{◌≡◌, ◌≢◌, ℕ, suc, ◌+◌, ◌<◌, Bool, true, false, cond, not, List, [], ◌∷◌, ◌++◌, map, length, take, drop, Result, Ok, Err, IfOk, IfErr, Option, Some, None, refl, sym, ap, subst, ◌∙◌, true≢false, arith}
use Rattle.std.proofs.lemmas.Bool.Decides.{nat_tests}
use Rattle.std.proofs.lemmas.Option.{slice_get-get_or}
use Rattle.std.specs.List.{AllByRecursion}
use Rattle.std.specs.Option.{option_and_then}
use Rattle.std.specs.Prelude.{◌==◌, ◌||◌, ◌&&◌, bytes_eq, get_or, is_none, is_some, position, slice_get}
use Rattle.pg_meaning.specs.Aggregates.{aggregate_of}
use Rattle.pg_meaning.specs.Answer.{◌>>=◌, each_answer}
use Rattle.pg_meaning.specs.EntriesLaws.{both}
use Rattle.pg_meaning.specs.Expressions.{or_fault}
use Rattle.pg_meaning.specs.Graph.{Graph}
use Rattle.pg_meaning.specs.Meters.{Setting}
use Rattle.pg_meaning.specs.Projections.{Projected, grouped, item_rows, projected}
use Rattle.pg_meaning.specs.Scopes.{Column}
use Rattle.pg_meaning.specs.Tree.{Expression, variable, SortItem, Projection}
use Rattle.pg_meaning.specs.Value.{Value, null, Entries}
use Rattle.pg_meaning.specs.declared.fault.Fault.{Fault}
use Rattle.pg_meaning.specs.declared.fault.Fault.TheVariants.{OutOfMemory, UndefinedVariable}
use Rattle.pg_rows.proofs.NamedRows.{values_stand}
use Rattle.pg_rows.specs.Named.{rows_named}
use Rattle.pg_rows.specs.Tables.{table}
use Rattle.pg_rows.specs.declared.table.Rows.{Rows}
use Rattle.pg_value_core.specs.Gives.{Gives}
use Rattle.pg_project.proofs.InTurn.{drop_here, drop_none, nothing_behind}
use Rattle.pg_project.proofs.Projecting.{aggregates_are, ended_stand, items_are}
use Rattle.pg_project.proofs.RowsTwice.{all_once, tail_twice, twice}
use Rattle.pg_project.proofs.Standing.{all_rows}
use Rattle.pg_project.proofs.Wide.{table_wide}
use Rattle.pg_project.specs.Given.{Cut, cut_given, cut_of, distinct_given, earlier_names, has_aggregate, has_none, hides_earlier, passing_given, sorts_by_columns, tail_given, value_given, values_given, wide_rows_given}
use Rattle.pg_project.specs.Items.{columns_of}
use Rattle.pg_project.specs.Parts.{rows_projected, stands}
use Rattle.pg_project.specs.PassThrough.{are_variables, is_place, is_unseen, is_variable_at}

-- ---- the variables of all columns give the row

same_place : (n m : ℕ) → (n == m) ≡ true → n ≡ m
same_place n m h = grind (arith, nat_tests)

place_is : (at : ℕ) (o : Option ℕ) → is_place at o ≡ true → o ≡ Some at
place_is at None h = absurd (true≢false (sym h))
place_is at (Some n) h = ap Some (same_place n at h)

no_aggregate : (names : List (List ℕ)) (at : ℕ) (e : Expression) → is_variable_at names at e ≡ true → is_some (aggregate_of e) ≡ false
no_aggregate names at (variable x) h = refl
no_aggregate names at e h = absurd (true≢false (sym h))

pub no_aggregates : (names : List (List ℕ)) (at : ℕ) (es : List Expression) → are_variables names at es ≡ true → has_aggregate es ≡ false
no_aggregates names at [] h = refl
no_aggregates names at (e ∷ es) h =
    let parts = both (is_variable_at names at e) (are_variables names (suc at) es) h in
    ap (λ b. b || has_aggregate es) (no_aggregate names at e parts.0) ∙ no_aggregates names (suc at) es parts.1

module _ (parameters : Entries) (graph : Graph) (names : List (List ℕ)) where
  one_value : (vs : List Value) (at : ℕ) (v : Value) (e : Expression) → is_variable_at names at e ≡ true → slice_get vs at ≡ Some v → value_given parameters graph names vs e ≡ Ok v
  one_value vs at v (variable x) h is =
      ap (λ o. or_fault o UndefinedVariable)
      (values_stand x.text names vs ∙ ap (option_and_then (slice_get vs)) (place_is at (position (bytes_eq x.text) names) h) ∙ is)
  one_value vs at v e h is = absurd (true≢false (sym h))

  all_values : (vs : List Value) (at : ℕ) (es : List Expression) → are_variables names at es ≡ true → at + length es ≡ length vs → values_given parameters graph names es vs ≡ Ok (drop at vs)
  all_values vs at [] h long = ap Ok (sym (drop_none vs at (omega (arith, long))))
  all_values vs at (e ∷ es) h long =
      let parts = both (is_variable_at names at e) (are_variables names (suc at) es) h in
      let v = get_or vs at null in
      let below : at < length vs = omega (arith, long) in
      let is : slice_get vs at ≡ Some v = slice_get-get_or vs at null below in
      let more : suc at + length es ≡ length vs = omega (arith, long) in
      let next : at + 1 ≡ suc at = omega arith in
      (λ i. one_value vs at v e parts.0 is i >>= λ y. all_values vs (suc at) es parts.1 more i >>= λ ys. Ok (y ∷ ys))
      ∙ ap Ok (sym (drop_here vs at v is ∙ ap (λ n. v ∷ drop n vs) next))

  pub all_wide : (es : List Expression) (keeps : Bool) (rows : List (List Value)) → are_variables names 0 es ≡ true → length es ≡ length names → AllByRecursion (λ r. length r ≡ length names) rows
      → wide_rows_given parameters graph names es keeps rows ≡ Ok (map (λ r. r ++ cond keeps r []) rows)
  all_wide es keeps [] h long wide = refl
  all_wide es keeps (r ∷ rs) h long wide =
      let same : 0 + length es ≡ length r = omega (arith, long, wide.0) in
      λ i. (all_values r 0 es h same i >>= λ vs. Ok (vs ++ cond keeps r [])) >>= λ y. all_wide es keeps rs h long wide.1 i >>= λ ys. Ok (y ∷ ys)

-- ---- behind the items

module _ (parameters : Entries) (graph : Graph) (es : List Expression) (distinct : Bool) (c : Cut) (width : ℕ) where
  all_pass : (names others : List (List ℕ)) (rows : List (List Value)) → passing_given parameters graph names None width rows ≡ passing_given parameters graph others None width rows
  all_pass names others [] = refl
  all_pass names others (r ∷ rs) = λ i. all_pass names others rs i >>= λ found. Ok (take width r ∷ found)

  unseen_names : (names others : List (List ℕ)) (rows : List (List Value)) → tail_given parameters graph names es distinct [] c None width rows ≡ tail_given parameters graph others es distinct [] c None width rows
  unseen_names names others rows = all_pass names others (cut_of c (distinct_given distinct rows))

nothing_kept : (rows : List (List Value)) → map (λ r. r ++ []) rows ≡ rows
nothing_kept [] = refl
nothing_kept (r ∷ rs) = λ i. nothing_behind r i ∷ nothing_kept rs i

module _ (parameters : Entries) (graph : Graph) (columns names : List (List ℕ)) (es : List Expression) (c : Cut) (same : length columns ≡ length es) (long : length es ≡ length names) (rows : List (List Value)) (wide : AllByRecursion (λ r. length r ≡ length names) rows) where
  abbrev widened : (hidden : Bool) → List (List Value)
  widened hidden = map (λ r. r ++ cond (not hidden) r []) rows

  alone : (distinct : Bool) (order : List SortItem) (where_ : Option Expression)
      → tail_given parameters graph (columns ++ []) es distinct order c where_ (length columns) (map (λ r. r ++ []) rows) ≡ tail_given parameters graph columns es distinct order c where_ (length names) rows
  alone distinct order where_ = λ i. tail_given parameters graph (nothing_behind columns i) es distinct order c where_ ((same ∙ long) i) (nothing_kept rows i)

  renamed : (distinct : Bool) (order : List SortItem) (where_ : Option Expression) → ((has_none order && is_none where_) ≡ false → columns ≡ names)
      → tail_given parameters graph columns es distinct order c where_ (length names) rows ≡ tail_given parameters graph names es distinct order c where_ (length names) rows
  renamed distinct [] None h = unseen_names parameters graph es distinct c (length names) columns names rows
  renamed distinct [] (Some e) h = ap (λ ns. tail_given parameters graph ns es distinct [] c (Some e) (length names) rows) (h refl)
  renamed distinct (o ∷ os) where_ h = ap (λ ns. tail_given parameters graph ns es distinct (o ∷ os) c where_ (length names) rows) (h refl)

  beside : (order : List SortItem) (where_ : Option Expression) → columns ≡ names
      → tail_given parameters graph (columns ++ names) es false order c where_ (length columns) (map twice rows) ≡ tail_given parameters graph names es false order c where_ (length names) rows
  beside order where_ h =
      (λ i. tail_given parameters graph (h i ++ names) es false order c where_ (length (h i)) (map twice rows))
      ∙ tail_twice parameters graph names es long order c where_ rows (all_once names rows wide)

  tail_is : (distinct by_columns : Bool) (order : List SortItem) (where_ : Option Expression) → (by_columns ≡ false → (has_none order && is_none where_) ≡ false) → ((has_none order && is_none where_) ≡ false → columns ≡ names)
      → tail_given parameters graph (columns ++ earlier_names (distinct || by_columns) names) es distinct order c where_ (length columns) (widened (distinct || by_columns))
      ≡ tail_given parameters graph names es distinct order c where_ (length names) rows
  tail_is true by_columns order where_ seen h = alone true order where_ ∙ renamed true order where_ h
  tail_is false true order where_ seen h = alone false order where_ ∙ renamed false order where_ h
  tail_is false false order where_ seen h = beside order where_ (h (seen refl))

  no_wider : (rs : List (List Value)) → AllByRecursion (λ r. length r ≡ length names) rs → AllByRecursion (λ r. length r ≡ length columns) (map (λ r. r ++ []) rs)
  no_wider [] h = tt
  no_wider (r ∷ rs) h = (ap length (nothing_behind r) ∙ h.0 ∙ sym (same ∙ long), no_wider rs h.1)

  widened_wide : (distinct unseen : Bool) → distinct ≡ true → AllByRecursion (λ r. length r ≡ length columns) (widened (distinct || unseen))
  widened_wide true unseen h = no_wider rows wide
  widened_wide false unseen h = absurd (true≢false (sym h))

-- where nothing is sorted, each sort is by a column
seen_so : (columns : List (List ℕ)) (order : List SortItem) (where_ : Option Expression) → (sorts_by_columns columns order && is_none where_) ≡ false → (has_none order && is_none where_) ≡ false
seen_so columns [] where_ h = h
seen_so columns (o ∷ os) where_ h = refl

-- ---- the projection

module _ (s : Setting) (graph : Graph) (columns names : List (List ℕ)) (es : List Expression) (same : length columns ≡ length es) (long : length es ≡ length names) (variables : are_variables names 0 es ≡ true) (hidden : Bool) (rows : List (List Value)) (wide : AllByRecursion (λ r. length r ≡ length names) rows) where
  items_pass : item_rows s graph hidden (columns_of columns es) (rows_named names rows) ≡ Ok (map (stands columns (earlier_names hidden names)) (map (λ r. r ++ cond (not hidden) r []) rows))
  items_pass =
      ap (λ b. elim b as (λ b. Result (List Projected) Fault) [ true ↦ grouped s graph (columns_of columns es) (rows_named names rows) | false ↦ each_answer (projected s.parameters graph hidden (columns_of columns es)) (rows_named names rows) ])
      (aggregates_are columns es same ∙ no_aggregates names 0 es variables)
      ∙ all_rows s graph columns names es hidden same rows
      ∙ ap (λ a. a >>= λ ws. Ok (map (stands columns (earlier_names hidden names)) ws)) (all_wide s.parameters graph names es (not hidden) rows variables long wide)

module _ (s : Setting) (graph : Graph) (parameters : Entries) (given : s.parameters ≡ parameters) (all : List Column) (p : Projection) (where_ : Option Expression) (columns names : List (List ℕ)) (es : List Expression) (are : all ≡ columns_of columns es) (c : Cut) (cut : cut_given parameters graph p.skip p.limit ≡ Ok c)
    (r : Rows) (width : ℕ) (fits : r.width ≡ length names) (same : length columns ≡ length es) (long : length es ≡ length names) (all_of : width ≡ length names) (variables : are_variables names 0 es ≡ true) (named : is_unseen p where_ ≡ false → columns ≡ names) where
  abbrev hidden : Bool
  hidden = hides_earlier columns p where_

  abbrev behind_items : Result (List (List Value)) Fault
  behind_items = tail_given parameters graph names es p.distinct p.order c where_ width (table r)

  wide : AllByRecursion (λ w. length w ≡ length names) (table r)
  wide = subst (λ n. AllByRecursion (λ w. length w ≡ n) (table r)) fits (table_wide r)

  passed_is : rows_projected s graph all p where_ (rows_named names (table r)) ≡ (behind_items >>= λ found. Ok (rows_named columns found))
  passed_is =
      let ws : List (List Value) = map (λ w. w ++ cond (not hidden) w []) (table r) in
      items_are s graph parameters given all p where_ (rows_named names (table r)) columns names es are same c cut (Ok (map (stands columns (earlier_names hidden names)) ws)) (items_pass s graph columns names es same long variables hidden (table r) wide)
      ∙ ended_stand s graph columns (earlier_names hidden names) es same p where_ c ws (widened_wide parameters graph columns names es c same long (table r) wide p.distinct (sorts_by_columns columns p.order && is_none where_))
      ∙ (λ i. tail_given (given i) graph (columns ++ earlier_names hidden names) es p.distinct p.order c where_ (length columns) ws >>= λ found. Ok (rows_named columns found))
      ∙ ap (λ a. a >>= λ found. Ok (rows_named columns found))
      (tail_is parameters graph columns names es c same long (table r) wide p.distinct (sorts_by_columns columns p.order && is_none where_) p.order where_ (seen_so columns p.order where_) named ∙ ap (λ n. tail_given parameters graph names es p.distinct p.order c where_ n (table r)) (sym all_of))

  pub passed_gives : (result : Result Rows Fault) → IfOk result (λ found. behind_items ≡ Ok (table found)) → IfErr result (λ e. e ≢ OutOfMemory → behind_items ≡ Err e) → Gives result (rows_projected s graph all p where_ (rows_named names (table r))) (λ found. rows_named columns (table found))
  passed_gives (Ok found) ok err = record {
    ok = passed_is ∙ ap (λ a. a >>= λ us. Ok (rows_named columns us)) ok;
    err = tt;
  }
  passed_gives (Err e) ok err = record {
    ok = tt;
    err = λ other. passed_is ∙ ap (λ a. a >>= λ us. Ok (rows_named columns us)) (err other);
  }
