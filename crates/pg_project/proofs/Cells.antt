-- The cells of a group and what is kept of it, side by side, as a row is taken in.
use Rattle.std.proofs.Common.{◌≡◌, ℕ, Bool, true, false, List, [], ◌∷◌, length, map, Result, Ok, Err, Option, Some, None, refl, sym, ap, ◌∙◌, subst, arith}
use Rattle.pg_project.proofs.Folding.{taken_more, told_of}
use Rattle.pg_project.proofs.Lifts.{Lifted, both, mapped, same, by_map}
use Rattle.pg_project.specs.Items.{Item, grouping, aggregate, item_by, item_of, before_keys, keys_in, before_aggregates, aggregates_in, is_aggregate, are_aggregates, columns_of}
use Rattle.pg_project.specs.Kept.{Answers, argument_given, item_tested, items_tested, all_taken_in, begun, merged, told_each}
use Rattle.pg_project.specs.Summaries.{Taken, taken_of, taken_with, told}
use Rattle.pg_meaning.specs.Aggregates.{Aggregate, aggregate_of, take_in, summarized}
use Rattle.pg_meaning.specs.Answer.{◌>>=◌, ◌>>◌, each_answer}
use Rattle.pg_meaning.specs.AnswerLaws.{went_well, same_ok}
use Rattle.pg_meaning.specs.Expressions.{evaluate}
use Rattle.pg_meaning.specs.Graph.{Graph}
use Rattle.pg_meaning.specs.Meters.{Setting}
use Rattle.pg_meaning.specs.Projections.{keep_first, fold_value, fold_cells, test_alone, first_or_null, group_columns}
use Rattle.pg_meaning.specs.Rows.{Row}
use Rattle.pg_meaning.specs.Tree.{Expression}
use Rattle.pg_meaning.specs.Value.{Value}
use Rattle.pg_meaning.specs.declared.fault.Fault.{Fault}
use Rattle.pg_rows.specs.Named.{row_of}

abbrev pub Either : {X Y : Type 0} → X → Y → Type 0
Either x y = Unit {0}

abbrev pub CellsBy : Item → (List Value → List (List Value) → List Taken → Type 0) → List Value → List (List Value) → List Taken → Type 0
CellsBy (grouping e) Rest (k ∷ ks) (c ∷ cs) ts = (c ≡ k ∷ []) × Rest ks cs ts
CellsBy (aggregate a) Rest ks (c ∷ cs) (t ∷ ts) = (taken_of a c ≡ t) × Rest ks cs ts
CellsBy i Rest ks cs ts = ⊥

-- cells that hold the key's values, and the values of which the summaries are kept
abbrev pub Cells : List Expression → List Value → List (List Value) → List Taken → Type 0
Cells [] [] [] [] = Unit {0}
Cells [] ks cs ts = ⊥
Cells (e ∷ es) ks cs ts = CellsBy (item_of e) (λ us ds ws. Cells es us ds ws) ks cs ts

abbrev CellsOf : List Expression → List Value → List (List Value) → List Taken → Type 0
CellsOf es ks cs ts = Cells es ks cs ts

no_cells : (i : Item) (Rest : List Value → List (List Value) → List Taken → Type 0) (ks : List Value) (ts : List Taken) → CellsBy i Rest ks [] ts → ⊥
no_cells (grouping e) Rest [] ts h = h
no_cells (grouping e) Rest (k ∷ ks) ts h = h
no_cells (aggregate a) Rest ks ts h = h

pub begun_cells : (ns : List (List ℕ)) (es : List Expression) → length ns ≡ length es → keys_in es ≡ [] → Cells es [] (map (λ c. []) (columns_of ns es)) (begun (aggregates_in es))
begun_cells [] [] l none = tt
begun_cells [] (e ∷ es) l none = absurd (omega arith)
begun_cells (n ∷ ns) [] l none = absurd (omega arith)
begun_cells (n ∷ ns) (e ∷ es) l none = by (λ h. begun_cells ns es (omega arith) h) (aggregate_of e) none
  where
    by : (keys_in es ≡ [] → Cells es [] (map (λ c. []) (columns_of ns es)) (begun (aggregates_in es))) → (o : Option Aggregate) → before_keys (item_by e o) (keys_in es) ≡ []
        → CellsBy (item_by e o) (CellsOf es) [] ([] ∷ map (λ c. []) (columns_of ns es)) (begun (before_aggregates (item_by e o) (aggregates_in es)))
    by rest None h = absurd cc
    by rest (Some a) h = (refl, rest h)

module _ (s : Setting) (graph : Graph) (row : Row) where
  abbrev at : Answers
  at e = evaluate row s.parameters graph e

  abbrev cell_by : (has_group : Bool) → Expression → Option Aggregate → List Value → Result (List Value) Fault
  cell_by has_group e o cell = elim o [ None ↦ at e >>= λ v. Ok (keep_first cell v) | Some a ↦ argument_given at a >>= fold_value has_group a cell ]

  one_taken : (a : Aggregate) (c : List Value) (t : Taken) → taken_of a c ≡ t → Lifted (λ d u. taken_of a d ≡ u) (argument_given at a >>= fold_value true a c) (argument_given at a >>= taken_with t)
  one_taken a c t is =
      both (λ v w. v ≡ w) (λ d u. taken_of a d ≡ u) (argument_given at a) (argument_given at a) (fold_value true a c) (taken_with t) (same (argument_given at a))
      (λ v w e. subst (λ x. Lifted (λ d u. taken_of a d ≡ u) (take_in a c v) (taken_with t x)) e (by_map (taken_of a) (take_in a c v) (taken_with t v) (taken_more a c v ∙ ap (λ x. taken_with x v) is)))

  -- ---- a group that is there

  empty_cells : (ks : List Value) (cells : List (List Value)) (ts : List Taken) → Cells [] ks cells ts → Lifted (λ cs us. Cells [] ks cs us) (fold_cells s graph row true [] cells) (all_taken_in at [] ts)
  empty_cells [] [] [] h = tt
  empty_cells (k ∷ ks) cells ts h = absurd h
  empty_cells [] (c ∷ cs) ts h = absurd h
  empty_cells [] [] (t ∷ ts) h = absurd h

  pub old_cells : (ns : List (List ℕ)) (es : List Expression) → length ns ≡ length es → (ks vs : List Value) (cells : List (List Value)) (ts : List Taken) → each_answer at (keys_in es) ≡ Ok vs → Cells es ks cells ts
      → Lifted (λ cs us. Cells es ks cs us) (fold_cells s graph row true (columns_of ns es) cells) (all_taken_in at (aggregates_in es) ts)
  old_cells [] [] l ks vs cells ts keys h = empty_cells ks cells ts h
  old_cells [] (e ∷ es) l ks vs cells ts keys h = absurd (omega arith)
  old_cells (n ∷ ns) [] l ks vs cells ts keys h = absurd (omega arith)
  old_cells (n ∷ ns) (e ∷ es) l ks vs [] ts keys h = absurd (no_cells (item_of e) (CellsOf es) ks ts h)
  old_cells (n ∷ ns) (e ∷ es) l ks vs (d ∷ cells) ts keys h = by (λ us ws zs k c. old_cells ns es (omega arith) us ws cells zs k c) (aggregate_of e) ks ts keys h
    where
      folded : Option Aggregate → Result (List (List Value)) Fault
      folded o = cell_by true e o d >>= λ x. fold_cells s graph row true (columns_of ns es) cells >>= λ ds. Ok (x ∷ ds)

      by : ((us ws : List Value) (zs : List Taken) → each_answer at (keys_in es) ≡ Ok ws → Cells es us cells zs → Lifted (λ cs xs. Cells es us cs xs) (fold_cells s graph row true (columns_of ns es) cells) (all_taken_in at (aggregates_in es) zs))
          → (o : Option Aggregate) (us : List Value) (zs : List Taken) → each_answer at (before_keys (item_by e o) (keys_in es)) ≡ Ok vs → CellsBy (item_by e o) (CellsOf es) us (d ∷ cells) zs
          → Lifted (λ cs xs. CellsBy (item_by e o) (CellsOf es) us cs xs) (folded o) (all_taken_in at (before_aggregates (item_by e o) (aggregates_in es)) zs)
      by rest None [] zs k c = absurd c
      by rest None (u ∷ us) zs k c =
          let first = went_well (at e) (λ v. each_answer at (keys_in es) >>= λ ys. Ok (v ∷ ys)) vs k in
          let others = went_well (each_answer at (keys_in es)) (λ ys. Ok (first.0 ∷ ys)) vs first.2 in
          subst (λ a. Lifted (λ cs xs. CellsBy (grouping e) (CellsOf es) (u ∷ us) cs xs) ((a >>= λ v. Ok (keep_first d v)) >>= λ x. fold_cells s graph row true (columns_of ns es) cells >>= λ ds. Ok (x ∷ ds)) (all_taken_in at (aggregates_in es) zs)) (sym first.1)
          (mapped (λ cs xs. Cells es us cs xs) (λ cs xs. CellsBy (grouping e) (CellsOf es) (u ∷ us) cs xs) (fold_cells s graph row true (columns_of ns es) cells) (all_taken_in at (aggregates_in es) zs) (λ ds. keep_first d first.0 ∷ ds) (rest us others.0 zs others.1 c.1)
          (λ ds xs r. (ap (λ x. keep_first x first.0) c.0, r)))
      by rest (Some a) us [] k c = absurd c
      by rest (Some a) us (z ∷ zs) k c =
          both (λ x y. taken_of a x ≡ y) (λ cs xs. CellsBy (aggregate a) (CellsOf es) us cs xs) (argument_given at a >>= fold_value true a d) (argument_given at a >>= taken_with z)
          (λ x. fold_cells s graph row true (columns_of ns es) cells >>= λ ds. Ok (x ∷ ds)) (λ y. all_taken_in at (aggregates_in es) zs >>= λ ys. Ok (y ∷ ys)) (one_taken a d z c.0)
          (λ x y p. both (λ cs xs. Cells es us cs xs) (λ cs xs. CellsBy (aggregate a) (CellsOf es) us cs xs) (fold_cells s graph row true (columns_of ns es) cells) (all_taken_in at (aggregates_in es) zs) (λ ds. Ok (x ∷ ds)) (λ ys. Ok (y ∷ ys)) (rest us vs zs k c.1)
          (λ ds ys r. (p, r)))

  -- ---- a new group

  pub new_cells : (ns : List (List ℕ)) (es : List Expression) → length ns ≡ length es → (vs : List Value) → each_answer at (keys_in es) ≡ Ok vs
      → Lifted (λ cs us. Cells es vs cs us) (fold_cells s graph row true (columns_of ns es) []) (all_taken_in at (aggregates_in es) (begun (aggregates_in es)))
  new_cells [] [] l [] keys = tt
  new_cells [] [] l (v ∷ vs) keys = absurd cc
  new_cells [] (e ∷ es) l vs keys = absurd (omega arith)
  new_cells (n ∷ ns) [] l vs keys = absurd (omega arith)
  new_cells (n ∷ ns) (e ∷ es) l vs keys = by (λ ws k. new_cells ns es (omega arith) ws k) (aggregate_of e) vs keys
    where
      folded : Option Aggregate → Result (List (List Value)) Fault
      folded o = cell_by true e o [] >>= λ x. fold_cells s graph row true (columns_of ns es) [] >>= λ ds. Ok (x ∷ ds)

      by : ((ws : List Value) → each_answer at (keys_in es) ≡ Ok ws → Lifted (λ cs us. Cells es ws cs us) (fold_cells s graph row true (columns_of ns es) []) (all_taken_in at (aggregates_in es) (begun (aggregates_in es))))
          → (o : Option Aggregate) (ws : List Value) → each_answer at (before_keys (item_by e o) (keys_in es)) ≡ Ok ws
          → Lifted (λ cs xs. CellsBy (item_by e o) (CellsOf es) ws cs xs) (folded o) (all_taken_in at (before_aggregates (item_by e o) (aggregates_in es)) (begun (before_aggregates (item_by e o) (aggregates_in es))))
      by rest None ws k =
          let first = went_well (at e) (λ v. each_answer at (keys_in es) >>= λ ys. Ok (v ∷ ys)) ws k in
          let others = went_well (each_answer at (keys_in es)) (λ ys. Ok (first.0 ∷ ys)) ws first.2 in
          subst (λ us. Lifted (λ cs xs. CellsBy (grouping e) (CellsOf es) us cs xs) (folded None) (all_taken_in at (aggregates_in es) (begun (aggregates_in es)))) (same_ok (first.0 ∷ others.0) ws others.2)
          (subst (λ a. Lifted (λ cs xs. CellsBy (grouping e) (CellsOf es) (first.0 ∷ others.0) cs xs) ((a >>= λ v. Ok (keep_first [] v)) >>= λ x. fold_cells s graph row true (columns_of ns es) [] >>= λ ds. Ok (x ∷ ds)) (all_taken_in at (aggregates_in es) (begun (aggregates_in es)))) (sym first.1)
          (mapped (λ cs xs. Cells es others.0 cs xs) (λ cs xs. CellsBy (grouping e) (CellsOf es) (first.0 ∷ others.0) cs xs) (fold_cells s graph row true (columns_of ns es) []) (all_taken_in at (aggregates_in es) (begun (aggregates_in es))) (λ ds. (first.0 ∷ []) ∷ ds) (rest others.0 others.1)
          (λ ds xs r. (refl, r))))
      by rest (Some a) ws k =
          both (λ x y. taken_of a x ≡ y) (λ cs xs. CellsBy (aggregate a) (CellsOf es) ws cs xs) (argument_given at a >>= fold_value true a []) (argument_given at a >>= taken_with (taken_of a []))
          (λ x. fold_cells s graph row true (columns_of ns es) [] >>= λ ds. Ok (x ∷ ds)) (λ y. all_taken_in at (aggregates_in es) (begun (aggregates_in es)) >>= λ ys. Ok (y ∷ ys)) (one_taken a [] (taken_of a []) refl)
          (λ x y p. both (λ cs xs. Cells es ws cs xs) (λ cs xs. CellsBy (aggregate a) (CellsOf es) ws cs xs) (fold_cells s graph row true (columns_of ns es) []) (all_taken_in at (aggregates_in es) (begun (aggregates_in es))) (λ ds. Ok (x ∷ ds)) (λ ys. Ok (y ∷ ys)) (rest ws k)
          (λ ds ys r. (p, r)))

  -- ---- a row without a group

  tested_then : {X : Type 0} (a : Result X Fault) (b : Result (Unit {0}) Fault) (c : Result (List X) Fault) (d : Result (Unit {0}) Fault) → Lifted Either a b → Lifted Either c d → Lifted Either (a >>= λ x. c >>= λ xs. Ok (x ∷ xs)) (b >> d)
  tested_then (Ok x) (Ok y) (Ok xs) (Ok ys) h k = tt
  tested_then (Ok x) (Ok y) (Err f) (Err g) h k = k
  tested_then (Ok x) (Ok y) (Ok xs) (Err g) h k = absurd k
  tested_then (Ok x) (Ok y) (Err f) (Ok ys) h k = absurd k
  tested_then (Err f) (Err g) c d h k = h
  tested_then (Ok x) (Err g) c d h k = absurd h
  tested_then (Err f) (Ok y) c d h k = absurd h

  evaluated : (a : Result Value Fault) → Lifted Either (a >>= λ v. Ok (keep_first [] v)) (a >>= λ v. let r : Result (Unit {0}) Fault = Ok tt in r)
  evaluated (Ok v) = tt
  evaluated (Err f) = refl

  kept_test : (a : Result (Unit {0}) Fault) → Lifted Either (a >> (let r : Result (List Value) Fault = Ok [] in r)) a
  kept_test (Ok x) = tt
  kept_test (Err f) = refl

  argument_tested : (a : Aggregate) (b : Result Value Fault) → Lifted Either (b >>= fold_value false a []) (b >>= test_alone a.summary)
  argument_tested a (Ok v) = kept_test (test_alone a.summary v)
  argument_tested a (Err f) = refl

  pub tested : (ns : List (List ℕ)) (es : List Expression) → length ns ≡ length es → Lifted Either (fold_cells s graph row false (columns_of ns es) []) (items_tested at es)
  tested [] [] l = tt
  tested [] (e ∷ es) l = absurd (omega arith)
  tested (n ∷ ns) [] l = absurd (omega arith)
  tested (n ∷ ns) (e ∷ es) l = tested_then (cell_by false e (aggregate_of e) []) (item_tested at (item_of e)) (fold_cells s graph row false (columns_of ns es) []) (items_tested at es) (by (aggregate_of e)) (tested ns es (omega arith))
    where
      by : (o : Option Aggregate) → Lifted Either (cell_by false e o []) (item_tested at (item_by e o))
      by None = evaluated (at e)
      by (Some a) = argument_tested a (argument_given at a)

-- ---- the row of a group

pub told_cells : (ns : List (List ℕ)) (es : List Expression) → length ns ≡ length es → (ks : List Value) (cells : List (List Value)) (ts : List Taken) → Cells es ks cells ts
    → group_columns (columns_of ns es) cells ≡ row_of ns (merged (are_aggregates es) ks (told_each ts))
told_cells [] [] l ks cells ts h = refl
told_cells [] (e ∷ es) l ks cells ts h = absurd (omega arith)
told_cells (n ∷ ns) [] l ks cells ts h = absurd (omega arith)
told_cells (n ∷ ns) (e ∷ es) l ks [] ts h = absurd (no_cells (item_of e) (CellsOf es) ks ts h)
told_cells (n ∷ ns) (e ∷ es) l ks (d ∷ cells) ts h = by (λ us zs c. told_cells ns es (omega arith) us cells zs c) (aggregate_of e) ks ts h
  where
    by : ((us : List Value) (zs : List Taken) → Cells es us cells zs → group_columns (columns_of ns es) cells ≡ row_of ns (merged (are_aggregates es) us (told_each zs)))
        → (o : Option Aggregate) (us : List Value) (zs : List Taken) → CellsBy (item_by e o) (CellsOf es) us (d ∷ cells) zs
        → (n, elim o [ None ↦ first_or_null d | Some a ↦ summarized a.summary d ]) ∷ group_columns (columns_of ns es) cells ≡ row_of (n ∷ ns) (merged (is_aggregate (item_by e o) ∷ are_aggregates es) us (told_each zs))
    by rest None [] zs c = absurd c
    by rest None (u ∷ us) zs c = λ i. (n, first_or_null (c.0 i)) ∷ rest us zs c.1 i
    by rest (Some a) us [] c = absurd c
    by rest (Some a) us (z ∷ zs) c = λ i. (n, (told_of a.summary d ∙ ap (λ (t : Taken). told t.held) c.0) i) ∷ rest us zs c.1 i
