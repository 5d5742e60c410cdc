-- Rows that are counted alone.
use Rattle.std.proofs.Common.{◌≡◌, ◌<◌, ◌≤◌, ℕ, suc, get_or, ◌+◌, pos, Bool, true, List, [], ◌∷◌, map, length, Result, Ok, Err, None, refl, sym, ap, ◌∙◌, arith}
use Rattle.std.proofs.lemmas.List.{length-map}
use Rattle.std.specs.Prelude.{◌+ℤ◌, IfErr, IfOk}
use Rattle.pg_meaning.specs.Answer.{◌>>=◌, each_answer}
use Rattle.pg_meaning.specs.Graph.{Graph}
use Rattle.pg_meaning.specs.Tree.{Expression}
use Rattle.pg_meaning.specs.Value.{Value, Entries, integer}
use Rattle.pg_meaning.specs.declared.fault.Fault.{Fault}
use Rattle.pg_meaning.specs.declared.fault.Fault.TheVariants.{OutOfMemory}
use Rattle.pg_project.specs.Items.{Item, grouping, aggregate, aggregates_in, are_aggregates, before_aggregates, is_aggregate, item_of, keys_in, before_keys}
use Rattle.pg_project.specs.Kept.{Kept, Answers, answers_at, first_kept, into_kept, kept_row, kept_rows, kept_values, merged, row_count, rows_given, told_each, without_group}
use Rattle.pg_project.specs.KeptGroups.{aggregates_among, groups_view}
use Rattle.pg_project.specs.ReadyItems.{AreReady, aggregate_view}
use Rattle.pg_project.specs.Summaries.{count}
use Rattle.pg_project.specs.declared.groups.Groups.{Groups}
use Rattle.pg_project.specs.declared.items.Items.{Items}
use Rattle.pg_rows.specs.Tables.{table}
use Rattle.pg_rows.specs.declared.table.Rows.{Rows}
use Rattle.pg_value_core.specs.Gives.{Gives}

-- the one group that has so many rows
abbrev counted : ℕ → List Kept
counted n = record { key = []; taken = record { different = None; held = count (pos n) } ∷ [] } ∷ []

one_more : (n : ℕ) → pos n +ℤ pos 1 ≡ pos (n + 1)
one_more n = refl

one_row : (at : Answers) (es : List Expression) (n : ℕ) → keys_in es ≡ [] → aggregates_in es ≡ row_count ∷ [] → kept_row at es (counted n) ≡ Ok (counted (n + 1))
one_row at es n none one =
    (λ i. elim (each_answer at (none i)) as (λ r. Result (List Kept) Fault) [
      | Ok key ↦ into_kept at (one i) key (counted n)
      | Err f ↦ without_group at es f
    ])
    ∙ ap (λ m. let r : Result (List Kept) Fault = Ok (record { key = []; taken = record { different = None; held = count m } ∷ [] } ∷ []) in r) (one_more n)

module _ (parameters : Entries) (graph : Graph) (names : List (List ℕ)) (es : List Expression) (none : keys_in es ≡ []) (one : aggregates_in es ≡ row_count ∷ []) where
  all_rows : (n : ℕ) (rows : List (List Value)) → kept_rows parameters graph names es (counted n) rows ≡ Ok (counted (n + length rows))
  all_rows n [] = ap (λ m. Ok (counted m)) (let e : n ≡ n + 0 = omega arith in e)
  all_rows n (r ∷ rs) =
      ap (λ a. a >>= λ gs. kept_rows parameters graph names es gs rs) (one_row (answers_at parameters graph names r) es n none one)
      ∙ all_rows (n + 1) rs
      ∙ ap (λ m. Ok (counted m)) (let e : (n + 1) + length rs ≡ n + suc (length rs) = omega arith in e)

  kinds : (fs : List Expression) → length fs ≡ 1 → keys_in fs ≡ [] → are_aggregates fs ≡ true ∷ []
  kinds [] l h = absurd (omega (arith, l))
  kinds (e ∷ []) l h = by (item_of e) h
    where
      by : (i : Item) → before_keys i [] ≡ [] → is_aggregate i ∷ [] ≡ true ∷ []
      by (grouping x) k = absurd (let no : ⊥ = cc in no)
      by (aggregate a) k = refl
  kinds (e ∷ f ∷ fs) l h = absurd (omega (arith, l))

  pub rows_counted : (rows : List (List Value)) → length es ≡ 1 → rows_given parameters graph names es rows ≡ Ok ((integer (pos (length rows)) ∷ []) ∷ [])
  rows_counted rows l =
      (λ i. kept_rows parameters graph names es (first_kept (none i) (one i)) rows >>= λ gs. Ok (map (kept_values es) gs))
      ∙ ap (λ a. a >>= λ gs. Ok (map (kept_values es) gs)) (all_rows 0 rows)
      ∙ ap (λ (bs : List Bool). Ok (merged bs [] (integer (pos (0 + length rows)) ∷ []) ∷ [])) (kinds es l none)
      ∙ ap (λ m. Ok ((integer (pos m) ∷ []) ∷ [])) (let e : 0 + length rows ≡ length rows = omega arith in e)

pub counted_gives : {answer : Result (List (List Value)) Fault} (t : List (List Value)) (result : Result Rows Fault) → answer ≡ Ok t → IfOk result (λ found. table found ≡ t) → IfErr result (λ e. e ≡ OutOfMemory) → Gives result answer table
counted_gives t (Ok found) same h k = record { ok = same ∙ ap Ok (sym h); err = tt }
counted_gives t (Err e) same h k = record { ok = tt; err = λ other. absurd (other k) }

pub alone : {X : Type 0} (xs all : List X) (x : X) → xs ≡ all → 1 ≤ length xs → length xs < 2 → x ≡ get_or xs 0 x → all ≡ x ∷ []
alone [] all x same least below is = absurd (omega (arith, least))
alone (y ∷ []) all x same least below is = sym same ∙ ap (λ z. z ∷ []) (sym is)
alone (y ∷ z ∷ ys) all x same least below is = absurd (omega (arith, below))

-- ---- how many of the items are aggregates

pub as_many : (es : List Expression) → aggregates_among (are_aggregates es) ≡ length (aggregates_in es)
as_many [] = refl
as_many (e ∷ es) = by (item_of e) (as_many es)
  where
    by : (i : Item) → aggregates_among (are_aggregates es) ≡ length (aggregates_in es) → aggregates_among (is_aggregate i ∷ are_aggregates es) ≡ length (before_aggregates i (aggregates_in es))
    by (grouping x) h = h
    by (aggregate a) h = ap suc h

pub groups_told : (names : List (List ℕ)) (es : List Expression) (items : Items) → AreReady names es items → (groups : Groups) (found : List (List Value))
    → found ≡ map (λ g. merged items.are_aggregates.items g.key (told_each g.taken)) (groups_view (aggregates_among items.are_aggregates.items) groups)
    → map (kept_values es) (groups_view (length items.aggregates.items) groups) ≡ found
groups_told names es items ready groups found told = sym (told ∙ (λ i. map (λ (k : Kept). merged (ready.kinds i) k.key (told_each k.taken)) (groups_view (each i) groups)))
  where
    each : aggregates_among items.are_aggregates.items ≡ length items.aggregates.items
    each = ap aggregates_among ready.kinds ∙ as_many es ∙ sym (ap length ready.aggregates) ∙ length-map items.aggregates.items (aggregate_view names)
