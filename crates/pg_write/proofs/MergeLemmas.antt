-- MERGE at a row, from what its parts give.
use Rattle.std.proofs.Common.{◌≡◌, ◌≢◌, ◌<◌, ℕ, false, List, [], ◌∷◌, ◌++◌, length, Result, Ok, Err, refl, sym, ap, ◌∙◌, arith}
use Rattle.std.proofs.lemmas.List.{length-map}
use Rattle.pg_meaning.specs.Answer.{◌>>=◌, each_step}
use Rattle.pg_meaning.specs.Graph.{Graph}
use Rattle.pg_meaning.specs.Meters.{Setting, State, spend}
use Rattle.pg_meaning.specs.Names.{Names}
use Rattle.pg_meaning.specs.Reading.{test_paths}
use Rattle.pg_meaning.specs.Rows.{Row}
use Rattle.pg_meaning.specs.Tree.{PathPattern, SetItem}
use Rattle.pg_meaning.specs.Updates.{count_new, make, merged_row, set_row}
use Rattle.pg_meaning.specs.Value.{Value}
use Rattle.pg_meaning.specs.Walks.{PathWanted}
use Rattle.pg_meaning.specs.declared.fault.Fault.{Fault}
use Rattle.pg_rows.specs.Named.{row_of, rows_named}
use Rattle.pg_write.proofs.ClauseLemmas.{row_same}
use Rattle.pg_write_make.specs.Scenes.{reading}
use Rattle.pg_write_make.proofs.CreationLemmas.{row_makes}
use Rattle.pg_write.specs.Mergings.{asked, found_at, row_made, row_merged, rows_found, rows_merged}
use Rattle.pg_write_make.specs.Creations.{row_made as row_creates}

rows_more : (names : Names) (rows : List (List Value)) (values : List Value) → rows_named names (rows ++ values ∷ []) ≡ rows_named names rows ++ row_of names values ∷ []
rows_more names [] values = refl
rows_more names (r ∷ rows) values = ap (λ (rs : List Row). row_of names r ∷ rs) (rows_more names rows values)

abbrev pub with_rows : Graph → List Row → ℕ → State
with_rows graph rows steps = record { graph = graph; rows = rows; steps = steps }

-- ---- a resulting row

module _ (s : Setting) (items : List SetItem) (graph : Graph) (names : Names) (rows : List (List Value)) (used n : ℕ) (values : List Value) (many : n ≡ length items) where
  abbrev row : Row
  row = row_of names values

  abbrev result : Result State Fault
  result = merged_row s items (with_rows graph (rows_named names rows) used) row

  abbrev finish : ℕ → Result Graph Fault → Result State Fault
  finish steps r = r >>= λ after. Ok (with_rows after (rows_named names rows ++ row ∷ []) steps)

  charged : (r : Result ℕ Fault) → spend s used n ≡ r → result ≡ (r >>= λ steps. finish steps (set_row (reading s.parameters) items graph row))
  charged r cost =
      ap (λ k. k >>= λ steps. finish steps (set_row s items graph row)) (ap (spend s used) (sym many) ∙ cost)
      ∙ ap (λ k. r >>= λ steps. finish steps k) (row_same s s.parameters refl row items graph)

  pub row_done : (after : Graph) (more : List (List Value)) (steps : ℕ) → spend s used n ≡ Ok steps → set_row (reading s.parameters) items graph row ≡ Ok after → more ≡ rows ++ values ∷ []
      → result ≡ Ok (with_rows after (rows_named names more) steps)
  row_done after more steps cost set pushed =
      charged (Ok steps) cost ∙ ap (finish steps) set
      ∙ ap (λ (rs : List Row). Ok (with_rows after rs steps)) (sym (ap (rows_named names) pushed ∙ rows_more names rows values))

  pub row_fault : (e : Fault) (steps : ℕ) → spend s used n ≡ Ok steps → set_row (reading s.parameters) items graph row ≡ Err e → result ≡ Err e
  row_fault e steps cost set = charged (Ok steps) cost ∙ ap (finish steps) set

  pub row_refused : (e : Fault) → spend s used n ≡ Err e → result ≡ Err e
  row_refused e cost = charged (Err e) cost

-- ---- the path made

module _ (s : Setting) (p : PathPattern) (created : List SetItem) (graph : Graph) (rows : List Row) (used n : ℕ) (row : Row) (many : n ≡ count_new s.scope (p ∷ [])) where
  abbrev making : Result State Fault
  making = row_made s p created (with_rows graph rows used) row

  abbrev then_items : ℕ → Result (Graph × Row) Fault → Result State Fault
  then_items steps r = r >>= λ made. merged_row s created (with_rows made.0 rows steps) made.1

  abbrev creates : Result (Graph × Row) Fault
  creates = row_creates s.parameters s.quota.max_elements (p ∷ []) graph row

  paid : (r : Result ℕ Fault) → spend s used n ≡ r → making ≡ (r >>= λ steps. then_items steps creates)
  paid r cost =
      ap (λ k. k >>= λ steps. then_items steps (make s (p ∷ []) graph row)) (ap (spend s used) (sym many) ∙ cost)
      ∙ ap (λ k. r >>= λ steps. then_items steps k) (row_makes s s.parameters s.quota.max_elements refl refl (p ∷ []) graph row)

  pub made_then : (after : Graph) (behind : Row) (steps : ℕ) → spend s used n ≡ Ok steps → creates ≡ Ok (after, behind) → making ≡ merged_row s created (with_rows after rows steps) behind
  made_then after behind steps cost is = paid (Ok steps) cost ∙ ap (then_items steps) is

  pub making_fault : (e : Fault) (steps : ℕ) → spend s used n ≡ Ok steps → creates ≡ Err e → making ≡ Err e
  making_fault e steps cost is = paid (Ok steps) cost ∙ ap (then_items steps) is

  pub making_refused : (e : Fault) → spend s used n ≡ Err e → making ≡ Err e
  making_refused e cost = paid (Err e) cost

-- ---- found or made

module _ (s : Setting) (p : PathPattern) (created matched : List SetItem) (state : State) (row : Row) where
  none_merged : (rs : List Row) → length rs ≡ 0 → rows_merged s p created matched state row rs ≡ row_made s p created state row
  none_merged [] e = refl
  none_merged (r ∷ rs) e = absurd (cc)

  some_merged : (rs : List Row) → length rs ≢ 0 → rows_merged s p created matched state row rs ≡ each_step (merged_row s matched) state rs
  some_merged [] e = absurd (e refl)
  some_merged (r ∷ rs) e = refl

  pub none_found : (names : Names) (found : List (List Value)) → length found ≡ 0 → rows_merged s p created matched state row (rows_named names found) ≡ row_made s p created state row
  none_found names found e = none_merged (rows_named names found) (length-map found (row_of names) ∙ e)

  pub some_found : (names : Names) (found : List (List Value)) → length found ≢ 0 → rows_merged s p created matched state row (rows_named names found) ≡ each_step (merged_row s matched) state (rows_named names found)
  some_found names found e = some_merged (rows_named names found) (λ z. e (sym (length-map found (row_of names)) ∙ z))

-- ---- a row of the table

module _ (s : Setting) (p : PathPattern) (created matched : List SetItem) (graph : Graph) (rows : List Row) (used : ℕ) (row : Row) where
  abbrev merging : Result State Fault
  merging = row_merged s p created matched (with_rows graph rows used) row

  abbrev then_walked : Result (List PathWanted) Fault → Result State Fault
  then_walked r = r >>= λ wanted. spend s used (found_at s p graph row wanted).1 >>= λ steps. rows_merged s p created matched (with_rows graph rows steps) row (rows_found s p graph row wanted)

  pub asked_fault : (e : Fault) → asked s p graph row ≡ Err e → merging ≡ Err e
  asked_fault e is = ap then_walked is

  -- what was read of the same graph at the same row
  module _ (read : Graph) (own : Row) (same : read ≡ graph) (same' : own ≡ row) where
    pub asked_there : (r : Result (List PathWanted) Fault) → asked s p read own ≡ r → asked s p graph row ≡ r
    asked_there r is = sym (λ i. asked s p (same i) (same' i)) ∙ is

    pub asked_here : (r : Result (List PathWanted) Fault) → asked s p graph row ≡ r → asked s p read own ≡ r
    asked_here r is = (λ i. asked s p (same i) (same' i)) ∙ is

    pub tested_there : (r : Result (Unit {0}) Fault) → test_paths false read own (p ∷ []) ≡ r → test_paths false graph row (p ∷ []) ≡ r
    tested_there r is = sym (λ i. test_paths false (same i) (same' i) (p ∷ [])) ∙ is

    module _ (given wanted : List PathWanted) (are : given ≡ wanted) where
      pub spent_there : (r : Result ℕ Fault) → spend s used (found_at s p read own given).1 ≡ r → spend s used (found_at s p graph row wanted).1 ≡ r
      spent_there r cost = sym (λ i. spend s used (found_at s p (same i) (same' i) (are i)).1) ∙ cost

      pub found_there : (found : List Row) → found ≡ rows_found s p read own given → found ≡ rows_found s p graph row wanted
      found_there found is = is ∙ (λ i. rows_found s p (same i) (same' i) (are i))

  module _ (wanted : List PathWanted) (is : asked s p graph row ≡ Ok wanted) where
    abbrev then_merged : Result ℕ Fault → Result State Fault
    then_merged r = r >>= λ steps. rows_merged s p created matched (with_rows graph rows steps) row (rows_found s p graph row wanted)

    pub spent_fault : (e : Fault) → spend s used (found_at s p graph row wanted).1 ≡ Err e → merging ≡ Err e
    spent_fault e cost = ap then_walked is ∙ ap then_merged cost

    pub spent_then : (steps : ℕ) (found : List Row) → spend s used (found_at s p graph row wanted).1 ≡ Ok steps → found ≡ rows_found s p graph row wanted
        → merging ≡ rows_merged s p created matched (with_rows graph rows steps) row found
    spent_then steps found cost same = ap then_walked is ∙ ap then_merged cost ∙ ap (rows_merged s p created matched (with_rows graph rows steps) row) (sym same)

-- ---- row after row, under a quota that stays

module _ {S X : Type 0} (f : ℕ → S → X → Result S Fault) (k limit : ℕ) (same : k ≡ limit) where
  pub step_next : (all : Result S Fault) (s t : S) (x : X) (xs ys : List X) → all ≡ each_step (f limit) s ys → ys ≡ x ∷ xs → f k s x ≡ Ok t → all ≡ each_step (f limit) t xs
  step_next all s t x xs ys rest e h = rest ∙ ap (each_step (f limit) s) e ∙ ap (λ r. r >>= λ u. each_step (f limit) u xs) (ap (λ n. f n s x) (sym same) ∙ h)

  pub step_err : (all : Result S Fault) (s : S) (x : X) (xs ys : List X) (e : Fault) → all ≡ each_step (f limit) s ys → ys ≡ x ∷ xs → f k s x ≡ Err e → all ≡ Err e
  step_err all s x xs ys e rest is h = rest ∙ ap (each_step (f limit) s) is ∙ ap (λ r. r >>= λ u. each_step (f limit) u xs) (ap (λ n. f n s x) (sym same) ∙ h)

-- ---- the loop over rows: its start, a row fewer, its end

pub rows_begun : (step : State → Row → Result State Fault) (names : Names) (graph : Graph) (used : ℕ) (all left made : List (List Value)) → left ≡ all → made ≡ [] → each_step step (with_rows graph [] used) (rows_named names all) ≡ each_step step (with_rows graph (rows_named names made) used) (rows_named names left)
rows_begun step names graph used all left made same none = λ i. each_step step (with_rows graph (rows_named names (sym none i)) used) (rows_named names (sym same i))

pub one_fewer : {X : Type 0} (xs ys : List X) (x : X) → xs ≡ x ∷ ys → length ys < length xs
one_fewer xs ys x e =
    let n = ap length e in
    omega (arith, n)

pub rows_over : {S : Type 0} (step : S → Row → Result S Fault) (names : Names) (all : Result S Fault) (s : S) (left : List (List Value)) → all ≡ each_step step s (rows_named names left) → left ≡ [] → all ≡ Ok s
rows_over step names all s left rest none = rest ∙ ap (λ rs. each_step step s (rows_named names rs)) none
