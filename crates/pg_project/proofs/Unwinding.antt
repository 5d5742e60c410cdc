-- UNWIND of the definitions over rows of values.
use Rattle.std.proofs.Common.{◌≡◌, ℕ, suc, ◌+◌, Bool, true, false, cond, List, [], ◌∷◌, ◌++◌, map, length, sum, Result, Ok, Err, Option, Some, None, refl, sym, ap, ◌∙◌, arith}
use Rattle.std.proofs.lemmas.Iterator.Adapters.{position_from-zero}
use Rattle.std.specs.List.{AllByRecursion, list_any, position_from}
use Rattle.std.specs.Global.{Vec}
use Rattle.std.specs.Prelude.{flat_map, zip, ◌||◌, is_some, is_none, position, bytes_eq}
use Rattle.pg_meaning.specs.Answer.{◌>>=◌, each_answer}
use Rattle.pg_meaning.specs.Expressions.{evaluate}
use Rattle.pg_meaning.specs.Graph.{Graph}
use Rattle.pg_meaning.specs.Meters.{Setting, State, spend}
use Rattle.pg_meaning.specs.Names.{add_name}
use Rattle.pg_meaning.specs.Reading.{unwound, unwound_at, unwind_clause}
use Rattle.pg_meaning.specs.Rows.{Row, bind_new}
use Rattle.pg_meaning.specs.Tree.{Expression, Name}
use Rattle.pg_meaning.specs.Value.{Value as Datum, Entries, items_of, values_of}
use Rattle.pg_meaning.specs.declared.fault.Fault.{Fault}
use Rattle.pg_rows.proofs.NamedRows.{new_columns, old_columns}
use Rattle.pg_rows.specs.Named.{row_of, rows_named, with_name}
use Rattle.pg_rows.specs.States.{Named, state_of, Suits}
use Rattle.pg_value_core.specs.View.{view}
use Rattle.pg_value_core.specs.declared.value.Value.{Value as Code}
use Rattle.pg_project.specs.Unwound.{lists_given, lists_view, with_item, with_items, rows_unwound}

pub items_again : (vs : List Datum) → items_of (values_of vs) ≡ vs
items_again [] = refl
items_again (v ∷ vs) = ap (λ us. v ∷ us) (items_again vs)

module _ (s : Setting) (graph : Graph) (e : Expression) (names : List (List ℕ)) where
  pairs : (rows : List (List Datum)) → each_answer (unwound_at s graph e) (rows_named names rows) ≡ (lists_given s.parameters graph e names rows >>= λ ls. Ok (zip (rows_named names rows) ls))
  pairs [] = refl
  pairs (r ∷ rs) = by (evaluate (row_of names r) s.parameters graph e) (each_answer (unwound_at s graph e) (rows_named names rs)) (lists_given s.parameters graph e names rs) (pairs rs)
    where
      by_rest : (l : List Datum) (lists : Result (List (List Datum)) Fault)
          → ((lists >>= λ ls. Ok (zip (rows_named names rs) ls)) >>= λ ys. Ok ((row_of names r, l) ∷ ys)) ≡ ((lists >>= λ ls. Ok (l ∷ ls)) >>= λ ls. Ok (zip (rows_named names (r ∷ rs)) ls))
      by_rest l (Ok ls) = refl
      by_rest l (Err f) = refl

      by_list : (a : Result (List Datum) Fault) (rest : Result (List (Row × List Datum)) Fault) (lists : Result (List (List Datum)) Fault)
          → rest ≡ (lists >>= λ ls. Ok (zip (rows_named names rs) ls))
          → ((a >>= λ vs. Ok (row_of names r, vs)) >>= λ y. rest >>= λ ys. Ok (y ∷ ys)) ≡ ((a >>= λ l. lists >>= λ ls. Ok (l ∷ ls)) >>= λ ls. Ok (zip (rows_named names (r ∷ rs)) ls))
      by_list (Ok l) rest lists h = ap (λ x. x >>= λ ys. Ok ((row_of names r, l) ∷ ys)) h ∙ by_rest l lists
      by_list (Err f) rest lists h = refl

      by : (a : Result Datum Fault) (rest : Result (List (Row × List Datum)) Fault) (lists : Result (List (List Datum)) Fault)
          → rest ≡ (lists >>= λ ls. Ok (zip (rows_named names rs) ls))
          → ((a >>= λ v. unwound v >>= λ vs. Ok (row_of names r, vs)) >>= λ y. rest >>= λ ys. Ok (y ∷ ys)) ≡ (((a >>= unwound) >>= λ l. lists >>= λ ls. Ok (l ∷ ls)) >>= λ ls. Ok (zip (rows_named names (r ∷ rs)) ls))
      by (Ok v) rest lists h = by_list (unwound v) rest lists h
      by (Err f) rest lists h = refl

counted : {X : Type 0} (rows : List X) (ls : List (List Datum)) → length ls ≡ length rows → map (λ (l : X × List Datum). length l.1) (zip rows ls) ≡ map length ls
counted [] [] h = refl
counted [] (l ∷ ls) h = absurd (omega arith)
counted (r ∷ rs) [] h = absurd (omega arith)
counted (r ∷ rs) (l ∷ ls) h = ap (λ ns. length l ∷ ns) (counted rs ls (omega arith))

same_length : (names : List (List ℕ)) (rows : List (List Datum)) → length (rows_named names rows) ≡ length rows
same_length names [] = refl
same_length names (r ∷ rs) = ap suc (same_length names rs)

-- ---- each row with its items

map_joined : {X Y : Type 0} (f : X → Y) (xs ys : List X) → map f (xs ++ ys) ≡ map f xs ++ map f ys
map_joined f [] ys = refl
map_joined f (x ∷ xs) ys = ap (λ zs. f x ∷ zs) (map_joined f xs ys)

chosen : (b : Bool) (i : ℕ) (o : Option ℕ) (c : Bool) → is_some o ≡ c → is_some (cond b (Some i) o) ≡ b || c
chosen true i o c h = refl
chosen false i o c h = h

any_from : {X : Type 0} (t : X → Bool) (i : ℕ) (xs : List X) → is_some (position_from t i xs) ≡ list_any t xs
any_from t i [] = refl
any_from t i (x ∷ xs) = chosen (t x) i (position_from t (i + 1) xs) (list_any t xs) (any_from t (i + 1) xs)

module _ (name : List ℕ) (names : List (List ℕ)) where
  bound_by : (o : Option ℕ) → position (bytes_eq name) names ≡ o → (r : List Datum) (v : Datum) → length r ≡ length names → bind_new name v (row_of names r) ≡ row_of (with_name name names) (with_item (is_none o) r v)
  bound_by None h r v l = sym (new_columns name names r v l (ap is_some h))
  bound_by (Some i) h r v l = sym (old_columns name names r v l (ap is_some h))

  bound_each : (r : List Datum) (l : List Datum) → length r ≡ length names → map (λ v. bind_new name v (row_of names r)) l ≡ map (row_of (with_name name names)) (with_items (is_none (position (bytes_eq name) names)) r l)
  bound_each r [] h = refl
  bound_each r (v ∷ vs) h = λ i. bound_by (position (bytes_eq name) names) refl r v h i ∷ bound_each r vs h i

  bound_rows : (rows ls : List (List Datum)) → AllByRecursion (λ r. length r ≡ length names) rows
      → flat_map (λ (l : Row × List Datum). map (λ v. bind_new name v l.0) l.1) (zip (rows_named names rows) ls) ≡ rows_named (with_name name names) (rows_unwound (is_none (position (bytes_eq name) names)) rows ls)
  bound_rows [] [] w = refl
  bound_rows [] (l ∷ ls) w = refl
  bound_rows (r ∷ rs) [] w = refl
  bound_rows (r ∷ rs) (l ∷ ls) w =
      (λ i. bound_each r l w.0 i ++ bound_rows rs ls w.1 i)
      ∙ sym (map_joined (row_of (with_name name names)) (with_items (is_none (position (bytes_eq name) names)) r l) (rows_unwound (is_none (position (bytes_eq name) names)) rs ls))

  among : is_some (position (bytes_eq name) names) ≡ list_any (bytes_eq name) names
  among = ap is_some (position_from-zero (bytes_eq name) names) ∙ any_from (bytes_eq name) 0 names

  pub one_name : with_name name names ≡ add_name names name
  one_name = ap (λ b. cond b names (names ++ name ∷ [])) among

-- ---- the clause

module _ (s : Setting) (graph : Graph) (e : Expression) (name : Name) (names : List (List ℕ)) (rows : List (List Datum)) (used : ℕ) (parameters : Entries) (same : s.parameters ≡ parameters) where
  abbrev before : State
  before = record { graph = graph; rows = rows_named names rows; steps = used }

  listed : (a : Result (List (List Datum)) Fault) → lists_given parameters graph e names rows ≡ a → each_answer (unwound_at s graph e) (rows_named names rows) ≡ (a >>= λ ls. Ok (zip (rows_named names rows) ls))
  listed a h = pairs s graph e names rows ∙ ap (λ b. b >>= λ ls. Ok (zip (rows_named names rows) ls)) (ap (λ p. lists_given p graph e names rows) same ∙ h)

  abbrev charged : List (Row × List Datum) → Result State Fault
  charged ls = spend s used (sum (map (λ l. length l.1) ls)) >>= λ steps. Ok (record { graph = graph; rows = flat_map (λ l. map (λ v. bind_new name.text v l.0) l.1) ls; steps = steps })

  abbrev ends : List (List Datum) → ℕ → State
  ends ls steps = record { graph = graph; rows = rows_named (with_name name.text names) (rows_unwound (is_none (position (bytes_eq name.text) names)) rows ls); steps = steps }

  pub no_list : (f : Fault) → lists_given parameters graph e names rows ≡ Err f → unwind_clause s e name before ≡ Err f
  no_list f h = ap (λ a. a >>= charged) (listed (Err f) h)

  spent : (ls : List (List Datum)) (a : Result ℕ Fault) → lists_given parameters graph e names rows ≡ Ok ls → length ls ≡ length rows → spend s used (sum (map length ls)) ≡ a
      → unwind_clause s e name before ≡ (a >>= λ steps. Ok (record { graph = graph; rows = flat_map (λ l. map (λ v. bind_new name.text v l.0) l.1) (zip (rows_named names rows) ls); steps = steps }))
  spent ls a h l p =
      ap (λ b. b >>= charged) (listed (Ok ls) h)
      ∙ ap (λ b. b >>= λ steps. Ok (record { graph = graph; rows = flat_map (λ l. map (λ v. bind_new name.text v l.0) l.1) (zip (rows_named names rows) ls); steps = steps }))
      (ap (λ ns. spend s used (sum ns)) (counted (rows_named names rows) ls (l ∙ sym (same_length names rows))) ∙ p)

  pub no_steps : (ls : List (List Datum)) (f : Fault) → lists_given parameters graph e names rows ≡ Ok ls → length ls ≡ length rows → spend s used (sum (map length ls)) ≡ Err f → unwind_clause s e name before ≡ Err f
  no_steps ls f h l p = spent ls (Err f) h l p

  pub unwinds : (ls : List (List Datum)) (steps : ℕ) → lists_given parameters graph e names rows ≡ Ok ls → length ls ≡ length rows → spend s used (sum (map length ls)) ≡ Ok steps
      → AllByRecursion (λ r. length r ≡ length names) rows → unwind_clause s e name before ≡ Ok (ends ls steps)
  unwinds ls steps h l p w = spent ls (Ok steps) h l p ∙ ap (λ rs. Ok (record { graph = graph; rows = rs; steps = steps })) (bound_rows name.text names rows ls w)

pub items_more : (rows : List (List Datum)) (has_column : Bool) (row items : List Datum) (last : Datum)
    → (rows ++ with_items has_column row items) ++ with_item has_column row last ∷ [] ≡ rows ++ with_items has_column row (items ++ last ∷ [])
items_more [] has_column row items last = sym (map_joined (with_item has_column row) items (last ∷ []))
items_more (r ∷ rs) has_column row items last = ap (λ us. r ∷ us) (items_more rs has_column row items last)

pub lists_more : (lists : List (Vec Code)) (l : Vec Code) (more : List (Vec Code)) → more ≡ lists ++ l ∷ [] → lists_view lists ++ map view l.items ∷ [] ≡ lists_view more
lists_more lists l more h = sym (ap lists_view h ∙ map_joined (λ (v : Vec Code). map view v.items) lists (l ∷ []))

-- ---- as the program gives it

module _ (s : Setting) (graph : Graph) (e : Expression) (name : Name) (t : Named) (used : ℕ) (parameters : Entries) (max_steps : ℕ) (suits : Suits s parameters max_steps t.names) where
  pub lists_fail : (f : Fault) → lists_given parameters graph e t.names t.rows ≡ Err f → unwind_clause s e name (state_of graph t used) ≡ Err f
  lists_fail f h = no_list s graph e name t.names t.rows used parameters suits.parameters_are f h

  pub steps_fail : (ls : List (List Datum)) (n : ℕ) (f : Fault) → lists_given parameters graph e t.names t.rows ≡ Ok ls → length ls ≡ length t.rows → n ≡ sum (map length ls) → spend s used n ≡ Err f
      → unwind_clause s e name (state_of graph t used) ≡ Err f
  steps_fail ls n f h l is p = no_steps s graph e name t.names t.rows used parameters suits.parameters_are ls f h l (ap (spend s used) (sym is) ∙ p)

  pub all_unwound : (ls : List (List Datum)) (n steps : ℕ) (after : Named) → lists_given parameters graph e t.names t.rows ≡ Ok ls → length ls ≡ length t.rows → n ≡ sum (map length ls) → spend s used n ≡ Ok steps
      → AllByRecursion (λ r. length r ≡ length t.names) t.rows → after.names ≡ with_name name.text t.names → after.rows ≡ rows_unwound (is_none (position (bytes_eq name.text) t.names)) t.rows ls
      → unwind_clause s e name (state_of graph t used) ≡ Ok (state_of graph after steps)
  all_unwound ls n steps after h l is p w ns rs =
      unwinds s graph e name t.names t.rows used parameters suits.parameters_are ls steps h l (ap (spend s used) (sym is) ∙ p) w
      ∙ sym (λ i. Ok (record {
        graph = graph;
        rows = rows_named (ns i) (rs i);
        steps = steps;
      }))
