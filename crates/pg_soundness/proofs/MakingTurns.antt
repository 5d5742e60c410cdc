-- CREATE row after row, and the tests at each element.
use Rattle.std.proofs.Common.{◌≡◌, ℕ, ◌+◌, ◌*◌, ◌<◌, ◌≤◌, nat_lt, Bool, true, false, inl, inr, List, [], ◌∷◌, ◌++◌, length, Result, Ok, Err, refl, sym, ap, subst, ◌∙◌, arith, append_assoc, append-nil, le_refl, ltb→lt, nltb→le, T, not, IsTrue, Less, Equal, Greater}
use Rattle.std.specs.FinMap.Entries as by_id
use Rattle.std.specs.Ordering.{nat_cmp}
use Rattle.pg_meaning.specs.Turns.{RowByRow, AtSomeTurn}
use Rattle.pg_meaning.specs.Agreement.{given_in, AreRowsOf, AnswerAgrees}
use Rattle.pg_meaning.specs.Answer.{◌>>=◌, ◌>>◌, unless, each_step}
use Rattle.pg_meaning.specs.AnswerLaws.{by_answer, went_well, same_ok}
use Rattle.pg_meaning.specs.Entries.{are_rising, set_keys}
use Rattle.pg_meaning.specs.EntriesLaws.{set_keys_keeps_rising}
use Rattle.pg_meaning.specs.Graph.{Graph, IsGraph}
use Rattle.pg_meaning.specs.ListsLaws.{all_joined}
use Rattle.pg_meaning.specs.Meaning.{CreateRow, CreateFaults}
use Rattle.pg_meaning.specs.Meters.{Setting, State, spend}
use Rattle.pg_meaning.specs.Patterns.{add_path_names}
use Rattle.pg_soundness.proofs.ProjectedParts.{spend_fault}
use Rattle.pg_meaning.specs.Rows.{Row}
use Rattle.pg_meaning.specs.Tree.{Properties, PathPattern, create}
use Rattle.pg_meaning.specs.Updates.{count_new, create_row, create_clause, given_pairs, given_properties, test_storable}
use Rattle.pg_meaning.specs.Value.{Value, Entries, no_entries}
use Rattle.pg_meaning.specs.declared.fault.Fault.{Fault}
use Rattle.pg_soundness.proofs.RowNames.{BindsOnly}

-- ---- row after row

-- what CREATE gives of one row
abbrev pub RowAgrees : Setting → List PathPattern → State → Row → Result State Fault → Type 0
RowAgrees s paths state row (Ok next) =
    (results : List Row) × (next.rows ≡ state.rows ++ results) × CreateRow (given_in s) paths state.graph row next.graph results × IsGraph next.graph × AreRowsOf (add_path_names paths s.scope) results
RowAgrees s paths state row (Err f) = CreateFaults (given_in s) paths state.graph row f

abbrev TurnsAgree : Setting → List PathPattern → State → List Row → Result State Fault → Type 0
TurnsAgree s paths state rows (Ok next) =
    (results : List Row) × (next.rows ≡ state.rows ++ results) × RowByRow (CreateRow (given_in s) paths) state.graph rows next.graph results × IsGraph next.graph × AreRowsOf (add_path_names paths s.scope) results
TurnsAgree s paths state rows (Err f) = AtSomeTurn (CreateRow (given_in s) paths) (CreateFaults (given_in s) paths) state.graph rows f

module _ (s : Setting) (paths : List PathPattern) (each : (state : State) (row : Row) → IsGraph state.graph → BindsOnly s.scope row → RowAgrees s paths state row (create_row s paths state row)) where
  one_turn : (rows : List Row) (state : State) (row : Row) (r : Result State Fault) → RowAgrees s paths state row r
      → ((next : State) → IsGraph next.graph → TurnsAgree s paths next rows (each_step (create_row s paths) next rows))
      → TurnsAgree s paths state (row ∷ rows) (r >>= λ next. each_step (create_row s paths) next rows)
  one_turn rows state row (Err f) fault rest = inl fault
  one_turn rows state row (Ok next) made rest = joined (each_step (create_row s paths) next rows) (rest next made.3)
    where
      joined : (r : Result State Fault) → TurnsAgree s paths next rows r → TurnsAgree s paths state (row ∷ rows) r
      joined (Ok last) h = (
        made.0 ++ h.0,
        h.1 ∙ ap (λ rs. rs ++ h.0) made.1 ∙ append_assoc state.rows made.0 h.0,
        (next.graph, made.0, h.0, made.2, h.2, refl),
        h.3,
        all_joined _ made.0 h.0 made.4 h.4,
      )
      joined (Err f) h = inr (next.graph, made.0, made.2, h)

  turns_agree : (rows : List Row) (state : State) → IsGraph state.graph → AreRowsOf s.scope rows → TurnsAgree s paths state rows (each_step (create_row s paths) state rows)
  turns_agree [] state g h = ([], sym (append-nil state.rows), (refl, refl), g, tt)
  turns_agree (row ∷ rows) state g h = one_turn rows state row (create_row s paths state row) (each state row g h.0) (λ next after. turns_agree rows next after h.1)

  -- a CREATE agrees that agrees at each row
  pub rows_make_create : (state : State) → IsGraph state.graph → AreRowsOf s.scope state.rows → AnswerAgrees s (create paths) state (create_clause s paths state)
  rows_make_create state g h =
      by_answer (AnswerAgrees s (create paths) state) (spend s state.steps (length state.rows * count_new s.scope paths)) (λ steps. each_step (create_row s paths) (record { graph = state.graph; rows = []; steps = steps }) state.rows)
      (λ steps e. of_turns steps (each_step (create_row s paths) (record { graph = state.graph; rows = []; steps = steps }) state.rows) (turns_agree state.rows (record { graph = state.graph; rows = []; steps = steps }) g h))
      (λ f e. inl (spend_fault s state.steps (length state.rows * count_new s.scope paths) f e))
    where
      of_turns : (steps : ℕ) (r : Result State Fault) → TurnsAgree s paths (record { graph = state.graph; rows = []; steps = steps }) state.rows r → AnswerAgrees s (create paths) state r
      of_turns steps (Ok next) t = (subst (RowByRow (CreateRow (given_in s) paths) state.graph state.rows next.graph) (sym t.1) t.2, t.3, subst (AreRowsOf (add_path_names paths s.scope)) (sym t.1) t.4)
      of_turns steps (Err f) t = inr t

-- ---- tests

pub by_unless : {Y : Type 0} (P : Result Y Fault → Type 0) (b : Bool) (f : Fault) (rest : Result Y Fault) → (b ≡ true → P rest) → (b ≡ false → P (Err f)) → P (unless b f >> rest)
by_unless P true f rest p q = p refl
by_unless P false f rest p q = q refl

pub below : (a b : ℕ) → nat_lt a b ≡ true → a < b
below a b e = ltb→lt a b (subst T (sym e) tt)

pub not_below : (a b : ℕ) → nat_lt a b ≡ false → b ≤ a
not_below a b e = nltb→le a b (subst (λ c. T (not c)) (sym e) tt)

pub given_rises : (s : Setting) (graph : Graph) (row : Row) (ps : Properties) (props : Entries) → given_properties s.parameters graph row ps ≡ Ok props → IsTrue (are_rising props)
given_rises s graph row ps props e =
    let pairs = went_well (given_pairs s.parameters graph row ps) (λ pairs. test_storable pairs >> Ok (set_keys pairs no_entries)) props e in
    subst (λ es. are_rising es ≡ true) (by_test (test_storable pairs.0) pairs.0 pairs.2) (set_keys_keeps_rising pairs.0 no_entries refl)
  where
    by_test : (t : Result (Unit {0}) Fault) (pairs : List (List ℕ × Value)) → (t >> Ok (set_keys pairs no_entries)) ≡ Ok props → set_keys pairs no_entries ≡ props
    by_test (Ok x) pairs h = same_ok (set_keys pairs no_entries) props h
    by_test (Err f) pairs h = cc

pub put_is_longer : {X : Type 0} (k : ℕ) (v : X) (es : List (ℕ × X)) → length (by_id.put nat_cmp k v es) ≤ length es + 1
put_is_longer k v [] = le_refl 1
put_is_longer k v (e ∷ es) =
    let rest = put_is_longer k v es in
    elim (nat_cmp k e.0) as (λ r. length (by_id.by_order r ((k, v) ∷ e ∷ es) ((e.0, v) ∷ es) (e ∷ by_id.put nat_cmp k v es)) ≤ length (e ∷ es) + 1) [
      | Less ↦ omega arith
      | Equal ↦ omega arith
      | Greater ↦ omega arith
    ]

pub next_below : (n : ℕ) → n < n + 1
next_below n = omega arith
