-- UNWIND: the items of each row's list in order, and the names that they bind.
use Rattle.std.proofs.Common.{◌≡◌, ℕ, inl, inr, List, [], ◌∷◌, map, flat_map, sum, length, Result, Ok, Err, refl, sym, ap, subst}
use Rattle.pg_meaning.specs.Turns.{RowAfterRow}
use Rattle.pg_meaning.specs.Agreement.{given_in, AreRowsOf, AnswerAgrees}
use Rattle.pg_meaning.specs.Answer.{◌>>=◌, each_answer}
use Rattle.pg_meaning.specs.AnswerLaws.{by_answer, went_well, same_ok, answers_fault}
use Rattle.pg_soundness.proofs.RowNames.{BindsOnly, binds_new}
use Rattle.pg_meaning.specs.Expressions.{evaluate}
use Rattle.pg_meaning.specs.Graph.{Graph}
use Rattle.pg_meaning.specs.ListsLaws.{all_joined}
use Rattle.pg_meaning.specs.Meaning.{UnwindRow, items_at}
use Rattle.pg_meaning.specs.Meters.{Setting, State, spend}
use Rattle.pg_meaning.specs.Names.{add_name}
use Rattle.pg_soundness.proofs.ProjectedParts.{spend_fault}
use Rattle.pg_meaning.specs.Reading.{unwound, unwound_at}
use Rattle.pg_meaning.specs.Rows.{Row, bind_new}
use Rattle.pg_meaning.specs.Tree.{Expression, Name, unwind}
use Rattle.pg_meaning.specs.Value.{Value}
use Rattle.pg_meaning.specs.declared.fault.Fault.{Fault}
use Rattle.pg_soundness.specs.Projecting.{UnwindAgrees}

abbrev Unwound : Type 0
Unwound = Row × List Value

items_same : (k l : Unwound) → k ≡ l → ◌≡◌ {A = Result (List Value) Fault} (Ok k.1) (Ok l.1)
items_same k l same = λ i. Ok (same i).1

abbrev extended : Name → Unwound → List Row
extended name l = map (λ v. bind_new name.text v l.0) l.1

module _ (s : Setting) (graph : Graph) (e : Expression) where
  -- a list stands beside its row
  abbrev beside : Row → List Value → Result Unwound Fault
  beside row vs = Ok (row, vs)

  list_at : (row : Row) (l : Unwound) → unwound_at s graph e row ≡ Ok l → (row ≡ l.0) × (items_at (given_in s) graph e row ≡ Ok l.1)
  list_at row l h = by_value (evaluate row s.parameters graph e) h
    where
      by_items : (a : Result (List Value) Fault) → (a >>= beside row) ≡ Ok l → (row ≡ l.0) × (a ≡ Ok l.1)
      by_items (Ok vs) h = let same = same_ok (row, vs) l h in (ap (λ (k : Unwound). k.0) same, items_same (row, vs) l same)
      by_items (Err f) h = cc

      by_value : (a : Result Value Fault) → (a >>= λ v. unwound v >>= beside row) ≡ Ok l → (row ≡ l.0) × ((a >>= unwound) ≡ Ok l.1)
      by_value (Ok v) h = by_items (unwound v) h
      by_value (Err f) h = cc

  fault_at : (row : Row) (f : Fault) → unwound_at s graph e row ≡ Err f → items_at (given_in s) graph e row ≡ Err f
  fault_at row f h = by_value (evaluate row s.parameters graph e) h
    where
      by_items : (a : Result (List Value) Fault) → (a >>= beside row) ≡ Err f → a ≡ Err f
      by_items (Ok vs) h = cc
      by_items (Err g) h = cc

      by_value : (a : Result Value Fault) → (a >>= λ v. unwound v >>= beside row) ≡ Err f → (a >>= unwound) ≡ Err f
      by_value (Ok v) h = by_items (unwound v) h
      by_value (Err g) h = cc

  lists_unwind : (name : Name) (rows : List Row) (lists : List Unwound) → each_answer (unwound_at s graph e) rows ≡ Ok lists → RowAfterRow (UnwindRow (given_in s) graph e name) rows (flat_map (extended name) lists)
  lists_unwind name [] lists h = ap (flat_map (extended name)) (sym (same_ok [] lists h))
  lists_unwind name (row ∷ rows) lists h =
      let first = went_well (unwound_at s graph e row) (λ l. each_answer (unwound_at s graph e) rows >>= λ ls. Ok (l ∷ ls)) lists h in
      let rest = went_well (each_answer (unwound_at s graph e) rows) (λ ls. Ok (first.0 ∷ ls)) lists first.2 in
      let here = list_at row first.0 first.1 in (
        extended name first.0,
        flat_map (extended name) rest.0,
        (first.0.1, here.1, ap (λ r. map (λ v. bind_new name.text v r) first.0.1) (sym here.0)),
        lists_unwind name rows rest.0 rest.1,
        ap (flat_map (extended name)) (sym (same_ok (first.0 ∷ rest.0) lists rest.2)),
      )

  row_binds : (name : Name) (row : Row) (vs : List Value) → BindsOnly s.scope row → AreRowsOf (add_name s.scope name.text) (map (λ v. bind_new name.text v row) vs)
  row_binds name row [] h = tt
  row_binds name row (v ∷ vs) h = (binds_new s.scope row name.text v h, row_binds name row vs h)

  lists_bind : (name : Name) (rows : List Row) (lists : List Unwound) → each_answer (unwound_at s graph e) rows ≡ Ok lists → AreRowsOf s.scope rows → AreRowsOf (add_name s.scope name.text) (flat_map (extended name) lists)
  lists_bind name [] lists h bound = subst (λ ls. AreRowsOf (add_name s.scope name.text) (flat_map (extended name) ls)) (same_ok [] lists h) tt
  lists_bind name (row ∷ rows) lists h bound =
      let first = went_well (unwound_at s graph e row) (λ l. each_answer (unwound_at s graph e) rows >>= λ ls. Ok (l ∷ ls)) lists h in
      let rest = went_well (each_answer (unwound_at s graph e) rows) (λ ls. Ok (first.0 ∷ ls)) lists first.2 in
      let here = list_at row first.0 first.1 in
      subst (λ ls. AreRowsOf (add_name s.scope name.text) (flat_map (extended name) ls)) (same_ok (first.0 ∷ rest.0) lists rest.2)
      (all_joined (BindsOnly (add_name s.scope name.text)) (extended name first.0) (flat_map (extended name) rest.0)
      (row_binds name first.0.0 first.0.1 (subst (BindsOnly s.scope) here.0 bound.0))
      (lists_bind name rows rest.0 rest.1 bound.1))

pub unwind_agrees : UnwindAgrees
unwind_agrees e name s state faults given_here planned g bound =
    by_answer (AnswerAgrees s (unwind e name) state) (each_answer (unwound_at s state.graph e) state.rows) (λ lists. spend s state.steps (sum (map (λ (l : Unwound). length l.1) lists)) >>= ended lists)
    (λ lists h. by_answer (AnswerAgrees s (unwind e name) state) (spend s state.steps (sum (map (λ (l : Unwound). length l.1) lists))) (ended lists)
    (λ steps paid. ((refl, lists_unwind s state.graph e name state.rows lists h), g, lists_bind s state.graph e name state.rows lists h bound))
    (λ f h. inl (spend_fault s state.steps _ f h)))
    (λ f h. let found = answers_fault (unwound_at s state.graph e) state.rows f h in inr (found.0, found.1, fault_at s state.graph e found.0 f found.2))
  where
    ended : List Unwound → ℕ → Result State Fault
    ended lists steps = Ok (record { graph = state.graph; rows = flat_map (extended name) lists; steps = steps })
