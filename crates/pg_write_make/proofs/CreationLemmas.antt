-- CREATE of all rows, from its cost and what is made at the rows.
use Rattle.std.proofs.Common.{◌≡◌, ◌≤◌, ◌*◌, ℕ, zero, suc, false, List, [], ◌∷◌, ◌++◌, map, length, take, drop, Result, Ok, Err, refl, ap, ◌∙◌, append_assoc, arith}
use Rattle.std.proofs.lemmas.List.{length-map, length-take}
use Rattle.pg_meaning.specs.Answer.{◌>>=◌, ◌>>◌, each_step}
use Rattle.pg_meaning.specs.Graph.{Graph}
use Rattle.pg_meaning.specs.Meters.{Setting, State, spend}
use Rattle.pg_meaning.specs.Patterns.{Assignment, bind_match, nodes_of, relationship_properties}
use Rattle.pg_meaning.specs.Reading.{test_paths}
use Rattle.pg_meaning.specs.Rows.{Row}
use Rattle.pg_meaning.specs.Tree.{Properties, PathPattern}
use Rattle.pg_meaning.specs.Updates.{count_new, create_clause, create_row, given_properties, make}
use Rattle.pg_meaning.specs.Value.{Value, Entries}
use Rattle.pg_meaning.specs.declared.fault.Fault.{Fault}
use Rattle.pg_rows.specs.Named.{row_of, rows_named}
use Rattle.pg_rows.specs.States.{Named, named_rows, state_of}
use Rattle.pg_rows.specs.Tables.{rows_of}
use Rattle.pg_write_make.specs.Creations.{row_created, row_made, rows_created}
use Rattle.pg_write_make.proofs.MakingLemmas.{paths_are}
use Rattle.pg_write_make.specs.Outcomes.{path_outcomes, paths_made, relationships_of, node_outcome, relationship_outcome}
use Rattle.pg_write_make.specs.Scenes.{reading}

map_same : {X Y : Type 0} (f h : X → Y) → ((x : X) → f x ≡ h x) → (xs : List X) → map f xs ≡ map h xs
map_same f h e [] = refl
map_same f h e (x ∷ xs) = λ i. e x i ∷ map_same f h e xs i

nothing_behind : {X : Type 0} (xs : List X) → xs ≡ xs ++ []
nothing_behind [] = refl
nothing_behind (x ∷ xs) = ap (λ ys. x ∷ ys) (nothing_behind xs)

-- ---- the parameters and the quota of elements alone are read

module _ (s : Setting) (parameters : Entries) (is : s.parameters ≡ parameters) (graph : Graph) (row : Row) where
  given_same : (ps : Properties) → given_properties s.parameters graph row ps ≡ given_properties parameters graph row ps
  given_same ps = ap (λ (p : Entries). given_properties p graph row ps) is

  outcomes_same : (p : PathPattern) → path_outcomes s graph row p ≡ path_outcomes (reading parameters) graph row p
  outcomes_same p = λ i. (
    map_same (node_outcome s graph row) (node_outcome (reading parameters) graph row) (λ n. given_same n.properties) (nodes_of p) i,
    map_same (relationship_outcome s graph row) (relationship_outcome (reading parameters) graph row) (λ r. given_same (relationship_properties r)) (relationships_of p) i,
  )

module _ (s : Setting) (parameters : Entries) (max_elements : ℕ) (is : s.parameters ≡ parameters) (most : s.quota.max_elements ≡ max_elements) (ps : List PathPattern) where
  abbrev next_state : State → Graph × Row → Result State Fault
  next_state state made = Ok (record { graph = made.0; rows = state.rows ++ made.1 ∷ []; steps = state.steps })

  -- what a row makes, of the parameters and the quota alone
  pub row_makes : (graph : Graph) (row : Row) → make s ps graph row ≡ row_made parameters max_elements ps graph row
  row_makes graph row =
      let finish : Result (Graph × Assignment) Fault → Result (Graph × Row) Fault = λ k. k >>= λ made. Ok (made.0, bind_match made.0 ps made.1 row) in
      ap finish (paths_are s graph row ps (graph, row))
      ∙ ap (λ os. finish (paths_made s.quota.max_elements os ps (graph, row))) (map_same (path_outcomes s graph row) (path_outcomes (reading parameters) graph row) (outcomes_same s parameters is graph row) ps)
      ∙ ap (λ m. finish (paths_made m (map (path_outcomes (reading parameters) graph row) ps) ps (graph, row))) most

  behind_test : (t : Result (Unit {0}) Fault) (k : Result (Graph × Row) Fault) (state : State) → (t >> (k >>= next_state state)) ≡ ((t >> k) >>= next_state state)
  behind_test (Ok u) k state = refl
  behind_test (Err e) k state = refl

  row_is : (state : State) (row : Row) → create_row s ps state row ≡ (row_created parameters max_elements ps state.graph row >>= next_state state)
  row_is state row =
      ap (λ k. test_paths false state.graph row ps >> (k >>= next_state state)) (row_makes state.graph row)
      ∙ behind_test (test_paths false state.graph row ps) (row_made parameters max_elements ps state.graph row) state

  abbrev all_rows : State → Result (Graph × List Row) Fault → Result State Fault
  all_rows state r = r >>= λ made. Ok (record { graph = made.0; rows = state.rows ++ made.1; steps = state.steps })

  rows_are : (state : State) (rows : List Row) → each_step (create_row s ps) state rows ≡ all_rows state (rows_created parameters max_elements ps state.graph rows)
  rows_are state [] = ap (λ (rs : List Row). Ok (record { graph = state.graph; rows = rs; steps = state.steps })) (nothing_behind state.rows)
  rows_are state (row ∷ rows) =
      ap (λ r. r >>= λ t. each_step (create_row s ps) t rows) (row_is state row)
      ∙ by_row (λ (t : State). rows_are t rows) (row_created parameters max_elements ps state.graph row)
    where
      by_others : (made : Graph × Row) (o : Result (Graph × List Row) Fault)
          → (o >>= λ (m : Graph × List Row). Ok (record { graph = m.0; rows = (state.rows ++ made.1 ∷ []) ++ m.1; steps = state.steps })) ≡ all_rows state (o >>= λ (m : Graph × List Row). Ok (m.0, made.1 ∷ m.1))
      by_others made (Ok m) = ap (λ (rs : List Row). Ok (record { graph = m.0; rows = rs; steps = state.steps })) (append_assoc state.rows (made.1 ∷ []) m.1)
      by_others made (Err e) = refl

      by_row : ((t : State) → each_step (create_row s ps) t rows ≡ all_rows t (rows_created parameters max_elements ps t.graph rows)) → (r : Result (Graph × Row) Fault) → ((r >>= next_state state) >>= λ t. each_step (create_row s ps) t rows)
          ≡ all_rows state (r >>= λ (made : Graph × Row). rows_created parameters max_elements ps made.0 rows >>= λ (others : Graph × List Row). Ok (others.0, made.1 ∷ others.1))
      by_row rest (Ok made) =
          rest (record { graph = made.0; rows = state.rows ++ made.1 ∷ []; steps = state.steps })
          ∙ by_others made (rows_created parameters max_elements ps made.0 rows)
      by_row rest (Err e) = refl

  module _ (graph : Graph) (t : Named) (used : ℕ) (scope : s.scope ≡ t.names) where
    abbrev from_steps : Result ℕ Fault → Result State Fault
    from_steps r = r >>= λ steps. let none : State = record { graph = graph; rows = []; steps = steps } in each_step (create_row s ps) none (named_rows t)

    charged : create_clause s ps (state_of graph t used) ≡ from_steps (spend s used (length t.rows * count_new t.names ps))
    charged = λ i. from_steps (spend s used (length-map t.rows (row_of t.names) i * count_new (scope i) ps))

    after_cost : (steps : ℕ) → spend s used (length t.rows * count_new t.names ps) ≡ Ok steps
        → create_clause s ps (state_of graph t used) ≡ (rows_created parameters max_elements ps graph (named_rows t) >>= λ made. Ok (record { graph = made.0; rows = made.1; steps = steps }))
    after_cost steps cost = charged ∙ ap from_steps cost ∙ rows_are (record { graph = graph; rows = []; steps = steps }) (named_rows t)

    pub create_done : (after : Graph) (rows : List Row) (steps : ℕ) → spend s used (length t.rows * count_new t.names ps) ≡ Ok steps → rows_created parameters max_elements ps graph (named_rows t) ≡ Ok (after, rows)
        → create_clause s ps (state_of graph t used) ≡ Ok (record { graph = after; rows = rows; steps = steps })
    create_done after rows steps cost is = after_cost steps cost ∙ ap (λ r. r >>= λ (made : Graph × List Row). Ok (record { graph = made.0; rows = made.1; steps = steps })) is

    pub create_fault : (e : Fault) (steps : ℕ) → spend s used (length t.rows * count_new t.names ps) ≡ Ok steps → rows_created parameters max_elements ps graph (named_rows t) ≡ Err e
        → create_clause s ps (state_of graph t used) ≡ Err e
    create_fault e steps cost is = after_cost steps cost ∙ ap (λ r. r >>= λ (made : Graph × List Row). Ok (record { graph = made.0; rows = made.1; steps = steps })) is

    pub create_refused : (e : Fault) → spend s used (length t.rows * count_new t.names ps) ≡ Err e → create_clause s ps (state_of graph t used) ≡ Err e
    create_refused e cost = charged ∙ ap from_steps cost

-- ---- rows under more names

pub row_cut : (names more : List (List ℕ)) (vs : List Value) → length vs ≤ length names → row_of (names ++ more) vs ≡ row_of names vs
row_cut [] [] [] h = refl
row_cut [] (m ∷ more) [] h = refl
row_cut [] more (v ∷ vs) h = absurd (omega (arith, h))
row_cut (n ∷ names) more [] h = refl
row_cut (n ∷ names) more (v ∷ vs) h = ap (λ (r : Row). (n, v) ∷ r) (row_cut names more vs (omega (arith, h)))

-- rows are as wide as the names that they had
pub rows_cut : (names more : List (List ℕ)) (w n : ℕ) (vs : List Value) → w ≤ length names → rows_named (names ++ more) (rows_of w n vs) ≡ rows_named names (rows_of w n vs)
rows_cut names more w zero vs h = refl
rows_cut names more w (suc n) vs h = λ i. row_cut names more (take w vs) (omega (arith, h, length-take w vs)) i ∷ rows_cut names more w n (drop w vs) h i
