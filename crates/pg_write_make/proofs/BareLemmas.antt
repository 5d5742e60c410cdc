-- Rows that have a value for each name: they get none, and stay as they are.
use Rattle.std.proofs.Common.{◌≡◌, ◌≢◌, ◌*◌, ◌+◌, ◌≤◌, ℕ, zero, suc, List, [], ◌∷◌, ◌++◌, map, length, take, drop, Some, Result, Ok, Err, refl, sym, ap, ◌∙◌, add-one, arith}
use Rattle.std.proofs.lemmas.List.{length-drop, length-map, length-take-le}
use Rattle.std.specs.Prelude.{OnOk, IfErr, slice_get}
use Rattle.pg_meaning.specs.Answer.{◌>>=◌}
use Rattle.pg_meaning.specs.Graph.{Graph}
use Rattle.pg_meaning.specs.Meters.{Setting}
use Rattle.pg_meaning.specs.Patterns.{Assignment, Trail, add_path_names, bind_match}
use Rattle.pg_meaning.specs.Rows.{Row}
use Rattle.pg_meaning.specs.Tree.{PathPattern}
use Rattle.pg_meaning.specs.Value.{Value as Datum, Entries}
use Rattle.pg_meaning.specs.declared.fault.Fault.{Fault}
use Rattle.pg_meaning.specs.declared.fault.Fault.TheVariants.{OutOfMemory}
use Rattle.pg_rows.proofs.Tabled.{all_taken, more_rows}
use Rattle.pg_rows.specs.Named.{row_of, rows_named}
use Rattle.pg_rows.specs.Tables.{rows_of, table}
use Rattle.pg_rows.specs.declared.table.Rows.{Rows}
use Rattle.pg_value_core.specs.View.{view}
use Rattle.pg_value_core.specs.declared.value.Value.{Value}
use Rattle.pg_write_make.proofs.BindingLemmas.{match_bound}
use Rattle.pg_write_make.proofs.CreatedRowLemmas.{behind_none, rows_over}
use Rattle.pg_write_make.proofs.NameLemmas.{none_new}
use Rattle.pg_write_make.proofs.RowLemmas.{drop_at, none_left}
use Rattle.pg_write_make.proofs.ShapeLemmas.{ready_row}
use Rattle.pg_write_make.proofs.StepLemmas.{behind, row_done, row_failed}
use Rattle.pg_write_make.proofs.TrailLemmas.{bind_named}
use Rattle.pg_write_make.specs.Bindings.{match_bindings, named}
use Rattle.pg_write_make.specs.Creations.{path_left, row_created, row_made, rows_created}
use Rattle.pg_write_make.specs.Outcomes.{Outcomes, path_made, path_outcomes, paths_made}
use Rattle.pg_write_make.specs.Scenes.{reading}

-- ---- one row

module _ (max : ℕ) (names : List (List ℕ)) (values : List Value) (ps : List PathPattern) (wide : length values ≡ length names) (all : add_path_names ps (take (length values) names) ≡ names) where
  abbrev row : Row
  row = row_of names (map view values)

  pub bound_alike : (s : Setting) (read graph after : Graph) (os : List Outcomes) (ts : Assignment) → read ≡ graph → os ≡ map (path_outcomes s read row) ps → paths_made max os ps (graph, row) ≡ Ok (after, ts) → bind_match after ps ts row ≡ row
  bound_alike s read graph after os ts same kept made =
      let few : length values ≤ length names = omega (arith, wide) in
      let bs = match_bindings after ps ts in
      match_bound after ps ts row
      ∙ sym (bind_named bs row)
      ∙ none_new names (map view values) (named bs) (ready_row max s read graph after after names values os ps ts few all same refl kept made) (length-map values view ∙ wide)

  -- a path by itself
  module _ (parameters : Entries) (graph : Graph) (p : PathPattern) (alone : ps ≡ p ∷ []) where
    abbrev made_of : Result (Graph × Row × Trail) Fault → Result (Graph × Assignment) Fault
    made_of r = r >>= λ (made : Graph × Row × Trail). Ok (made.0, made.2 ∷ [])

    abbrev graph_left : Result Graph Fault
    graph_left = path_left parameters max p graph row >>= λ (l : Graph × Trail). Ok l.0

    abbrev given : List Outcomes
    given = map (path_outcomes (reading parameters) graph row) ps

    paths_are : paths_made max given ps (graph, row) ≡ made_of (path_made max (path_outcomes (reading parameters) graph row p) p (graph, row))
    paths_are = ap (λ qs. paths_made max (map (path_outcomes (reading parameters) graph row) qs) qs (graph, row)) alone

    abbrev with_names : Result (Graph × Assignment) Fault → Result (Graph × Row) Fault
    with_names r = r >>= λ (made : Graph × Assignment). Ok (made.0, bind_match made.0 ps made.1 row)

    pub path_leaves : (after : Graph) → graph_left ≡ Ok after → row_made parameters max ps graph row ≡ Ok (after, row)
    path_leaves after left = by_path (path_made max (path_outcomes (reading parameters) graph row p) p (graph, row)) paths_are left
      where
        by_path : (r : Result (Graph × Row × Trail) Fault) → paths_made max given ps (graph, row) ≡ made_of r → ((r >>= λ (made : Graph × Row × Trail). Ok (made.0, made.2)) >>= λ (l : Graph × Trail). Ok l.0) ≡ Ok after → row_made parameters max ps graph row ≡ Ok (after, row)
        by_path (Ok made) is h =
            let same : made.0 ≡ after = cc in
            ap with_names is
            ∙ (λ i. Ok (same i, bound_alike (reading parameters) graph graph made.0 given (made.2 ∷ []) refl refl is i))
        by_path (Err e) is h = absurd cc

    pub path_fails : (e : Fault) → graph_left ≡ Err e → row_made parameters max ps graph row ≡ Err e
    path_fails e left = by_path (path_made max (path_outcomes (reading parameters) graph row p) p (graph, row)) paths_are left
      where
        by_path : (r : Result (Graph × Row × Trail) Fault) → paths_made max given ps (graph, row) ≡ made_of r → ((r >>= λ (made : Graph × Row × Trail). Ok (made.0, made.2)) >>= λ (l : Graph × Trail). Ok l.0) ≡ Err e → row_made parameters max ps graph row ≡ Err e
        by_path (Ok made) is h = absurd cc
        by_path (Err f) is h =
            let same : f ≡ e = cc in
            ap with_names is ∙ ap Err same

    pub alone_leaves : {X : Type 0} (r : Result X Fault) (after : Graph) → OnOk r (graph_left ≡ Ok after) → OnOk r (row_made parameters max ps graph row ≡ Ok (after, row))
    alone_leaves (Ok x) after left = path_leaves after left
    alone_leaves (Err e) after left = tt

    pub alone_fails : {X : Type 0} (r : Result X Fault) → IfErr r (λ e. e ≢ OutOfMemory → graph_left ≡ Err e) → IfErr r (λ e. e ≢ OutOfMemory → row_made parameters max ps graph row ≡ Err e)
    alone_fails (Ok x) left = tt
    alone_fails (Err e) left = λ other. path_fails e (left other)

-- ---- all rows

-- each row is as wide as the table
row_wide : {X : Type 0} (w n : ℕ) (vs : List X) → length vs ≡ n * w → (i : ℕ) (x : List X) → slice_get (rows_of w n vs) i ≡ Some x → length x ≡ w
row_wide w zero vs e i x h = absurd cc
row_wide w (suc n) vs e zero x h =
    let same : take w vs ≡ x = cc in
    ap length (sym same) ∙ length-take-le w vs (omega (arith, e, more_rows n w))
row_wide w (suc n) vs e (suc i) x h = row_wide w n (drop w vs) (length-drop w vs ∙ omega (arith, e, more_rows n w)) i x h

pub values_wide : (r : Rows) (i : ℕ) (values : List Value) → slice_get (table r) i ≡ Some (map view values) → length values ≡ r.width
values_wide r i values h = sym (length-map values view) ∙ row_wide r.width r.count (map view r.values.items) (length-map r.values.items view ∙ r.sized) i (map view values) h

take_next : {X : Type 0} (xs : List X) (i : ℕ) (x : X) → slice_get xs i ≡ Some x → take (suc i) xs ≡ take i xs ++ x ∷ []
take_next [] i x h = absurd cc
take_next (y ∷ ys) zero x h = ap (λ z. z ∷ []) (cc)
take_next (y ∷ ys) (suc i) x h = ap (λ zs. y ∷ zs) (take_next ys i x h)

module _ (parameters : Entries) (max : ℕ) (ps : List PathPattern) (names : List (List ℕ)) (rows : List (List Datum)) where
  abbrev so_far : ℕ → Graph → Result (Graph × List Row) Fault
  so_far i graph = behind (rows_named names (take i rows)) (rows_created parameters max ps graph (rows_named names (drop i rows)))

  pub bare_begun : (graph : Graph) → rows_created parameters max ps graph (rows_named names rows) ≡ so_far 0 graph
  bare_begun graph = behind_none (rows_created parameters max ps graph (rows_named names rows))

  module _ (i : ℕ) (graph : Graph) (whole : Result (Graph × List Row) Fault) (rest : whole ≡ so_far i graph) where
    pub bare_over : length rows ≤ i → whole ≡ Ok (graph, rows_named names rows)
    bare_over past =
        rows_over parameters max ps names graph (drop i rows) (take i rows) whole rest (none_left rows i past)
        ∙ ap (λ (rs : List (List Datum)). Ok (graph, rows_named names rs)) (sym (all_taken i rows past))

    module _ (row : List Datum) (at : slice_get rows i ≡ Some row) where
      pub bare_done : (after : Graph) → row_created parameters max ps graph (row_of names row) ≡ Ok (after, row_of names row) → whole ≡ so_far (i + 1) after
      bare_done after made =
          row_done parameters max ps names row (drop i rows) (drop (i + 1) rows) graph (take i rows) whole (drop_at rows i row at) rest after row (take (i + 1) rows) made
          (ap (λ k. take k rows) (add-one i) ∙ take_next rows i row at)

      pub bare_failed : (e : Fault) → row_created parameters max ps graph (row_of names row) ≡ Err e → whole ≡ Err e
      bare_failed e made = row_failed parameters max ps names row (drop i rows) (drop (i + 1) rows) graph (take i rows) whole (drop_at rows i row at) rest e made
