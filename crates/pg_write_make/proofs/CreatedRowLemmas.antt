-- One row from its test and its paths, and what the loop over rows needs at its start, at a turn and at its end.
use Rattle.std.proofs.Common.{◌≡◌, ◌<◌, ℕ, false, List, [], ◌∷◌, map, length, append-nil, Result, Ok, Err, refl, sym, ap, ◌∙◌, arith}
use Rattle.pg_meaning.specs.Answer.{◌>>=◌, ◌>>◌}
use Rattle.pg_meaning.specs.Graph.{Graph}
use Rattle.pg_meaning.specs.Patterns.{Assignment, bind_match}
use Rattle.pg_meaning.specs.Reading.{test_paths}
use Rattle.pg_meaning.specs.Rows.{Row}
use Rattle.pg_meaning.specs.Tree.{PathPattern}
use Rattle.pg_meaning.specs.Value.{Value, Entries}
use Rattle.pg_meaning.specs.declared.fault.Fault.{Fault}
use Rattle.pg_rows.specs.Named.{rows_named}
use Rattle.pg_write_make.proofs.StepLemmas.{behind}
use Rattle.pg_write_make.specs.Creations.{row_created, row_made, rows_created}
use Rattle.pg_write_make.specs.Outcomes.{Outcomes, path_outcomes, paths_made}
use Rattle.pg_write_make.specs.Scenes.{reading}

-- ---- one row

pub tests_read : (read graph : Graph) (own row : Row) (ps : List PathPattern) (t : Result (Unit {0}) Fault) → read ≡ graph → own ≡ row → t ≡ test_paths false read own ps → test_paths false graph row ps ≡ t
tests_read read graph own row ps t same same' is = sym (is ∙ (λ i. test_paths false (same i) (same' i) ps))

module _ (parameters : Entries) (max : ℕ) (ps : List PathPattern) (graph : Graph) (row : Row) where
  pub row_refused : (e : Fault) → test_paths false graph row ps ≡ Err e → row_created parameters max ps graph row ≡ Err e
  row_refused e tested = ap (λ t. t >> row_made parameters max ps graph row) tested

  pub row_passed : test_paths false graph row ps ≡ Ok tt → row_made parameters max ps graph row ≡ row_created parameters max ps graph row
  row_passed tested = sym (ap (λ t. t >> row_made parameters max ps graph row) tested)

module _ (parameters : Entries) (max : ℕ) (ps : List PathPattern) (read graph : Graph) (own row : Row) (os : List Outcomes) (same : read ≡ graph) (same' : own ≡ row) (kept : os ≡ map (path_outcomes (reading parameters) read row) ps) where
  abbrev with_names : Result (Graph × Assignment) Fault → Result (Graph × Row) Fault
  with_names r = r >>= λ (made : Graph × Assignment). Ok (made.0, bind_match made.0 ps made.1 row)

  from_kept : row_made parameters max ps graph row ≡ with_names (paths_made max os ps (graph, own))
  from_kept =
      let kept_there = kept ∙ ap (λ (g : Graph). map (path_outcomes (reading parameters) g row) ps) same in
      sym (λ i. with_names (paths_made max (kept_there i) ps (graph, same' i)))

  pub paths_refused : (e : Fault) → paths_made max os ps (graph, own) ≡ Err e → row_made parameters max ps graph row ≡ Err e
  paths_refused e made = from_kept ∙ ap with_names made

  pub row_bound : (after found : Graph) (ts : Assignment) (bound : Row) → paths_made max os ps (graph, own) ≡ Ok (after, ts) → found ≡ after → bound ≡ bind_match found ps ts row → row_made parameters max ps graph row ≡ Ok (after, bound)
  row_bound after found ts bound made is given =
      from_kept
      ∙ ap with_names made
      ∙ ap (λ (g : Graph). Ok (after, bind_match g ps ts row)) (sym is)
      ∙ ap (λ (r : Row). Ok (after, r)) (sym given)

-- ---- all rows

pub behind_none : {X : Type 0} (r : Result (Graph × List X) Fault) → r ≡ behind [] r
behind_none (Ok made) = refl
behind_none (Err e) = refl

pub one_fewer : {X : Type 0} (xs ys : List X) (x : X) → xs ≡ x ∷ ys → length ys < length xs
one_fewer xs ys x e =
    let n = ap length e in
    omega (arith, n)

module _ (parameters : Entries) (max : ℕ) (ps : List PathPattern) (names : List (List ℕ)) (graph : Graph) (rows made : List (List Value)) where
  pub rows_begun : (all : List (List Value)) → rows ≡ all → made ≡ [] → rows_created parameters max ps graph (rows_named names all) ≡ behind (rows_named names made) (rows_created parameters max ps graph (rows_named names rows))
  rows_begun all same none =
      behind_none (rows_created parameters max ps graph (rows_named names all))
      ∙ ap (λ rs. behind (rows_named names rs) (rows_created parameters max ps graph (rows_named names all))) (sym none)
      ∙ ap (λ rs. behind (rows_named names made) (rows_created parameters max ps graph (rows_named names rs))) (sym same)

  -- no row is left
  pub rows_over : (whole : Result (Graph × List Row) Fault) → whole ≡ behind (rows_named names made) (rows_created parameters max ps graph (rows_named names rows)) → rows ≡ [] → whole ≡ Ok (graph, rows_named names made)
  rows_over whole rest none =
      rest
      ∙ ap (λ rs. behind (rows_named names made) (rows_created parameters max ps graph (rows_named names rs))) none
      ∙ ap (λ (rs : List Row). Ok (graph, rs)) (append-nil (rows_named names made))
