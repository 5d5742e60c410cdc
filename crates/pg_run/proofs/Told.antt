-- The rows of a table spelt out one after the other.
use Rattle.std.proofs.Common.{◌≡◌, ℕ, zero, suc, ◌*◌, List, [], ◌∷◌, ◌++◌, map, length, take, drop, Result, Ok, Err, refl, sym, ap, ◌∙◌, arith}
use Rattle.std.proofs.lemmas.List.{length-map, length-drop, length-take-le}
use Rattle.pg_meaning.specs.Answer.{◌>>=◌, ◌>>◌, each_step}
use Rattle.pg_meaning.specs.Graph.{Graph}
use Rattle.pg_meaning.specs.Queries.{test_output, test_items}
use Rattle.pg_meaning.specs.Rows.{values_in}
use Rattle.pg_meaning.specs.Value.{Value, values_of}
use Rattle.pg_meaning.specs.declared.fault.Fault.{Fault}
use Rattle.pg_rows.proofs.NamedRows.{values_are}
use Rattle.pg_rows.proofs.Tabled.{more_rows}
use Rattle.pg_rows.specs.Named.{rows_named}
use Rattle.pg_rows.specs.States.{seen}
use Rattle.pg_rows.specs.Tables.{rows_of}
use Rattle.pg_rows.specs.declared.named.BindingTable.{BindingTable}
use Rattle.pg_run.specs.Told.{rows_told}
use Rattle.pg_value_core.specs.View.{view}

values_again : (names : List (List ℕ)) (n : ℕ) (vs : List Value) → length vs ≡ n * length names → map values_in (rows_named names (rows_of (length names) n vs)) ≡ rows_of (length names) n vs
values_again names zero vs h = refl
values_again names (suc n) vs h =
    let first = values_are names (take (length names) vs) (length-take-le (length names) vs (omega (arith, more_rows n (length names)))) in
    let later = values_again names n (drop (length names) vs) (length-drop (length names) vs ∙ omega (arith, more_rows n (length names))) in
    λ i. first i ∷ later i

pub told_is_table : (t : BindingTable) → rows_told (seen t) ≡ (seen t).rows
told_is_table t =
    (λ i. map values_in (rows_named t.names (rows_of (t.fits i) t.rows.count (map view t.rows.values.items))))
    ∙ values_again t.names t.rows.count (map view t.rows.values.items) (length-map t.rows.values.items view ∙ t.rows.sized ∙ ap (λ w. t.rows.count * w) t.fits)
    ∙ sym (λ i. rows_of (t.fits i) t.rows.count (map view t.rows.values.items))

module _ (graph : Graph) where
  pub tests_joined : (vs ws : List Value) → each_step (λ done v. test_output graph v) tt (vs ++ ws) ≡ (test_items graph (values_of vs) >> each_step (λ done v. test_output graph v) tt ws)
  tests_joined [] ws = refl
  tests_joined (v ∷ vs) ws = by (test_output graph v) (tests_joined vs ws)
    where
      by : (r : Result (Unit {0}) Fault) → each_step (λ done v. test_output graph v) tt (vs ++ ws) ≡ (test_items graph (values_of vs) >> each_step (λ done v. test_output graph v) tt ws)
          → (r >>= λ done. each_step (λ done v. test_output graph v) done (vs ++ ws)) ≡ ((r >> test_items graph (values_of vs)) >> each_step (λ done v. test_output graph v) tt ws)
      by (Ok tt) h = h
      by (Err f) h = refl
