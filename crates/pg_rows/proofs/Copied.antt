-- A row copied to the end of values.
use Rattle.std.proofs.Common.{◌≡◌, ℕ, zero, suc, ◌≤◌, List, [], ◌∷◌, ◌++◌, map, length, take, ap, ◌∙◌, arith}
use Rattle.std.proofs.lemmas.List.{length-map}
use Rattle.pg_value_core.specs.View.{view}
use Rattle.pg_value_core.specs.declared.value.Value.{Value}
use Rattle.pg_rows.proofs.Tabled.{rows_push}
use Rattle.pg_rows.specs.Tables.{rows_of, table}
use Rattle.pg_rows.specs.declared.table.Rows.{Rows}

-- a value more at the end leaves those before
pub still_before : (n : ℕ) (vs us : List Value) (v : Value) → n ≤ length us → take n us ≡ vs → take n (us ++ v ∷ []) ≡ vs
still_before zero vs us v h e = e
still_before (suc n) vs [] v h e = absurd (omega (arith, h))
still_before (suc n) [] (u ∷ us) v h e = cc
still_before (suc n) (w ∷ vs) (u ∷ us) v h e = let first : u ≡ w = cc in let rest : take n us ≡ vs = cc in (λ i. first i ∷ still_before n vs us v (omega arith) rest i)

pub row_copied : (r : Rows) (vs row : List Value) → length row ≡ r.width → map view vs ≡ map view r.values.items ++ map view row → rows_of r.width (suc r.count) (map view vs) ≡ table r ++ map view row ∷ []
row_copied r vs row h e =
    ap (rows_of r.width (suc r.count)) e
    ∙ rows_push r.width r.count (map view r.values.items) (map view row) (length-map r.values.items view ∙ r.sized) (length-map row view ∙ h)
