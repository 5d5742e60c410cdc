-- Each row of a table is as wide as any other.
use Rattle.std.proofs.Common.{◌≡◌, ℕ, zero, suc, ◌*◌, ◌≤◌, List, [], ◌∷◌, map, length, take, drop, refl, ap, ◌∙◌, arith}
use Rattle.std.proofs.lemmas.List.{length-map, length-drop}
use Rattle.std.specs.List.{AllByRecursion}
use Rattle.pg_rows.proofs.Tabled.{more_rows}
use Rattle.pg_rows.specs.Tables.{rows_of, table}
use Rattle.pg_rows.specs.declared.table.Rows.{Rows}
use Rattle.pg_value_core.specs.View.{view}

pub length_taken : {X : Type 0} (n : ℕ) (xs : List X) → n ≤ length xs → length (take n xs) ≡ n
length_taken zero xs h = refl
length_taken (suc n) [] h = absurd (omega (arith, h))
length_taken (suc n) (x ∷ xs) h = ap suc (length_taken n xs (omega arith))

wide_rows : {X : Type 0} (w n : ℕ) (vs : List X) → length vs ≡ n * w → AllByRecursion (λ r. length r ≡ w) (rows_of w n vs)
wide_rows w zero vs h = tt
wide_rows w (suc n) vs h = (
  length_taken w vs (omega (arith, more_rows n w)),
  wide_rows w n (drop w vs) (length-drop w vs ∙ omega (arith, more_rows n w)),
)

pub table_wide : (r : Rows) → AllByRecursion (λ row. length row ≡ r.width) (table r)
table_wide r = wide_rows r.width r.count (map view r.values.items) (length-map r.values.items view ∙ r.sized)
