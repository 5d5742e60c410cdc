-- A row moved out of its place.
use Rattle.std.proofs.Common.{◌≡◌, ℕ, zero, suc, ◌+◌, ◌*◌, ◌<◌, ◌≤◌, List, [], ◌∷◌, ◌++◌, map, length, take, drop, replicate, slice_get, Some, refl, sym, ap, subst, ◌∙◌, arith}
use Rattle.std.proofs.Math.ListN.{set}
use Rattle.std.proofs.lemmas.List.{drop_all, length-drop, length-map}
use Rattle.pg_meaning.specs.Value.{Value as Datum, null}
use Rattle.pg_value_core.specs.View.{view}
use Rattle.pg_value_core.specs.declared.value.Value.{Value}
use Rattle.pg_value_core.specs.declared.value.Value.TheVariants.{Null}
use Rattle.pg_rows.proofs.Moved.{drop_at, rows_at, rows_set, length_nulls, seen_left, seen_moved}
use Rattle.pg_rows.proofs.Tabled.{drop_drop, length_rows}
use Rattle.pg_rows.specs.Left.{first_row, rows_left}
use Rattle.pg_rows.specs.Tables.{rows_of, table}
use Rattle.pg_rows.specs.declared.left.RowsLeft.{RowsLeft}
use Rattle.pg_rows.specs.declared.table.Rows.{Rows}

drop_set : {X : Type 0} (p : ℕ) (xs : List X) (z : X) → drop (p + 1) (set xs p z) ≡ drop (p + 1) xs
drop_set p [] z = refl
drop_set zero (x ∷ xs) z = refl
drop_set (suc p) (x ∷ xs) z =
    let e : suc p + 1 ≡ suc (p + 1) = omega arith in
    ap (λ k. drop k (x ∷ set xs p z)) e ∙ drop_set p xs z ∙ sym (ap (λ k. drop k (x ∷ xs)) e)

taken : (w n p : ℕ) (vs : List Datum) → p < n → length vs ≡ n * w
    → drop p (rows_of w n vs) ≡ take w (drop (p * w) vs) ∷ drop (p + 1) (rows_of w n (take (p * w) vs ++ (replicate w null ++ drop (p * w + w) vs)))
taken w n p vs h l =
    drop_at p (rows_of w n vs) [] (subst (λ k. p < k) (sym (length_rows w n vs)) h)
    ∙ ap (λ r. r ∷ drop (p + 1) (rows_of w n vs)) (rows_at w n p vs h)
    ∙ ap (λ rs. take w (drop (p * w) vs) ∷ rs) (sym (drop_set p (rows_of w n vs) (replicate w null)))
    ∙ ap (λ rs. take w (drop (p * w) vs) ∷ drop (p + 1) rs) (sym (rows_set w n p vs (replicate w null) h l (length_nulls w null)))

pub row_taken : (w n p : ℕ) (old vs row start : List Value) → p < n → length old ≡ n * w → row ≡ start ++ take w (drop (p * w) old) → vs ≡ take (p * w) old ++ (replicate w Null ++ drop (p * w + w) old) → start ≡ []
    → drop p (rows_of w n (map view old)) ≡ map view row ∷ drop (p + 1) (rows_of w n (map view vs))
row_taken w n p old vs row start h l r v none =
    taken w n p (map view old) h (length-map old view ∙ l)
    ∙ ap (λ us. us ∷ drop (p + 1) (rows_of w n (take (p * w) (map view old) ++ (replicate w null ++ drop (p * w + w) (map view old))))) (sym (ap (map view) (r ∙ ap (λ us. us ++ take w (drop (p * w) old)) none) ∙ seen_moved (p * w) w [] old))
    ∙ ap (λ us. map view row ∷ drop (p + 1) (rows_of w n us)) (sym (ap (map view) v ∙ seen_left (p * w) (p * w + w) w old))

pub none_left : (r : Rows) (at : ℕ) → r.count ≤ at → drop at (table r) ≡ []
none_left r at h = drop_all at (table r) (subst (λ n. n ≤ at) (sym (length_rows r.width r.count (map view r.values.items))) h)

pub skipped : (r : Rows) (at count : ℕ) → drop (at + count) (table r) ≡ drop count (drop at (table r))
skipped r at count = sym (drop_drop at count (table r))

pub all_skipped : (r : Rows) (at count : ℕ) → r.count ≤ at + count → drop r.count (table r) ≡ drop count (drop at (table r))
all_skipped r at count h = none_left r r.count (omega arith) ∙ sym (none_left r (at + count) h) ∙ skipped r at count

-- the next row and those behind it
next_here : {X : Type 0} (xs : List X) (i : ℕ) (x : X) → slice_get xs i ≡ Some x → drop i xs ≡ x ∷ drop 1 (drop i xs)
next_here [] i x h = cc
next_here (y ∷ ys) zero x h = let e : y ≡ x = cc in ap (λ z. z ∷ ys) e
next_here (y ∷ ys) (suc i) x h = next_here ys i x h

pub looked : (l : RowsLeft) (r : List Datum) → slice_get (table l.rows) l.at ≡ Some r → rows_left l ≡ r ∷ drop 1 (rows_left l)
looked l r h = next_here (table l.rows) l.at r h

pub more_left : (l : RowsLeft) → 0 < length (rows_left l) → l.at < l.rows.count
more_left l h =
    let n = length-drop l.at (table l.rows) in
    let k = length_rows l.rows.width l.rows.count (map view l.rows.values.items) in
    omega arith

-- a row moved behind values
row_at : (w n p : ℕ) (vs : List Datum) → p < n → first_row (drop p (rows_of w n vs)) ≡ take w (drop (p * w) vs)
row_at w n p vs h =
    ap first_row (drop_at p (rows_of w n vs) [] (subst (λ k. p < k) (sym (length_rows w n vs)) h)) ∙ rows_at w n p vs h

pub row_behind : (r : Rows) (p : ℕ) (row start : List Value) → p < r.count → row ≡ start ++ take r.width (drop (p * r.width) r.values.items)
    → map view row ≡ map view start ++ first_row (drop p (table r))
row_behind r p row start h e =
    ap (map view) e
    ∙ seen_moved (p * r.width) r.width start r.values.items
    ∙ ap (λ us. map view start ++ us) (sym (row_at r.width r.count p (map view r.values.items) h))

pub others_left : (r : Rows) (p : ℕ) (vs : List Value) → p < r.count → vs ≡ take (p * r.width) r.values.items ++ (replicate r.width Null ++ drop (p * r.width + r.width) r.values.items)
    → drop (p + 1) (rows_of r.width r.count (map view vs)) ≡ drop (p + 1) (table r)
others_left r p vs h e =
    ap (λ us. drop (p + 1) (rows_of r.width r.count us)) (ap (map view) e ∙ seen_left (p * r.width) (p * r.width + r.width) r.width r.values.items)
    ∙ ap (drop (p + 1)) (rows_set r.width r.count p (map view r.values.items) (replicate r.width null) h (length-map r.values.items view ∙ r.sized) (length_nulls r.width null))
    ∙ drop_set p (table r) (replicate r.width null)
