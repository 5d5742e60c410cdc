-- Rows that stand one behind the other in a list of values.
use Rattle.std.specs.Prelude.{ℕ, zero, suc, ◌<◌, ◌≢◌, cond, List, [], ◌∷◌, ◌++◌, map, take, drop, slice_index_or, slice_set, replicate}
use Rattle.std.specs.List.{list_any}
use Rattle.pg_meaning.specs.Projections.{same_values}
use Rattle.pg_meaning.specs.Value.{Value as Datum, null}
use Rattle.pg_value_core.specs.View.{view}
use Rattle.pg_rows.specs.declared.table.Rows.{Rows}

abbrev pub rows_of : {X : Type 0} → (width count : ℕ) → List X → List (List X)
rows_of width zero vs = []
rows_of width (suc n) vs = take width vs ∷ rows_of width n (drop width vs)

-- what rows stand for
abbrev pub table : Rows → List (List Datum)
table r = rows_of r.width r.count (map view r.values.items)

-- the places of rows, of equivalent ones the first alone
abbrev pub first_places : (seen : List (List Datum)) → ℕ → List (List Datum) → List ℕ
first_places seen n [] = []
first_places seen n (r ∷ rs) = cond (list_any (same_values r) seen) (first_places seen (suc n) rs) (n ∷ first_places (seen ++ r ∷ []) (suc n) rs)

abbrev pub EachBelow : ℕ → List ℕ → Type 0
EachBelow n [] = Unit {0}
EachBelow n (p ∷ ps) = (p < n) × EachBelow n ps

-- the rows of places, one after the other; a place that comes again has nulls
abbrev pub moved_rows : (width : ℕ) → List (List Datum) → List ℕ → List (List Datum)
moved_rows width rows [] = []
moved_rows width rows (p ∷ ps) = slice_index_or rows p [] ∷ moved_rows width (slice_set rows p (replicate width null)) ps

-- the rows of places, each as it was
abbrev pub rows_at_places : List (List Datum) → List ℕ → List (List Datum)
rows_at_places rows ps = map (λ p. slice_index_or rows p []) ps

abbrev pub NoneIs : ℕ → List ℕ → Type 0
NoneIs p [] = Unit {0}
NoneIs p (q ∷ qs) = (p ≢ q) × NoneIs p qs

abbrev pub AreApart : List ℕ → Type 0
AreApart [] = Unit {0}
AreApart (p ∷ ps) = NoneIs p ps × AreApart ps
