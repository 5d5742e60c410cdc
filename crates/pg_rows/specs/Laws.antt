-- What places of rows are in the definitions of a projection.
use Rattle.std.specs.Prelude.{◌≡◌, ℕ, Bool, List, [], ◌∷◌, map, length, slice_get, option_to_list, ◌++◌}
use Rattle.pg_meaning.specs.Projections.{Projected, sorted_keyed, firsts}
use Rattle.pg_meaning.specs.Rows.{values_in}
use Rattle.pg_meaning.specs.Tree.{SortItem}
use Rattle.pg_meaning.specs.Value.{Value}
use Rattle.pg_rows.specs.Sorts.{sorted_by, sorted_places, least_places, keyed_below, directions}
use Rattle.pg_rows.specs.Tables.{first_places, moved_rows, rows_at_places, EachBelow, AreApart}

abbrev pub AllLong : {X : Type 0} → ℕ → List (List Value × X) → Type 0
AllLong n [] = Unit {0}
AllLong n (k ∷ ks) = (length k.0 ≡ n) × AllLong n ks

-- where each row has a key for each sort, the definition's sort is by the order of keys
abbrev pub SortsByKeys : Type 0
SortsByKeys = (order : List SortItem) (ks : List (List Value × Projected)) → AllLong (length order) ks → sorted_keyed order ks ≡ sorted_by (keyed_below (directions order)) ks

-- the items at places
abbrev pub items_at : {X : Type 0} → List X → List ℕ → List X
items_at xs [] = []
items_at xs (p ∷ ps) = option_to_list (slice_get xs p) ++ items_at xs ps

-- DISTINCT keeps the rows at the first places
abbrev pub FirstsAreAtPlaces : Type 0
FirstsAreAtPlaces = (ps : List Projected) → firsts [] ps ≡ items_at ps (first_places [] 0 (map (λ p. values_in p.columns) ps))

-- rows that are moved from places apart are as they were
abbrev pub MovesKeepRows : Type 0
MovesKeepRows = (width : ℕ) (rows : List (List Value)) (ps : List ℕ) → EachBelow (length rows) ps → AreApart ps → moved_rows width rows ps ≡ rows_at_places rows ps

-- no place is told twice
abbrev pub FirstPlacesAreApart : Type 0
FirstPlacesAreApart = (rows : List (List Value)) → AreApart (first_places [] 0 rows)

abbrev pub SortedPlacesAreApart : Type 0
SortedPlacesAreApart = (descending : List Bool) (keys : List (List Value)) → AreApart (sorted_places descending keys)

abbrev pub LeastPlacesAreApart : Type 0
LeastPlacesAreApart = (most : ℕ) (descending : List Bool) (keys : List (List Value)) → AreApart (least_places most descending keys)
