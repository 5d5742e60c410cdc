-- Rows moved to other places are the rows of these places.
use Rattle.std.proofs.Common.{◌≡◌, ℕ, suc, Bool, true, false, cond, List, [], ◌∷◌, length, take, refl, ap, ◌∙◌}
use Rattle.std.proofs.lemmas.List.{length-map}
use Rattle.std.specs.Prelude.{slice_index_or}
use Rattle.pg_meaning.specs.Value.{Value as Datum}
use Rattle.pg_rows.proofs.Apart.{moves_keep, firsts_apart}
use Rattle.pg_rows.proofs.Keyed.{length_numbered}
use Rattle.pg_rows.proofs.Leasts.{least_apart, map_take}
use Rattle.pg_rows.specs.Sorts.{insert_by, keyed_below, least_places, numbered, sorted_by, sorted_places}
use Rattle.pg_rows.specs.Tables.{first_places, moved_rows, rows_at_places, EachBelow}

pub firsts_moved : (width : ℕ) (rows : List (List Datum)) → EachBelow (length rows) (first_places [] 0 rows) → moved_rows width rows (first_places [] 0 rows) ≡ rows_at_places rows (first_places [] 0 rows)
firsts_moved width rows h = moves_keep width rows (first_places [] 0 rows) h (firsts_apart rows)

pub least_moved : (width most : ℕ) (rows keys : List (List Datum)) (ds : List Bool) → EachBelow (length rows) (least_places most ds keys) → moved_rows width rows (least_places most ds keys) ≡ take most (rows_at_places rows (sorted_places ds keys))
least_moved width most rows keys ds h = moves_keep width rows (least_places most ds keys) h (least_apart most ds keys) ∙ map_take (λ p. slice_index_or rows p []) most (sorted_places ds keys)

long_insert : {X : Type 0} (below : X → X → Bool) (x : X) (ys : List X) → length (insert_by below x ys) ≡ suc (length ys)
long_insert below x [] = refl
long_insert below x (y ∷ ys) = by (below y x) (long_insert below x ys)
  where
    by : (b : Bool) → length (insert_by below x ys) ≡ suc (length ys) → length (cond b (y ∷ insert_by below x ys) (x ∷ y ∷ ys)) ≡ suc (suc (length ys))
    by true more = ap suc more
    by false more = refl

long_sort : {X : Type 0} (below : X → X → Bool) (xs : List X) → length (sorted_by below xs) ≡ length xs
long_sort below [] = refl
long_sort below (x ∷ xs) = long_insert below x (sorted_by below xs) ∙ ap suc (long_sort below xs)

-- a sort keeps the number of rows
pub sorted_long : (rows keys : List (List Datum)) (ds : List Bool) → length (rows_at_places rows (sorted_places ds keys)) ≡ length keys
sorted_long rows keys ds =
    length-map (sorted_places ds keys) (λ p. slice_index_or rows p [])
    ∙ length-map (sorted_by (keyed_below ds) (numbered 0 keys)) (λ k. k.1)
    ∙ long_sort (keyed_below ds) (numbered 0 keys)
    ∙ length_numbered 0 keys
