-- Rows sorted by the values in some of their columns.
use Rattle.std.specs.Borrow.{Bor}
use Rattle.std.specs.Prelude.{ℕ, suc, Bool, cond, List, [], ◌∷◌, map, take, slice_index_or}
use Rattle.std.specs.Ordering.{ordering_then, is_lt}
use Rattle.std.specs.declared.cmp.Ordering.{Ordering}
use Rattle.std.specs.declared.cmp.Ordering.TheVariants.{Equal}
use Rattle.pg_meaning.specs.Order.{value_order}
use Rattle.pg_meaning.specs.Projections.{directed, first_or_null, is_descending}
use Rattle.pg_meaning.specs.Tree.{SortItem}
use Rattle.pg_meaning.specs.Value.{Value, null}
use Rattle.pg_value_core.specs.View.{view}
use Rattle.pg_value_core.specs.declared.value.Value.{Value as Code}
use Rattle.pg_rows.specs.declared.sort_by.SortBy.{SortBy}

abbrev pub other_values : List Value → List Value
other_values [] = []
other_values (v ∷ vs) = vs

-- key by key, each in its direction; a key that is missing counts as null
abbrev pub key_order : (descending : List Bool) → List Value → List Value → Ordering
key_order [] vs ws = Equal
key_order (d ∷ ds) vs ws = ordering_then (directed d (value_order (first_or_null vs) (first_or_null ws))) (key_order ds (other_values vs) (other_values ws))

abbrev pub directions : List SortItem → List Bool
directions order = map (λ o. is_descending o.direction) order

-- the values of a row by which it is sorted; one that it lacks counts as null
abbrev pub picked : List SortBy → List Value → List Value
picked sorts row = map (λ s. slice_index_or row s.column null) sorts

abbrev pub directions_of : List SortBy → List Bool
directions_of sorts = map (λ s. s.descends) sorts

-- before the first that isn't below it
abbrev pub insert_by : {X : Type 0} → (below : X → X → Bool) → X → List X → List X
insert_by below x [] = x ∷ []
insert_by below x (y ∷ ys) = cond (below y x) (y ∷ insert_by below x ys) (x ∷ y ∷ ys)

abbrev pub sorted_by : {X : Type 0} → (below : X → X → Bool) → List X → List X
sorted_by below [] = []
sorted_by below (x ∷ xs) = insert_by below x (sorted_by below xs)

abbrev pub keyed_below : {X : Type 0} → (descending : List Bool) → List Value × X → List Value × X → Bool
keyed_below descending x y = is_lt (key_order descending x.0 y.0)

abbrev pub numbered : ℕ → List (List Value) → List (List Value × ℕ)
numbered n [] = []
numbered n (k ∷ ks) = (k, n) ∷ numbered (suc n) ks

-- the places of the keys, sorted by the keys
abbrev pub sorted_places : (descending : List Bool) → List (List Value) → List ℕ
sorted_places descending keys = map (λ k. k.1) (sorted_by (keyed_below descending) (numbered 0 keys))

-- the first of them, at most so many
abbrev pub least_places : (most : ℕ) → (descending : List Bool) → List (List Value) → List ℕ
least_places most descending keys = take most (sorted_places descending keys)

-- a row of the program and its place: its keys as data, and the place
abbrev pub entry_of : List SortBy → Bor (List Code) × ℕ → List Value × ℕ
entry_of sorts e = (picked sorts (map view e.0.now), e.1)

abbrev pub entries_view : List SortBy → List (Bor (List Code) × ℕ) → List (List Value × ℕ)
entries_view sorts es = map (entry_of sorts) es
