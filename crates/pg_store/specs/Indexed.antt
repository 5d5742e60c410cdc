-- The property indexes that a store has, by the texts of their labels and keys in a table of names.
use Rattle.std.specs.Prelude.{◌≡◌, ◌&&◌, ◌||◌, ℕ, Bool, false, not, List, bytes_eq, slice_get}
use Rattle.std.specs.List.{list_any}
use Rattle.std.specs.Option.{option_map_or}
use Rattle.pg_index.specs.Properties.{has_pair, pairs_of}
use Rattle.pg_store.specs.declared.store.Store.{Store}

-- whether a number's text is this one
abbrev pub has_text : (names : List (List ℕ)) → List ℕ → ℕ → Bool
has_text names text n = option_map_or (bytes_eq text) (slice_get names n) false

abbrev pub has_index : {T : Type 0} → Store T → (names : List (List ℕ)) → (label key : List ℕ) → Bool
has_index store names label key = list_any (λ p. has_text names label p.0 && has_text names key p.1) (pairs_of store.sets.indexes.items)

-- whether the numbers of a label and a key have these texts
abbrev pub is_named : (names : List (List ℕ)) → (label key : List ℕ) → ℕ × ℕ → Bool
is_named names label key p = has_text names label p.0 && has_text names key p.1

-- the indexes before and that of this label and key; the indexes before without it
abbrev pub IsOneMore : (names : List (List ℕ)) → (label key : List ℕ) → (old new : List (ℕ × ℕ)) → Type 0
IsOneMore names label key old new = (p : ℕ × ℕ) → has_pair p new ≡ (has_pair p old || is_named names label key p)

abbrev pub IsOneLess : (names : List (List ℕ)) → (label key : List ℕ) → (old new : List (ℕ × ℕ)) → Type 0
IsOneLess names label key old new = (p : ℕ × ℕ) → has_pair p new ≡ (has_pair p old && not (is_named names label key p))
