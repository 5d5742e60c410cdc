-- Ids that stand in a set where they do not belong: each is noted, and swept when nothing is left to undo.
use Rattle.std.specs.Prelude.{◌≡◌, ◌==◌, ◌&&◌, ◌||◌, ℕ, Bool, true, false, List, [], ◌∷◌, All}
use Rattle.std.specs.List.{list_any}
use Rattle.std.specs.Map.{values_of}
use Rattle.std.specs.Ordering.{nat_cmp}
use Rattle.pg_graph.specs.Removed.{has_id}
use Rattle.pg_index.specs.Index.{ids_at}
use Rattle.pg_index.specs.Kept.{NoneIsEmpty}
use Rattle.pg_index.specs.Properties.{has_pair, is_one_value, pairs_of, some_finds}
use Rattle.pg_store.specs.Covers.{Key, every, with_label, with_value, belongs, passes}
use Rattle.pg_store.specs.Journal.{State, live, undone}
use Rattle.pg_store.specs.Wanted.{place_key}
use Rattle.pg_store.specs.declared.journal.Entry.{Entry}
use Rattle.pg_store.specs.declared.sets.Sets.{Sets}
use Rattle.pg_store.specs.declared.wanted.Place.{Place}

-- two keys that stand for one set
abbrev pub same_key : Key → Key → Bool
same_key every every = true
same_key (with_label a) (with_label b) = a == b
same_key (with_value l k v) (with_value m q w) = (l == m && k == q) && is_one_value v w
same_key a b = false

abbrev pub is_noted : List (Place × ℕ) → Key → ℕ → Bool
is_noted stale_ids key id = list_any (λ n. same_key (place_key n.0) key && n.1 == id) stale_ids

-- each note stays
abbrev pub StayNoted : (old new : List (Place × ℕ)) → Type 0
StayNoted old new = (key : Key) (id : ℕ) → is_noted old key id ≡ true → is_noted new key id ≡ true

-- whether an id is one of the set of all nodes, of a label's, or of those of an index that is there
abbrev pub is_in : Sets → Key → ℕ → Bool
is_in sets every id = has_id sets.all id
is_in sets (with_label label) id = has_id (ids_at nat_cmp sets.labels label) id
is_in sets (with_value label key v) id = some_finds sets.indexes.items label key v id

-- whether such a set is kept
abbrev pub has_set : Sets → Key → Bool
has_set sets every = true
has_set sets (with_label label) = true
has_set sets (with_value label key v) = has_pair (label, key) (pairs_of sets.indexes.items)

-- whether a node of an id is there and belongs in a set
abbrev pub is_there : State → Key → ℕ → Bool
is_there s key id = passes (belongs key) (live s).nodes id

-- what is in a set and does not belong there is noted
abbrev pub AreNoted : (has : Key → ℕ → Bool) → List (Place × ℕ) → State → Type 0
AreNoted has stale_ids s = (key : Key) (id : ℕ) → has key id ≡ true → (is_there s key id || is_noted stale_ids key id) ≡ true

-- so it is, and so it was before each change
abbrev pub HasNoted : (has : Key → ℕ → Bool) → List (Place × ℕ) → List Entry → State → Type 0
HasNoted has stale_ids [] s = AreNoted has stale_ids s
HasNoted has stale_ids (e ∷ es) s = AreNoted has stale_ids (undone (e ∷ es) s) × HasNoted has stale_ids es s

-- nothing is noted, and each set has the nodes that belong there, and no other ids
pub record IsSwept (has : Key → ℕ → Bool) (sets : Key → Bool) (stale_ids : List (Place × ℕ)) (s : State) : Type 0 where
  pub none : stale_ids ≡ []
  pub exact : (key : Key) (id : ℕ) → has key id ≡ (sets key && is_there s key id)

abbrev pub AreExact : Sets → State → Type 0
AreExact sets s = IsSwept (is_in sets) (has_set sets) sets.stale_ids.items s

-- no set of ids is empty that is kept for a label, or in an index for a value
abbrev pub NoneKeptIsEmpty : Sets → Type 0
NoneKeptIsEmpty sets = NoneIsEmpty (values_of sets.labels.sets.entries) × All (λ index. NoneIsEmpty (values_of index.ids.sets.entries)) sets.indexes.items

-- sets to which ids have come, each with a note, of the same pairs of a label and a key
pub record Gaining (old new : Key → ℕ → Bool) (noted notes : List (Place × ℕ)) (was now : List (ℕ × ℕ)) : Type 0 where
  pub come : (key : Key) (id : ℕ) → new key id ≡ true → (old key id || is_noted notes key id) ≡ true
  pub stay : StayNoted noted notes
  pub pairs : now ≡ was

abbrev pub Gains : (old new : Sets) → Type 0
Gains old new = Gaining (is_in old) (is_in new) old.stale_ids.items new.stale_ids.items (pairs_of old.indexes.items) (pairs_of new.indexes.items)
