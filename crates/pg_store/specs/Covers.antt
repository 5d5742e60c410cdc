-- Sets of ids that have each node under its labels.
use Rattle.std.specs.Prelude.{◌≡◌, ℕ, Bool, true, false, List, [], ◌∷◌, Option, Some, None}
use Rattle.std.specs.FinMap as map
use Rattle.std.specs.FinMap.{FinMap}
use Rattle.std.specs.Option.{option_map_or}
use Rattle.std.specs.Ordering.{nat_cmp}
use Rattle.pg_graph.specs.Removed.{has_id}
use Rattle.pg_graph.specs.Stored.{has_number}
use Rattle.pg_graph.specs.declared.records.NodeRecord.{NodeRecord}
use Rattle.pg_index.specs.Index.{ids_at}
use Rattle.pg_index.specs.Properties.{all_find, is_found_by}
use Rattle.pg_store.specs.Journal.{State, undone}
use Rattle.pg_store.specs.declared.journal.Entry.{Entry}
use Rattle.pg_store.specs.declared.sets.Sets.{Sets}
use Rattle.pg_value_core.specs.declared.value.Value.{Value}

-- by what nodes are found: all of them, those of a label, and those of a label that have a value under a key
pub data Key : Type 0 where
  every : Key
  with_label : ℕ → Key
  with_value : (label key : ℕ) → Value → Key

abbrev pub label_set_key : Option ℕ → Key
label_set_key None = every
label_set_key (Some label) = with_label label

abbrev pub belongs : Key → NodeRecord → Bool
belongs every n = true
belongs (with_label label) n = has_number (Some label) n
belongs (with_value label key v) n = is_found_by label key v n

-- two keys by which the same nodes are found
abbrev pub FindAlike : Key → Key → Type 0
FindAlike a b = (n : NodeRecord) → belongs a n ≡ belongs b n

-- whether an id is one of the set of all nodes, of a label's, or of an index's
abbrev pub has_in : Sets → Key → ℕ → Bool
has_in sets every id = has_id sets.all id
has_in sets (with_label label) id = has_id (ids_at nat_cmp sets.labels label) id
has_in sets (with_value label key v) id = all_find sets.indexes.items label key v id

-- each node is in the sets where it belongs
abbrev pub Covers : (Key → ℕ → Bool) → State → Type 0
Covers has s = (key : Key) (id : ℕ) (n : NodeRecord) → map.get s.content.nodes id ≡ Some n → belongs key n ≡ true → has key id ≡ true

-- so it is, and so it was before each change
abbrev pub HasCovered : (Key → ℕ → Bool) → List Entry → State → Type 0
HasCovered has [] s = Covers has s
HasCovered has (e ∷ es) s = Covers has (undone (e ∷ es) s) × HasCovered has es s

-- whether an id's value is there and passes the test
abbrev pub passes : {X : Type 0} → (X → Bool) → FinMap nat_cmp X → ℕ → Bool
passes p m id = option_map_or p (map.get m id) false
