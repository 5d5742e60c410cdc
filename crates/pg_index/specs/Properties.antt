-- Nodes that are found by a label and by what they have under a key.
use Rattle.std.specs.Prelude.{◌==◌, ◌&&◌, ◌||◌, ℕ, Bool, true, false, not, List, [], ◌∷◌, Some, map as map_list}
use Rattle.std.specs.FinMap as map
use Rattle.std.specs.List.{list_any}
use Rattle.std.specs.Option.{option_map_or}
use Rattle.std.specs.Ordering.{on, is_eq}
use Rattle.std.specs.declared.cmp.Ordering.{Ordering}
use Rattle.pg_graph.specs.Removed.{has_id}
use Rattle.pg_graph.specs.Stored.{has_number}
use Rattle.pg_graph.specs.declared.records.NodeRecord.{NodeRecord}
use Rattle.pg_index.specs.ValuedIds.{ids_under}
use Rattle.pg_index.specs.declared.properties.PropertyIndex.{PropertyIndex}
use Rattle.pg_meaning.specs.Equality.{eq3}
use Rattle.pg_meaning.specs.Logic.{is_true}
use Rattle.pg_meaning.specs.Order.{value_order}
use Rattle.pg_meaning.specs.Value as meaning
use Rattle.pg_value_core.specs.View.{view}
use Rattle.pg_value_core.specs.declared.value.Value.{Value}

abbrev pub by_value : Value → Value → Ordering
by_value = on view value_order

-- whether two values have one set
abbrev pub is_one_value : (v w : Value) → Bool
is_one_value v w = is_eq (by_value v w)

-- whether the index has an id under a value
abbrev pub finds : PropertyIndex → Value → ℕ → Bool
finds index v id = has_id (ids_under index.ids v) id

abbrev pub is_equal : meaning.Value → Value → Bool
is_equal w v = is_true (eq3 w (view v))

-- whether a node has the label, and under the key what is equal to the value
abbrev pub is_found_by : (label key : ℕ) → Value → NodeRecord → Bool
is_found_by label key v n = has_number (Some label) n && option_map_or (λ w. is_equal w v) (map.get n.properties key) false

-- ---- several indexes

abbrev pub is_for : PropertyIndex → (label key : ℕ) → Bool
is_for index label key = index.label == label && index.key == key

-- each index of the label and the key, if there is one, has the id under the value
abbrev pub all_find : List PropertyIndex → (label key : ℕ) → Value → ℕ → Bool
all_find [] label key v id = true
all_find (index ∷ indexes) label key v id = (not (is_for index label key) || finds index v id) && all_find indexes label key v id

-- some index of the label and the key has the id under the value
abbrev pub some_finds : List PropertyIndex → (label key : ℕ) → Value → ℕ → Bool
some_finds indexes label key v id = list_any (λ index. is_for index label key && finds index v id) indexes

abbrev pub pairs_of : List PropertyIndex → List (ℕ × ℕ)
pairs_of indexes = map_list (λ index. (index.label, index.key)) indexes

abbrev pub has_pair : ℕ × ℕ → List (ℕ × ℕ) → Bool
has_pair pair pairs = list_any (λ p. p.0 == pair.0 && p.1 == pair.1) pairs
