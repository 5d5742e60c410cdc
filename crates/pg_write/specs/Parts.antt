-- The parts of the definitions of SET and REMOVE.
use Rattle.std.specs.Prelude.{ℕ, Bool, true, false, List, [], ◌∷◌, filter, not, Result, Ok}
use Rattle.pg_meaning.specs.Answer.{Answer, ◌>>=◌, ◌>>◌}
use Rattle.pg_meaning.specs.Entries.{set_keys, without_key}
use Rattle.pg_meaning.specs.Graph.{Graph}
use Rattle.pg_meaning.specs.Names.{is_among, put_texts}
use Rattle.pg_meaning.specs.Patterns.{texts_of}
use Rattle.pg_meaning.specs.Tree.{Name, RemoveItem, remove_property, remove_labels}
use Rattle.pg_meaning.specs.Updates.{Target, test_storable, change_properties, change_labels}
use Rattle.pg_meaning.specs.Value.{Entries, Value, no_entries}
use Rattle.pg_meaning.specs.declared.fault.Fault.{Fault}

-- the value under one key
abbrev pub one_pair : List ℕ → Value → Result (List (List ℕ × Value)) Fault
one_pair key v = Ok ((key, v) ∷ [])

-- an element's entries with those of a map, in their place or beside them
abbrev pub put_map : (is_whole : Bool) → List (List ℕ × Value) → Entries → Entries
put_map true pairs es = set_keys pairs no_entries
put_map false pairs es = set_keys pairs es

-- an element's labels with these, or without them
abbrev pub labels_by : (is_put : Bool) → List (List ℕ) → List (List ℕ) → List (List ℕ)
labels_by true texts labels = put_texts texts labels
labels_by false texts labels = filter (λ l. not (is_among texts l)) labels

-- the pairs of a value, where all may be stored
abbrev pub storable_pairs : (Value → Result (List (List ℕ × Value)) Fault) → Answer → Result (List (List ℕ × Value)) Fault
storable_pairs pairs_of value = value >>= λ v. pairs_of v >>= λ pairs. test_storable pairs >> Ok pairs

-- the variable of an item, and what the item makes of a target that is there
abbrev pub remove_target : RemoveItem → Name
remove_target (remove_property t k) = t
remove_target (remove_labels t ls) = t

abbrev pub removed_by : RemoveItem → Graph → Target → Result Graph Fault
removed_by (remove_property t k) graph target = Ok (change_properties (without_key k.text) target graph)
removed_by (remove_labels t ls) graph target = change_labels (filter (λ l. not (is_among (texts_of ls) l))) target graph
