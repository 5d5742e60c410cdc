-- What tables keep of an element: label numbers, rising, and values under rising key numbers. A key under which null stands is blank: it keeps its place, and reads as absent.
use Rattle.std.specs.Prelude.{◌==◌, ℕ, not, List, Option, Some, None, fold, map}
use Rattle.std.specs.FinMap as map
use Rattle.std.specs.FinMap.{FinMap}
use Rattle.std.specs.List.{list_any}
use Rattle.std.specs.Ordering.{nat_cmp}
use Rattle.pg_graph.specs.Sorted.{Rises, with_element, without}
use Rattle.pg_meaning.specs.Value.{Value, null}
use Rattle.pg_value_core.specs.View.{view}
use Rattle.pg_value_core.specs.declared.value.Value as code
use Rattle.pg_value_core.specs.declared.value.Value.TheVariants.{Null}

abbrev pub AreLabels : List ℕ → Type 0
AreLabels = Rises (λ n. n)

abbrev pub with_label : List ℕ → ℕ → List ℕ
with_label labels label = with_element (λ n. n) label labels

abbrev pub without_label : List ℕ → ℕ → List ℕ
without_label labels label = without (λ n. n) label labels

abbrev pub Properties : Type 0
Properties = FinMap nat_cmp Value

-- null takes the key out
abbrev pub with_property : Properties → ℕ → Value → Properties
with_property properties key null = map.remove properties key
with_property properties key v = map.insert properties key v

-- the code's entries as data
abbrev pub seen_entries : List (ℕ × code.Value) → List (ℕ × Value)
seen_entries es = map (λ e. (e.0, view e.1)) es

abbrev pub AreEntries : List (ℕ × code.Value) → Type 0
AreEntries = Rises (λ e. e.0)

-- numbers of keys, rising
abbrev pub AreKeys : List ℕ → Type 0
AreKeys = Rises (λ key. key)

-- the entries, in which these keys are blank
abbrev pub with_blank_entries : List (ℕ × code.Value) → List ℕ → List (ℕ × code.Value)
with_blank_entries es keys = fold (λ xs key. with_element (λ e. e.0) (key, Null) xs) es keys

-- what stands under a key of rising entries
abbrev pub value_in : List (ℕ × code.Value) → ℕ → Option Value
value_in es key = map.get (map.from_sorted {R = nat_cmp} (seen_entries es)) key

-- what reads as absent where it is blank
abbrev pub shown_value : Value → Option Value
shown_value null = None
shown_value v = Some v

abbrev pub shown : Option Value → Option Value
shown None = None
shown (Some v) = shown_value v

-- what a key had before: its value, or no place
abbrev pub given_back : Properties → ℕ → Option code.Value → Properties
given_back properties key None = map.remove properties key
given_back properties key (Some before) = map.insert properties key (view before)

-- the properties, in which these keys are blank
abbrev pub with_blanks : Properties → List ℕ → Properties
with_blanks properties keys = fold (λ ps key. map.insert ps key null) properties keys

-- the properties without these keys
abbrev pub without_keys : Properties → List ℕ → Properties
without_keys properties keys = map.retain_keys properties (λ key. not (list_any (λ k. k == key) keys))
