use Rattle.std.proofs.Common.{◌≡◌, ◌-◌, List, ◌++◌, Some, String, Global, drop}
use Rattle.serde_json.specs.View.{items_view, members_view}
use Rattle.serde_json.specs.declared.value.Value.{Value}
use Rattle.pg_json.specs.Given.{values_within, entries_within}
use Rattle.pg_json.proofs.Converting.{after}
use Rattle.pg_value_core.specs.View.{entries_view}
use Rattle.pg_json.proofs.values.+convert.Given as goal

-- what is converted and what is left are the whole
abbrev pub invariant-value_from-loop-item : goal.invariant-value_from-loop-item
invariant-value_from-loop-item l = values_within (l.room - 1) (items_view l.item-items) ≡ after l.values.items (values_within (l.room - 1) (items_view (drop l.item-index l.item-items)))

abbrev pub invariant-entries_from-loop-key : goal.invariant-entries_from-loop-key
invariant-entries_from-loop-key l =
    (done : List (String Global × Value)) × (l.members.entries ≡ done ++ l.key-iterator) × (entries_within l.room (members_view done) ≡ Some (entries_view l.entries.entries))
