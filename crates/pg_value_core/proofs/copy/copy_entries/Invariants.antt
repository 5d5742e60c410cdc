use Rattle.std.proofs.Common.{◌≡◌, List, ◌++◌, String, Global}
use Rattle.pg_value_core.specs.declared.value.Value.{Value}
use Rattle.pg_value_core.specs.View.{entries_view}
use Rattle.pg_value_core.proofs.copy.copy_entries.Given as goal

abbrev pub invariant-loop-key : goal.invariant-loop-key
invariant-loop-key l =
    (done : List (String Global × Value)) × (l.entries.entries ≡ done ++ l.key-iterator) × (entries_view l.copies.entries ≡ entries_view done)
