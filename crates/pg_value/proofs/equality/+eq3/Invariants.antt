use Rattle.std.proofs.Common.{◌≡◌, drop}
use Rattle.pg_meaning.specs.Equality.{items_eq3, entries_eq3}
use Rattle.pg_meaning.specs.Logic.{and3}
use Rattle.pg_value_core.specs.View.{values_view, entries_view}
use Rattle.pg_value.proofs.equality.+eq3.Given as goal

-- the answer so far and that of what is left make the whole
abbrev pub invariant-eq3_items-loop-x : goal.invariant-eq3_items-loop-x
invariant-eq3_items-loop-x l = and3 l.all (items_eq3 (values_view (drop l.x-index l.xs.items)) (values_view l.others)) ≡ items_eq3 (values_view l.xs.items) (values_view l.ys.items)

abbrev pub invariant-eq3_entries-loop-key : goal.invariant-eq3_entries-loop-key
invariant-eq3_entries-loop-key l = and3 l.all (entries_eq3 (entries_view l.key-iterator) (entries_view l.others)) ≡ entries_eq3 (entries_view l.xs.entries) (entries_view l.ys.entries)
