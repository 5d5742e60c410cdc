use Rattle.std.proofs.Common.{◌≡◌, drop}
use Rattle.pg_meaning.specs.Queries.{test_entries, test_items}
use Rattle.pg_value_core.specs.View.{entries_view, values_view}
use Rattle.pg_run.proofs.presence.+presence.Given as goal

abbrev pub invariant-test_each-loop-item : goal.invariant-test_each-loop-item
invariant-test_each-loop-item g l = test_items l.graph (values_view l.item-items) ≡ test_items l.graph (values_view (drop l.item-index l.item-items))

abbrev pub invariant-test_each_entry-loop-value : goal.invariant-test_each_entry-loop-value
invariant-test_each_entry-loop-value g l = test_entries l.graph (entries_view l.entries.entries) ≡ test_entries l.graph (entries_view l.value-iterator)
