use Rattle.std.proofs.Common.{◌≡◌, ℕ, true, drop}
use Rattle.std.specs.Prelude.{◌||◌}
use Rattle.pg_index.specs.Properties.{has_pair, is_found_by, pairs_of}
use Rattle.pg_store.proofs.notes.note_label_values_left.Given as goal
use Rattle.pg_store.specs.Covers.{with_value}
use Rattle.pg_store.specs.Noted.{StayNoted, is_noted}
use Rattle.pg_value_core.specs.declared.value.Value.{Value}

abbrev pub invariant-loop-index : goal.invariant-loop-index
invariant-loop-index l = record {
  notes : StayNoted l.fn.stale_ids.items l.stale_ids.items;
  done : (label key : ℕ) (v : Value) → has_pair (label, key) (pairs_of l.indexes) ≡ true → is_found_by label key v (record l.node { labels = l.before }) ≡ true → ((is_found_by label key v l.node || is_noted l.stale_ids.items (with_value label key v) l.id) || has_pair (label, key) (pairs_of (drop l.index-index l.indexes))) ≡ true;
}
