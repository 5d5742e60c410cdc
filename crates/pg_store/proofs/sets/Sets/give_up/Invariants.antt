use Rattle.std.proofs.Common.{◌≡◌, ℕ, true, length, filter}
use Rattle.pg_index.specs.Properties.{all_find, pairs_of}
use Rattle.pg_store.proofs.GainLemmas.{is_other}
use Rattle.pg_store.proofs.sets.Sets.give_up.Given as goal
use Rattle.pg_store.specs.Covers.{Key}
use Rattle.pg_store.specs.Noted.{is_in}
use Rattle.pg_value_core.specs.declared.value.Value.{Value}

abbrev pub invariant-loop-position : goal.invariant-loop-position
invariant-loop-position l = record {
  all : l.self.all ≡ l.fn.self.all;
  labels : l.self.labels ≡ l.fn.self.labels;
  stale_ids : l.self.stale_ids ≡ l.fn.self.stale_ids;
  fewer : (label key : ℕ) (v : Value) (i : ℕ) → all_find l.fn.self.indexes.items label key v i ≡ true → all_find l.self.indexes.items label key v i ≡ true;
  less : (k : Key) (i : ℕ) → is_in l.self k i ≡ true → is_in l.fn.self k i ≡ true;
  others : filter (is_other l.label l.key) (pairs_of l.self.indexes.items) ≡ filter (is_other l.label l.key) (pairs_of l.fn.self.indexes.items);
}

abbrev pub decreases-loop-position : goal.decreases-loop-position
decreases-loop-position l = length l.self.indexes.items
