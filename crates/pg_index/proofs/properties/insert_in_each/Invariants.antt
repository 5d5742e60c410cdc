use Rattle.std.proofs.Common.{◌≡◌, ◌==◌, ℕ, true, take}
use Rattle.std.specs.Prelude.{◌&&◌, ◌||◌}
use Rattle.pg_index.proofs.properties.insert_in_each.Given as goal
use Rattle.pg_index.specs.Properties.{all_find, is_found_by, pairs_of, some_finds}
use Rattle.pg_value_core.specs.declared.value.Value.{Value}

abbrev pub invariant-loop-property : goal.invariant-loop-property
invariant-loop-property l = record {
  pairs : pairs_of l.indexes ≡ pairs_of l.fn.indexes;
  grown : (label key : ℕ) (v : Value) (i : ℕ) → all_find l.fn.indexes label key v i ≡ true → all_find l.indexes label key v i ≡ true;
  come : (label key : ℕ) (v : Value) (i : ℕ) → some_finds l.indexes label key v i ≡ true → (some_finds l.fn.indexes label key v i || (is_found_by label key v l.node && i == l.id)) ≡ true;
  done : (label key : ℕ) (v : Value) → is_found_by label key v l.node ≡ true → all_find (take l.property-index l.indexes) label key v l.id ≡ true;
}
