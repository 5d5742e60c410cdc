use Rattle.std.proofs.Common.{◌≡◌, ℕ, true, false, take}
use Rattle.pg_index.proofs.PropertyLemmas.{is_leaving}
use Rattle.pg_index.proofs.properties.remove_valued.Given as goal
use Rattle.pg_index.specs.Properties.{all_find, pairs_of, some_finds}
use Rattle.pg_value_core.specs.declared.value.Value.{Value}

abbrev pub invariant-loop-property : goal.invariant-loop-property
invariant-loop-property l = record {
  pairs : pairs_of l.indexes ≡ pairs_of l.fn.indexes;
  fewer : (m k : ℕ) (v : Value) (i : ℕ) → some_finds l.indexes m k v i ≡ true → some_finds l.fn.indexes m k v i ≡ true;
  others : (m k : ℕ) (v : Value) (i : ℕ) → is_leaving l.label l.key l.value l.id m k v i ≡ false → some_finds l.fn.indexes m k v i ≡ true → some_finds l.indexes m k v i ≡ true;
  stay : (m k : ℕ) (v : Value) (i : ℕ) → is_leaving l.label l.key l.value l.id m k v i ≡ false → all_find l.fn.indexes m k v i ≡ true → all_find l.indexes m k v i ≡ true;
  gone : (m k : ℕ) (v : Value) (i : ℕ) → is_leaving l.label l.key l.value l.id m k v i ≡ true → some_finds (take l.property-index l.indexes) m k v i ≡ false;
}
