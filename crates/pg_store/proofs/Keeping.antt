-- Changes that leave alone what stands under the key of each index.
use Rattle.std.proofs.Common.{◌≡◌, ◌<◌, ◌≤◌, ◌+◌, ℕ, Bool, true, false, not, List, [], ◌∷◌, length, drop, get_or, Some, refl, sym, ap, ◌∙◌}
use Rattle.std.specs.Prelude.{◌&&◌, ◌||◌}
use Rattle.std.proofs.lemmas.List.{at_drop_all, at_drop_more}
use Rattle.std.specs.FinMap as map
use Rattle.std.specs.Option.{option_map_or}
use Rattle.pg_graph.specs.Records.{Properties}
use Rattle.pg_graph.specs.Stored.{has_number}
use Rattle.pg_graph.specs.declared.records.NodeRecord.{NodeRecord}
use Rattle.pg_index.specs.Properties.{all_find, finds, has_pair, is_equal, is_for, is_found_by, pairs_of}
use Rattle.pg_index.specs.declared.properties.PropertyIndex.{PropertyIndex}
use Rattle.pg_store.proofs.GainLemmas.{some_pair}
use Rattle.pg_store.proofs.NoteLemmas.{or_left}
use Rattle.pg_store.specs.Covers.{Key, every, with_label, with_value, belongs, has_in}
use Rattle.pg_store.specs.Noted.{is_in, is_noted}
use Rattle.pg_store.specs.declared.sets.Sets.{Sets}
use Rattle.pg_value_core.specs.declared.value.Value.{Value}

-- ---- indexes one after the other

module _ (P : Type 0) (l k : ℕ) (xs : List PropertyIndex) where
  pub none_before : has_pair (l, k) (pairs_of xs) ≡ true → has_pair (l, k) (pairs_of (drop 0 xs)) ≡ false → P
  none_before pair none = absurd (cc)

  pub one_more : (i : ℕ) (x : PropertyIndex) → x ≡ get_or xs i x → i < length xs → (has_pair (l, k) (pairs_of (drop i xs)) ≡ false → P) → (is_for x l k ≡ true → P) → has_pair (l, k) (pairs_of (drop (i + 1) xs)) ≡ false → P
  one_more i x is within before here none = by_test (is_for x l k) refl
    where
      by_test : (b : Bool) → is_for x l k ≡ b → P
      by_test true for = here for
      by_test false for =
          before
          (at_drop_more (λ ys. has_pair (l, k) (pairs_of ys)) xs i x within
          ∙ ap (λ y. has_pair (l, k) (pairs_of (y ∷ drop (i + 1) xs))) (sym is)
          ∙ ap (λ b. b || has_pair (l, k) (pairs_of (drop (i + 1) xs))) for
          ∙ none)

  pub each_before : (i : ℕ) → length xs ≤ i → (has_pair (l, k) (pairs_of (drop i xs)) ≡ false → P) → P
  each_before i end before = before (at_drop_all (λ ys. has_pair (l, k) (pairs_of ys)) xs i end)

-- ---- a node whose properties change

same_found : (l k : ℕ) (v : Value) (n : NodeRecord) (ps : Properties) → map.get ps k ≡ map.get n.properties k → is_found_by l k v (record n { properties = ps }) ≡ is_found_by l k v n
same_found l k v n ps same = ap (λ o. has_number (Some l) n && option_map_or (λ w. is_equal w v) o false) same

no_index_lacks : (xs : List PropertyIndex) (l k : ℕ) (v : Value) (i : ℕ) → has_pair (l, k) (pairs_of xs) ≡ false → all_find xs l k v i ≡ true
no_index_lacks [] l k v i none = refl
no_index_lacks (x ∷ xs) l k v i none = one (is_for x l k) (finds x v i) (all_find xs l k v i) (has_pair (l, k) (pairs_of xs)) (no_index_lacks xs l k v i) none
  where
    one : (f g r p : Bool) → (p ≡ false → r ≡ true) → (f || p) ≡ false → ((not f || g) && r) ≡ true
    one true g r p rest h = absurd cc
    one false g r p rest h = rest h

module _ (sets : Sets) (n : NodeRecord) (ps : Properties) (id : ℕ) (kept : (l k : ℕ) → has_pair (l, k) (pairs_of sets.indexes.items) ≡ true → map.get ps k ≡ map.get n.properties k) where
  pub still_found : ((k : Key) → belongs k (record n { properties = ps }) ≡ true → has_in sets k id ≡ true) → (l k : ℕ) (v : Value) → is_found_by l k v n ≡ true → all_find sets.indexes.items l k v id ≡ true
  still_found covered l k v found = by_test (has_pair (l, k) (pairs_of sets.indexes.items)) refl
    where
      by_test : (b : Bool) → has_pair (l, k) (pairs_of sets.indexes.items) ≡ b → all_find sets.indexes.items l k v id ≡ true
      by_test true pair = covered (with_value l k v) (same_found l k v n ps (kept l k pair) ∙ found)
      by_test false none = no_index_lacks sets.indexes.items l k v id none

  pub still_belongs : (k : Key) → is_in sets k id ≡ true → belongs k (record n { properties = ps }) ≡ true → (belongs k n || is_noted sets.stale_ids.items k id) ≡ true
  still_belongs every there h = refl
  still_belongs (with_label l) there h = or_left (belongs (with_label l) n) (is_noted sets.stale_ids.items (with_label l) id) h
  still_belongs (with_value l k v) there h =
      or_left (is_found_by l k v n) (is_noted sets.stale_ids.items (with_value l k v) id) (sym (same_found l k v n ps (kept l k (some_pair sets.indexes.items l k v id there))) ∙ h)
