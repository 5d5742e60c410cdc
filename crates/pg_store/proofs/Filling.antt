-- An index that is filled from the ids of a label.
use Rattle.std.proofs.Common.{◌≡◌, ◌==◌, ◌&&◌, ◌||◌, ℕ, Bool, true, false, cond, List, [], ◌∷◌, map as map_list, Some, is_some, arith, refl, sym, ap, subst, ◌∙◌}
use Rattle.std.proofs.lemmas.Bool.Decides.{nat_tests}
use Rattle.std.specs.Cmp.{Equal-is}
use Rattle.std.specs.FinMap as map
use Rattle.std.specs.FinMap.{FinMap, find}
use Rattle.std.specs.List.{list_any}
use Rattle.std.specs.Ordering.{nat_cmp, eq_by_cmp}
use Rattle.pg_graph.specs.Removed.{Ids, has_id}
use Rattle.pg_graph.specs.Stored.{has_number}
use Rattle.pg_graph.specs.declared.records.NodeRecord.{NodeRecord}
use Rattle.pg_index.specs.Properties.{finds, is_found_by}
use Rattle.pg_index.specs.declared.properties.PropertyIndex.{PropertyIndex}
use Rattle.pg_value_core.specs.declared.value.Value.{Value}

equal_number : (m n : ℕ) → m ≡ n → (m == n) ≡ true
equal_number m n h = grind (arith, nat_tests)

same_number : (m n : ℕ) → (m == n) ≡ true → m ≡ n
same_number m n h = grind (arith, nat_tests)

or_right : (a b : Bool) → b ≡ true → (a || b) ≡ true
or_right true b h = refl
or_right false b h = h

-- an id of the set is among its keys
among_entries : (i : ℕ) (es : List (ℕ × Unit {0})) → is_some (find nat_cmp i es) ≡ true → list_any (λ m. m == i) (map_list (λ e. e.0) es) ≡ true
among_entries i [] h = absurd (cc)
among_entries i (e ∷ es) h = by_test (eq_by_cmp nat_cmp i e.0) refl h (among_entries i es)
  where
    by_test : (b : Bool) → eq_by_cmp nat_cmp i e.0 ≡ b → is_some (cond b (Some e.1) (find nat_cmp i es)) ≡ true → (is_some (find nat_cmp i es) ≡ true → list_any (λ m. m == i) (map_list (λ e. e.0) es) ≡ true)
        → (e.0 == i || list_any (λ m. m == i) (map_list (λ e. e.0) es)) ≡ true
    by_test true is h rest = ap (λ b. b || list_any (λ m. m == i) (map_list (λ e. e.0) es)) (equal_number e.0 i (sym (map.nat_cmp-IsAntisymmetric i e.0 ((Equal-is (nat_cmp i e.0)).0 is))))
    by_test false is h rest = or_right (e.0 == i) (list_any (λ m. m == i) (map_list (λ e. e.0) es)) (rest h)

among_keys : (ids : Ids) (i : ℕ) → has_id ids i ≡ true → list_any (λ m. m == i) (map.keys ids) ≡ true
among_keys ids i h = among_entries i (map.entries ids) (ap is_some (sym (map.get-entries ids i)) ∙ h)

module _ (nodes : FinMap nat_cmp NodeRecord) (label key : ℕ) where
  -- the index has each node that is not still to come
  abbrev pub IsFilled : PropertyIndex → (left : List ℕ) → Type 0
  IsFilled index left = (i : ℕ) (n : NodeRecord) (v : Value) → map.get nodes i ≡ Some n → is_found_by label key v n ≡ true → (list_any (λ m. m == i) left || finds index v i) ≡ true

  left_of : (a b : Bool) → (a && b) ≡ true → a ≡ true
  left_of true b h = refl
  left_of false b h = h

  pub filled_first : (index : PropertyIndex) (ids : Ids) → ((i : ℕ) (n : NodeRecord) → map.get nodes i ≡ Some n → has_number (Some label) n ≡ true → has_id ids i ≡ true) → IsFilled index (map.keys ids)
  filled_first index ids covers i n v at found =
      ap (λ b. b || finds index v i) (among_keys ids i (covers i n at (left_of (has_number (Some label) n) _ found)))

  module _ (old new : PropertyIndex) (id : ℕ) (left : List ℕ) where
    pub filled_on : ((v : Value) (i : ℕ) → finds old v i ≡ true → finds new v i ≡ true) → ((n : NodeRecord) (v : Value) → map.get nodes id ≡ Some n → is_found_by label key v n ≡ true → finds new v id ≡ true)
        → IsFilled old (id ∷ left) → IsFilled new left
    filled_on grown here was i n v at found = by_test (id == i) refl (was i n v at found)
      where
        or_more : (a b c : Bool) → (b ≡ true → c ≡ true) → (a || b) ≡ true → (a || c) ≡ true
        or_more true b c f h = refl
        or_more false b c f h = f h

        by_test : (b : Bool) → (id == i) ≡ b → ((b || list_any (λ m. m == i) left) || finds old v i) ≡ true → (list_any (λ m. m == i) left || finds new v i) ≡ true
        by_test false other h = or_more (list_any (λ m. m == i) left) (finds old v i) (finds new v i) (grown v i) h
        by_test true same h =
            let one : id ≡ i = same_number id i same in
            or_right (list_any (λ m. m == i) left) (finds new v i) (subst (λ q. finds new v q ≡ true) one (here n v (ap (map.get nodes) one ∙ at) found))
