-- The ids of a set that insert_id those of what passes a test, and what a read of them keeps.
use Rattle.std.proofs.Common.{◌≡◌, ◌&&◌, ℕ, Bool, true, false, cond, T, List, [], ◌∷◌, map as map_list, filter, Option, Some, None, is_some, refl, sym, ap, subst, ◌∙◌}
use Rattle.std.specs.Cmp.{nat_cmp_total}
use Rattle.std.specs.FinMap as map
use Rattle.std.specs.FinMap.{FinMap, find, is_sorted}
use Rattle.std.specs.FinMap.Entries.{below_all, is_sorted-where_key, find-where_key, same_entries}
use Rattle.std.specs.List.{AllByRecursion}
use Rattle.std.specs.Option.{option_map, option_map_or}
use Rattle.std.specs.Ordering.{nat_cmp, eq_by_cmp, is_lt}
use Rattle.pg_graph.proofs.Ids.{ids_in}
use Rattle.pg_graph.proofs.Refined.{all_entries}
use Rattle.pg_graph.specs.Content.{ids_where}
use Rattle.pg_graph.proofs.Removed.{is_kept}
use Rattle.pg_graph.specs.Removed.{Ids, has_id}
use Rattle.pg_graph.specs.Stored.{has_number}
use Rattle.pg_graph.specs.declared.records.NodeRecord.{NodeRecord}
use Rattle.pg_store.proofs.CoverLemmas.{Has, covers_now}
use Rattle.pg_store.specs.Covers.{Key, with_label, with_value, HasCovered, belongs, passes}
use Rattle.pg_store.specs.Journal.{State, live}
use Rattle.pg_store.specs.declared.journal.Entry.{Entry}
use Rattle.pg_value_core.specs.declared.value.Value.{Value}

abbrev number_of : {X : Type 0} → ℕ × X → ℕ
number_of e = e.0

module _ {X : Type 0} where
  abbrev marked : List (ℕ × X) → List (ℕ × Unit {0})
  marked es = map_list (λ e. (e.0, tt)) es

  below_marked : (k : ℕ) (es : List (ℕ × X)) → below_all nat_cmp k (marked es) ≡ below_all nat_cmp k es
  below_marked k [] = refl
  below_marked k (e ∷ es) = ap (λ b. is_lt (nat_cmp k e.0) && b) (below_marked k es)

  sorted_marked : (es : List (ℕ × X)) → is_sorted nat_cmp (marked es) ≡ is_sorted nat_cmp es
  sorted_marked [] = refl
  sorted_marked (e ∷ es) = λ i. below_marked e.0 es i && sorted_marked es i

  find_marked : (q : ℕ) (es : List (ℕ × X)) → find nat_cmp q (marked es) ≡ option_map (λ _. tt) (find nat_cmp q es)
  find_marked q [] = refl
  find_marked q (e ∷ es) = by_test (eq_by_cmp nat_cmp q e.0) (find_marked q es)
    where
      by_test : (b : Bool) → find nat_cmp q (marked es) ≡ option_map (λ _. tt) (find nat_cmp q es) → cond b (Some tt) (find nat_cmp q (marked es)) ≡ option_map (λ _. tt) (cond b (Some e.1) (find nat_cmp q es))
      by_test true rest = refl
      by_test false rest = rest

  numbers_marked : (es : List (ℕ × X)) → map_list number_of (marked es) ≡ map_list number_of es
  numbers_marked [] = refl
  numbers_marked (e ∷ es) = ap (λ r. e.0 ∷ r) (numbers_marked es)

  numbers_where : (test : ℕ → Bool) (es : List (ℕ × X)) → filter test (map_list number_of es) ≡ map_list number_of (filter (λ e. test e.0) es)
  numbers_where test [] = refl
  numbers_where test (e ∷ es) = by_test (test e.0) (numbers_where test es)
    where
      by_test : (b : Bool) → filter test (map_list number_of es) ≡ map_list number_of (filter (λ e. test e.0) es)
          → cond b (e.0 ∷ filter test (map_list number_of es)) (filter test (map_list number_of es)) ≡ map_list number_of (cond b (e ∷ filter (λ e. test e.0) es) (filter (λ e. test e.0) es))
      by_test true rest = ap (λ r. e.0 ∷ r) rest
      by_test false rest = rest

module _ {X : Type 0} (p : X → Bool) (m : FinMap nat_cmp X) where
  abbrev passing : ℕ → Bool
  passing = passes p m

  same_where : map_list number_of (filter (λ e. passing e.0) (map.entries m)) ≡ ids_where p m
  same_where = each (map.entries m) (all_entries (λ k a. passing k ≡ p a) m (λ k a is. ap (λ o. option_map_or p o false) is))
    where
      each : (es : List (ℕ × X)) → AllByRecursion (λ e. passing e.0 ≡ p e.1) es → map_list number_of (filter (λ e. passing e.0) es) ≡ ids_in p es
      each [] all = refl
      each (e ∷ es) all = by_test (passing e.0) (p e.1) all.0 (each es all.1)
        where
          by_test : (a b : Bool) → a ≡ b → map_list number_of (filter (λ e. passing e.0) es) ≡ ids_in p es
              → map_list number_of (cond a (e ∷ filter (λ e. passing e.0) es) (filter (λ e. passing e.0) es)) ≡ map_list {B = ℕ} (λ (e : ℕ × X). e.0) (cond b (e ∷ filter (λ e. p e.1) es) (filter (λ e. p e.1) es))
          by_test true true is rest = ap (λ r. e.0 ∷ r) rest
          by_test false false is rest = rest
          by_test true false is rest = cc
          by_test false true is rest = cc

  passed : (o : Option X) → option_map_or p o false ≡ true → (a : X) × (o ≡ Some a) × (p a ≡ true)
  passed None h = absurd (cc)
  passed (Some a) h = (a, refl, h)

  unit_of : (o : Option (Unit {0})) → is_some o ≡ true → o ≡ Some tt
  unit_of None h = absurd (cc)
  unit_of (Some u) h = refl

  -- all that passing is in the set, so the set's ids that pass are all
  pub covered_ids : (ids : Ids) → ((i : ℕ) (a : X) → map.get m i ≡ Some a → p a ≡ true → has_id ids i ≡ true) → filter passing (map.keys ids) ≡ ids_where p m
  covered_ids ids covers = numbers_where passing (map.entries ids) ∙ ap (map_list number_of) same ∙ numbers_marked (filter (λ e. passing e.0) (map.entries m)) ∙ same_where
    where
      by_test : (q : ℕ) (b : Bool) → passing q ≡ b → cond b (map.get ids q) None ≡ option_map (λ _. tt) (cond b (map.get m q) None)
      by_test q true is = let at = passed (map.get m q) is in unit_of (map.get ids q) (covers q at.0 at.1 at.2) ∙ sym (ap (option_map (λ _. tt)) at.1)
      by_test q false is = refl

      same : filter (λ e. passing e.0) (map.entries ids) ≡ marked (filter (λ e. passing e.0) (map.entries m))
      same = same_entries nat_cmp nat_cmp_total map.nat_cmp-IsAntisymmetric _ _ (is_sorted-where_key nat_cmp passing (map.entries ids) (map.entries_sorted ids))
          (subst T (sym (sorted_marked (filter (λ e. passing e.0) (map.entries m)))) (is_sorted-where_key nat_cmp passing (map.entries m) (map.entries_sorted m)))
          (λ q.
          find-where_key nat_cmp passing q (λ x t. ap passing (sym (map.nat_cmp-IsAntisymmetric q x t))) (map.entries ids)
          ∙ ap (λ o. cond (passing q) o None) (sym (map.get-entries ids q))
          ∙ by_test q (passing q) refl
          ∙ ap (λ o. option_map (λ _. tt) (cond (passing q) o None)) (map.get-entries m q)
          ∙ sym (find_marked q (filter (λ e. passing e.0) (map.entries m)) ∙ ap (option_map (λ _. tt)) (find-where_key nat_cmp passing q (λ x t. ap passing (sym (map.nat_cmp-IsAntisymmetric q x t))) (map.entries m))))

-- ---- a store's reads

module _ (has : Has) (es : List Entry) (s : State) (covered : HasCovered has es s) (key : Key) where
  live_covered : (i : ℕ) (n : NodeRecord) → map.get (live s).nodes i ≡ Some n → belongs key n ≡ true → has key i ≡ true
  live_covered i n is number = covers_now has es s covered key i n (is_kept s.content.nodes s.gone_nodes i n is).1 number

  pub all_read : (ids : Ids) → ((i : ℕ) → has key i ≡ true → has_id ids i ≡ true) → filter (passes (belongs key) (live s).nodes) (map.keys ids) ≡ ids_where (belongs key) (live s).nodes
  all_read ids is = covered_ids (belongs key) (live s).nodes ids (λ i n at found. is i (live_covered i n at found))

-- by an index, or by the label's set
pub valued_read : (has : Has) (es : List Entry) (s : State) → HasCovered has es s → (label key : ℕ) (v : Value) (ids : Ids)
    → ((i : ℕ) → has (with_label label) i ≡ true → has (with_value label key v) i ≡ true → has_id ids i ≡ true)
    → filter (passes (belongs (with_value label key v)) (live s).nodes) (map.keys ids) ≡ ids_where (belongs (with_value label key v)) (live s).nodes
valued_read has es s covered label key v ids is =
    covered_ids (belongs (with_value label key v)) (live s).nodes ids
    (λ i n at found. is i (live_covered has es s covered (with_label label) i n at (left (has_number (Some label) n) _ found)) (live_covered has es s covered (with_value label key v) i n at found))
  where
    left : (a b : Bool) → (a && b) ≡ true → a ≡ true
    left true b h = refl
    left false b h = h
