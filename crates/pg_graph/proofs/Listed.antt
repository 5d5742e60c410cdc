-- The ids of the entries that pass a test, where two tests agree on each.
use Rattle.std.proofs.Common.{◌≡◌, ℕ, Bool, true, false, cond, List, [], ◌∷◌, map as map_list, filter, Some, refl, ap}
use Rattle.std.specs.FinMap as map
use Rattle.std.specs.FinMap.{FinMap}
use Rattle.std.specs.List.{AllByRecursion}
use Rattle.std.specs.Ordering.{nat_cmp}
use Rattle.pg_graph.proofs.Ids.{ids_in}
use Rattle.pg_graph.proofs.Refined.{all_entries}
use Rattle.pg_graph.specs.Content.{ids_where}

pub same_ids : {X : Type 0} (p q : X → Bool) (m : FinMap nat_cmp X) → ((k : ℕ) (a : X) → map.get m k ≡ Some a → p a ≡ q a) → ids_where p m ≡ ids_where q m
same_ids {X} p q m h = each (map.entries m) (all_entries (λ k a. p a ≡ q a) m h)
  where
    each : (es : List (ℕ × X)) → AllByRecursion (λ e. p e.1 ≡ q e.1) es → ids_in p es ≡ ids_in q es
    each [] all = refl
    each (e ∷ es) all = by_test (p e.1) (q e.1) all.0 (each es all.1)
      where
        by_test : (a b : Bool) → a ≡ b → ids_in p es ≡ ids_in q es
            → map_list {B = ℕ} (λ (e : ℕ × X). e.0) (cond a (e ∷ filter (λ e. p e.1) es) (filter (λ e. p e.1) es))
            ≡ map_list {B = ℕ} (λ (e : ℕ × X). e.0) (cond b (e ∷ filter (λ e. q e.1) es) (filter (λ e. q e.1) es))
        by_test true true is rest = ap (λ r. e.0 ∷ r) rest
        by_test false false is rest = rest
        by_test true false is rest = cc
        by_test false true is rest = cc
