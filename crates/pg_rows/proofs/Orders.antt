-- The order of keys is an order, and where keys are whole it is the definition's.
use Rattle.std.proofs.Common.{◌≡◌, ℕ, Bool, true, false, cond, List, [], ◌∷◌, length, refl, ap, subst, ◌∙◌, Ordering, Less, Equal, Greater, arith}
use Rattle.std.proofs.lemmas.Cmp.{on_total, then_total, back_total}
use Rattle.std.proofs.lemmas.List.Sorted.{ranks_by}
use Rattle.std.specs.Cmp.{IsTotalOrder, IsStrictWeakOrder}
use Rattle.std.specs.Ordering.{ordering_then, ordering_reverse, is_lt, is_gt}
use Rattle.pg_meaning.specs.Order.{value_order}
use Rattle.pg_meaning.specs.OrderLaws.{order_total}
use Rattle.pg_meaning.specs.Projections.{Projected, directed, first_or_null, is_descending, keys_order, insert_keyed, sorted_keyed}
use Rattle.pg_meaning.specs.Tree.{SortItem}
use Rattle.pg_meaning.specs.Value.{Value}
use Rattle.pg_rows.specs.Laws.{AllLong, SortsByKeys}
use Rattle.pg_rows.specs.Sorts.{key_order, other_values, directions, insert_by, sorted_by, keyed_below}

directed_total : (d : Bool) → IsTotalOrder (λ (v w : Value). directed d (value_order v w))
directed_total false = order_total
directed_total true = subst IsTotalOrder (λ i v w. order_total.antisymm w v i) (back_total order_total)

pub key_order_total : (ds : List Bool) → IsTotalOrder (key_order ds)
key_order_total [] = record { antisymm = λ x y. refl; trans = λ x y z p q. p; congr = λ x y z p. refl }
key_order_total (d ∷ ds) = then_total (on_total first_or_null (directed_total d)) (on_total other_values (key_order_total ds))

pub below_order : {X : Type 0} (ds : List Bool) → IsStrictWeakOrder (keyed_below {X = X} ds)
below_order {X} ds = ranks_by (key_order_total ds) (λ (x : List Value × X). x.0)

whole : (order : List SortItem) (vs ws : List Value) → length vs ≡ length order → length ws ≡ length order → keys_order order vs ws ≡ key_order (directions order) vs ws
whole [] vs ws p q = refl
whole (o ∷ os) [] ws p q = absurd (omega (arith, p))
whole (o ∷ os) (v ∷ vs) [] p q = absurd (omega (arith, q))
whole (o ∷ os) (v ∷ vs) (w ∷ ws) p q = ap (ordering_then (directed (is_descending o.direction) (value_order v w))) (whole os vs ws (omega arith) (omega arith))

turned : (o : Ordering) → is_gt (ordering_reverse o) ≡ is_lt o
turned Less = refl
turned Equal = refl
turned Greater = refl

module _ (order : List SortItem) where
  after : (x y : List Value × Projected) → length x.0 ≡ length order → length y.0 ≡ length order → is_gt (keys_order order x.0 y.0) ≡ keyed_below (directions order) y x
  after x y p q = ap is_gt (whole order x.0 y.0 p q) ∙ ap is_gt ((key_order_total (directions order)).antisymm x.0 y.0) ∙ turned (key_order (directions order) y.0 x.0)

  inserted : (x : List Value × Projected) (ys : List (List Value × Projected)) → length x.0 ≡ length order → AllLong (length order) ys → insert_keyed order x ys ≡ insert_by (keyed_below (directions order)) x ys
  inserted x [] p a = refl
  inserted x (y ∷ ys) p a = λ i. cond (after x y p a.0 i) (y ∷ inserted x ys p a.1 i) (x ∷ y ∷ ys)

  long_insert : (n : ℕ) (x : List Value × Projected) (ys : List (List Value × Projected)) → length x.0 ≡ n → AllLong n ys → AllLong n (insert_by (keyed_below (directions order)) x ys)
  long_insert n x [] p a = (p, tt)
  long_insert n x (y ∷ ys) p a = by (keyed_below (directions order) y x) (long_insert n x ys p a.1)
    where
      by : (b : Bool) → AllLong n (insert_by (keyed_below (directions order)) x ys) → AllLong n (cond b (y ∷ insert_by (keyed_below (directions order)) x ys) (x ∷ y ∷ ys))
      by true more = (a.0, more)
      by false more = (p, a)

  long_sorted : (n : ℕ) (xs : List (List Value × Projected)) → AllLong n xs → AllLong n (sorted_by (keyed_below (directions order)) xs)
  long_sorted n [] a = tt
  long_sorted n (x ∷ xs) a = long_insert n x (sorted_by (keyed_below (directions order)) xs) a.0 (long_sorted n xs a.1)

  by_keys : (ks : List (List Value × Projected)) → AllLong (length order) ks → sorted_keyed order ks ≡ sorted_by (keyed_below (directions order)) ks
  by_keys [] a = refl
  by_keys (k ∷ ks) a = ap (insert_keyed order k) (by_keys ks a.1) ∙ inserted k (sorted_by (keyed_below (directions order)) ks) a.0 (long_sorted (length order) ks a.1)

pub sorts_by_keys : SortsByKeys
sorts_by_keys order ks a = by_keys order ks a
