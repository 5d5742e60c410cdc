-- Keys told apart by the program and by the definitions.
use Rattle.std.proofs.Common.{◌≡◌, ◌+◌, ◌&&◌, not, cond, List, [], ◌∷◌, map, refl, ap}
use Rattle.std.specs.Cmp.Lexicographic.{pointwise}
use Rattle.std.specs.List.{position_or_len}
use Rattle.std.specs.Ordering.{on, eq_by_cmp}
use Rattle.std.specs.Global.{Vec}
use Rattle.pg_meaning.specs.Order.{value_order, is_equivalent}
use Rattle.pg_meaning.specs.Projections.{same_values}
use Rattle.pg_value_core.specs.View.{view}
use Rattle.pg_value_core.specs.declared.value.Value.{Value}
use Rattle.pg_rows.specs.Groups.{keys_view, group_number}

pub same_as : (xs ys : List Value) → pointwise (on view (eq_by_cmp value_order)) xs ys ≡ same_values (map view xs) (map view ys)
same_as [] [] = refl
same_as [] (y ∷ ys) = refl
same_as (x ∷ xs) [] = refl
same_as (x ∷ xs) (y ∷ ys) = ap (λ b. is_equivalent (view x) (view y) && b) (same_as xs ys)

module _ (key : List Value) where
  pub number_is : (ks : List (Vec Value)) → position_or_len (λ k. pointwise (on view (eq_by_cmp value_order)) key k.items) ks ≡ group_number (keys_view ks) (map view key)
  number_is [] = refl
  number_is (k ∷ ks) = λ i. cond (not (same_as key k.items i)) (1 + number_is ks i) 0
