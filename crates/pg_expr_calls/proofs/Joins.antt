-- Lists of values joined, and the data that they stand for.
use Rattle.std.proofs.Common.{◌≡◌, List, [], ◌∷◌, ◌++◌, refl, ap}
use Rattle.pg_meaning.specs.Arithmetic.{appended}
use Rattle.pg_meaning.specs.Value.{item, no_items, Value as Datum, Values}
use Rattle.pg_value_core.specs.View.{view, values_view}
use Rattle.pg_value_core.specs.declared.value.Value.{Value}

pub view_joined : (xs ys : List Value) → values_view (xs ++ ys) ≡ appended (values_view xs) (values_view ys)
view_joined [] ys = refl
view_joined (x ∷ xs) ys = ap (item (view x)) (view_joined xs ys)

-- with the joined list as it was found
pub view_of_joined : (zs xs ys : List Value) → zs ≡ xs ++ ys → values_view zs ≡ appended (values_view xs) (values_view ys)
view_of_joined zs xs ys e = rw e (view_joined xs ys)

-- one value more, and what follows it
pub one_more : (ys xs : List Value) (v : Value) (w : Datum) (ws : Values) → ys ≡ xs ++ (v ∷ []) → view v ≡ w → appended (values_view ys) ws ≡ appended (values_view xs) (item w ws)
one_more ys [] v w ws e same = rw (e, same) refl
one_more ys (x ∷ xs) v w ws e same = rw e (ap (item (view x)) (one_more (xs ++ (v ∷ [])) xs v w ws refl same))

pub none_more : (xs : List Value) → appended (values_view xs) no_items ≡ values_view xs
none_more [] = refl
none_more (x ∷ xs) = ap (item (view x)) (none_more xs)
