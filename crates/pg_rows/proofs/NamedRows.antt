-- Names beside values, as the definitions' rows.
use Rattle.std.proofs.Common.{◌≡◌, ℕ, suc, ◌+◌, Bool, true, false, List, [], ◌∷◌, ◌++◌, map, length, Option, Some, None, refl, sym, ap, ◌∙◌, add-one, arith}
use Rattle.std.proofs.lemmas.Iterator.Adapters.{position_from-zero}
use Rattle.std.specs.List.{position_from}
use Rattle.std.specs.Map.{lookup}
use Rattle.std.specs.Option.{option_and_then}
use Rattle.std.specs.declared.alloc.Global.{Global}
use Rattle.std.specs.Prelude.{String, string_bytes, cond, is_some, option_map, zip, position, bytes_eq, slice_get}
use Rattle.pg_meaning.specs.Rows.{value_in}
use Rattle.pg_meaning.specs.Value.{Value}
use Rattle.pg_rows.specs.Named.{row_of, ValuesStandInColumns, NewColumnsBind, OldColumnsStay, ValuesAreTheRow}

shift_chosen : (b : Bool) (i : ℕ) (o p : Option ℕ) → o ≡ option_map suc p → cond b (Some (i + 1)) o ≡ option_map suc (cond b (Some i) p)
shift_chosen true i o p e = ap Some (add-one i)
shift_chosen false i o p e = e

-- the places from one on are those from the place before, each one further
shift : {K : Type 0} (t : K → Bool) (i : ℕ) (xs : List K) → position_from t (i + 1) xs ≡ option_map suc (position_from t i xs)
shift t i [] = refl
shift t i (x ∷ xs) = shift_chosen (t x) i (position_from t (i + 1 + 1) xs) (position_from t (i + 1) xs) (shift t (i + 1) xs)

none_in_nothing : (o : Option ℕ) → ◌≡◌ {A = Option Value} None (option_and_then (slice_get []) o)
none_in_nothing None = refl
none_in_nothing (Some i) = refl

read_behind : (v : Value) (vs : List Value) (o : Option ℕ) → option_and_then (slice_get vs) o ≡ option_and_then (slice_get (v ∷ vs)) (option_map suc o)
read_behind v vs None = refl
read_behind v vs (Some i) = refl

read_chosen : (b : Bool) (v : Value) (vs : List Value) (found : Option Value) (o : Option ℕ) → found ≡ option_and_then (slice_get (v ∷ vs)) o
    → cond b (Some v) found ≡ option_and_then (slice_get (v ∷ vs)) (cond b (Some 0) o)
read_chosen true v vs found o e = refl
read_chosen false v vs found o e = e

stands : (t : List ℕ → Bool) (names : List (List ℕ)) (values : List Value) → lookup t (zip names values) ≡ option_and_then (slice_get values) (position_from t 0 names)
stands t [] values = refl
stands t (n ∷ ns) [] = none_in_nothing (position_from t 0 (n ∷ ns))
stands t (n ∷ ns) (v ∷ vs) = read_chosen (t n) v vs (lookup t (zip ns vs)) (position_from t 1 ns)
    (stands t ns vs ∙ read_behind v vs (position_from t 0 ns) ∙ ap (option_and_then (slice_get (v ∷ vs))) (sym (shift t 0 ns)))

pub first_place : (name : List ℕ) (names : List (List ℕ)) → position (bytes_eq name) names ≡ position_from (bytes_eq name) 0 names
first_place name names = position_from-zero (bytes_eq name) names

pub values_stand : ValuesStandInColumns
values_stand name names values = stands (bytes_eq name) names values ∙ ap (option_and_then (slice_get values)) (sym (first_place name names))

is_some_shifted : (o : Option ℕ) → is_some o ≡ is_some (option_map suc o)
is_some_shifted None = refl
is_some_shifted (Some i) = refl

is_some_chosen : (b : Bool) (v : Value) (found : Option Value) (o : Option ℕ) → is_some found ≡ is_some o → is_some (cond b (Some v) found) ≡ is_some (cond b (Some 0) o)
is_some_chosen true v found o e = refl
is_some_chosen false v found o e = e

bound_from : (t : List ℕ → Bool) (names : List (List ℕ)) (values : List Value) → length values ≡ length names → is_some (lookup t (zip names values)) ≡ is_some (position_from t 0 names)
bound_from t [] values h = refl
bound_from t (n ∷ ns) [] h = absurd (omega arith)
bound_from t (n ∷ ns) (v ∷ vs) h = let same : length vs ≡ length ns = omega arith in
    is_some_chosen (t n) v (lookup t (zip ns vs)) (position_from t 1 ns) (bound_from t ns vs same ∙ is_some_shifted (position_from t 0 ns) ∙ ap is_some (sym (shift t 0 ns)))

bound : (name : List ℕ) (names : List (List ℕ)) (values : List Value) → length values ≡ length names → is_some (value_in name (row_of names values)) ≡ is_some (position (bytes_eq name) names)
bound name names values h = bound_from (bytes_eq name) names values h ∙ ap is_some (sym (first_place name names))

one_more : (names : List (List ℕ)) (values : List Value) (name : List ℕ) (v : Value) → length values ≡ length names → zip (names ++ name ∷ []) (values ++ v ∷ []) ≡ zip names values ++ (name, v) ∷ []
one_more [] [] name v h = refl
one_more [] (w ∷ ws) name v h = absurd (omega arith)
one_more (n ∷ ns) [] name v h = absurd (omega arith)
one_more (n ∷ ns) (w ∷ ws) name v h = let same : length ws ≡ length ns = omega arith in ap (λ row. (n, w) ∷ row) (one_more ns ws name v same)

pub new_columns : NewColumnsBind
new_columns name names values v h absent =
    ap (λ b. row_of (cond b names (names ++ name ∷ [])) (values ++ v ∷ [])) absent
    ∙ one_more names values name v h
    ∙ sym (ap (λ b. cond b (row_of names values) (row_of names values ++ (name, v) ∷ [])) (bound name names values h ∙ absent))

pub old_columns : OldColumnsStay
old_columns name names values v h there =
    ap (λ b. row_of (cond b names (names ++ name ∷ [])) values) there
    ∙ sym (ap (λ b. cond b (row_of names values) (row_of names values ++ (name, v) ∷ [])) (bound name names values h ∙ there))

pub values_are : ValuesAreTheRow
values_are [] [] h = refl
values_are [] (v ∷ vs) h = absurd (omega arith)
values_are (n ∷ ns) [] h = absurd (omega arith)
values_are (n ∷ ns) (v ∷ vs) h = let same : length vs ≡ length ns = omega arith in ap (λ ws. v ∷ ws) (values_are ns vs same)

from_mapped : {X : Type 0} (t : List ℕ → Bool) (f : X → List ℕ) (i : ℕ) (xs : List X) → position_from t i (map f xs) ≡ position_from (λ x. t (f x)) i xs
from_mapped t f i [] = refl
from_mapped t f i (x ∷ xs) = ap (cond (t (f x)) (Some i)) (from_mapped t f (i + 1) xs)

abbrev pub is_named : List ℕ → String Global → Bool
is_named name held = bytes_eq name (string_bytes held)

pub first_named : (name : List ℕ) (held : List (String Global)) → position (bytes_eq name) (map string_bytes held) ≡ position_from (is_named name) 0 held
first_named name held = first_place name (map string_bytes held) ∙ from_mapped (bytes_eq name) string_bytes 0 held
