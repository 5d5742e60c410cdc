-- How many values, characters and elements there are, and the value at a place.
use Rattle.std.proofs.Common.{◌≡◌, ℕ, zero, suc, ◌/◌, ◌<◌, ◌≤◌, List, [], ◌∷◌, length, get_or, refl, ap, sym, arith, rules, ◌-◌, ℤ, pos, negsuc, true}
use Rattle.std.proofs.lemmas.List.Sums.{count_by-le-length, count_by_more_no, count_by_more_yes}
use Rattle.std.proofs.lemmas.Bool.Decides.{nat_tests}
use Rattle.pg_meaning.specs.Functions.{item_count, item_at, path_relationships}
use Rattle.pg_meaning.specs.Value.{null, Values, Value as Datum}
use Rattle.pg_meaning.specs.Expressions.{item_of}
use Rattle.std.specs.Prelude.{int_lt, unsigned_abs, nat_le, if◌then◌else◌}
use Rattle.pg_value_core.specs.View.{view, values_view}
use Rattle.pg_value_core.specs.declared.value.Value.{Value}

pub count_of_items : (xs : List Value) → item_count (values_view xs) ≡ length xs
count_of_items [] = refl
count_of_items (x ∷ xs) = omega (arith, count_of_items xs)

pub ruleset counts = (count_of_items)

pub count_of_path : (ids : List ℕ) → item_count (path_relationships ids) ≡ length ids / 2
count_of_path [] = omega arith
count_of_path (n ∷ []) = omega arith
count_of_path (n ∷ r ∷ ids) = omega (arith, count_of_path ids)

pub read_at : (xs : List Value) (n : ℕ) (x : Value) → n < length xs → x ≡ get_or xs n x → item_at n (values_view xs) ≡ view x
read_at [] n x h e = absurd (omega arith)
read_at (y ∷ xs) zero x h e = ap view (sym e)
read_at (y ∷ xs) (suc n) x h e = read_at xs n x (omega arith) e

pub past_end : (xs : List Value) (n : ℕ) → length xs ≤ n → item_at n (values_view xs) ≡ null
past_end [] n h = refl
past_end (y ∷ xs) zero h = absurd (omega arith)
past_end (y ∷ xs) (suc n) h = past_end xs n (omega arith)

pub ruleset reads = (read_at, past_end)

pub ruleset first_bytes = (count_by-le-length, count_by_more_no, count_by_more_yes)

pub item_from_start : (vs : Values) (i : ℤ) (n : ℕ) → i ≡ pos n → item_of vs i ≡ item_at n vs
item_from_start vs i n e = ap (item_of vs) e

chosen : (a b : ℕ) (v w : Datum) → a ≤ b → (if nat_le a b then v else w) ≡ v
chosen a b v w h = grind (arith, nat_tests)

passed : (a b : ℕ) (v w : Datum) → b < a → (if nat_le a b then v else w) ≡ w
passed a b v w h = grind (arith, nat_tests)

pub item_from_end : (xs : List Value) (i : ℤ) → int_lt i (pos 0) ≡ true → unsigned_abs i ≤ length xs → item_of (values_view xs) i ≡ item_at (length xs - unsigned_abs i) (values_view xs)
item_from_end xs (pos n) h l = absurd (search rules)
item_from_end xs (negsuc n) h l = rw (count_of_items xs) (chosen (suc n) (length xs) _ _ l)

pub before_start : (xs : List Value) (i : ℤ) → int_lt i (pos 0) ≡ true → length xs < unsigned_abs i → item_of (values_view xs) i ≡ null
before_start xs (pos n) h l = absurd (search rules)
before_start xs (negsuc n) h l = rw (count_of_items xs) (passed (suc n) (length xs) _ _ l)

pub ruleset places = (item_from_start, item_from_end, before_start)
