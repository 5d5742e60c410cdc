-- The number that a text writes in digits, by the definition and as the standard library parses it.
use Rattle.std.proofs.Common.{◌≡◌, ◌<◌, ◌^◌, ℕ, Bool, true, false, List, length, refl, ap, arith, Some, None, Result, Ok, Err}
use Rattle.std.proofs.lemmas.Bool.{false≢true, eqb-false}
use Rattle.std.proofs.lemmas.Bool.Decides.{nat_tests}
use Rattle.std.proofs.lemmas.Str.Parse.{IsNumeralModel, numerals_by_value, parse_plain, tells_all_ascii_digits}
use Rattle.std.specs.Prelude.{◌==◌, ◌&&◌, nat_lt, if◌then◌else◌, slice_index}
use Rattle.std.specs.Result.{OkIff, result_ok}
use Rattle.std.specs.Str.{all_ascii_digits}
use Rattle.std.specs.Str.Parse.{ParsesUnsigned, digits_value}
use Rattle.graphd.specs.Commands.{number_in}

own : IsNumeralModel (λ ds. all_ascii_digits ds ≡ true) (digits_value 10)
own = numerals_by_value _ tells_all_ascii_digits

judged : {E : Type 0} (r : Result ℕ E) (some digits fits : Bool) (n : ℕ) → OkIff r ((some ≡ true) × (digits ≡ true) × (fits ≡ true)) n → result_ok r ≡ (if (some && digits) && fits then Some n else None)
judged (Ok x) true true true n h = ap Some h.1
judged (Ok x) true true false n h = absurd (false≢true h.0.2)
judged (Ok x) true false fits n h = absurd (false≢true h.0.1)
judged (Ok x) false digits fits n h = absurd (false≢true h.0.0)
judged (Err e) true true true n h = absurd (h (refl, refl, refl))
judged (Err e) true true false n h = refl
judged (Err e) true false fits n h = refl
judged (Err e) false digits fits n h = refl

same_iff : {E : Type 0} (r : Result ℕ E) (P Q : Type 0) (n : ℕ) → (P → Q) → (Q → P) → OkIff r P n → OkIff r Q n
same_iff (Ok x) P Q n to from h = (to h.0, h.1)
same_iff (Err e) P Q n to from h = λ q. h (from q)

below : (n m : ℕ) → n < m → nat_lt n m ≡ true
below n m h = grind (arith, nat_tests)

is_below : (n m : ℕ) → nat_lt n m ≡ true → n < m
is_below n m h = grind (arith, nat_tests)

pub read_number : {E : Type 0} (k : ℕ) (text : List ℕ) (r : Result ℕ E) → ParsesUnsigned k 10 text r → (slice_index text 0 == 43) ≡ false → result_ok r ≡ number_in (2 ^ k) text
read_number k text r parsed has_no_plus =
    judged r (nat_lt 0 (length text)) (all_ascii_digits text) (nat_lt (digits_value 10 text) (2 ^ k)) (digits_value 10 text)
    (same_iff r _ _ _ (λ p. (below _ _ p.1, p.0, below _ _ p.2)) (λ q. (q.1, is_below _ _ q.0, is_below _ _ q.2))
    (parse_plain own k text r parsed (eqb-false _ 43 has_no_plus)))
