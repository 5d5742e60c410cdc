-- The integer that a text spells, by the definition and as the standard library parses it.
use Rattle.std.proofs.Common.{◌≡◌, ◌<◌, ◌≤◌, ◌^◌, ◌*◌, ◌+◌, ◌-◌, ◌==◌, ℕ, zero, suc, ℤ, pos, neg_ℤ, Bool, true, false, List, [], ◌∷◌, length, fold, refl, ap, sym, arith, rules, Result, Ok, Err}
use Rattle.std.proofs.lemmas.Bool.{false≢true, eqb-true, eqb-false}
use Rattle.std.proofs.lemmas.Bool.Decides.{nat_tests}
use Rattle.std.proofs.lemmas.Str.Parse.{IsNumeralModel, numerals_by_fold, parse_signed_plain, parse_signed_plus, parse_signed_minus}
use Rattle.std.specs.Char.{is_ascii_digit}
use Rattle.std.specs.Int.{w64}
use Rattle.std.specs.List.{list_all}
use Rattle.std.specs.Prelude.{if◌then◌else◌}
use Rattle.std.specs.Result.{OkIff}
use Rattle.std.specs.Str.Parse.{ParsesSigned}
use Rattle.pg_meaning.specs.Arithmetic.{is_in_range}
use Rattle.pg_meaning.specs.Functions.{digits_value, spelled_by, integer_in}
use Rattle.pg_meaning.specs.Value.{Value, null, integer}

abbrev AllDigits : List ℕ → Type 0
AllDigits ds = list_all is_ascii_digit ds ≡ true

own : IsNumeralModel AllDigits digits_value
own = numerals_by_fold AllDigits (search rules) (λ n ds. fold (λ m b. 10 * m + (b - 48)) n ds) (search rules)

abbrev pub value_read : {E : Type 0} → Result ℤ E → Value
value_read (Ok i) = integer i
value_read (Err e) = null

judged : {E : Type 0} (r : Result ℤ E) (a b : Bool) (i : ℤ) → OkIff r ((a ≡ true) × (b ≡ true)) i → (if a then (if b then integer i else null) else null) ≡ value_read r
judged (Ok x) true true i h = ap integer (sym h.1)
judged (Ok x) true false i h = absurd (false≢true h.0.1)
judged (Ok x) false b i h = absurd (false≢true h.0.0)
judged (Err e) true true i h = absurd (h (refl, refl))
judged (Err e) true false i h = refl
judged (Err e) false b i h = refl

same_iff : {E : Type 0} (r : Result ℤ E) (P Q : Type 0) (i : ℤ) → (P → Q) → (Q → P) → OkIff r P i → OkIff r Q i
same_iff (Ok x) P Q i to from h = (to h.0, h.1)
same_iff (Err e) P Q i to from h = λ q. h (from q)

nothing_read : {E : Type 0} (r : Result ℤ E) (P : Type 0) (i : ℤ) → (P → ⊥) → OkIff r P i → null ≡ value_read r
nothing_read (Ok x) P i never h = absurd (never h.0)
nothing_read (Err e) P i never h = refl

below : (n : ℕ) → n < 2 ^ 63 → is_in_range (pos n) ≡ true
below n h = grind (arith, nat_tests)

is_below : (n : ℕ) → is_in_range (pos n) ≡ true → n < 2 ^ 63
is_below n h = grind (arith, nat_tests)

above : (n : ℕ) → n ≤ 2 ^ 63 → is_in_range (neg_ℤ (pos n)) ≡ true
above zero h = refl
above (suc n) h = below n (omega arith)

is_above : (n : ℕ) → is_in_range (neg_ℤ (pos n)) ≡ true → n ≤ 2 ^ 63
is_above zero h = omega arith
is_above (suc n) h = let l = is_below n h in omega arith

spelled_plain : {E : Type 0} (ds : List ℕ) (r : Result ℤ E) → OkIff r (AllDigits ds × (0 < length ds) × (digits_value ds < 2 ^ 63)) (pos (digits_value ds)) → spelled_by false ds ≡ value_read r
spelled_plain [] r h = nothing_read r _ _ (λ p. omega (arith, p.1)) h
spelled_plain (d ∷ ds) r h =
    judged r (list_all is_ascii_digit (d ∷ ds)) (is_in_range (pos (digits_value (d ∷ ds)))) _
    (same_iff r _ _ _ (λ p. (p.0, below _ p.2)) (λ q. (q.0, omega arith, is_below _ q.1)) h)

spelled_minus : {E : Type 0} (ds : List ℕ) (r : Result ℤ E) → OkIff r (AllDigits ds × (0 < length ds) × (digits_value ds ≤ 2 ^ 63)) (neg_ℤ (pos (digits_value ds))) → spelled_by true ds ≡ value_read r
spelled_minus [] r h = nothing_read r _ _ (λ p. omega (arith, p.1)) h
spelled_minus (d ∷ ds) r h =
    judged r (list_all is_ascii_digit (d ∷ ds)) (is_in_range (neg_ℤ (pos (digits_value (d ∷ ds))))) _
    (same_iff r _ _ _ (λ p. (p.0, above _ p.2)) (λ q. (q.0, omega arith, is_above _ q.1)) h)

by_sign : {E : Type 0} (b : ℕ) (bs : List ℕ) (r : Result ℤ E) → ParsesSigned w64 10 (b ∷ bs) r → (minus plus : Bool) → (b == 45) ≡ minus → (b == 43) ≡ plus
    → (if minus then spelled_by true bs else (if plus then spelled_by false bs else spelled_by false (b ∷ bs))) ≡ value_read r
by_sign b bs r h true plus m p = spelled_minus bs r (parse_signed_minus own w64 (b ∷ bs) r h (eqb-true b 45 m))
by_sign b bs r h false true m p = spelled_plain bs r (parse_signed_plus own w64 (b ∷ bs) r h (eqb-true b 43 p))
by_sign b bs r h false false m p = spelled_plain (b ∷ bs) r (parse_signed_plain own w64 (b ∷ bs) r h (eqb-false b 43 p) (eqb-false b 45 m))

pub read_integer : {E : Type 0} (bs : List ℕ) (r : Result ℤ E) → ParsesSigned w64 10 bs r → integer_in bs ≡ value_read r
read_integer [] r h = nothing_read r _ _ (λ p. omega (arith, p.1)) (parse_signed_plain own w64 [] r h (λ e. omega (arith, e)) (λ e. omega (arith, e)))
read_integer (b ∷ bs) r h = by_sign b bs r h (b == 45) (b == 43) refl refl
