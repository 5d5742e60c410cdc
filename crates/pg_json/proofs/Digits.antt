-- How many digits a number has.
use Rattle.std.proofs.Common.{◌≡◌, ℕ, ◌+◌, ◌*◌, ◌/◌, ◌%◌, ◌^◌, ◌<◌, ◌≤◌, List, [], ◌∷◌, ◌++◌, length, decimal, length-append, arith, refl}
use Rattle.std.specs.Fmt.{digits}
use Rattle.std.proofs.Math.Nat.{pow-le-pow_right}
use Rattle.std.proofs.lemmas.Fmt.{decimal_by_steps, length-decimal-le}
use Rattle.std.proofs.lemmas.Grind.{pow_more}

one_digit : (n : ℕ) → n < 10 → n < 10 ^ length ((48 + n) ∷ [])
one_digit n small = omega arith

one_more_digit : (n d : ℕ) (ds : List ℕ) → n / 10 < 10 ^ length ds → n < 10 ^ length (ds ++ d ∷ [])
one_more_digit n d ds before = rw (length-append, pow_more) (omega arith)

below_power : (n : ℕ) → n < 2 ^ 64 → n < 10 ^ length (decimal n)
below_power = decimal_by_steps (λ n ds. n < 10 ^ length ds) one_digit (λ n ds _ before. one_more_digit n (48 + n % 10) ds before)

pub digits_between : (k n : ℕ) → 10 ^ k ≤ n → n < 10 * 10 ^ k → n < 2 ^ 64 → k + 1 ≡ length (decimal n)
digits_between k n low high fits =
    let few : length (decimal n) ≤ k + 1 = length-decimal-le (k + 1) n (omega arith) (rw pow_more (omega arith)) fits in
    let above = below_power n fits in
    let grows : length (decimal n) ≤ k → 10 ^ length (decimal n) ≤ 10 ^ k = λ h. pow-le-pow_right {n = 10} (omega arith) h in
    grind (arith, grows)

pub digits_of_zero : (n : ℕ) → n ≡ 0 → 1 ≡ length (decimal n)
unfolding digits
digits_of_zero n e = rw e refl

pub few_digits : (n : ℕ) → n < 2 ^ 64 → length (decimal n) ≤ 20
few_digits n fits = length-decimal-le 20 n (omega arith) (omega arith) fits
