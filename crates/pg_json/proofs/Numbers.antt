-- The number that digits alone write.
use Rattle.std.proofs.Common.{◌≡◌, ℕ, ◌+◌, ◌-◌, ◌*◌, ◌^◌, ◌<◌, ◌≤◌, List, [], ◌∷◌, ◌++◌, length, get_or, take, false, Some, sym, ap, ◌∙◌, refl, arith, add-one, append-nil, length-take, lt-ltb, ne_eqb}
use Rattle.std.proofs.Math.Nat.{pow-le-pow_right}
use Rattle.std.proofs.Math.Seq.{take-suc}
use Rattle.std.proofs.lemmas.Int.Digits.{digits_value-lt, digits_value_more}
use Rattle.std.proofs.lemmas.Str.{digit_value_digit}
use Rattle.std.specs.Char.{digit_value}
use Rattle.std.specs.Int.{IsInRange}
use Rattle.std.specs.Str.Parse.{AllDigits, IsNumeral, digits_value}
use Rattle.fast_float.specs.Text.{Parts, IsWellFormed}
use Rattle.fast_float.proofs.Writing.{scan-text_of}
use Rattle.serde_json.specs.Data.{unsigned}
use Rattle.serde_json.specs.Read.{number_of, number_from}

-- ---- digits so far

digits_then : (ds : List ℕ) (c : ℕ) → AllDigits 10 ds → digit_value c < 10 → AllDigits 10 (ds ++ c ∷ [])
digits_then [] c h d = (d, tt)
digits_then (x ∷ xs) c h d = (h.0, digits_then xs c h.1 d)

module _ (bs : List ℕ) (i : ℕ) (so_far : AllDigits 10 (take i bs)) where
  value_below : digits_value 10 (take i bs) < 10 ^ i
  value_below =
      let short : length (take i bs) ≤ i = omega (arith, length-take i bs) in
      omega (arith, digits_value-lt 10 (take i bs) so_far, pow-le-pow_right {n = 10} (omega arith) short)

  -- 18 digits stay below 2 ^ 63
  pub value_fits : i ≤ 18 → digits_value 10 (take i bs) < 2 ^ 63
  value_fits few = omega (arith, value_below, pow-le-pow_right {n = 10} (omega arith) few)

  pub value_may_grow : i < 18 → digits_value 10 (take i bs) * 10 + 10 < 2 ^ 63
  value_may_grow few =
      let least : i ≤ 17 = omega arith in
      omega (arith, value_below, pow-le-pow_right {n = 10} (omega arith) least)

  module _ (inside : i < length bs) (digit : IsInRange 48 57 (get_or bs i 0)) where
    pub one_more_digit : AllDigits 10 (take (i + 1) bs)
    one_more_digit = rw (add-one, take-suc bs i 0 inside) (digits_then (take i bs) (get_or bs i 0) so_far (omega (arith, digit_value_digit (get_or bs i 0) digit)))

    pub value_of_one_more : digits_value 10 (take i bs) * 10 + (get_or bs i 0 - 48) ≡ digits_value 10 (take (i + 1) bs)
    value_of_one_more = omega (arith, digits_value_more 10 bs i inside, digit_value_digit (get_or bs i 0) digit)

-- ---- digits alone

abbrev digits : List ℕ → Parts
digits ds = record { whole = ds; point = false; fraction = []; exponent_negative = false; exponent = []; len = length (ds ++ []) }

no_minus : (ds rest : List ℕ) → AllDigits 10 ds → 0 < length ds → get_or (ds ++ rest) 0 0 ≡ 45 → ⊥
no_minus [] rest h some e = omega arith
no_minus (d ∷ ds) rest h some e = let digit : digit_value d < 10 = h.0 in let is : d ≡ 45 = e in grind arith

pub number_of-digits : (ds : List ℕ) → IsNumeral 10 ds → digits_value 10 ds < 2 ^ 63 → number_of ds ≡ Some (unsigned (digits_value 10 ds))
unfolding number_of
number_of-digits ds h small =
    let some = h.0 in
    let fits : digits_value 10 ds < 2 ^ 64 = omega arith in
    let formed : IsWellFormed (digits ds) = record { whole_digits = h.1; fraction_digits = tt; exponent_digits = tt; no_point = λ _. refl; no_exponent = λ _. refl; len_is = refl } in
    let read : number_of (ds ++ []) ≡ number_from false (digits ds) = rw (ne_eqb (get_or (ds ++ []) 0 0) 45 (no_minus ds [] h.1 some)) (ap (number_from false) (scan-text_of (digits ds) formed)) in
    ap number_of (sym (append-nil ds)) ∙ read ∙ rw (lt-ltb 0 _ some, append-nil, lt-ltb _ _ fits)
