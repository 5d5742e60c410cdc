-- Four hexadecimal digits, one after the other.
use Rattle.std.proofs.Common.{◌≡◌, ◌<◌, ℕ, ◌+◌, ◌*◌, List, Some, None, refl, arith}
use Rattle.std.proofs.lemmas.Bool.Decides.{nat_tests}
use Rattle.std.specs.Char.{InScalarRange, OutOfScalarRange}
use Rattle.pg_lex.specs.Scans.{coded_front, hexadecimal_front, with_rest, character_of}

module _ (text : List ℕ) where
  pub no_first : hexadecimal_front text ≡ None → coded_front text ≡ None
  no_first h = rw h refl

  module _ (a : ℕ) (xs : List ℕ) (first : hexadecimal_front text ≡ Some (a, xs)) where
    pub no_second : hexadecimal_front xs ≡ None → coded_front text ≡ None
    no_second h = rw (first, h) refl

    module _ (b : ℕ) (ys : List ℕ) (second : hexadecimal_front xs ≡ Some (b, ys)) where
      pub no_third : hexadecimal_front ys ≡ None → coded_front text ≡ None
      no_third h = rw (first, second, h) refl

      module _ (c : ℕ) (zs : List ℕ) (third : hexadecimal_front ys ≡ Some (c, zs)) where
        pub no_fourth : hexadecimal_front zs ≡ None → coded_front text ≡ None
        no_fourth h = rw (first, second, third, h) refl

        pub all_four : (d : ℕ) (rest : List ℕ) → hexadecimal_front zs ≡ Some (d, rest) → coded_front text ≡ with_rest rest (character_of (((a * 16 + b) * 16 + c) * 16 + d))
        all_four d rest h = rw (first, second, third, h) refl

module _ (code : ℕ) (rest : List ℕ) where
  pub is_character : (c : ℕ) → InScalarRange code → c ≡ code → with_rest rest (character_of code) ≡ Some (c, rest)
  is_character c inside same = grind (arith, nat_tests)

  pub no_character : OutOfScalarRange code → code < 0x11_0000 → with_rest rest (character_of code) ≡ None
  no_character outside small = grind (arith, nat_tests)
