-- The value of digits.
use Rattle.std.proofs.Common.{◌≡◌, ℕ, suc, ◌+◌, ◌-◌, ◌*◌, ◌<◌, ◌≤◌, ◌||◌, ◌&&◌, Bool, true, false, cond, not, List, [], ◌∷◌, Option, Some, None, refl, sym, ap, ◌∙◌, arith, fold, drop, leb, eqb, get_or, length, drop-cons}
use Rattle.std.proofs.lemmas.Bool.{lt-leb}
use Rattle.pg_meaning.specs.Tokens.{digit_more, numeral_value, greatest_integer, is_digit, run, after, integer_at, integer, Lexeme, Starts, begins_word, is_empty}
use Rattle.pg_lex.proofs.Pairs.{same_pair}
use Rattle.pg_lex.specs.Scans.{small_value, natural_of, digits_front, integer_front}

fold_grows : (n : ℕ) (cs : List ℕ) → n ≤ fold digit_more n cs
fold_grows n [] = omega arith
fold_grows n (c ∷ cs) = omega (arith, fold_grows (digit_more n c) cs)

pub too_large : (ds : List ℕ) (i n : ℕ) → i < length ds → fold digit_more n (drop i ds) ≡ numeral_value ds → greatest_integer < 10 * n + (get_or ds i 0 - 48) → None ≡ small_value ds
too_large ds i n lt e more =
    let step = ap (λ (l : List ℕ). fold digit_more n l) (drop-cons ds i 0 lt) in
    let large : greatest_integer < numeral_value ds = omega (arith, fold_grows (digit_more n (get_or ds i 0)) (drop (suc i) ds), step, e) in
    rw (lt-leb (numeral_value ds) greatest_integer large) refl

-- ---- a numeral with what stands behind it

abbrev as_lexeme : List ℕ → Option ℕ → Option (Lexeme × List ℕ)
as_lexeme more None = None
as_lexeme more (Some n) = Some (integer n, more)

abbrev chosen : Bool → ℕ → List ℕ → Option (Lexeme × List ℕ)
chosen t n more = elim t [ true ↦ Some (integer n, more) | false ↦ None ]

abbrev starts_well : ℕ → List ℕ → Bool
starts_well c ds = not (eqb c 48) || is_empty ds

at_is : (c : ℕ) (ds more : List ℕ) → Starts begins_word more ≡ false → integer_at c ds more ≡ as_lexeme more (natural_of (c ∷ ds))
at_is c ds more h = ap (λ (t : Bool). chosen (starts_well c ds && not t && leb (numeral_value (c ∷ ds)) greatest_integer) (numeral_value (c ∷ ds)) more) h ∙ at (starts_well c ds) (leb (numeral_value (c ∷ ds)) greatest_integer)
  where
    at : (x y : Bool) → chosen (x && true && y) (numeral_value (c ∷ ds)) more ≡ as_lexeme more (cond x (cond y (Some (numeral_value (c ∷ ds))) None) None)
    at true true = refl
    at true false = refl
    at false y = refl

at_none : (c : ℕ) (ds more : List ℕ) → Starts begins_word more ≡ true → integer_at c ds more ≡ None
at_none c ds more h = ap (λ (t : Bool). chosen (starts_well c ds && not t && leb (numeral_value (c ∷ ds)) greatest_integer) (numeral_value (c ∷ ds)) more) h ∙ at (starts_well c ds) (leb (numeral_value (c ∷ ds)) greatest_integer)
  where
    at : (x y : Bool) → chosen (x && false && y) (numeral_value (c ∷ ds)) more ≡ None
    at true y = refl
    at false y = refl

pub integer_is : (cs w more : List ℕ) (o : Option ℕ) → digits_front cs ≡ Some (w, more) → Starts begins_word more ≡ false → o ≡ natural_of w → integer_front cs ≡ as_lexeme more o
integer_is [] w more o e h g = absurd cc
integer_is (c ∷ cs) w more o e h g =
    let p = same_pair (c ∷ run is_digit cs) w (after is_digit cs) more e in
    at_is c (run is_digit cs) (after is_digit cs) (ap (Starts begins_word) p.1 ∙ h) ∙ ap (λ (l : List ℕ). as_lexeme (after is_digit cs) (natural_of l)) p.0 ∙ ap (λ (m : List ℕ). as_lexeme m (natural_of w)) p.1 ∙ ap (as_lexeme more) (sym g)

pub integer_none : (cs w more : List ℕ) → digits_front cs ≡ Some (w, more) → Starts begins_word more ≡ true → integer_front cs ≡ None
integer_none [] w more e h = refl
integer_none (c ∷ cs) w more e h =
    let p = same_pair (c ∷ run is_digit cs) w (after is_digit cs) more e in
    at_none c (run is_digit cs) (after is_digit cs) (ap (Starts begins_word) p.1 ∙ h)
