-- What stands before an expression: NOTs, and signs.
use Rattle.std.proofs.Common.{◌≡◌, ℕ, zero, suc, Bool, true, false, List, [], ◌∷◌, ◌++◌, length, map, replicate, refl, sym, ap, subst, inl, inr, arith}
use Rattle.std.proofs.Math.Nat.{eq-or-lt_of_le}
use Rattle.std.proofs.lemmas.List.{length-replicate}
use Rattle.std.specs.List.{AllByRecursion}
use Rattle.pg_meaning.specs.declared.lexemes.Keyword.TheVariants as k
use Rattle.pg_meaning.specs.declared.lexemes.Symbol.TheVariants as s
use Rattle.pg_meaning.specs.Tokens.{Token}
use Rattle.pg_meaning.specs.Tree.{Expression}
use Rattle.pg_meaning.specs.Tree as tree
use Rattle.pg_meaning.specs.Grammar.{Mark, key, sign, concatenated, sign_marks, level, marks, Fit, IsWellFormed}
use Rattle.pg_meaning.specs.Parse as parse
use Rattle.pg_meaning.specs.Parse.{Parser, ◌>>=◌, pure, many, sees_symbol, sees_keyword, keyword, begins_sign, one_sign, signed, negated}
use Rattle.pg_grammar.specs.Rules.{Exactly, Anything, Spelled, Exact}
use Rattle.pg_grammar.proofs.Chains.{chain_levels}
use Rattle.pg_grammar.proofs.Combinators.{Fitting, Free, Is, Sequence, Made, fitting, restated, narrowed, sequence_exact, made_exact, rows_exact, choice_exact, symbol_exact, keyword_exact, keyword_begins, all_free, sequence_fits, sequence_of}
use Rattle.pg_grammar.proofs.Openings.{begun_with, keyword_looser, symbol_looser}
use Rattle.pg_grammar.proofs.Terminals.{symbol_seen}

-- ---- NOT

abbrev not_marks : List (Unit {0}) → List Mark
not_marks us = concatenated (map (λ u. key k.Not ∷ []) us)

nots_are : (us : List (Unit {0})) → not_marks us ≡ replicate (length us) (key k.Not)
nots_are [] = refl
nots_are (u ∷ us) = ap (λ (ms : List Mark). key k.Not ∷ ms) (nots_are us)

nots_of : (n : ℕ) → not_marks (replicate n tt) ≡ replicate n (key k.Not)
nots_of zero = refl
nots_of (suc n) = ap (λ (ms : List Mark). key k.Not ∷ ms) (nots_of n)

abbrev NotLed : Expression → List Token → Type 0
NotLed = Sequence (Fitting (AllByRecursion Free) not_marks) (λ us. Made (negated us) (Spelled 5))

negation_made : (a : Expression) (front : List Token) → NotLed a front → Spelled 4 a front
negation_made a front h = subst (λ x. Spelled 4 x front) (sym h.second.is) (by h.value h.first.fits)
  where
    by : (us : List (Unit {0})) → Fit h.f (not_marks us) → Spelled 4 (negated us h.second.value) front
    by [] fits = let v = h.second.inner in record { well = v.well; tight = omega (arith, v.tight); fits = sequence_fits h [] (marks h.second.value) fits v.fits }
    by (u ∷ us) fits =
        let v = h.second.inner in
        record { well = (omega arith, v.well, v.tight); tight = omega arith; fits = sequence_fits h (replicate (length (u ∷ us)) (key k.Not)) (marks h.second.value) (rw (← nots_are (u ∷ us)) fits) v.fits }

negation_of : (a : Expression) (front : List Token) → IsWellFormed a → Fit front (marks a) → level a ≡ 4 → NotLed a front
negation_of (tree.negation zero x) front well fits is = absurd (omega (arith, well.0))
negation_of (tree.negation (suc n) x) front well fits is =
    let us : List (Unit {0}) = replicate (suc n) tt in
    let size : length us ≡ suc n = length-replicate (suc n) tt in
    sequence_of us (replicate (suc n) (key k.Not)) (marks x) fits (λ f p. fitting (all_free us) (rw (nots_of (suc n)) p))
    (λ g p. record { value = x; is = ap (λ (m : ℕ). tree.negation m x) (sym size); inner = record { well = well.1; tight = well.2; fits = p } })
negation_of (tree.chain x os) front well fits is = absurd (omega (arith, chain_levels os))
negation_of _ front well fits is = absurd (omega arith)

negation_led : (a : Expression) (front : List Token) → Spelled 4 a front → NotLed a front
negation_led a front h =
    elim (eq-or-lt_of_le h.tight) [
      | inl e ↦ negation_of a front h.well h.fits (sym e)
      | inr less ↦ record { value = []; f = []; g = front; whole = refl; first = fitting tt tt; second = record { value = a; is = refl; inner = record { well = h.well; tight = less; fits = h.fits } } }
    ]

pub negation_exact : (limit : ℕ) (operand : Parser Expression) → Exact limit 5 operand → Exact limit 4 (many (sees_keyword k.Not) (keyword k.Not) [] >>= λ us. operand >>= λ x. pure (negated us x))
negation_exact limit operand exact =
    restated
    (sequence_exact (rows_exact (sees_keyword k.Not) refl (restated (keyword_exact k.Not limit) (λ u front h. fitting tt h) (λ u front h. h.fits) (λ more h. h)) (λ u front more h. keyword_begins k.Not [] front more h.fits) (λ more h. (h, tt)) (λ more h. tt))
    (λ us. made_exact (negated us) (narrowed exact (λ more ends. omega arith)))
    (λ us c y more h ends. let x = h.inner in keyword_looser k.Not h.value y more (λ w. x.tight) (begun_with h.value y x.well x.fits)))
    negation_made negation_led (λ more ends. ends)

-- ---- signs

abbrev sign_mark : Bool → Mark
sign_mark true = sign s.Minus
sign_mark false = sign s.Plus

abbrev all_signs : List Bool → List Mark
all_signs bs = concatenated (map (λ b. sign_mark b ∷ []) bs)

signs_are : (bs : List Bool) → all_signs bs ≡ sign_marks bs
signs_are [] = refl
signs_are (true ∷ bs) = ap (λ (ms : List Mark). sign s.Minus ∷ ms) (signs_are bs)
signs_are (false ∷ bs) = ap (λ (ms : List Mark). sign s.Plus ∷ ms) (signs_are bs)

sign_exact : (limit : ℕ) → Exactly limit one_sign (Is sign_mark) Anything
unfolding parse.same_symbol
sign_exact limit = choice_exact (sees_symbol s.Minus) sign_mark (symbol_exact s.Minus) (symbol_exact s.Plus) (λ t more h. symbol_seen s.Minus t more h) (λ t more h. rw h.spelled refl)

sign_first : (b : Bool) (front more : List Token) → Is sign_mark b front → begins_sign (front ++ more) ≡ true
unfolding parse.same_symbol
sign_first b [] more h = absurd h.fits
sign_first true (t ∷ front) more h = rw h.fits.0.spelled refl
sign_first false (t ∷ front) more h = rw h.fits.0.spelled refl

abbrev SignLed : Expression → List Token → Type 0
SignLed = Sequence (Fitting (AllByRecursion Free) all_signs) (λ bs. Made (signed bs) (Spelled 10))

signs_spelled : (a : Expression) (front : List Token) → SignLed a front → Spelled 9 a front
signs_spelled a front h = subst (λ x. Spelled 9 x front) (sym h.second.is) (by h.value h.first.fits)
  where
    by : (bs : List Bool) → Fit h.f (all_signs bs) → Spelled 9 (signed bs h.second.value) front
    by [] fits = let v = h.second.inner in record { well = v.well; tight = omega (arith, v.tight); fits = sequence_fits h [] (marks h.second.value) fits v.fits }
    by (b ∷ bs) fits =
        let v = h.second.inner in
        record { well = (tt, v.well, v.tight); tight = omega arith; fits = sequence_fits h (sign_marks (b ∷ bs)) (marks h.second.value) (rw (← signs_are (b ∷ bs)) fits) v.fits }

signed_of : (a : Expression) (front : List Token) → IsWellFormed a → Fit front (marks a) → level a ≡ 9 → SignLed a front
signed_of (tree.signs [] x) front well fits is = absurd well.0
signed_of (tree.signs (b ∷ bs) x) front well fits is =
    sequence_of (b ∷ bs) (sign_marks (b ∷ bs)) (marks x) fits (λ f p. fitting (all_free (b ∷ bs)) (rw (signs_are (b ∷ bs)) p)) (λ g p. record { value = x; is = refl; inner = record { well = well.1; tight = well.2; fits = p } })
signed_of (tree.chain x os) front well fits is = absurd (omega (arith, chain_levels os))
signed_of _ front well fits is = absurd (omega arith)

signs_led : (a : Expression) (front : List Token) → Spelled 9 a front → SignLed a front
signs_led a front h =
    elim (eq-or-lt_of_le h.tight) [
      | inl e ↦ signed_of a front h.well h.fits (sym e)
      | inr less ↦ record { value = []; f = []; g = front; whole = refl; first = fitting tt tt; second = record { value = a; is = refl; inner = record { well = h.well; tight = less; fits = h.fits } } }
    ]

no_sign : (x : Expression) (front more : List Token) → Spelled 10 x front → begins_sign (front ++ more) ≡ false
no_sign x front more h =
    let b = begun_with x front h.well h.fits in
    rw (symbol_looser s.Plus x front more h.tight b, symbol_looser s.Minus x front more h.tight b) refl

pub signs_exact : (limit : ℕ) (operand : Parser Expression) → Exact limit 10 operand → Exact limit 9 (many begins_sign one_sign [] >>= λ bs. operand >>= λ x. pure (signed bs x))
signs_exact limit operand exact =
    restated
    (sequence_exact (rows_exact begins_sign refl (sign_exact limit) sign_first (λ more h. (h, tt)) (λ more h. tt)) (λ bs. made_exact (signed bs) (narrowed exact (λ more ends. omega arith))) (λ bs c y more h ends. no_sign h.value y more h.inner))
    signs_spelled signs_led (λ more ends. ends)
