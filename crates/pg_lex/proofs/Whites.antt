-- Whitespace begins no word.
use Rattle.std.proofs.Common.{◌≡◌, ℕ, zero, suc, ◌+◌, ◌-◌, ◌<◌, ◌≤◌, inl, inr, Bool, true, false, not, ◌&&◌, ◌||◌, eqb, ltb, refl, sym, subst, arith}
use Rattle.std.specs.Char.{is_whitespace}
use Rattle.std.proofs.lemmas.Bool.{and_parts, or_cases, cases_eq, ltb-true, eqb-true, not-true}
use Rattle.unicode_ident.proofs.Computing.{unicode_ident}
use Rattle.pg_meaning.specs.Tokens.{begins_word}

abbrev pub all_from : (ℕ → Bool) → ℕ → ℕ → Bool
all_from p low zero = true
all_from p low (suc n) = p low && all_from p (suc low) n

pub at_each : (p : ℕ → Bool) (low n c : ℕ) → all_from p low n ≡ true → low ≤ c → c < low + n → p c ≡ true
at_each p low zero c h le lt = absurd (omega arith)
at_each p low (suc n) c h le lt =
    let a = and_parts (p low) (all_from p (suc low) n) h in
    elim (cases_eq low c) [ inl e ↦ subst (λ (x : ℕ). p x ≡ true) e a.0 | inr other ↦ at_each p (suc low) n c a.1 (omega (arith, other)) (omega arith) ]

abbrev pub begins_none : ℕ → Bool
begins_none c = not (begins_word c)

at_code : (c n : ℕ) → begins_none n ≡ true → eqb c n ≡ true → begins_none c ≡ true
at_code c n h e = subst (λ (x : ℕ). begins_none x ≡ true) (sym (eqb-true c n e)) h

in_range : (c low n : ℕ) → all_from begins_none low n ≡ true → (ltb (low - 1) c && ltb c (low + n)) ≡ true → begins_none c ≡ true
in_range c low n h e = let a = and_parts (ltb (low - 1) c) (ltb c (low + n)) e in at_each begins_none low n c h (omega (arith, ltb-true (low - 1) c a.0)) (ltb-true c (low + n) a.1)

either : (x y : Bool) {z : Bool} → (x ≡ true → z ≡ true) → (y ≡ true → z ≡ true) → (x || y) ≡ true → z ≡ true
either x y f g h = elim (or_cases x y h) [ inl e ↦ f e | inr e ↦ g e ]

abbrev white_0 : ℕ → Bool
white_0 c = (ltb 8 c && ltb c 14)

abbrev white_1 : ℕ → Bool
white_1 c = white_0 c || eqb c 32

abbrev white_2 : ℕ → Bool
white_2 c = white_1 c || eqb c 133

abbrev white_3 : ℕ → Bool
white_3 c = white_2 c || eqb c 160

abbrev white_4 : ℕ → Bool
white_4 c = white_3 c || eqb c 5760

abbrev white_5 : ℕ → Bool
white_5 c = white_4 c || (ltb 8191 c && ltb c 8203)

abbrev white_6 : ℕ → Bool
white_6 c = white_5 c || eqb c 8232

abbrev white_7 : ℕ → Bool
white_7 c = white_6 c || eqb c 8233

abbrev white_8 : ℕ → Bool
white_8 c = white_7 c || eqb c 8239

abbrev white_9 : ℕ → Bool
white_9 c = white_8 c || eqb c 8287

none : (c : ℕ) → is_whitespace c ≡ true → begins_none c ≡ true
unfolding unicode_ident
none c = (either (white_9 c) (eqb c 12288) (either (white_8 c) (eqb c 8287) (either (white_7 c) (eqb c 8239) (either (white_6 c) (eqb c 8233) (either (white_5 c) (eqb c 8232) (either (white_4 c) ((ltb 8191 c && ltb c 8203)) (either (white_3 c) (eqb c 5760) (either (white_2 c) (eqb c 160) (either (white_1 c) (eqb c 133) (either (white_0 c) (eqb c 32) (in_range c 9 5 refl) (at_code c 32 refl)) (at_code c 133 refl)) (at_code c 160 refl)) (at_code c 5760 refl)) (in_range c 8192 11 refl)) (at_code c 8232 refl)) (at_code c 8233 refl)) (at_code c 8239 refl)) (at_code c 8287 refl)) (at_code c 12288 refl))

pub white_no_word : (c : ℕ) → is_whitespace c ≡ true → begins_word c ≡ false
white_no_word c h = not-true (begins_word c) (none c h)
