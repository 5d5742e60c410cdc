-- The class of a first character.
use Rattle.std.proofs.Common.{◌≡◌, ℕ, ◌≤◌, Bool, true, false, cond, ◌⊎◌, inl, inr, ◌||◌, eqb, leb, List, [], ◌∷◌, refl, ap, sym, ◌∙◌, arith}
use Rattle.std.proofs.lemmas.Bool.{eqb-true, leb-true, and_parts, or_cases, not-true}
use Rattle.pg_lex.proofs.Whites.{at_each, begins_none}
use Rattle.pg_meaning.specs.declared.lexemes.Symbol.{Symbol}
use Rattle.pg_meaning.specs.declared.lexemes.Symbol.TheVariants as s
use Rattle.pg_meaning.specs.Tokens.{class, Class, letter, digit, backquote, quotation, dollar, other, lexeme_at, lexeme_by, Lexeme, word, keyword, quoted_name, integer, string, parameter, symbol, symbol_text, symbol_among, symbols, begins_word, is_digit, Spells}

pub other_is : (cs b : List ℕ) (c : ℕ) → cs ≡ c ∷ b → class c ≡ other → lexeme_at cs ≡ symbol_among symbols cs
other_is cs b c e h = ap lexeme_at e ∙ ap (λ (k : Class). lexeme_by k c b) h ∙ ap (symbol_among symbols) (sym e)

-- ---- from the class to the tests

abbrev class_by : Bool → Bool → Bool → Bool → Bool → Class
class_by b d e f g = cond b letter (cond d digit (cond e backquote (cond f quotation (cond g dollar other))))

by_letter : (b d e f g : Bool) → class_by b d e f g ≡ letter → b ≡ true
by_letter true d e f g h = refl
by_letter false true e f g h = absurd cc
by_letter false false true f g h = absurd cc
by_letter false false false true g h = absurd cc
by_letter false false false false true h = absurd cc
by_letter false false false false false h = absurd cc

by_digit : (b d e f g : Bool) → class_by b d e f g ≡ digit → (b ≡ false) × (d ≡ true)
by_digit true d e f g h = absurd cc
by_digit false true e f g h = (refl, refl)
by_digit false false true f g h = absurd cc
by_digit false false false true g h = absurd cc
by_digit false false false false true h = absurd cc
by_digit false false false false false h = absurd cc

by_backquote : (b d e f g : Bool) → class_by b d e f g ≡ backquote → (b ≡ false) × (d ≡ false) × (e ≡ true)
by_backquote true d e f g h = absurd cc
by_backquote false true e f g h = absurd cc
by_backquote false false true f g h = (refl, refl, refl)
by_backquote false false false true g h = absurd cc
by_backquote false false false false true h = absurd cc
by_backquote false false false false false h = absurd cc

by_quotation : (b d e f g : Bool) → class_by b d e f g ≡ quotation → (b ≡ false) × (d ≡ false) × (e ≡ false) × (f ≡ true)
by_quotation true d e f g h = absurd cc
by_quotation false true e f g h = absurd cc
by_quotation false false true f g h = absurd cc
by_quotation false false false true g h = (refl, refl, refl, refl)
by_quotation false false false false true h = absurd cc
by_quotation false false false false false h = absurd cc

by_dollar : (b d e f g : Bool) → class_by b d e f g ≡ dollar → (b ≡ false) × (d ≡ false) × (e ≡ false) × (f ≡ false) × (g ≡ true)
by_dollar true d e f g h = absurd cc
by_dollar false true e f g h = absurd cc
by_dollar false false true f g h = absurd cc
by_dollar false false false true g h = absurd cc
by_dollar false false false false true h = (refl, refl, refl, refl, refl)
by_dollar false false false false false h = absurd cc

pub letter_begins : (c : ℕ) → class c ≡ letter → begins_word c ≡ true
letter_begins c h = by_letter (begins_word c) (is_digit c) (eqb c 96) (eqb c 39 || eqb c 34) (eqb c 36) h

pub digit_is : (c : ℕ) → class c ≡ digit → is_digit c ≡ true
digit_is c h = (by_digit (begins_word c) (is_digit c) (eqb c 96) (eqb c 39 || eqb c 34) (eqb c 36) h).1

pub backquote_is : (c : ℕ) → class c ≡ backquote → c ≡ 96
backquote_is c h = eqb-true c 96 (by_backquote (begins_word c) (is_digit c) (eqb c 96) (eqb c 39 || eqb c 34) (eqb c 36) h).2

pub quotation_is : (c : ℕ) → class c ≡ quotation → (c ≡ 39) ⊎ (c ≡ 34)
quotation_is c h = elim (or_cases (eqb c 39) (eqb c 34) (by_quotation (begins_word c) (is_digit c) (eqb c 96) (eqb c 39 || eqb c 34) (eqb c 36) h).3) [ inl e ↦ inl (eqb-true c 39 e) | inr e ↦ inr (eqb-true c 34 e) ]

pub dollar_is : (c : ℕ) → class c ≡ dollar → c ≡ 36
dollar_is c h = eqb-true c 36 (by_dollar (begins_word c) (is_digit c) (eqb c 96) (eqb c 39 || eqb c 34) (eqb c 36) h).4

-- ---- from what a lexeme begins with to its class

pub class_letter : (c : ℕ) → begins_word c ≡ true → class c ≡ letter
class_letter c h = ap (λ (t : Bool). class_by t (is_digit c) (eqb c 96) (eqb c 39 || eqb c 34) (eqb c 36)) h

pub digit_bounds : (c : ℕ) → is_digit c ≡ true → (48 ≤ c) × (c ≤ 57)
digit_bounds c h = let a = and_parts (leb 48 c) (leb c 57) h in (leb-true 48 c a.0, leb-true c 57 a.1)

pub digit_no_letter : (c : ℕ) → is_digit c ≡ true → begins_word c ≡ false
digit_no_letter c h = let b = digit_bounds c h in not-true (begins_word c) (at_each begins_none 48 10 c refl b.0 (omega (arith, b.1)))

pub class_digit : (c : ℕ) → is_digit c ≡ true → class c ≡ digit
class_digit c h = ap (λ (t : Bool). class_by t (is_digit c) (eqb c 96) (eqb c 39 || eqb c 34) (eqb c 36)) (digit_no_letter c h) ∙ ap (λ (t : Bool). class_by false t (eqb c 96) (eqb c 39 || eqb c 34) (eqb c 36)) h

class_at : (c n : ℕ) → c ≡ n → class c ≡ class n
class_at c n e = ap class e

heads : (c n : ℕ) (f g : List ℕ) → c ∷ f ≡ n ∷ g → c ≡ n
heads c n f g e = cc

abbrev pub kind_of : Lexeme → Class
kind_of (word w) = letter
kind_of (keyword k w) = letter
kind_of (quoted_name w) = backquote
kind_of (integer n) = digit
kind_of (string t) = quotation
kind_of (parameter q w) = dollar
kind_of (symbol x) = other

symbol_kind : (x : Symbol) (c : ℕ) (f : List ℕ) → c ∷ f ≡ symbol_text x → class c ≡ other
symbol_kind s.TwoDots c f h = class_at c 46 (heads c 46 f (46 ∷ []) h)
symbol_kind s.NotEqual c f h = class_at c 60 (heads c 60 f (62 ∷ []) h)
symbol_kind s.LessOrEqual c f h = class_at c 60 (heads c 60 f (61 ∷ []) h)
symbol_kind s.GreaterOrEqual c f h = class_at c 62 (heads c 62 f (61 ∷ []) h)
symbol_kind s.PlusEqual c f h = class_at c 43 (heads c 43 f (61 ∷ []) h)
symbol_kind s.OpenParenthesis c f h = class_at c 40 (heads c 40 f [] h)
symbol_kind s.CloseParenthesis c f h = class_at c 41 (heads c 41 f [] h)
symbol_kind s.OpenBracket c f h = class_at c 91 (heads c 91 f [] h)
symbol_kind s.CloseBracket c f h = class_at c 93 (heads c 93 f [] h)
symbol_kind s.OpenBrace c f h = class_at c 123 (heads c 123 f [] h)
symbol_kind s.CloseBrace c f h = class_at c 125 (heads c 125 f [] h)
symbol_kind s.Comma c f h = class_at c 44 (heads c 44 f [] h)
symbol_kind s.Dot c f h = class_at c 46 (heads c 46 f [] h)
symbol_kind s.Colon c f h = class_at c 58 (heads c 58 f [] h)
symbol_kind s.Semicolon c f h = class_at c 59 (heads c 59 f [] h)
symbol_kind s.Plus c f h = class_at c 43 (heads c 43 f [] h)
symbol_kind s.Minus c f h = class_at c 45 (heads c 45 f [] h)
symbol_kind s.Star c f h = class_at c 42 (heads c 42 f [] h)
symbol_kind s.Slash c f h = class_at c 47 (heads c 47 f [] h)
symbol_kind s.Percent c f h = class_at c 37 (heads c 37 f [] h)
symbol_kind s.Equal c f h = class_at c 61 (heads c 61 f [] h)
symbol_kind s.Less c f h = class_at c 60 (heads c 60 f [] h)
symbol_kind s.Greater c f h = class_at c 62 (heads c 62 f [] h)
symbol_kind s.Bar c f h = class_at c 124 (heads c 124 f [] h)

pub kind : (l : Lexeme) (c : ℕ) (f : List ℕ) → Spells l (c ∷ f) → class c ≡ kind_of l
kind (word w) c f h = class_letter c h.1.0
kind (keyword k w) c f h = class_letter c h.1.0
kind (quoted_name w) c f h = class_at c 96 (heads c 96 f _ h.1.1)
kind (integer n) c f h = class_digit c h.0.0.0
kind (string t) c f h = elim h.3 [ inl e ↦ class_at c 39 (heads c h.0 f _ h.5 ∙ e) | inr e ↦ class_at c 34 (heads c h.0 f _ h.5 ∙ e) ]
kind (parameter false w) c f h = class_at c 36 (heads c 36 f _ h.1)
kind (parameter true w) c f h = class_at c 36 (heads c 36 f _ h.2)
kind (symbol x) c f h = symbol_kind x c f h

pub not_empty : (l : Lexeme) → Spells l [] → ⊥
not_empty (word w) h = h.1
not_empty (keyword k w) h = h.1
not_empty (quoted_name w) h = absurd cc
not_empty (integer n) h = h.0
not_empty (string t) h = absurd cc
not_empty (parameter false w) h = absurd cc
not_empty (parameter true w) h = absurd cc
not_empty (symbol x) h = empty_symbol x h
  where
    empty_symbol : (x : Symbol) → [] ≡ symbol_text x → ⊥
    empty_symbol s.TwoDots e = absurd cc
    empty_symbol s.NotEqual e = absurd cc
    empty_symbol s.LessOrEqual e = absurd cc
    empty_symbol s.GreaterOrEqual e = absurd cc
    empty_symbol s.PlusEqual e = absurd cc
    empty_symbol s.OpenParenthesis e = absurd cc
    empty_symbol s.CloseParenthesis e = absurd cc
    empty_symbol s.OpenBracket e = absurd cc
    empty_symbol s.CloseBracket e = absurd cc
    empty_symbol s.OpenBrace e = absurd cc
    empty_symbol s.CloseBrace e = absurd cc
    empty_symbol s.Comma e = absurd cc
    empty_symbol s.Dot e = absurd cc
    empty_symbol s.Colon e = absurd cc
    empty_symbol s.Semicolon e = absurd cc
    empty_symbol s.Plus e = absurd cc
    empty_symbol s.Minus e = absurd cc
    empty_symbol s.Star e = absurd cc
    empty_symbol s.Slash e = absurd cc
    empty_symbol s.Percent e = absurd cc
    empty_symbol s.Equal e = absurd cc
    empty_symbol s.Less e = absurd cc
    empty_symbol s.Greater e = absurd cc
    empty_symbol s.Bar e = absurd cc
