-- What tokens begin with, by their first mark.
use Rattle.std.proofs.Common.{◌≡◌, Bool, true, false, List, [], ◌∷◌, ◌++◌}
use Rattle.pg_meaning.specs.declared.lexemes.Keyword.{Keyword}
use Rattle.pg_meaning.specs.declared.lexemes.Symbol.{Symbol}
use Rattle.pg_meaning.specs.Tokens.{Lexeme, Token}
use Rattle.pg_meaning.specs.Tokens as lexeme
use Rattle.pg_meaning.specs.Grammar.{Mark, key, sign, flag, IsSpelled, Fit}
use Rattle.pg_meaning.specs.Parse.{same_symbol, same_keyword, sees, sees_symbol, sees_keyword}
use Rattle.pg_grammar.proofs.Combinators.{Behind, Sequence, Fitting, Free}
use Rattle.pg_grammar.proofs.Terminals.{symbol_seen, keyword_seen}

-- the test says so of each lexeme of the first mark
abbrev pub Shows : (Lexeme → Bool) → Bool → List Mark → Type 0
Shows p b [] = ⊥
Shows p b (m ∷ ms) = (l : Lexeme) → IsSpelled m.what l → p l ≡ b

pub shown : {b : Bool} (p : Lexeme → Bool) (ms : List Mark) (front more : List Token) → Shows p b ms → Fit front ms → sees p (front ++ more) ≡ b
shown p [] front more shows fits = absurd shows
shown p (m ∷ ms) [] more shows fits = absurd fits
shown p (m ∷ ms) (t ∷ front) more shows fits = shows t.lexeme fits.0.spelled

pub shows_symbol : {b : Bool} (p : Lexeme → Bool) (x : Symbol) (ms : List Mark) → p (lexeme.symbol x) ≡ b → Shows p b (sign x ∷ ms)
shows_symbol p x ms is = λ l h. rw h is

-- ---- behind a symbol or a keyword

pub symbol_first : {A : Type 0} {S : A → List Token → Type 0} {a : A} (x : Symbol) (front more : List Token) → Behind (sign x) S a front → sees_symbol x (front ++ more) ≡ true
symbol_first x front more h = rw h.whole (symbol_seen x h.token (h.others ++ more) h.accepts)

pub keyword_first : {A : Type 0} {S : A → List Token → Type 0} {a : A} (x : Keyword) (front more : List Token) → Behind (key x) S a front → sees_keyword x (front ++ more) ≡ true
keyword_first x front more h = rw h.whole (keyword_seen x h.token (h.others ++ more) h.accepts)

-- a token that isn't that
pub symbol_other : {A : Type 0} {S : A → List Token → Type 0} {a : A} (x y : Symbol) → same_symbol x y ≡ false → (front more : List Token) → Behind (sign x) S a front → sees_symbol y (front ++ more) ≡ false
symbol_other x y differ front more h = rw (h.whole, h.accepts.spelled) differ

pub keyword_other : {A : Type 0} {S : A → List Token → Type 0} {a : A} (x y : Keyword) → same_keyword x y ≡ false → (front more : List Token) → Behind (key x) S a front → sees_keyword y (front ++ more) ≡ false
keyword_other x y differ front more h = rw (h.whole, h.accepts.spelled.1) differ

-- a keyword that may be lacking, and another one
pub flagged_other : {A : Type 0} {T : Bool → A → List Token → Type 0} {a : A} (x y z : Keyword) → same_keyword x z ≡ false → same_keyword y z ≡ false → (front more : List Token)
    → Sequence (Fitting Free (λ b. flag b (key x))) (λ b. Behind (key y) (T b)) a front → sees_keyword z (front ++ more) ≡ false
flagged_other {A} {T} {a} x y z first second front more h = by h.value h.f h.g h.whole h.first.fits h.second
  where
    by : (b : Bool) (f g : List Token) → front ≡ f ++ g → Fit f (flag b (key x)) → Behind (key y) (T b) a g → sees_keyword z (front ++ more) ≡ false
    by true [] g e fits i = absurd fits
    by true (t ∷ f) g e fits i = rw (e, fits.0.spelled.1) first
    by false [] g e fits i = rw e (keyword_other y z second g more i)
    by false (t ∷ f) g e fits i = absurd fits
