-- What the lexer finds is spelled so.
use Rattle.std.proofs.Common.{◌≡◌, ◌≢◌, ℕ, Bool, true, false, not, ◌&&◌, ◌||◌, ◌⊎◌, inl, inr, eqb, leb, List, [], ◌∷◌, ◌++◌, length, Option, Some, None, refl, sym, ap, ◌∙◌, subst, append_assoc, arith}
use Rattle.std.proofs.lemmas.Bool.{eqb-true, leb-true}
use Rattle.pg_meaning.specs.declared.lexemes.Keyword.{Keyword}
use Rattle.pg_meaning.specs.declared.lexemes.Symbol.{Symbol}
use Rattle.pg_meaning.specs.declared.lexemes.Symbol.TheVariants as s
use Rattle.pg_meaning.specs.Tokens.{class, Class, letter, digit, backquote, quotation, dollar, other, Lexeme, quoted_name, integer, string, parameter, symbol, Front, Spells, MayFollow, Starts, IsWord, run, after, word_at, worded, keyword_of, continues_word, begins_word, is_digit, integer_at, is_empty, numeral_value, greatest_integer, utf8, doubled, named, decoded, quoted_from, string_from, outside, pieces_text, parameter_at, parameter_by, lexeme_by, symbol_among, symbols, symbol_text, behind}
use Rattle.pg_lex.proofs.Pairs.{both, same_pair}
use Rattle.pg_lex.proofs.Runs.{run_after, run_all, after_starts, starts_or, utf8_digits}
use Rattle.pg_lex.proofs.Classes.{letter_begins, digit_is, backquote_is, quotation_is, dollar_is}
use Rattle.pg_lex.proofs.Quotes.{quoted_sound}
use Rattle.pg_lex.proofs.Pieces.{string_sound, Content}

abbrev pub found : Lexeme → List ℕ → Front Lexeme
found l more = Some (l, more)

-- the lexeme behind its first character
pub record Spelled (c : ℕ) (cs : List ℕ) (l : Lexeme) (more : List ℕ) : Type 0 where
  pub front : List ℕ
  pub whole : cs ≡ front ++ more
  pub spells : Spells l (c ∷ front)
  pub may : MayFollow l more

-- the same of an equal answer
along : (c : ℕ) (cs : List ℕ) (k l : Lexeme) (m n : List ℕ) → found k m ≡ found l n → Spelled c cs k m → Spelled c cs l n
along c cs k l m n e h =
    let p = same_pair k l m n e in
    subst (λ (l : Lexeme). Spelled c cs l n) p.0 (subst (λ (r : List ℕ). Spelled c cs k r) p.1 h)

pub worded_spells : (w : List ℕ) → IsWord w → Spells (worded (utf8 w) (keyword_of w)) w
worded_spells w h = at (keyword_of w) refl
  where
    at : (o : Option Keyword) → keyword_of w ≡ o → Spells (worded (utf8 w) o) w
    at None e = (refl, h, e)
    at (Some k) e = (refl, h, e)

worded_may : (w : List ℕ) (o : Option Keyword) (more : List ℕ) → MayFollow (worded w o) more
worded_may w None more = tt
worded_may w (Some k) more = tt

word_spelled : (c : ℕ) (cs : List ℕ) → begins_word c ≡ true → Spelled c cs (worded (utf8 (word_at c cs)) (keyword_of (word_at c cs))) (after continues_word cs)
word_spelled c cs h = record {
  front = run continues_word cs;
  whole = run_after continues_word cs;
  spells = worded_spells (word_at c cs) (h, run_all continues_word cs);
  may = worded_may (utf8 (word_at c cs)) (keyword_of (word_at c cs)) (after continues_word cs);
}

-- ---- integers

one_zero : (c : ℕ) (ds : List ℕ) → (not (eqb c 48) || is_empty ds) ≡ true → c ≡ 48 → ds ≡ []
one_zero c [] h e = refl
one_zero c (d ∷ ds) h e = let z : eqb c 48 ≡ true = rw e refl in absurd (let no' : (not true || false) ≡ true = rw z at h in cc)

integer_spelled : (c : ℕ) (cs : List ℕ) (l : Lexeme) (more : List ℕ) → is_digit c ≡ true → integer_at c (run is_digit cs) (after is_digit cs) ≡ found l more → Spelled c cs l more
integer_spelled c cs l more h e = at (not (eqb c 48) || is_empty (run is_digit cs)) refl (Starts begins_word (after is_digit cs)) refl (leb (numeral_value (c ∷ run is_digit cs)) greatest_integer) refl e
  where
    at : (x : Bool) → (not (eqb c 48) || is_empty (run is_digit cs)) ≡ x → (y : Bool) → Starts begins_word (after is_digit cs) ≡ y → (z : Bool) → leb (numeral_value (c ∷ run is_digit cs)) greatest_integer ≡ z
        → elim (x && not y && z) as (λ _. Front Lexeme) [ true ↦ found (integer (numeral_value (c ∷ run is_digit cs))) (after is_digit cs) | false ↦ None ] ≡ found l more → Spelled c cs l more
    at true p false q true r g = along c cs (integer (numeral_value (c ∷ run is_digit cs))) l (after is_digit cs) more g (record {
      front = run is_digit cs;
      whole = run_after is_digit cs;
      spells = (((h, run_all is_digit cs), one_zero c (run is_digit cs) p), refl, leb-true (numeral_value (c ∷ run is_digit cs)) greatest_integer r);
      may = starts_or is_digit begins_word (after is_digit cs) (after_starts is_digit cs) q;
    })
    at false p y q z r g = absurd cc
    at true p true q z r g = absurd cc
    at true p false q false r g = absurd cc

-- ---- names in backquotes

-- the name, behind its first backquote
pub record Quoted (cs name more : List ℕ) : Type 0 where
  pub some : name ≢ []
  pub whole : cs ≡ (doubled name ++ 96 ∷ []) ++ more

named_quoted : (f : List ℕ → Lexeme) (cs : List ℕ) (l : Lexeme) (more : List ℕ) → named f (quoted_from false cs) ≡ found l more → (name : List ℕ) × Quoted cs name more × (f (utf8 name) ≡ l)
named_quoted f cs l more e = at (quoted_from false cs) refl e
  where
    filled : (p : List ℕ × List ℕ) (x : Bool) → quoted_from false cs ≡ both p.0 p.1 → is_empty p.0 ≡ x → elim x as (λ _. Front Lexeme) [ true ↦ None | false ↦ found (f (utf8 p.0)) p.1 ] ≡ found l more → (name : List ℕ) × Quoted cs name more × (f (utf8 name) ≡ l)
    filled p true h i g = absurd cc
    filled p false h i g =
        let q = same_pair (f (utf8 p.0)) l p.1 more g in
        let there : cs ≡ doubled p.0 ++ 96 ∷ more = quoted_sound false cs p.0 p.1 h ∙ ap (λ (r : List ℕ). doubled p.0 ++ 96 ∷ r) q.1 in
        (p.0, record { some = λ n. absurd (let t : is_empty p.0 ≡ true = ap is_empty n in cc); whole = there ∙ sym (append_assoc (doubled p.0) (96 ∷ []) more) }, q.0)

    at : (o : Front (List ℕ)) → quoted_from false cs ≡ o → named f o ≡ found l more → (name : List ℕ) × Quoted cs name more × (f (utf8 name) ≡ l)
    at None h g = absurd cc
    at (Some p) h g = filled p (is_empty p.0) h refl g

quoted_spelled : (cs : List ℕ) (l : Lexeme) (more : List ℕ) → named quoted_name (quoted_from false cs) ≡ found l more → Spelled 96 cs l more
quoted_spelled cs l more e =
    let p = named_quoted quoted_name cs l more e in
    let made : Spelled 96 cs (quoted_name (utf8 p.0)) more = record { front = doubled p.0 ++ 96 ∷ []; whole = p.1.whole; spells = (p.0, (p.1.some, refl), refl); may = tt } in
    subst (λ (l : Lexeme). Spelled 96 cs l more) p.2 made

-- ---- strings

string_spelled : (q : ℕ) (cs : List ℕ) (l : Lexeme) (more : List ℕ) → (q ≡ 39) ⊎ (q ≡ 34) → decoded string (string_from q outside cs) ≡ found l more → Spelled q cs l more
string_spelled q cs l more h e = at (string_from q outside cs) refl e
  where
    at : (o : Front (List ℕ)) → string_from q outside cs ≡ o → decoded string o ≡ found l more → Spelled q cs l more
    at None i g = absurd cc
    at (Some p) i g =
        let c : Content q cs p.0 p.1 = string_sound (length cs) q cs p.0 p.1 (omega arith) i in
        along q cs (string (utf8 p.0)) l p.1 more g (record {
          front = pieces_text c.pieces ++ q ∷ [];
          whole = c.whole ∙ sym (append_assoc (pieces_text c.pieces) (q ∷ []) p.1);
          spells = (q, c.pieces, p.0, h, c.stands, refl, refl);
          may = tt;
        })

-- ---- parameters

parameter_spelled : (k : Class) (c : ℕ) (cs : List ℕ) (l : Lexeme) (more : List ℕ) → class c ≡ k → parameter_by k c cs ≡ found l more → Spelled 36 (c ∷ cs) l more
parameter_spelled letter c cs l more h e =
    let name : List ℕ = word_at c cs in
    along 36 (c ∷ cs) (parameter false (utf8 name)) l (after continues_word cs) more e (record {
      front = name;
      whole = ap (λ (r : List ℕ). c ∷ r) (run_after continues_word cs);
      spells = (name, refl, inl (letter_begins c h, run_all continues_word cs), refl);
      may = tt;
    })
parameter_spelled digit c cs l more h e =
    let name : List ℕ = c ∷ run is_digit cs in
    along 36 (c ∷ cs) (parameter false name) l (after is_digit cs) more e (record {
      front = name;
      whole = ap (λ (r : List ℕ). c ∷ r) (run_after is_digit cs);
      spells = (name, refl, inr (digit_is c h, run_all is_digit cs), sym (utf8_digits name (digit_is c h, run_all is_digit cs)));
      may = tt;
    })
parameter_spelled backquote c cs l more h e =
    let p = named_quoted (parameter true) cs l more e in
    let made : Spelled 36 (c ∷ cs) (parameter true (utf8 p.0)) more = record {
      front = 96 ∷ (doubled p.0 ++ 96 ∷ []);
      whole = ap (λ (x : ℕ). x ∷ cs) (backquote_is c h) ∙ ap (λ (r : List ℕ). 96 ∷ r) p.1.whole;
      spells = (96 ∷ (doubled p.0 ++ 96 ∷ []), p.0, refl, (p.1.some, refl), refl);
      may = tt;
    } in
    subst (λ (l : Lexeme). Spelled 36 (c ∷ cs) l more) p.2 made
parameter_spelled quotation c cs l more h e = absurd cc
parameter_spelled dollar c cs l more h e = absurd cc
parameter_spelled other c cs l more h e = absurd cc

dollar_spelled : (cs : List ℕ) (l : Lexeme) (more : List ℕ) → parameter_at cs ≡ found l more → Spelled 36 cs l more
dollar_spelled [] l more e = absurd cc
dollar_spelled (c ∷ cs) l more e = parameter_spelled (class c) c cs l more refl e

-- ---- symbols

behind_sound : (xs cs more : List ℕ) → behind xs cs ≡ Some more → cs ≡ xs ++ more
behind_sound [] cs more e = cc
behind_sound (x ∷ xs) [] more e = absurd cc
behind_sound (x ∷ xs) (c ∷ cs) more e = at (eqb x c) refl e (λ g. behind_sound xs cs more g)
  where
    at : (t : Bool) → eqb x c ≡ t → elim t as (λ _. Option (List ℕ)) [ true ↦ behind xs cs | false ↦ None ] ≡ Some more → (behind xs cs ≡ Some more → cs ≡ xs ++ more) → c ∷ cs ≡ x ∷ (xs ++ more)
    at true h g rest = ap (λ (d : ℕ). d ∷ cs) (sym (eqb-true x c h)) ∙ ap (λ (r : List ℕ). x ∷ r) (rest g)
    at false h g rest = absurd cc

pub symbol_sound : (xs : List Symbol) (cs : List ℕ) (l : Lexeme) (more : List ℕ) → symbol_among xs cs ≡ found l more → (x : Symbol) × (symbol x ≡ l) × (cs ≡ symbol_text x ++ more)
symbol_sound [] cs l more e = absurd cc
symbol_sound (x ∷ xs) cs l more e = at (behind (symbol_text x) cs) refl e (λ g. symbol_sound xs cs l more g)
  where
    at : (o : Option (List ℕ)) → behind (symbol_text x) cs ≡ o → elim o as (λ _. Front Lexeme) [ None ↦ symbol_among xs cs | Some rest ↦ found (symbol x) rest ] ≡ found l more
        → (symbol_among xs cs ≡ found l more → (x : Symbol) × (symbol x ≡ l) × (cs ≡ symbol_text x ++ more)) → (x : Symbol) × (symbol x ≡ l) × (cs ≡ symbol_text x ++ more)
    at None h g rest = rest g
    at (Some r) h g rest = let p = same_pair (symbol x) l r more g in (x, p.0, behind_sound (symbol_text x) cs r h ∙ ap (λ (m : List ℕ). symbol_text x ++ m) p.1)

may_symbol : (x : Symbol) (more : List ℕ) → (x ≡ s.Slash → ⊥) → MayFollow (symbol x) more
may_symbol s.Slash more h = absurd (h refl)
may_symbol _ more h = tt

no_text : (x : Symbol) → symbol_text x ≡ [] → ⊥
no_text s.TwoDots h = absurd cc
no_text s.NotEqual h = absurd cc
no_text s.LessOrEqual h = absurd cc
no_text s.GreaterOrEqual h = absurd cc
no_text s.PlusEqual h = absurd cc
no_text s.OpenParenthesis h = absurd cc
no_text s.CloseParenthesis h = absurd cc
no_text s.OpenBracket h = absurd cc
no_text s.CloseBracket h = absurd cc
no_text s.OpenBrace h = absurd cc
no_text s.CloseBrace h = absurd cc
no_text s.Comma h = absurd cc
no_text s.Dot h = absurd cc
no_text s.Colon h = absurd cc
no_text s.Semicolon h = absurd cc
no_text s.Plus h = absurd cc
no_text s.Minus h = absurd cc
no_text s.Star h = absurd cc
no_text s.Slash h = absurd cc
no_text s.Percent h = absurd cc
no_text s.Equal h = absurd cc
no_text s.Less h = absurd cc
no_text s.Greater h = absurd cc
no_text s.Bar h = absurd cc

symbol_cons : (x : Symbol) (c : ℕ) (cs more : List ℕ) → c ∷ cs ≡ symbol_text x ++ more → (front : List ℕ) × (symbol_text x ≡ c ∷ front) × (cs ≡ front ++ more)
symbol_cons x c cs more e = at (symbol_text x) refl e
  where
    at : (t : List ℕ) → symbol_text x ≡ t → c ∷ cs ≡ t ++ more → (front : List ℕ) × (t ≡ c ∷ front) × (cs ≡ front ++ more)
    at [] h g = absurd (no_text x h)
    at (d ∷ t) h g = let p : c ≡ d = cc in let q : cs ≡ t ++ more = cc in (t, ap (λ (x : ℕ). x ∷ t) (sym p), q)

symbol_spelled : (c : ℕ) (cs : List ℕ) (l : Lexeme) (more : List ℕ) → (c ≡ 47 → ⊥) → symbol_among symbols (c ∷ cs) ≡ found l more → Spelled c cs l more
symbol_spelled c cs l more no_slash e =
    let p = symbol_sound symbols (c ∷ cs) l more e in
    let q = symbol_cons p.0 c cs more p.2 in
    let other : p.0 ≡ s.Slash → ⊥ = λ h. no_slash (first (ap symbol_text (sym h) ∙ q.1)) in
    let made : Spelled c cs (symbol p.0) more = record { front = q.0; whole = q.2; spells = sym q.1; may = may_symbol p.0 more other } in
    subst (λ (l : Lexeme). Spelled c cs l more) p.1 made
  where
    first : {f : List ℕ} → 47 ∷ [] ≡ c ∷ f → c ≡ 47
    first h = cc

-- ---- any of them

pub spelled_by : (k : Class) (c : ℕ) (cs : List ℕ) (l : Lexeme) (more : List ℕ) → class c ≡ k → (c ≡ 47 → ⊥) → lexeme_by k c cs ≡ found l more → Spelled c cs l more
spelled_by letter c cs l more h no_slash e = along c cs (worded (utf8 (word_at c cs)) (keyword_of (word_at c cs))) l (after continues_word cs) more e (word_spelled c cs (letter_begins c h))
spelled_by digit c cs l more h no_slash e = integer_spelled c cs l more (digit_is c h) e
spelled_by backquote c cs l more h no_slash e = subst (λ (x : ℕ). Spelled x cs l more) (sym (backquote_is c h)) (quoted_spelled cs l more e)
spelled_by quotation c cs l more h no_slash e = string_spelled c cs l more (quotation_is c h) e
spelled_by dollar c cs l more h no_slash e = subst (λ (x : ℕ). Spelled x cs l more) (sym (dollar_is c h)) (dollar_spelled cs l more e)
spelled_by other c cs l more h no_slash e = symbol_spelled c cs l more no_slash e
