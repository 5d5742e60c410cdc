-- What the lexer finds is the longest.
use Rattle.std.proofs.Common.{◌≡◌, ℕ, ◌≤◌, Bool, true, false, ◌⊎◌, inl, inr, eqb, leb, not, ◌&&◌, ◌||◌, List, [], ◌∷◌, ◌++◌, length, Some, None, refl, sym, ap, ◌∙◌, subst, append_assoc, length-append, arith}
use Rattle.std.proofs.lemmas.Bool.{eqb-false}
use Rattle.pg_meaning.specs.declared.lexemes.Symbol.{Symbol}
use Rattle.pg_meaning.specs.declared.lexemes.Symbol.TheVariants as s
use Rattle.pg_meaning.specs.Tokens.{class, Class, letter, digit, backquote, quotation, dollar, other, Lexeme, word, keyword, quoted_name, integer, string, parameter, symbol, Front, Spells, Longest, Starts, IsWord, AreDigits, run, after, word_at, worded, keyword_of, continues_word, begins_word, is_digit, integer_at, is_empty, numeral_value, greatest_integer, utf8, doubled, named, decoded, quoted_from, string_from, outside, pieces_text, parameter_at, parameter_by, lexeme_by, symbol_among, symbols, symbol_text}
use Rattle.pg_lex.proofs.Pairs.{both, same_pair}
use Rattle.pg_lex.proofs.Runs.{after_len}
use Rattle.pg_lex.proofs.Classes.{kind, class_letter, class_digit}
use Rattle.pg_lex.proofs.Quotes.{quoted_len}
use Rattle.pg_lex.proofs.Pieces.{string_complete}
use Rattle.pg_lex.proofs.Spelled.{found, symbol_sound}

-- the rest of what is found is no longer than the rest of a lexeme that stands there
abbrev NoShorter : ℕ → List ℕ → List ℕ → List ℕ → Type 0
NoShorter c f m more = (l : Lexeme) → Spells l (c ∷ f) → length more ≤ length m

tail_of : (c d : ℕ) (f g : List ℕ) → c ∷ f ≡ d ∷ g → f ≡ g
tail_of c d f g e = cc

word_len : (c : ℕ) (f m : List ℕ) → class c ≡ letter → NoShorter c f m (after continues_word (f ++ m))
word_len c f m k (word w) h = after_len continues_word f m h.1.1
word_len c f m k (keyword q w) h = after_len continues_word f m h.1.1
word_len c f m k (quoted_name w) h = let e : letter ≡ backquote = sym k ∙ kind (quoted_name w) c f h in absurd cc
word_len c f m k (integer n) h = let e : letter ≡ digit = sym k ∙ kind (integer n) c f h in absurd cc
word_len c f m k (string t) h = let e : letter ≡ quotation = sym k ∙ kind (string t) c f h in absurd cc
word_len c f m k (parameter q w) h = let e : letter ≡ dollar = sym k ∙ kind (parameter q w) c f h in absurd cc
word_len c f m k (symbol x) h = let e : letter ≡ other = sym k ∙ kind (symbol x) c f h in absurd cc

digits_len : (c : ℕ) (f m : List ℕ) → class c ≡ digit → NoShorter c f m (after is_digit (f ++ m))
digits_len c f m k (word w) h = let e : digit ≡ letter = sym k ∙ kind (word w) c f h in absurd cc
digits_len c f m k (keyword q w) h = let e : digit ≡ letter = sym k ∙ kind (keyword q w) c f h in absurd cc
digits_len c f m k (quoted_name w) h = let e : digit ≡ backquote = sym k ∙ kind (quoted_name w) c f h in absurd cc
digits_len c f m k (integer n) h = after_len is_digit f m h.0.0.1
digits_len c f m k (string t) h = let e : digit ≡ quotation = sym k ∙ kind (string t) c f h in absurd cc
digits_len c f m k (parameter q w) h = let e : digit ≡ dollar = sym k ∙ kind (parameter q w) c f h in absurd cc
digits_len c f m k (symbol x) h = let e : digit ≡ other = sym k ∙ kind (symbol x) c f h in absurd cc

-- ---- in backquotes

named_parts : (f : List ℕ → Lexeme) (o : Front (List ℕ)) (l : Lexeme) (more : List ℕ) → named f o ≡ found l more → (name : List ℕ) × (o ≡ both name more)
named_parts f None l more e = absurd cc
named_parts f (Some p) l more e = at (is_empty p.0) e
  where
    at : (x : Bool) → elim x as (λ _. Front Lexeme) [ true ↦ None | false ↦ found (f (utf8 p.0)) p.1 ] ≡ found l more → (name : List ℕ) × (both p.0 p.1 ≡ both name more)
    at true g = absurd cc
    at false g = let q = same_pair (f (utf8 p.0)) l p.1 more g in (p.0, ap (λ (r : List ℕ). both p.0 r) q.1)

-- the reader of a name at a name in its backquotes
name_len : (g : List ℕ → Lexeme) (name f m : List ℕ) (l : Lexeme) (more : List ℕ) → named g (quoted_from false (f ++ m)) ≡ found l more → f ≡ doubled name ++ 96 ∷ [] → length more ≤ length m
name_len g name f m l more e h =
    let p = named_parts g (quoted_from false (f ++ m)) l more e in
    let whole : f ++ m ≡ doubled name ++ 96 ∷ m = ap (λ (r : List ℕ). r ++ m) h ∙ append_assoc (doubled name) (96 ∷ []) m in
    quoted_len name m p.0 more (sym (ap (quoted_from false) whole) ∙ p.1)

quoted_len_by : (c : ℕ) (f m : List ℕ) (k : Lexeme) (more : List ℕ) → class c ≡ backquote → named quoted_name (quoted_from false (f ++ m)) ≡ found k more → NoShorter c f m more
quoted_len_by c f m k more q e (word w) h = let e : backquote ≡ letter = sym q ∙ kind (word w) c f h in absurd cc
quoted_len_by c f m k more q e (keyword x w) h = let e : backquote ≡ letter = sym q ∙ kind (keyword x w) c f h in absurd cc
quoted_len_by c f m k more q e (quoted_name w) h = name_len quoted_name h.0 f m k more e (tail_of c 96 f (doubled h.0 ++ 96 ∷ []) h.1.1)
quoted_len_by c f m k more q e (integer n) h = let e : backquote ≡ digit = sym q ∙ kind (integer n) c f h in absurd cc
quoted_len_by c f m k more q e (string t) h = let e : backquote ≡ quotation = sym q ∙ kind (string t) c f h in absurd cc
quoted_len_by c f m k more q e (parameter x w) h = let e : backquote ≡ dollar = sym q ∙ kind (parameter x w) c f h in absurd cc
quoted_len_by c f m k more q e (symbol x) h = let e : backquote ≡ other = sym q ∙ kind (symbol x) c f h in absurd cc

-- ---- strings

pub no_backslash : (q : ℕ) → (q ≡ 39) ⊎ (q ≡ 34) → 92 ≡ q → ⊥
no_backslash q (inl h) e = absurd (omega arith)
no_backslash q (inr h) e = absurd (omega arith)

made_parts : (o : Front (List ℕ)) (means m : List ℕ) (l : Lexeme) (more : List ℕ) → o ≡ both means m → decoded string o ≡ found l more → m ≡ more
made_parts o means m l more e h = (same_pair (string (utf8 means)) l m more (sym (ap (decoded string) e) ∙ h)).1

string_len_by : (c : ℕ) (f m : List ℕ) (k : Lexeme) (more : List ℕ) → class c ≡ quotation → decoded string (string_from c outside (f ++ m)) ≡ found k more → NoShorter c f m more
string_len_by c f m k more q e (word w) h = let e : quotation ≡ letter = sym q ∙ kind (word w) c f h in absurd cc
string_len_by c f m k more q e (keyword x w) h = let e : quotation ≡ letter = sym q ∙ kind (keyword x w) c f h in absurd cc
string_len_by c f m k more q e (quoted_name w) h = let e : quotation ≡ backquote = sym q ∙ kind (quoted_name w) c f h in absurd cc
string_len_by c f m k more q e (integer n) h = let e : quotation ≡ digit = sym q ∙ kind (integer n) c f h in absurd cc
string_len_by c f m k more q e (string t) h =
    let same : c ≡ h.0 = head c h.0 f (pieces_text h.1 ++ h.0 ∷ []) h.5 in
    let whole : f ++ m ≡ pieces_text h.1 ++ h.0 ∷ m = ap (λ (r : List ℕ). r ++ m) (tail_of c h.0 f (pieces_text h.1 ++ h.0 ∷ []) h.5) ∙ append_assoc (pieces_text h.1) (h.0 ∷ []) m in
    let read : string_from c outside (f ++ m) ≡ both h.2 m = ap (λ (x : ℕ). string_from x outside (f ++ m)) same ∙ ap (string_from h.0 outside) whole ∙ string_complete h.0 h.1 h.2 m (no_backslash h.0 h.3) h.4 in
    let end' = ap (length {A = ℕ}) (made_parts (string_from c outside (f ++ m)) h.2 m k more read e) in
    omega arith
  where
    head : (c d : ℕ) (f g : List ℕ) → c ∷ f ≡ d ∷ g → c ≡ d
    head c d f g e = cc
string_len_by c f m k more q e (parameter x w) h = let e : quotation ≡ dollar = sym q ∙ kind (parameter x w) c f h in absurd cc
string_len_by c f m k more q e (symbol x) h = let e : quotation ≡ other = sym q ∙ kind (symbol x) c f h in absurd cc

-- ---- parameters

at_class : (c : ℕ) (ds : List ℕ) (k : Class) (l : Lexeme) (more : List ℕ) → class c ≡ k → parameter_at (c ∷ ds) ≡ found l more → parameter_by k c ds ≡ found l more
at_class c ds k l more h e = sym (ap (λ (x : Class). parameter_by x c ds) h) ∙ e

rest_of : (k l : Lexeme) (a b : List ℕ) → found k a ≡ found l b → length b ≤ length a
rest_of k l a b e = let h = ap (length {A = ℕ}) (same_pair k l a b e).1 in omega arith

word_parameter_len : (name m : List ℕ) (l : Lexeme) (more : List ℕ) → IsWord name → parameter_at (name ++ m) ≡ found l more → length more ≤ length m
word_parameter_len [] m l more h e = absurd h
word_parameter_len (c ∷ f) m l more h e =
    let g = at_class c (f ++ m) letter l more (class_letter c h.0) e in
    omega (arith, rest_of (parameter false (utf8 (word_at c (f ++ m)))) l (after continues_word (f ++ m)) more g, after_len continues_word f m h.1)

digits_parameter_len : (name m : List ℕ) (l : Lexeme) (more : List ℕ) → AreDigits name → parameter_at (name ++ m) ≡ found l more → length more ≤ length m
digits_parameter_len [] m l more h e = absurd h
digits_parameter_len (c ∷ f) m l more h e =
    let g = at_class c (f ++ m) digit l more (class_digit c h.0) e in
    omega (arith, rest_of (parameter false (c ∷ run is_digit (f ++ m))) l (after is_digit (f ++ m)) more g, after_len is_digit f m h.1)

quoted_parameter_len : (name m : List ℕ) (l : Lexeme) (more : List ℕ) → parameter_at ((96 ∷ (doubled name ++ 96 ∷ [])) ++ m) ≡ found l more → length more ≤ length m
quoted_parameter_len name m l more e = name_len (parameter true) name (doubled name ++ 96 ∷ []) m l more e refl

parameter_len_by : (c : ℕ) (f m : List ℕ) (k : Lexeme) (more : List ℕ) → class c ≡ dollar → parameter_at (f ++ m) ≡ found k more → NoShorter c f m more
parameter_len_by c f m k more q e (word w) h = let e : dollar ≡ letter = sym q ∙ kind (word w) c f h in absurd cc
parameter_len_by c f m k more q e (keyword x w) h = let e : dollar ≡ letter = sym q ∙ kind (keyword x w) c f h in absurd cc
parameter_len_by c f m k more q e (quoted_name w) h = let e : dollar ≡ backquote = sym q ∙ kind (quoted_name w) c f h in absurd cc
parameter_len_by c f m k more q e (integer n) h = let e : dollar ≡ digit = sym q ∙ kind (integer n) c f h in absurd cc
parameter_len_by c f m k more q e (string t) h = let e : dollar ≡ quotation = sym q ∙ kind (string t) c f h in absurd cc
parameter_len_by c f m k more q e (parameter false w) h =
    let there : parameter_at (h.0 ++ m) ≡ found k more = sym (ap (λ (r : List ℕ). parameter_at (r ++ m)) (tail_of c 36 f h.0 h.1)) ∙ e in
    elim h.2 [ inl i ↦ word_parameter_len h.0 m k more i there | inr i ↦ digits_parameter_len h.0 m k more i there ]
parameter_len_by c f m k more q e (parameter true w) h =
    let there : parameter_at ((96 ∷ (doubled h.1 ++ 96 ∷ [])) ++ m) ≡ found k more = sym (ap (λ (r : List ℕ). parameter_at (r ++ m)) (tail_of c 36 f h.0 h.2 ∙ h.3.1)) ∙ e in
    quoted_parameter_len h.1 m k more there
parameter_len_by c f m k more q e (symbol x) h = let e : dollar ≡ other = sym q ∙ kind (symbol x) c f h in absurd cc

-- ---- symbols

text_len : (x : Symbol) → 1 ≤ length (symbol_text x)
text_len s.TwoDots = omega arith
text_len s.NotEqual = omega arith
text_len s.LessOrEqual = omega arith
text_len s.GreaterOrEqual = omega arith
text_len s.PlusEqual = omega arith
text_len s.OpenParenthesis = omega arith
text_len s.CloseParenthesis = omega arith
text_len s.OpenBracket = omega arith
text_len s.CloseBracket = omega arith
text_len s.OpenBrace = omega arith
text_len s.CloseBrace = omega arith
text_len s.Comma = omega arith
text_len s.Dot = omega arith
text_len s.Colon = omega arith
text_len s.Semicolon = omega arith
text_len s.Plus = omega arith
text_len s.Minus = omega arith
text_len s.Star = omega arith
text_len s.Slash = omega arith
text_len s.Percent = omega arith
text_len s.Equal = omega arith
text_len s.Less = omega arith
text_len s.Greater = omega arith
text_len s.Bar = omega arith

one_len : (c n : ℕ) (f m : List ℕ) (l : Lexeme) (more : List ℕ) → symbol_among symbols (c ∷ (f ++ m)) ≡ found l more → c ∷ f ≡ n ∷ [] → length more ≤ length m
one_len c n f m l more e h =
    let p = symbol_sound symbols (c ∷ (f ++ m)) l more e in
    let none = ap (length {A = ℕ}) (tail_of c n f [] h) in
    let whole = ap (length {A = ℕ}) p.2 in
    omega (arith, length-append f m, length-append (symbol_text p.0) more, text_len p.0)

pair_len : (c a b : ℕ) (f m : List ℕ) (x : Symbol) (l : Lexeme) (more : List ℕ) → ((r : List ℕ) → symbol_among symbols (a ∷ b ∷ r) ≡ found (symbol x) r) → symbol_among symbols (c ∷ (f ++ m)) ≡ found l more → c ∷ f ≡ a ∷ b ∷ [] → length more ≤ length m
pair_len c a b f m x l more two e h = rest_of (symbol x) l m more (sym (ap (λ (r : List ℕ). symbol_among symbols (r ++ m)) h ∙ two m) ∙ e)

symbol_len : (x : Symbol) (c : ℕ) (f m : List ℕ) (l : Lexeme) (more : List ℕ) → symbol_among symbols (c ∷ (f ++ m)) ≡ found l more → c ∷ f ≡ symbol_text x → length more ≤ length m
symbol_len s.TwoDots c f m l more e h = pair_len c 46 46 f m s.TwoDots l more (λ r. refl) e h
symbol_len s.NotEqual c f m l more e h = pair_len c 60 62 f m s.NotEqual l more (λ r. refl) e h
symbol_len s.LessOrEqual c f m l more e h = pair_len c 60 61 f m s.LessOrEqual l more (λ r. refl) e h
symbol_len s.GreaterOrEqual c f m l more e h = pair_len c 62 61 f m s.GreaterOrEqual l more (λ r. refl) e h
symbol_len s.PlusEqual c f m l more e h = pair_len c 43 61 f m s.PlusEqual l more (λ r. refl) e h
symbol_len s.OpenParenthesis c f m l more e h = one_len c 40 f m l more e h
symbol_len s.CloseParenthesis c f m l more e h = one_len c 41 f m l more e h
symbol_len s.OpenBracket c f m l more e h = one_len c 91 f m l more e h
symbol_len s.CloseBracket c f m l more e h = one_len c 93 f m l more e h
symbol_len s.OpenBrace c f m l more e h = one_len c 123 f m l more e h
symbol_len s.CloseBrace c f m l more e h = one_len c 125 f m l more e h
symbol_len s.Comma c f m l more e h = one_len c 44 f m l more e h
symbol_len s.Dot c f m l more e h = one_len c 46 f m l more e h
symbol_len s.Colon c f m l more e h = one_len c 58 f m l more e h
symbol_len s.Semicolon c f m l more e h = one_len c 59 f m l more e h
symbol_len s.Plus c f m l more e h = one_len c 43 f m l more e h
symbol_len s.Minus c f m l more e h = one_len c 45 f m l more e h
symbol_len s.Star c f m l more e h = one_len c 42 f m l more e h
symbol_len s.Slash c f m l more e h = one_len c 47 f m l more e h
symbol_len s.Percent c f m l more e h = one_len c 37 f m l more e h
symbol_len s.Equal c f m l more e h = one_len c 61 f m l more e h
symbol_len s.Less c f m l more e h = one_len c 60 f m l more e h
symbol_len s.Greater c f m l more e h = one_len c 62 f m l more e h
symbol_len s.Bar c f m l more e h = one_len c 124 f m l more e h

symbol_len_by : (c : ℕ) (f m : List ℕ) (k : Lexeme) (more : List ℕ) → class c ≡ other → symbol_among symbols (c ∷ (f ++ m)) ≡ found k more → NoShorter c f m more
symbol_len_by c f m k more q e (word w) h = let e : other ≡ letter = sym q ∙ kind (word w) c f h in absurd cc
symbol_len_by c f m k more q e (keyword x w) h = let e : other ≡ letter = sym q ∙ kind (keyword x w) c f h in absurd cc
symbol_len_by c f m k more q e (quoted_name w) h = let e : other ≡ backquote = sym q ∙ kind (quoted_name w) c f h in absurd cc
symbol_len_by c f m k more q e (integer n) h = let e : other ≡ digit = sym q ∙ kind (integer n) c f h in absurd cc
symbol_len_by c f m k more q e (string t) h = let e : other ≡ quotation = sym q ∙ kind (string t) c f h in absurd cc
symbol_len_by c f m k more q e (parameter x w) h = let e : other ≡ dollar = sym q ∙ kind (parameter x w) c f h in absurd cc
symbol_len_by c f m k more q e (symbol x) h = symbol_len x c f m k more e h

-- ---- any of them

integer_rest : (c : ℕ) (ds more : List ℕ) (l : Lexeme) (rest : List ℕ) → integer_at c ds more ≡ found l rest → more ≡ rest
integer_rest c ds more l rest e = at ((not (eqb c 48) || is_empty ds) && not (Starts begins_word more) && leb (numeral_value (c ∷ ds)) greatest_integer) e
  where
    at : (x : Bool) → elim x as (λ _. Front Lexeme) [ true ↦ found (integer (numeral_value (c ∷ ds))) more | false ↦ None ] ≡ found l rest → more ≡ rest
    at true g = (same_pair (integer (numeral_value (c ∷ ds))) l more rest g).1
    at false g = absurd cc

no_shorter : (k : Class) (c : ℕ) (f m : List ℕ) (l : Lexeme) (more : List ℕ) → class c ≡ k → lexeme_by k c (f ++ m) ≡ found l more → NoShorter c f m more
no_shorter letter c f m l more h e =
    let p = (same_pair (worded (utf8 (word_at c (f ++ m))) (keyword_of (word_at c (f ++ m)))) l (after continues_word (f ++ m)) more e).1 in
    subst (λ (r : List ℕ). NoShorter c f m r) p (word_len c f m h)
no_shorter digit c f m l more h e = subst (λ (r : List ℕ). NoShorter c f m r) (integer_rest c (run is_digit (f ++ m)) (after is_digit (f ++ m)) l more e) (digits_len c f m h)
no_shorter backquote c f m l more h e = quoted_len_by c f m l more h e
no_shorter quotation c f m l more h e = string_len_by c f m l more h e
no_shorter dollar c f m l more h e = parameter_len_by c f m l more h e
no_shorter other c f m l more h e = symbol_len_by c f m l more h e

pub longest_by : (c : ℕ) (cs front : List ℕ) (l : Lexeme) (more : List ℕ) → lexeme_by (class c) c cs ≡ found l more → cs ≡ front ++ more → Longest (c ∷ front) more
longest_by c cs front l more e whole k [] m same h = omega arith
longest_by c cs front l more e whole k (d ∷ f) m same h =
    let head : c ≡ d = cc in
    let tail : front ++ more ≡ f ++ m = cc in
    let there : cs ≡ f ++ m = whole ∙ tail in
    let here : Spells k (c ∷ f) = subst (λ (x : ℕ). Spells k (x ∷ f)) (sym head) h in
    let small : length more ≤ length m = no_shorter (class c) c f m l more refl (sym (ap (λ (r : List ℕ). lexeme_by (class c) c r) there) ∙ e) k here in
    let long = ap (length {A = ℕ}) tail in
    omega (arith, length-append front more, length-append f m)

-- ---- a slash that opens no comment

differ : (n : ℕ) (f g : List ℕ) → eqb 47 n ≡ false → 47 ∷ f ≡ n ∷ g → ⊥
differ n f g h e = let p : 47 ≡ n = cc in eqb-false 47 n h p

alone_len : (x : Symbol) (f : List ℕ) → 47 ∷ f ≡ symbol_text x → length f ≤ 0
alone_len s.TwoDots f h = absurd (differ 46 f _ refl h)
alone_len s.NotEqual f h = absurd (differ 60 f _ refl h)
alone_len s.LessOrEqual f h = absurd (differ 60 f _ refl h)
alone_len s.GreaterOrEqual f h = absurd (differ 62 f _ refl h)
alone_len s.PlusEqual f h = absurd (differ 43 f _ refl h)
alone_len s.OpenParenthesis f h = absurd (differ 40 f _ refl h)
alone_len s.CloseParenthesis f h = absurd (differ 41 f _ refl h)
alone_len s.OpenBracket f h = absurd (differ 91 f _ refl h)
alone_len s.CloseBracket f h = absurd (differ 93 f _ refl h)
alone_len s.OpenBrace f h = absurd (differ 123 f _ refl h)
alone_len s.CloseBrace f h = absurd (differ 125 f _ refl h)
alone_len s.Comma f h = absurd (differ 44 f _ refl h)
alone_len s.Dot f h = absurd (differ 46 f _ refl h)
alone_len s.Colon f h = absurd (differ 58 f _ refl h)
alone_len s.Semicolon f h = absurd (differ 59 f _ refl h)
alone_len s.Plus f h = absurd (differ 43 f _ refl h)
alone_len s.Minus f h = absurd (differ 45 f _ refl h)
alone_len s.Star f h = absurd (differ 42 f _ refl h)
alone_len s.Slash f h = let e = ap (length {A = ℕ}) h in omega arith
alone_len s.Percent f h = absurd (differ 37 f _ refl h)
alone_len s.Equal f h = absurd (differ 61 f _ refl h)
alone_len s.Less f h = absurd (differ 60 f _ refl h)
alone_len s.Greater f h = absurd (differ 62 f _ refl h)
alone_len s.Bar f h = absurd (differ 124 f _ refl h)

slash_kind : (l : Lexeme) (f : List ℕ) → Spells l (47 ∷ f) → length f ≤ 0
slash_kind (word w) f h = let e : other ≡ letter = kind (word w) 47 f h in absurd cc
slash_kind (keyword k w) f h = let e : other ≡ letter = kind (keyword k w) 47 f h in absurd cc
slash_kind (quoted_name w) f h = let e : other ≡ backquote = kind (quoted_name w) 47 f h in absurd cc
slash_kind (integer n) f h = let e : other ≡ digit = kind (integer n) 47 f h in absurd cc
slash_kind (string t) f h = let e : other ≡ quotation = kind (string t) 47 f h in absurd cc
slash_kind (parameter q w) f h = let e : other ≡ dollar = kind (parameter q w) 47 f h in absurd cc
slash_kind (symbol x) f h = alone_len x f h

pub slash_alone : (more : List ℕ) → Longest (47 ∷ []) more
slash_alone more l [] m e h = omega arith
slash_alone more l (d ∷ f) m e h =
    let head : d ≡ 47 = cc in
    let here : Spells l (47 ∷ f) = subst (λ (x : ℕ). Spells l (x ∷ f)) head h in
    omega (arith, slash_kind l f here)
