-- What the parts of the lexer compute.
use Rattle.std.specs.Prelude.{◌≡◌, ℕ, ◌+◌, ◌*◌, Bool, true, false, not, ◌&&◌, ◌||◌, if◌then◌else◌, ◌==◌, nat_le, List, [], ◌∷◌, ◌++◌, Option, Some, None}
use Rattle.std.specs.Borrow.{Bor}
use Rattle.std.specs.Prelude.{String, string_bytes}
use Rattle.std.specs.declared.alloc.Global.{Global}
use Rattle.pg_lex.specs.declared.token.Natural.{Natural}
use Rattle.pg_meaning.specs.Tokens.{characters, utf8, Front, hexadecimal_value, escape_of, is_surrogate, numeral_value, greatest_integer, is_empty, word_at, after, run, continues_word, is_digit, is_line_end, Next, bad, next, Lexeme, worded, keyword_of, parameter, integer_at}
use Rattle.pg_meaning.specs.declared.lexemes.Symbol.{Symbol}
use Rattle.pg_meaning.specs.declared.lexemes.Symbol.TheVariants as s

-- the first character and the text behind it
abbrev pub Splits : List ℕ → Option (ℕ × Bor (List ℕ)) → Type 0
Splits text None = characters text ≡ []
Splits text (Some p) = characters text ≡ p.0 ∷ characters p.1.now

-- an answer and the text behind it, as characters
abbrev pub Fronts : {A B : Type 0} → (B → A) → Option (A × List ℕ) → Option (B × Bor (List ℕ)) → Type 0
Fronts view o None = o ≡ None
Fronts view o (Some p) = o ≡ Some (view p.0, characters p.1.now)

-- a text, before a decoded one
abbrev pub behind_text : List ℕ → Front (List ℕ) → Option (List ℕ × List ℕ)
behind_text t None = None
behind_text t (Some p) = Some (t ++ utf8 p.0, p.1)

-- a decoded text of at least one character
abbrev pub nonempty : Front (List ℕ) → Front (List ℕ)
nonempty None = None
nonempty (Some p) = elim (is_empty p.0) [ true ↦ None | false ↦ Some p ]

-- the same of an answer that is a text alone
abbrev pub Leaves : Option (List ℕ) → Option (Bor (List ℕ)) → Type 0
Leaves o None = o ≡ None
Leaves o (Some rest) = o ≡ Some (characters rest.now)

-- the text ends with the other
abbrev pub EndsWith : List ℕ → List ℕ → Type 0
EndsWith text rest = (front : List ℕ) × (characters text ≡ front ++ characters rest)

abbrev pub with_rest : {A : Type 0} → List ℕ → Option A → Front A
with_rest more None = None
with_rest more (Some x) = Some (x, more)

infixl 10 ◌>>=◌
abbrev pub ◌>>=◌ : {A B : Type 0} → Option A → (A → Option B) → Option B
None >>= f = None
Some x >>= f = f x

-- the character with the code
abbrev pub character_of : ℕ → Option ℕ
character_of c = if is_surrogate c then None else Some c

-- a hexadecimal digit
abbrev pub hexadecimal_front : List ℕ → Front ℕ
hexadecimal_front [] = None
hexadecimal_front (c ∷ cs) = with_rest cs (hexadecimal_value c)

-- four hexadecimal digits
abbrev pub coded_front : List ℕ → Front ℕ
coded_front cs = do
  a ← hexadecimal_front cs
  b ← hexadecimal_front a.1
  c ← hexadecimal_front b.1
  d ← hexadecimal_front c.1
  with_rest d.1 (character_of (((a.0 * 16 + b.0) * 16 + c.0) * 16 + d.0))

-- behind a backslash: the character that is meant
abbrev pub escaped : List ℕ → Front ℕ
escaped [] = None
escaped (c ∷ cs) = if c == 117 then coded_front cs else with_rest cs (escape_of c)

-- the character that is meant in a string
abbrev pub meant_front : ℕ → List ℕ → Front ℕ
meant_front c cs = if c == 92 then escaped cs else Some (c, cs)

abbrev pub strip_backquote : List ℕ → Option (List ℕ)
strip_backquote [] = None
strip_backquote (c ∷ cs) = if c == 96 then Some cs else None

-- what stands behind a character in backquotes; None behind the last of them
abbrev pub past_front : ℕ → List ℕ → Option (List ℕ)
past_front c cs = if c == 96 then strip_backquote cs else Some cs

-- the value of digits, unless it is too large
abbrev pub small_value : List ℕ → Option ℕ
small_value cs = if nat_le (numeral_value cs) greatest_integer then Some (numeral_value cs) else None

-- the value of digits, unless a 0 stands in front of others or it is too large
abbrev pub natural_of : List ℕ → Option ℕ
natural_of [] = None
natural_of (c ∷ cs) = if not (c == 48) || is_empty cs then small_value (c ∷ cs) else None

abbrev pub value : Natural → ℕ
value n = n.value

abbrev pub content : String Global → List ℕ
content text = string_bytes text

abbrev pub same : ℕ → ℕ
same c = c

-- a symbol of one sign
abbrev pub sign_of : ℕ → Option Symbol
sign_of c =
    if c == 40 then Some s.OpenParenthesis else (if c == 41 then Some s.CloseParenthesis else (if c == 91 then Some s.OpenBracket else (if c == 93 then Some s.CloseBracket
    else (if c == 123 then Some s.OpenBrace else (if c == 125 then Some s.CloseBrace else (if c == 44 then Some s.Comma else (if c == 46 then Some s.Dot else (if c == 58 then Some s.Colon
    else (if c == 59 then Some s.Semicolon else (if c == 43 then Some s.Plus else (if c == 45 then Some s.Minus else (if c == 42 then Some s.Star else (if c == 47 then Some s.Slash
    else (if c == 37 then Some s.Percent else (if c == 61 then Some s.Equal else (if c == 60 then Some s.Less else (if c == 62 then Some s.Greater else (if c == 124 then Some s.Bar else None))))))))))))))))))

-- a symbol of two signs
abbrev pub pair_of : ℕ → ℕ → Option Symbol
pair_of c d =
    if (c == 46) && (d == 46) then Some s.TwoDots else (if (c == 60) && (d == 62) then Some s.NotEqual else (if (c == 60) && (d == 61) then Some s.LessOrEqual
    else (if (c == 62) && (d == 61) then Some s.GreaterOrEqual else (if (c == 43) && (d == 61) then Some s.PlusEqual else None))))

-- ---- at the front of characters, and those behind

abbrev pub word_front : List ℕ → Front (List ℕ)
word_front [] = None
word_front (c ∷ cs) = Some (utf8 (word_at c cs), after continues_word cs)

abbrev pub worded_front : List ℕ → Front Lexeme
worded_front [] = None
worded_front (c ∷ cs) = Some (worded (utf8 (word_at c cs)) (keyword_of (word_at c cs)), after continues_word cs)

abbrev pub parameter_front : Front (List ℕ) → Front Lexeme
parameter_front None = None
parameter_front (Some p) = Some (parameter false p.0, p.1)

abbrev pub digits_front : List ℕ → Front (List ℕ)
digits_front [] = None
digits_front (c ∷ cs) = Some (c ∷ run is_digit cs, after is_digit cs)

abbrev pub integer_front : List ℕ → Front Lexeme
integer_front [] = None
integer_front (c ∷ cs) = integer_at c (run is_digit cs) (after is_digit cs)

abbrev pub pair_front : List ℕ → Front Symbol
pair_front [] = None
pair_front (c ∷ []) = None
pair_front (c ∷ d ∷ cs) = with_rest cs (pair_of c d)

abbrev pub is_in_line : ℕ → Bool
is_in_line c = not (is_line_end c)

abbrev pub next_at : List ℕ → Next
next_at [] = bad
next_at (c ∷ cs) = next c cs
