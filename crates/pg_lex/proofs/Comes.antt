-- What stands at a place comes next.
use Rattle.std.proofs.Common.{◌≡◌, ◌≢◌, ℕ, ◌≤◌, Bool, true, false, cond, not, ◌&&◌, ◌||◌, ◌⊎◌, inl, inr, eqb, leb, List, [], ◌∷◌, ◌++◌, length, Option, Some, None, refl, sym, ap, ◌∙◌, subst, append_assoc, length-append, arith}
use Rattle.std.specs.Char.{is_whitespace}
use Rattle.std.proofs.lemmas.Bool.{eqb-true, eqb-false, ne_eqb, le-leb, false≢true, not-true}
use Rattle.pg_meaning.specs.declared.lexemes.Keyword.{Keyword}
use Rattle.pg_meaning.specs.declared.lexemes.Symbol.{Symbol}
use Rattle.pg_meaning.specs.declared.lexemes.Symbol.TheVariants as s
use Rattle.pg_meaning.specs.Tokens.{class, Class, letter, digit, backquote, quotation, dollar, other, Lexeme, word, keyword, quoted_name, integer, string, parameter, symbol, Front, Spells, Longest, MayFollow, Starts, All, IsWord, AreDigits, after, worded, keyword_of, continues_word, begins_word, is_digit, integer_at, is_empty, numeral_value, greatest_integer, utf8, doubled, named, decoded, quoted_from, string_from, outside, pieces_text, parameter_at, parameter_by, lexeme_by, symbol_text, is_line_end, comment_from, closed, Next, gap, found, next, next_lexeme, Segment, blank, line_comment, block_comment, lexeme, segment_text, segments_text, Stands, AllStand}
use Rattle.pg_lex.specs.Scans.{is_in_line, pair_front, with_rest}
use Rattle.pg_lex.proofs.Pairs.{both}
use Rattle.pg_lex.proofs.Whites.{white_no_word, at_each}
use Rattle.pg_lex.proofs.Runs.{run_is, after_is, all_more, longest_ends, starts_parts, utf8_digits}
use Rattle.pg_lex.proofs.Classes.{kind, class_letter, class_digit, digit_bounds, not_empty}
use Rattle.pg_lex.proofs.Quotes.{quoted_complete, doubled_two, is_quote}
use Rattle.pg_lex.proofs.Pieces.{string_complete}
use Rattle.pg_lex.proofs.Comments.{comment_complete}
use Rattle.pg_lex.proofs.Signs.{sign_found}
use Rattle.pg_lex.proofs.Spelled.{worded_spells}
use Rattle.pg_lex.proofs.Longest.{no_backslash}
use Rattle.pg_lex.proofs.Places.{next_by}

-- what the segment is to the reader
abbrev pub turn_of : Segment → List ℕ → Next
turn_of (lexeme l front) more = found l more
turn_of _ more = gap more

pub record Comes (x : Segment) (more : List ℕ) : Type 0 where
  pub first : ℕ
  pub behind : List ℕ
  pub whole : segment_text x ++ more ≡ first ∷ behind
  pub comes : next first behind ≡ turn_of x more

-- ---- gaps

blank_comes : (c : ℕ) (more : List ℕ) → is_whitespace c ≡ true → Comes (blank c) more
blank_comes c more h = record { first = c; behind = more; whole = refl; comes = ap (λ (w : Bool). next_by w (eqb c 47) c more) h }

no_line : (more : List ℕ) → (more ≡ []) ⊎ (Starts is_line_end more ≡ true) → Starts is_in_line more ≡ false
no_line [] h = refl
no_line (c ∷ more) (inl h) = absurd cc
no_line (c ∷ more) (inr h) = rw h refl

line_comes : (body more : List ℕ) → Stands (line_comment body) more → Comes (line_comment body) more
line_comes body more h = record { first = 47; behind = 47 ∷ (body ++ more); whole = refl; comes = ap (λ (r : List ℕ). gap r) (after_is is_in_line body more h.0 (no_line more h.1)) }

block_comes : (body more : List ℕ) → Stands (block_comment body) more → Comes (block_comment body) more
block_comes body more h = record {
  first = 47;
  behind = 42 ∷ ((body ++ 42 ∷ 47 ∷ []) ++ more);
  whole = refl;
  comes = ap (λ (r : List ℕ). closed (comment_from false r)) (append_assoc body (42 ∷ 47 ∷ []) more) ∙ ap closed (comment_complete false body more h);
}

-- ---- lexemes

abbrev answer : Lexeme → List ℕ → Front Lexeme
answer l more = Some (l, more)

lexeme_comes : (c : ℕ) (cs : List ℕ) (l : Lexeme) (more : List ℕ) → is_whitespace c ≡ false → (c ≡ 47 → ⊥) → lexeme_by (class c) c cs ≡ answer l more → next c cs ≡ found l more
lexeme_comes c cs l more w h e = ap (λ (x : Bool). next_by x (eqb c 47) c cs) w ∙ ap (λ (x : Bool). next_by false x c cs) (ne_eqb c 47 h) ∙ ap next_lexeme e

word_no_white : (c : ℕ) → begins_word c ≡ true → is_whitespace c ≡ false
word_no_white c h = at (is_whitespace c) refl
  where
    at : (x : Bool) → is_whitespace c ≡ x → is_whitespace c ≡ false
    at true e = absurd (false≢true (sym (white_no_word c e) ∙ h))
    at false e = e

word_no_slash : (c : ℕ) → begins_word c ≡ true → c ≡ 47 → ⊥
word_no_slash c h e = false≢true (ap begins_word (sym e) ∙ h)

-- a longer word can't stand there
word_ends : (c : ℕ) (f more : List ℕ) → begins_word c ≡ true → All continues_word f → Longest (c ∷ f) more → Starts continues_word more ≡ false
word_ends c f more h all longest = longest_ends continues_word more (λ d ds e t. longer d ds e t)
  where
    longer : (d : ℕ) (ds : List ℕ) → more ≡ d ∷ ds → continues_word d ≡ true → ⊥
    longer d ds e t =
        let w : List ℕ = c ∷ (f ++ d ∷ []) in
        let same : (c ∷ f) ++ more ≡ w ++ ds = ap (λ (r : List ℕ). (c ∷ f) ++ r) e ∙ ap (λ (r : List ℕ). c ∷ r) (sym (append_assoc f (d ∷ []) ds)) in
        absurd (omega (arith, longest (worded (utf8 w) (keyword_of w)) w ds same (worded_spells w (h, all_more continues_word f d all t)), length-append f (d ∷ [])))

word_found : (c : ℕ) (f more : List ℕ) (k : Option Keyword) → IsWord (c ∷ f) → keyword_of (c ∷ f) ≡ k → Longest (c ∷ f) more → next c (f ++ more) ≡ found (worded (utf8 (c ∷ f)) k) more
word_found c f more k h e longest =
    let ends = word_ends c f more h.0 h.1 longest in
    lexeme_comes c (f ++ more) (worded (utf8 (c ∷ f)) k) more (word_no_white c h.0) (word_no_slash c h.0)
    (ap (λ (x : Class). lexeme_by x c (f ++ more)) (class_letter c h.0) ∙ ap (λ (r : List ℕ). answer (worded (utf8 (c ∷ r)) (keyword_of (c ∷ r))) (after continues_word (f ++ more))) (run_is continues_word f more h.1 ends)
    ∙ ap (λ (r : List ℕ). answer (worded (utf8 (c ∷ f)) (keyword_of (c ∷ f))) r) (after_is continues_word f more h.1 ends) ∙ ap (λ (o : Option Keyword). answer (worded (utf8 (c ∷ f)) o) more) e)

zero_alone : (c : ℕ) (f : List ℕ) → (c ≡ 48 → f ≡ []) → (not (eqb c 48) || is_empty f) ≡ true
zero_alone c f h = at (eqb c 48) refl
  where
    at : (x : Bool) → eqb c 48 ≡ x → (not x || is_empty f) ≡ true
    at true e = ap is_empty (h (eqb-true c 48 e))
    at false e = refl

abbrev number : Bool → ℕ → List ℕ → Front Lexeme
number t n more = elim t [ true ↦ answer (integer n) more | false ↦ None ]

abbrev well : ℕ → List ℕ → List ℕ → Bool
well c f more = (not (eqb c 48) || is_empty f) && not (Starts begins_word more) && leb (numeral_value (c ∷ f)) greatest_integer

all_well : (x y z : Bool) → x ≡ true → y ≡ false → z ≡ true → (x && not y && z) ≡ true
all_well x y z p q r = rw (p, q, r) refl

abbrev is_no_white : ℕ → Bool
is_no_white c = not (is_whitespace c)

digit_no_white : (c : ℕ) → is_digit c ≡ true → is_whitespace c ≡ false
digit_no_white c h = let b = digit_bounds c h in not-true (is_whitespace c) (at_each is_no_white 48 10 c refl b.0 (omega (arith, b.1)))

digit_no_slash : (c : ℕ) → is_digit c ≡ true → c ≡ 47 → ⊥
digit_no_slash c h e = absurd (omega (arith, (digit_bounds c h).0))

integer_found : (c : ℕ) (f more : List ℕ) → Spells (integer (numeral_value (c ∷ f))) (c ∷ f) → MayFollow (integer (numeral_value (c ∷ f))) more → next c (f ++ more) ≡ found (integer (numeral_value (c ∷ f))) more
integer_found c f more h may =
    let ends = starts_parts is_digit begins_word more may in
    let test : well c f more ≡ true = all_well (not (eqb c 48) || is_empty f) (Starts begins_word more) (leb (numeral_value (c ∷ f)) greatest_integer) (zero_alone c f h.0.1) ends.1 (le-leb (numeral_value (c ∷ f)) greatest_integer h.2) in
    lexeme_comes c (f ++ more) (integer (numeral_value (c ∷ f))) more (digit_no_white c h.0.0.0) (digit_no_slash c h.0.0.0)
    (ap (λ (x : Class). lexeme_by x c (f ++ more)) (class_digit c h.0.0.0) ∙ ap (λ (r : List ℕ). integer_at c r (after is_digit (f ++ more))) (run_is is_digit f more h.0.0.1 ends.0) ∙ ap (integer_at c f) (after_is is_digit f more h.0.0.1 ends.0)
    ∙ ap (λ (t : Bool). number t (numeral_value (c ∷ f)) more) test)

-- ---- in backquotes

-- a name in backquotes at the front of segments
record NameNext (cs : List ℕ) : Type 0 where
  name : List ℕ
  rest : List ℕ
  whole : cs ≡ (96 ∷ (doubled name ++ 96 ∷ [])) ++ rest

lexeme_quote : (l : Lexeme) (g rest : List ℕ) → Spells l (96 ∷ g) → NameNext ((96 ∷ g) ++ rest)
lexeme_quote (word w) g rest h = let e : backquote ≡ letter = kind (word w) 96 g h in absurd cc
lexeme_quote (keyword k w) g rest h = let e : backquote ≡ letter = kind (keyword k w) 96 g h in absurd cc
lexeme_quote (quoted_name w) g rest h = record { name = h.0; rest = rest; whole = ap (λ (r : List ℕ). r ++ rest) h.1.1 }
lexeme_quote (integer n) g rest h = let e : backquote ≡ digit = kind (integer n) 96 g h in absurd cc
lexeme_quote (string t) g rest h = let e : backquote ≡ quotation = kind (string t) 96 g h in absurd cc
lexeme_quote (parameter q w) g rest h = let e : backquote ≡ dollar = kind (parameter q w) 96 g h in absurd cc
lexeme_quote (symbol x) g rest h = let e : backquote ≡ other = kind (symbol x) 96 g h in absurd cc

same_head : (c d : ℕ) (f g : List ℕ) → c ∷ f ≡ d ∷ g → c ≡ d
same_head c d f g e = cc

segment_quote : (x : Segment) (cs rest : List ℕ) → Stands x rest → segment_text x ++ rest ≡ 96 ∷ cs → NameNext (96 ∷ cs)
segment_quote (blank b) cs rest h e = absurd (false≢true (sym (ap is_whitespace (same_head b 96 rest cs e)) ∙ h))
segment_quote (line_comment b) cs rest h e = absurd (eqb-false 47 96 refl (same_head 47 96 _ cs e))
segment_quote (block_comment b) cs rest h e = absurd (eqb-false 47 96 refl (same_head 47 96 _ cs e))
segment_quote (lexeme l []) cs rest h e = absurd (not_empty l h.0)
segment_quote (lexeme l (d ∷ g)) cs rest h e =
    let p : d ≡ 96 = same_head d 96 (g ++ rest) cs e in
    let here : Spells l (96 ∷ g) = subst (λ (x : ℕ). Spells l (x ∷ g)) p h.0 in
    let same : (96 ∷ g) ++ rest ≡ 96 ∷ cs = ap (λ (x : ℕ). x ∷ (g ++ rest)) (sym p) ∙ e in
    subst NameNext same (lexeme_quote l g rest here)

next_quote : (xs : List Segment) (c : ℕ) (cs : List ℕ) → AllStand xs → segments_text xs ≡ c ∷ cs → is_quote c ≡ true → NameNext (segments_text xs)
next_quote [] c cs h e t = absurd cc
next_quote (x ∷ xs) c cs h e t =
    let q : segment_text x ++ segments_text xs ≡ 96 ∷ cs = e ∙ ap (λ (d : ℕ). d ∷ cs) (eqb-true c 96 t) in
    subst NameNext (sym q) (segment_quote x cs (segments_text xs) h.0 q)

joined_names : (a b rest : List ℕ) → (a ++ 96 ∷ []) ++ ((96 ∷ (b ++ 96 ∷ [])) ++ rest) ≡ ((a ++ 96 ∷ 96 ∷ b) ++ 96 ∷ []) ++ rest
joined_names a b rest = simp append_assoc

some_name : (a b : List ℕ) → a ++ 96 ∷ b ≢ []
some_name [] b e = absurd cc
some_name (x ∷ a) b e = absurd cc

-- no backquote stands behind the longest name
name_ends : (name : List ℕ) (xs : List Segment) → Longest (96 ∷ (doubled name ++ 96 ∷ [])) (segments_text xs) → AllStand xs → Starts is_quote (segments_text xs) ≡ false
name_ends name xs longest h = longest_ends is_quote (segments_text xs) (λ c cs e t. longer c cs e t)
  where
    longer : (c : ℕ) (cs : List ℕ) → segments_text xs ≡ c ∷ cs → is_quote c ≡ true → ⊥
    longer c cs e t =
        let n : NameNext (segments_text xs) = next_quote xs c cs h e t in
        let both' : List ℕ = name ++ 96 ∷ n.name in
        let f : List ℕ = 96 ∷ (doubled both' ++ 96 ∷ []) in
        let two = doubled_two name n.name in
        let same : (96 ∷ (doubled name ++ 96 ∷ [])) ++ segments_text xs ≡ f ++ n.rest = ap (λ (r : List ℕ). 96 ∷ ((doubled name ++ 96 ∷ []) ++ r)) n.whole ∙ ap (λ (r : List ℕ). 96 ∷ r) (joined_names (doubled name) (doubled n.name) n.rest) ∙ ap (λ (r : List ℕ). 96 ∷ ((r ++ 96 ∷ []) ++ n.rest)) two in
        let some : both' ≢ [] = some_name name n.name in
        let long : length f ≤ length (96 ∷ (doubled name ++ 96 ∷ [])) = longest (quoted_name (utf8 both')) f n.rest same (both', (some, refl), refl) in
        let size = ap (length {A = ℕ}) two in
        absurd (omega (arith, length-append (doubled name) (96 ∷ 96 ∷ doubled n.name), length-append (doubled both') (96 ∷ []), length-append (doubled name) (96 ∷ [])))

pub parameter_ends : (name : List ℕ) (xs : List Segment) → Longest (36 ∷ 96 ∷ (doubled name ++ 96 ∷ [])) (segments_text xs) → AllStand xs → Starts is_quote (segments_text xs) ≡ false
parameter_ends name xs longest h = longest_ends is_quote (segments_text xs) (λ c cs e t. longer c cs e t)
  where
    longer : (c : ℕ) (cs : List ℕ) → segments_text xs ≡ c ∷ cs → is_quote c ≡ true → ⊥
    longer c cs e t =
        let n : NameNext (segments_text xs) = next_quote xs c cs h e t in
        let both' : List ℕ = name ++ 96 ∷ n.name in
        let f : List ℕ = 96 ∷ (doubled both' ++ 96 ∷ []) in
        let two = doubled_two name n.name in
        let same : (36 ∷ 96 ∷ (doubled name ++ 96 ∷ [])) ++ segments_text xs ≡ (36 ∷ f) ++ n.rest = ap (λ (r : List ℕ). 36 ∷ 96 ∷ ((doubled name ++ 96 ∷ []) ++ r)) n.whole ∙ ap (λ (r : List ℕ). 36 ∷ 96 ∷ r) (joined_names (doubled name) (doubled n.name) n.rest) ∙ ap (λ (r : List ℕ). 36 ∷ 96 ∷ ((r ++ 96 ∷ []) ++ n.rest)) two in
        let long : length (36 ∷ f) ≤ length (36 ∷ 96 ∷ (doubled name ++ 96 ∷ [])) = longest (parameter true (utf8 both')) (36 ∷ f) n.rest same (f, both', refl, (some_name name n.name, refl), refl) in
        let size = ap (length {A = ℕ}) two in
        absurd (omega (arith, length-append (doubled name) (96 ∷ 96 ∷ doubled n.name), length-append (doubled both') (96 ∷ []), length-append (doubled name) (96 ∷ [])))

named_found : (f : List ℕ → Lexeme) (name more : List ℕ) → name ≢ [] → Starts is_quote more ≡ false → named f (quoted_from false ((doubled name ++ 96 ∷ []) ++ more)) ≡ answer (f (utf8 name)) more
named_found f name more some ends =
    ap (λ (r : List ℕ). named f (quoted_from false r)) (append_assoc (doubled name) (96 ∷ []) more) ∙ ap (named f) (quoted_complete name more ends) ∙ filled name some
  where
    filled : (name : List ℕ) → name ≢ [] → named f (both name more) ≡ answer (f (utf8 name)) more
    filled [] h = absurd (h refl)
    filled (c ∷ cs) h = refl

-- ---- parameters

digits_end : (c : ℕ) (f more : List ℕ) → AreDigits (c ∷ f) → Longest (36 ∷ c ∷ f) more → Starts is_digit more ≡ false
digits_end c f more h longest = longest_ends is_digit more (λ d ds e t. longer d ds e t)
  where
    longer : (d : ℕ) (ds : List ℕ) → more ≡ d ∷ ds → is_digit d ≡ true → ⊥
    longer d ds e t =
        let w : List ℕ = c ∷ (f ++ d ∷ []) in
        let same : (36 ∷ c ∷ f) ++ more ≡ (36 ∷ w) ++ ds = ap (λ (r : List ℕ). (36 ∷ c ∷ f) ++ r) e ∙ ap (λ (r : List ℕ). 36 ∷ c ∷ r) (sym (append_assoc f (d ∷ []) ds)) in
        absurd (omega (arith, longest (parameter false (utf8 w)) (36 ∷ w) ds same (w, refl, inr (h.0, all_more is_digit f d h.1 t), refl), length-append f (d ∷ [])))

name_word_ends : (c : ℕ) (f more : List ℕ) → IsWord (c ∷ f) → Longest (36 ∷ c ∷ f) more → Starts continues_word more ≡ false
name_word_ends c f more h longest = longest_ends continues_word more (λ d ds e t. longer d ds e t)
  where
    longer : (d : ℕ) (ds : List ℕ) → more ≡ d ∷ ds → continues_word d ≡ true → ⊥
    longer d ds e t =
        let w : List ℕ = c ∷ (f ++ d ∷ []) in
        let same : (36 ∷ c ∷ f) ++ more ≡ (36 ∷ w) ++ ds = ap (λ (r : List ℕ). (36 ∷ c ∷ f) ++ r) e ∙ ap (λ (r : List ℕ). 36 ∷ c ∷ r) (sym (append_assoc f (d ∷ []) ds)) in
        absurd (omega (arith, longest (parameter false (utf8 w)) (36 ∷ w) ds same (w, refl, inl (h.0, all_more continues_word f d h.1 t), refl), length-append f (d ∷ [])))

word_parameter : (name more : List ℕ) → IsWord name → Longest (36 ∷ name) more → parameter_at (name ++ more) ≡ answer (parameter false (utf8 name)) more
word_parameter [] more h longest = absurd h
word_parameter (c ∷ f) more h longest =
    let ends = name_word_ends c f more h longest in
    ap (λ (k : Class). parameter_by k c (f ++ more)) (class_letter c h.0) ∙ ap (λ (r : List ℕ). answer (parameter false (utf8 (c ∷ r))) (after continues_word (f ++ more))) (run_is continues_word f more h.1 ends) ∙ ap (answer (parameter false (utf8 (c ∷ f)))) (after_is continues_word f more h.1 ends)

digits_parameter : (name more : List ℕ) → AreDigits name → Longest (36 ∷ name) more → parameter_at (name ++ more) ≡ answer (parameter false (utf8 name)) more
digits_parameter [] more h longest = absurd h
digits_parameter (c ∷ f) more h longest =
    let ends = digits_end c f more h longest in
    ap (λ (k : Class). parameter_by k c (f ++ more)) (class_digit c h.0) ∙ ap (λ (r : List ℕ). answer (parameter false (c ∷ r)) (after is_digit (f ++ more))) (run_is is_digit f more h.1 ends) ∙ ap (answer (parameter false (c ∷ f))) (after_is is_digit f more h.1 ends)
    ∙ ap (λ (r : List ℕ). answer (parameter false r) more) (sym (utf8_digits (c ∷ f) h))

-- ---- symbols

abbrev some : Symbol → Option Symbol
some x = Some x

slash_comes : (more : List ℕ) → Starts (λ c. eqb c 47 || eqb c 42) more ≡ false → next 47 more ≡ found (symbol s.Slash) more
slash_comes [] h = refl
slash_comes (c ∷ more) h = at (eqb c 47) (eqb c 42) h
  where
    at : (x y : Bool) → (x || y) ≡ false → elim x as (λ _. Next) [ true ↦ gap (after is_in_line more) | false ↦ elim y as (λ _. Next) [ true ↦ closed (comment_from false more) | false ↦ found (symbol s.Slash) (c ∷ more) ] ] ≡ found (symbol s.Slash) (c ∷ more)
    at true y h = absurd cc
    at false true h = absurd cc
    at false false h = refl

-- the sign that would make a pair doesn't follow
no_second : (x : Symbol) (a b d : ℕ) (ds : List ℕ) → symbol_text x ≡ a ∷ b ∷ [] → Longest (a ∷ []) (d ∷ ds) → eqb d b ≡ false
no_second x a b d ds e longest = at (eqb d b) refl
  where
    at : (t : Bool) → eqb d b ≡ t → eqb d b ≡ false
    at true h =
        let same : (a ∷ []) ++ (d ∷ ds) ≡ (a ∷ b ∷ []) ++ ds = ap (λ (x : ℕ). a ∷ x ∷ ds) (eqb-true d b h) in
        absurd (omega (arith, longest (symbol x) (a ∷ b ∷ []) ds same (sym e)))
    at false h = h

no_dot : (more : List ℕ) → Longest (46 ∷ []) more → pair_front (46 ∷ more) ≡ None
no_dot [] longest = refl
no_dot (d ∷ ds) longest = ap (λ (t : Bool). with_rest ds (cond t (some s.TwoDots) None)) (no_second s.TwoDots 46 46 d ds refl longest)

no_less : (more : List ℕ) → Longest (60 ∷ []) more → pair_front (60 ∷ more) ≡ None
no_less [] longest = refl
no_less (d ∷ ds) longest =
    ap (λ (t : Bool). with_rest ds (cond t (some s.NotEqual) (cond (eqb d 61) (some s.LessOrEqual) None))) (no_second s.NotEqual 60 62 d ds refl longest) ∙ ap (λ (t : Bool). with_rest ds (cond t (some s.LessOrEqual) None)) (no_second s.LessOrEqual 60 61 d ds refl longest)

no_greater : (more : List ℕ) → Longest (62 ∷ []) more → pair_front (62 ∷ more) ≡ None
no_greater [] longest = refl
no_greater (d ∷ ds) longest = ap (λ (t : Bool). with_rest ds (cond t (some s.GreaterOrEqual) None)) (no_second s.GreaterOrEqual 62 61 d ds refl longest)

no_plus : (more : List ℕ) → Longest (43 ∷ []) more → pair_front (43 ∷ more) ≡ None
no_plus [] longest = refl
no_plus (d ∷ ds) longest = ap (λ (t : Bool). with_rest ds (cond t (some s.PlusEqual) None)) (no_second s.PlusEqual 43 61 d ds refl longest)

symbol_comes : (x : Symbol) (more : List ℕ) → Longest (symbol_text x) more → MayFollow (symbol x) more → Comes (lexeme (symbol x) (symbol_text x)) more
symbol_comes s.TwoDots more longest may = record { first = 46; behind = 46 ∷ more; whole = refl; comes = refl }
symbol_comes s.NotEqual more longest may = record { first = 60; behind = 62 ∷ more; whole = refl; comes = refl }
symbol_comes s.LessOrEqual more longest may = record { first = 60; behind = 61 ∷ more; whole = refl; comes = refl }
symbol_comes s.GreaterOrEqual more longest may = record { first = 62; behind = 61 ∷ more; whole = refl; comes = refl }
symbol_comes s.PlusEqual more longest may = record { first = 43; behind = 61 ∷ more; whole = refl; comes = refl }
symbol_comes s.OpenParenthesis more longest may = record { first = 40; behind = more; whole = refl; comes = refl }
symbol_comes s.CloseParenthesis more longest may = record { first = 41; behind = more; whole = refl; comes = refl }
symbol_comes s.OpenBracket more longest may = record { first = 91; behind = more; whole = refl; comes = refl }
symbol_comes s.CloseBracket more longest may = record { first = 93; behind = more; whole = refl; comes = refl }
symbol_comes s.OpenBrace more longest may = record { first = 123; behind = more; whole = refl; comes = refl }
symbol_comes s.CloseBrace more longest may = record { first = 125; behind = more; whole = refl; comes = refl }
symbol_comes s.Comma more longest may = record { first = 44; behind = more; whole = refl; comes = refl }
symbol_comes s.Dot more longest may = record { first = 46; behind = more; whole = refl; comes = ap next_lexeme (sign_found (46 ∷ more) more 46 (some s.Dot) refl (no_dot more longest) refl) }
symbol_comes s.Colon more longest may = record { first = 58; behind = more; whole = refl; comes = refl }
symbol_comes s.Semicolon more longest may = record { first = 59; behind = more; whole = refl; comes = refl }
symbol_comes s.Plus more longest may = record { first = 43; behind = more; whole = refl; comes = ap next_lexeme (sign_found (43 ∷ more) more 43 (some s.Plus) refl (no_plus more longest) refl) }
symbol_comes s.Minus more longest may = record { first = 45; behind = more; whole = refl; comes = refl }
symbol_comes s.Star more longest may = record { first = 42; behind = more; whole = refl; comes = refl }
symbol_comes s.Slash more longest may = record { first = 47; behind = more; whole = refl; comes = slash_comes more may }
symbol_comes s.Percent more longest may = record { first = 37; behind = more; whole = refl; comes = refl }
symbol_comes s.Equal more longest may = record { first = 61; behind = more; whole = refl; comes = refl }
symbol_comes s.Less more longest may = record { first = 60; behind = more; whole = refl; comes = ap next_lexeme (sign_found (60 ∷ more) more 60 (some s.Less) refl (no_less more longest) refl) }
symbol_comes s.Greater more longest may = record { first = 62; behind = more; whole = refl; comes = ap next_lexeme (sign_found (62 ∷ more) more 62 (some s.Greater) refl (no_greater more longest) refl) }
symbol_comes s.Bar more longest may = record { first = 124; behind = more; whole = refl; comes = refl }

-- ---- any segment

word_comes : (front more : List ℕ) (k : Option Keyword) → IsWord front → keyword_of front ≡ k → Longest front more → Comes (lexeme (worded (utf8 front) k) front) more
word_comes [] more k h e longest = absurd h
word_comes (c ∷ f) more k h e longest = record { first = c; behind = f ++ more; whole = refl; comes = word_found c f more k h e longest }

integer_comes : (n : ℕ) (front more : List ℕ) → Stands (lexeme (integer n) front) more → Comes (lexeme (integer n) front) more
integer_comes n [] more h = absurd h.0.0
integer_comes n (c ∷ f) more h =
    let made : Comes (lexeme (integer (numeral_value (c ∷ f))) (c ∷ f)) more = record { first = c; behind = f ++ more; whole = refl; comes = integer_found c f more (subst (λ (n : ℕ). Spells (integer n) (c ∷ f)) h.0.1 h.0) (subst (λ (n : ℕ). MayFollow (integer n) more) h.0.1 h.2) } in
    subst (λ (n : ℕ). Comes (lexeme (integer n) (c ∷ f)) more) (sym h.0.1) made

string_first : (q : ℕ) (ps more means : List ℕ) → (q ≡ 39) ⊎ (q ≡ 34) → (is_whitespace q ≡ false) × (q ≡ 47 → ⊥) × (class q ≡ quotation)
string_first q ps more means (inl h) = (ap is_whitespace h, λ e. absurd (omega arith), ap class h)
string_first q ps more means (inr h) = (ap is_whitespace h, λ e. absurd (omega arith), ap class h)

lexeme_next : (l : Lexeme) (front : List ℕ) (xs : List Segment) → Stands (lexeme l front) (segments_text xs) → AllStand xs → Comes (lexeme l front) (segments_text xs)
lexeme_next (word w) front xs h all = subst (λ (w : List ℕ). Comes (lexeme (word w) front) (segments_text xs)) (sym h.0.0) (word_comes front (segments_text xs) None h.0.1 h.0.2 h.1)
lexeme_next (keyword k w) front xs h all = subst (λ (w : List ℕ). Comes (lexeme (keyword k w) front) (segments_text xs)) (sym h.0.0) (word_comes front (segments_text xs) (Some k) h.0.1 h.0.2 h.1)
lexeme_next (quoted_name w) front xs h all =
    let name : List ℕ = h.0.0 in
    let more : List ℕ = segments_text xs in
    let longest : Longest (96 ∷ (doubled name ++ 96 ∷ [])) more = subst (λ (f : List ℕ). Longest f more) h.0.1.1 h.1 in
    let made : Comes (lexeme (quoted_name (utf8 name)) (96 ∷ (doubled name ++ 96 ∷ []))) more = record { first = 96; behind = (doubled name ++ 96 ∷ []) ++ more; whole = refl; comes = ap next_lexeme (named_found quoted_name name more h.0.1.0 (name_ends name xs longest all)) } in
    subst (λ (w : List ℕ). Comes (lexeme (quoted_name w) front) more) (sym h.0.2) (subst (λ (f : List ℕ). Comes (lexeme (quoted_name (utf8 name)) f) more) (sym h.0.1.1) made)
lexeme_next (integer n) front xs h all = integer_comes n front (segments_text xs) h
lexeme_next (string t) front xs h all =
    let q : ℕ = h.0.0 in
    let more : List ℕ = segments_text xs in
    let f = string_first q [] [] [] h.0.3 in
    let read = string_complete q h.0.1 h.0.2 more (no_backslash q h.0.3) h.0.4 in
    let made' : Comes (lexeme (string (utf8 h.0.2)) (q ∷ (pieces_text h.0.1 ++ q ∷ []))) more = record {
      first = q;
      behind = (pieces_text h.0.1 ++ q ∷ []) ++ more;
      whole = refl;
      comes = lexeme_comes q ((pieces_text h.0.1 ++ q ∷ []) ++ more) (string (utf8 h.0.2)) more f.0 f.1
          (ap (λ (k : Class). lexeme_by k q ((pieces_text h.0.1 ++ q ∷ []) ++ more)) f.2 ∙ ap (λ (r : List ℕ). decoded string (string_from q outside r)) (append_assoc (pieces_text h.0.1) (q ∷ []) more) ∙ ap (decoded string) read);
    } in
    subst (λ (t : List ℕ). Comes (lexeme (string t) front) more) (sym h.0.6) (subst (λ (f : List ℕ). Comes (lexeme (string (utf8 h.0.2)) f) more) (sym h.0.5) made')
lexeme_next (parameter false w) front xs h all =
    let name : List ℕ = h.0.0 in
    let more : List ℕ = segments_text xs in
    let longest : Longest (36 ∷ name) more = subst (λ (f : List ℕ). Longest f more) h.0.1 h.1 in
    let read : parameter_at (name ++ more) ≡ answer (parameter false (utf8 name)) more = elim h.0.2 [ inl i ↦ word_parameter name more i longest | inr i ↦ digits_parameter name more i longest ] in
    let made' : Comes (lexeme (parameter false (utf8 name)) (36 ∷ name)) more = record { first = 36; behind = name ++ more; whole = refl; comes = ap next_lexeme read } in
    subst (λ (w : List ℕ). Comes (lexeme (parameter false w) front) more) (sym h.0.3) (subst (λ (f : List ℕ). Comes (lexeme (parameter false (utf8 name)) f) more) (sym h.0.1) made')
lexeme_next (parameter true w) front xs h all =
    let name : List ℕ = h.0.1 in
    let more : List ℕ = segments_text xs in
    let spelled : front ≡ 36 ∷ 96 ∷ (doubled name ++ 96 ∷ []) = h.0.2 ∙ ap (λ (r : List ℕ). 36 ∷ r) h.0.3.1 in
    let longest : Longest (36 ∷ 96 ∷ (doubled name ++ 96 ∷ [])) more = subst (λ (f : List ℕ). Longest f more) spelled h.1 in
    let made' : Comes (lexeme (parameter true (utf8 name)) (36 ∷ 96 ∷ (doubled name ++ 96 ∷ []))) more = record { first = 36; behind = 96 ∷ ((doubled name ++ 96 ∷ []) ++ more); whole = refl; comes = ap next_lexeme (named_found (parameter true) name more h.0.3.0 (parameter_ends name xs longest all)) } in
    subst (λ (w : List ℕ). Comes (lexeme (parameter true w) front) more) (sym h.0.4) (subst (λ (f : List ℕ). Comes (lexeme (parameter true (utf8 name)) f) more) (sym spelled) made')
lexeme_next (symbol x) front xs h all =
    let more : List ℕ = segments_text xs in
    let longest : Longest (symbol_text x) more = subst (λ (f : List ℕ). Longest f more) h.0 h.1 in
    subst (λ (f : List ℕ). Comes (lexeme (symbol x) f) more) (sym h.0) (symbol_comes x more longest h.2)

pub comes_next : (x : Segment) (xs : List Segment) → AllStand (x ∷ xs) → Comes x (segments_text xs)
comes_next (blank c) xs h = blank_comes c (segments_text xs) h.0
comes_next (line_comment b) xs h = line_comes b (segments_text xs) h.0
comes_next (block_comment b) xs h = block_comes b (segments_text xs) h.0
comes_next (lexeme l front) xs h = lexeme_next l front xs h.0 h.1
