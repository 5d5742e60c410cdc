-- A text as its bytes and as its characters.
use Rattle.std.proofs.Common.{◌≡◌, ℕ, ◌-◌, ◌≤◌, Bool, true, false, List, [], ◌∷◌, ◌++◌, length, take, slice_range, refl, sym, ap, ◌∙◌, arith, append_assoc, length-append, take_all}
use Rattle.std.specs.Prelude.{nat_lt, encode_utf8, encode_utf8_all}
use Rattle.std.specs.Str.{IsUtf8, IsCharBoundary, chars}
use Rattle.std.proofs.lemmas.Str.{encodes-chars, chars_past_char, encode_ascii, length-encode, IsCharBoundary-at_seam}
use Rattle.std.proofs.lemmas.Bool.{ltb-true}
use Rattle.std.proofs.lemmas.List.{take-append-le}
use Rattle.pg_meaning.specs.Tokens.{characters, utf8, utf8_of, width}
use Rattle.pg_lex.specs.Scans.{EndsWith}

pub characters_same : (bs : List ℕ) → characters bs ≡ chars bs
unfolding chars
characters_same [] = refl
characters_same (b ∷ bs) = refl

pub utf8_of_same : (c : ℕ) → utf8_of c ≡ encode_utf8 c
utf8_of_same c = at (nat_lt c 128) refl
  where
    at : (x : Bool) → nat_lt c 128 ≡ x → elim x as (λ _. List ℕ) [ true ↦ c ∷ [] | false ↦ encode_utf8 c ] ≡ encode_utf8 c
    at true e = sym (encode_ascii c (ltb-true _ _ e))
    at false e = refl

pub utf8_same : (cs : List ℕ) → utf8 cs ≡ encode_utf8_all cs
utf8_same [] = refl
utf8_same (c ∷ cs) = let one = utf8_of_same c in let more = utf8_same cs in cc

pub utf8-append : (cs ds : List ℕ) → utf8 (cs ++ ds) ≡ utf8 cs ++ utf8 ds
utf8-append [] ds = refl
utf8-append (c ∷ cs) ds = ap (λ (l : List ℕ). utf8_of c ++ l) (utf8-append cs ds) ∙ sym (append_assoc (utf8_of c) (utf8 cs) (utf8 ds))

-- the text of a text's characters
pub utf8_characters : (bs : List ℕ) → IsUtf8 bs → utf8 (characters bs) ≡ bs
utf8_characters bs u = utf8_same (characters bs) ∙ ap encode_utf8_all (characters_same bs) ∙ encodes-chars bs u

pub characters_past : (bs rest : List ℕ) (c : ℕ) → IsUtf8 bs → bs ≡ encode_utf8 c ++ rest → characters bs ≡ c ∷ characters rest
characters_past bs rest c u e = characters_same bs ∙ chars_past_char bs rest c u e ∙ ap (λ (l : List ℕ). c ∷ l) (sym (characters_same rest))

pub width_length : (cs : List ℕ) → width cs ≡ length (utf8 cs)
width_length [] = refl
width_length (c ∷ cs) = let one = ap (length {A = ℕ}) (utf8_of_same c) in omega (arith, length-append (utf8_of c) (utf8 cs), length-encode c, width_length cs)

pub width_characters : (bs : List ℕ) → IsUtf8 bs → width (characters bs) ≡ length bs
width_characters bs u = width_length (characters bs) ∙ ap (length {A = ℕ}) (utf8_characters bs u)

-- ---- what stands before the end of a text

pub parts : (text rest front : List ℕ) → IsUtf8 text → IsUtf8 rest → characters text ≡ front ++ characters rest → text ≡ utf8 front ++ rest
parts text rest front u v e =
    sym (utf8_characters text u) ∙ ap utf8 e ∙ utf8-append front (characters rest) ∙ ap (λ (l : List ℕ). utf8 front ++ l) (utf8_characters rest v)

pub no_longer : (text rest : List ℕ) → IsUtf8 text → IsUtf8 rest → EndsWith text rest → length rest ≤ length text
no_longer text rest u v h = let e = ap (length {A = ℕ}) (parts text rest h.0 u v h.1) in omega (arith, length-append (utf8 h.0) rest)

take_front : (xs ys : List ℕ) (n : ℕ) → n ≡ length xs → take n (xs ++ ys) ≡ xs
take_front xs ys n e = rw (e, take-append-le (length xs) xs ys (omega arith)) (take_all (length xs) xs (omega arith))

cut_length : (text rest front : List ℕ) → IsUtf8 text → IsUtf8 rest → characters text ≡ front ++ characters rest → length text - length rest ≡ length (utf8 front)
cut_length text rest front u v e = let whole = ap (length {A = ℕ}) (parts text rest front u v e) in omega (arith, length-append (utf8 front) rest)

pub cut : (text rest : List ℕ) → IsUtf8 text → IsUtf8 rest → EndsWith text rest → IsCharBoundary text (length text - length rest)
cut text rest u v h = rw (cut_length text rest h.0 u v h.1) (IsCharBoundary-at_seam text (utf8 h.0) rest (parts text rest h.0 u v h.1) v)

pub before_is : (text rest front : List ℕ) → IsUtf8 text → IsUtf8 rest → characters text ≡ front ++ characters rest → slice_range text 0 (length text - length rest) ≡ utf8 front
before_is text rest front u v e =
    let none : length text - length rest - 0 ≡ length text - length rest = omega arith in
    let whole = parts text rest front u v e in
    rw none (ap (λ (l : List ℕ). take (length text - length rest) l) whole ∙ take_front (utf8 front) rest (length text - length rest) (cut_length text rest front u v e))
