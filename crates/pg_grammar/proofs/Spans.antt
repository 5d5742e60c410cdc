-- Where the tokens of a text begin and end, the text may be cut.
use Rattle.std.proofs.Common.{◌≡◌, ℕ, ◌+◌, ◌-◌, ◌≤◌, Bool, true, false, List, [], ◌∷◌, ◌++◌, length, Some, None, refl, sym, ap, subst, ◌∙◌, append_assoc, length-append, length-drop, length-take, cond, arith}
use Rattle.std.proofs.lemmas.Bool.{and_parts}
use Rattle.std.proofs.lemmas.Bool.Decides.{nat_tests}
use Rattle.std.proofs.lemmas.Str.{encodes-append, IsUtf8-between, IsCharBoundary-at_seam, length-encode, is_utf8-from_IsUtf8}
use Rattle.std.specs.Prelude.{slice_range, encode_utf8_all, encode_utf8, nat_le, ◌&&◌}
use Rattle.std.specs.List.{AllByRecursion}
use Rattle.std.specs.Str.{IsUtf8, IsCharBoundary, all_scalars, is_utf8}
use Rattle.pg_meaning.specs.Tokens.{Lexeme, Token, Segment, segment_text, segments_text, token_of, segment_tokens, width, Lexes}
use Rattle.pg_meaning.specs.Tokens as lexeme
use Rattle.pg_meaning.specs.Parse.{cut}

pub record Placed (text : List ℕ) (t : Token) : Type 0 where
  pub start : IsCharBoundary text t.start
  pub finish : IsCharBoundary text t.finish

width-is : (cs : List ℕ) → width cs ≡ length (encode_utf8_all cs)
width-is [] = refl
width-is (c ∷ cs) = rw (length-append (encode_utf8 c) (encode_utf8_all cs), length-encode c, width-is cs) refl

scalars-back : (a b : List ℕ) → all_scalars (a ++ b) ≡ true → all_scalars b ≡ true
scalars-back [] b h = h
scalars-back (c ∷ a) b h = scalars-back a b (grind (arith, h))

seam : (text a b : List ℕ) → text ≡ encode_utf8_all (a ++ b) → all_scalars (a ++ b) ≡ true → IsCharBoundary text (length (encode_utf8_all a))
seam text a b e h = IsCharBoundary-at_seam text (encode_utf8_all a) (encode_utf8_all b) (e ∙ encodes-append a b) (b, (scalars-back a b h, refl))

-- the segments behind those characters
placed : (text before : List ℕ) (xs : List Segment) → text ≡ encode_utf8_all (before ++ segments_text xs) → all_scalars (before ++ segments_text xs) ≡ true
    → (at : ℕ) → at ≡ length (encode_utf8_all before) → AllByRecursion (Placed text) (segment_tokens at xs)
placed text before [] e h at here = tt
placed text before (x ∷ xs) e h at here =
    let front = segment_text x in let more = segments_text xs in
    let assoc : (before ++ front) ++ more ≡ before ++ (front ++ more) = append_assoc before front more in
    let e' : text ≡ encode_utf8_all ((before ++ front) ++ more) = rw assoc e in
    let h' : all_scalars ((before ++ front) ++ more) ≡ true = rw assoc h in
    let there : at + width front ≡ length (encode_utf8_all (before ++ front)) = rw (encodes-append before front, length-append (encode_utf8_all before) (encode_utf8_all front), ← width-is front, here) refl in
    let others = placed text (before ++ front) xs e' h' (at + width front) there in
    let first : IsCharBoundary text at = subst (IsCharBoundary text) (sym here) (seam text before (front ++ more) e h) in
    let last : IsCharBoundary text (at + width front) = subst (IsCharBoundary text) (sym there) (seam text (before ++ front) more e' h') in
    by x first last others
  where
    by : (x : Segment) → IsCharBoundary text at → IsCharBoundary text (at + width (segment_text x)) → AllByRecursion (Placed text) (segment_tokens (at + width (segment_text x)) xs) → AllByRecursion (Placed text) (segment_tokens at (x ∷ xs))
    by (lexeme.lexeme l front) first last others = (record { start = first; finish = last }, others)
    by (lexeme.blank c) first last others = others
    by (lexeme.line_comment body) first last others = others
    by (lexeme.block_comment body) first last others = others

pub tokens_placed : (text : List ℕ) (tokens : List Token) → Lexes text tokens → AllByRecursion (Placed text) tokens
tokens_placed text tokens l = rw l.are (placed text [] l.segments l.spelled l.scalars 0 refl)

pub text_is_utf8 : (text : List ℕ) (tokens : List Token) → Lexes text tokens → IsUtf8 text
text_is_utf8 text tokens l = (segments_text l.segments, (l.scalars, sym l.spelled))

-- ---- a part of the text

abbrev test : List ℕ → ℕ → ℕ → Bool
test text a b = nat_le a b && nat_le b (length text) && is_utf8 (slice_range text a b)

slice_length : (text : List ℕ) (a b : ℕ) → a ≤ b → b ≤ length text → length (slice_range text a b) ≡ b - a
slice_length text a b le within = rw (length-take, length-drop) (omega arith)

pub cut_sound : (text bytes : List ℕ) (a b : ℕ) → cut text a b ≡ Some bytes → (a + length bytes ≡ b) × (bytes ≡ slice_range text a (a + length bytes))
unfolding cut
cut_sound text bytes a b e = at (test text a b) refl e
  where
    at : (t : Bool) → test text a b ≡ t → cond t (Some (slice_range text a b)) None ≡ Some bytes → (a + length bytes ≡ b) × (bytes ≡ slice_range text a (a + length bytes))
    at false h e = absurd cc
    at true h e =
        let is : slice_range text a b ≡ bytes = cc in
        let p = and_parts (nat_le a b && nat_le b (length text)) (is_utf8 (slice_range text a b)) h in
        let q = and_parts (nat_le a b) (nat_le b (length text)) p.0 in
        let le : a ≤ b = grind (arith, nat_tests, q.0) in
        let within : b ≤ length text = grind (arith, nat_tests, q.1) in
        let len : a + length bytes ≡ b = omega (arith, slice_length text a b le within, ap length is) in
        (len, rw len (sym is))

pub cut_complete : (text : List ℕ) (a b : ℕ) → IsUtf8 text → IsCharBoundary text a → IsCharBoundary text b → a ≤ b → cut text a b ≡ Some (slice_range text a b)
unfolding cut
cut_complete text a b utf8 first last le =
    let p : nat_le a b ≡ true = grind (arith, nat_tests) in
    let q : nat_le b (length text) ≡ true = grind (arith, nat_tests, last.0) in
    let r : is_utf8 (slice_range text a b) ≡ true = is_utf8-from_IsUtf8 _ (IsUtf8-between text a b utf8 le first last) in
    rw (p, q, r) refl
