-- The lexer's laws.
use Rattle.std.proofs.Common.{◌≡◌, true, ℕ, zero, suc, ◌+◌, ◌≤◌, List, [], ◌∷◌, ◌++◌, length, Option, Some, None, refl, sym, ap, ◌∙◌, subst, length-append, encode_utf8_all, arith}
use Rattle.std.specs.Str.{IsUtf8, all_scalars, chars}
use Rattle.std.proofs.lemmas.Str.{encodes-chars, chars-encodes, scalars-chars}
use Rattle.pg_meaning.specs.Tokens.{Lexeme, Token, Next, gap, found, bad, next, turn, put_token, passed, lex_from, lex, width, characters, Segment, blank, line_comment, block_comment, lexeme, segment_text, segments_text, Stands, AllStand, token_of, segment_tokens, Lexes, tokens_of, LexesExactly, OneLexing}
use Rattle.pg_lex.proofs.Texts.{characters_same}
use Rattle.pg_lex.proofs.Classes.{not_empty}
use Rattle.pg_lex.proofs.Turns.{width-append}
use Rattle.pg_lex.proofs.Places.{Stood, Gapped, Found, gap_sound, found_sound}
use Rattle.pg_lex.proofs.Comes.{Comes, comes_next, turn_of}

abbrev some : List Token → Option (List Token)
some ts = Some ts

-- ---- what is lexed stands there

record Segmented (at : ℕ) (cs : List ℕ) (ts : List Token) : Type 0 where
  parts : List Segment
  whole : segments_text parts ≡ cs
  stand : AllStand parts
  are : ts ≡ segment_tokens at parts

passed_is : (at : ℕ) (cs front more : List ℕ) → cs ≡ front ++ more → passed at cs more ≡ at + width front
passed_is at cs front more e = let w = ap width e in omega (arith, width-append front more)

one_more : (at : ℕ) (cs more : List ℕ) (x : Segment) (ts : List Token) → Stood cs x more → Segmented (passed at cs more) more ts → Segmented at cs (token_of at x ++ ts)
one_more at cs more x ts h s =
    let place = passed_is at cs (segment_text x) more h.whole in
    record {
      parts = x ∷ s.parts;
      whole = ap (λ (r : List ℕ). segment_text x ++ r) s.whole ∙ sym h.whole;
      stand = (subst (λ (r : List ℕ). Stands x r) (sym s.whole) h.stands, s.stand);
      are = ap (λ (r : List Token). token_of at x ++ r) (s.are ∙ ap (λ (n : ℕ). segment_tokens n s.parts) place);
    }

put_parts : (t : Token) (o : Option (List Token)) (ts : List Token) → put_token t o ≡ some ts → (others : List Token) × (o ≡ some others) × (t ∷ others ≡ ts)
put_parts t None ts e = absurd cc
put_parts t (Some others) ts e = (others, refl, cc)

lex_sound : (n at : ℕ) (cs : List ℕ) (ts : List Token) → lex_from n at cs ≡ some ts → Segmented at cs ts
lex_sound n at [] ts e = let h : ts ≡ [] = cc in record { parts = []; whole = refl; stand = tt; are = h }
lex_sound zero at (c ∷ cs) ts e = absurd cc
lex_sound (suc n) at (c ∷ cs) ts e = by (next c cs) refl e (λ start more us g. lex_sound n start more us g)
  where
    by : (y : Next) → next c cs ≡ y → turn at (c ∷ cs) (lex_from n) y ≡ some ts → ((start : ℕ) (more : List ℕ) (us : List Token) → lex_from n start more ≡ some us → Segmented start more us) → Segmented at (c ∷ cs) ts
    by (gap more) i g others =
        let h : Gapped (c ∷ cs) more = gap_sound c cs more i in
        let s : Segmented at (c ∷ cs) (token_of at h.part ++ ts) = one_more at (c ∷ cs) more h.part ts h.stood (others (passed at (c ∷ cs) more) more ts g) in
        subst (λ (us : List Token). Segmented at (c ∷ cs) us) (ap (λ (r : List Token). r ++ ts) (h.no_token at)) s
    by (found l more) i g others =
        let h : Found (c ∷ cs) l more = found_sound c cs l more i in
        let p = put_parts (record { lexeme = l; start = at; finish = passed at (c ∷ cs) more }) (lex_from n (passed at (c ∷ cs) more) more) ts g in
        let s : Segmented at (c ∷ cs) (token_of at (lexeme l h.front) ++ p.0) = one_more at (c ∷ cs) more (lexeme l h.front) p.0 h.stood (others (passed at (c ∷ cs) more) more p.0 p.1) in
        let place = passed_is at (c ∷ cs) h.front more h.stood.whole in
        let same : token_of at (lexeme l h.front) ++ p.0 ≡ ts = ap (λ (n : ℕ). token l at n ∷ p.0) (sym place) ∙ p.2 in
        subst (λ (us : List Token). Segmented at (c ∷ cs) us) same s
      where
        token : Lexeme → ℕ → ℕ → Token
        token l start finish = record { lexeme = l; start = start; finish = finish }
    by bad i g others = absurd cc

-- ---- what stands there is lexed

gap_is : (at : ℕ) (cs : List ℕ) (others : ℕ → List ℕ → Option (List Token)) (x : Segment) (more : List ℕ) (ts : List Token) → cs ≡ segment_text x ++ more → others (at + width (segment_text x)) more ≡ some ts
    → others (passed at cs more) more ≡ some ts
gap_is at cs others x more ts whole h = ap (λ (n : ℕ). others n more) (passed_is at cs (segment_text x) more whole) ∙ h

text_some : (x : Segment) (more : List ℕ) → Stands x more → 1 ≤ length (segment_text x)
text_some (blank c) more h = omega arith
text_some (line_comment b) more h = omega arith
text_some (block_comment b) more h = omega arith
text_some (lexeme l []) more h = absurd (not_empty l h.0)
text_some (lexeme l (c ∷ f)) more h = omega arith

turn_is : (at : ℕ) (cs : List ℕ) (others : ℕ → List ℕ → Option (List Token)) (x : Segment) (more : List ℕ) (ts : List Token) → cs ≡ segment_text x ++ more → others (at + width (segment_text x)) more ≡ some ts
    → turn at cs others (turn_of x more) ≡ some (token_of at x ++ ts)
turn_is at cs others (lexeme l front) more ts whole h =
    let place = passed_is at cs front more whole in
    ap (λ (n : ℕ). put_token (record { lexeme = l; start = at; finish = n }) (others n more)) place ∙ ap (put_token (record { lexeme = l; start = at; finish = at + width front })) h
turn_is at cs others (blank c) more ts whole h = gap_is at cs others (blank c) more ts whole h
turn_is at cs others (line_comment b) more ts whole h = gap_is at cs others (line_comment b) more ts whole h
turn_is at cs others (block_comment b) more ts whole h = gap_is at cs others (block_comment b) more ts whole h

lex_complete : (n at : ℕ) (xs : List Segment) → AllStand xs → length (segments_text xs) ≤ n → lex_from n at (segments_text xs) ≡ some (segment_tokens at xs)
lex_complete n at [] h le = refl
lex_complete n at (x ∷ xs) h le = by n le (comes_next x xs h) (λ m start small. lex_complete m start xs h.1 small)
  where
    by : (n : ℕ) → length (segments_text (x ∷ xs)) ≤ n → Comes x (segments_text xs) → ((m start : ℕ) → length (segments_text xs) ≤ m → lex_from m start (segments_text xs) ≡ some (segment_tokens start xs)) → lex_from n at (segments_text (x ∷ xs)) ≡ some (segment_tokens at (x ∷ xs))
    by zero le c others = let long = ap (length {A = ℕ}) c.whole in absurd (omega arith)
    by (suc n) le c others =
        let long = ap (length {A = ℕ}) c.whole in
        let some_text : 1 ≤ length (segment_text x) = text_some x (segments_text xs) h.0 in
        let rest = others n (at + width (segment_text x)) (omega (arith, length-append (segment_text x) (segments_text xs))) in
        ap (lex_from (suc n) at) c.whole ∙ ap (turn at (c.first ∷ c.behind) (lex_from n)) c.comes ∙ turn_is at (c.first ∷ c.behind) (lex_from n) x (segments_text xs) (segment_tokens (at + width (segment_text x)) xs) (sym c.whole) rest

-- ---- the laws

spelled_utf8 : (cs : List ℕ) (text : List ℕ) → all_scalars cs ≡ true → text ≡ encode_utf8_all cs → characters text ≡ cs
spelled_utf8 cs text h e = characters_same text ∙ ap chars e ∙ chars-encodes cs h

lexed : (text : List ℕ) (ts : List Token) → Lexes text ts → lex (characters text) ≡ some ts
lexed text ts h =
    let cs = spelled_utf8 (segments_text h.segments) text h.scalars h.spelled in
    ap lex cs ∙ lex_complete (length (segments_text h.segments)) 0 h.segments h.stands (omega arith) ∙ ap some (sym h.are)

stands_there : (text : List ℕ) (ts : List Token) → IsUtf8 text → lex (characters text) ≡ some ts → Lexes text ts
stands_there text ts u e =
    let s : Segmented 0 (characters text) ts = lex_sound (length (characters text)) 0 (characters text) ts e in
    let same : segments_text s.parts ≡ chars text = s.whole ∙ characters_same text in
    record { segments = s.parts; scalars = ap all_scalars same ∙ scalars-chars text u; spelled = sym (encodes-chars text u) ∙ ap encode_utf8_all (sym same); stands = s.stand; are = s.are }

pub lexes_exactly : LexesExactly
unfolding tokens_of
lexes_exactly text u ts = (λ h. lexed text ts h, λ e. stands_there text ts u e)

pub one_lexing : OneLexing
one_lexing text ts us h g = let a = lexed text ts h in let b = lexed text us g in cc
