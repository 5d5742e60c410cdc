-- One turn of the loop over what stands in a text.
use Rattle.std.proofs.Common.{◌≡◌, ℕ, zero, suc, ◌+◌, ◌-◌, ◌<◌, ◌≤◌, List, [], ◌∷◌, ◌++◌, length, Option, Some, None, refl, sym, ap, ◌∙◌, append_assoc, append-nil, length-append, arith}
use Rattle.std.specs.Str.{IsUtf8}
use Rattle.pg_meaning.specs.Tokens.{Lexeme, Token, Next, gap, found, bad, next, turn, put_token, passed, lex_from, lex, width, characters, segment_text, tokens_of}
use Rattle.pg_lex.specs.declared.token.Token.{Token as CodeToken}
use Rattle.pg_lex.specs.Scans.{next_at}
use Rattle.pg_lex.specs.Turns.{lex_at, continued}
use Rattle.pg_lex.specs.View.{tokens_view, token_view}
use Rattle.pg_lex.proofs.Texts.{width_characters}
use Rattle.pg_lex.proofs.Places.{Gapped, Found, gap_sound, found_sound}

pub width-append : (xs ys : List ℕ) → width (xs ++ ys) ≡ width xs + width ys
width-append [] ys = omega arith
width-append (x ∷ xs) ys = omega (arith, width-append xs ys)

-- what is behind is shorter
pub gap_shorter : (c : ℕ) (cs more : List ℕ) → next c cs ≡ gap more → length more ≤ length cs
gap_shorter c cs more e =
    let h : Gapped (c ∷ cs) more = gap_sound c cs more e in
    let w = ap (length {A = ℕ}) h.stood.whole in
    omega (arith, length-append (segment_text h.part) more, h.stood.some)

pub found_shorter : (c : ℕ) (cs : List ℕ) (l : Lexeme) (more : List ℕ) → next c cs ≡ found l more → length more ≤ length cs
found_shorter c cs l more e =
    let h : Found (c ∷ cs) l more = found_sound c cs l more e in
    let w = ap (length {A = ℕ}) h.stood.whole in
    omega (arith, length-append h.front more, h.stood.some)

-- the number of turns doesn't matter, where it is enough
pub enough : (n m at : ℕ) (cs : List ℕ) → length cs ≤ n → length cs ≤ m → lex_from n at cs ≡ lex_from m at cs
enough n m at [] a b = refl
enough zero m at (c ∷ cs) a b = absurd (omega arith)
enough (suc n) zero at (c ∷ cs) a b = absurd (omega arith)
enough (suc n) (suc m) at (c ∷ cs) a b = by (next c cs) refl (λ start more small. enough n m start more (omega arith) (omega arith))
  where
    by : (y : Next) → next c cs ≡ y → ((start : ℕ) (more : List ℕ) → length more ≤ length cs → lex_from n start more ≡ lex_from m start more) → turn at (c ∷ cs) (lex_from n) y ≡ turn at (c ∷ cs) (lex_from m) y
    by (gap more) e others = others (passed at (c ∷ cs) more) more (gap_shorter c cs more e)
    by (found l more) e others = ap (put_token (record { lexeme = l; start = at; finish = passed at (c ∷ cs) more })) (others (passed at (c ∷ cs) more) more (found_shorter c cs l more e))
    by bad e others = refl

gap_turn : (at c : ℕ) (cs more : List ℕ) → next c cs ≡ gap more → lex_at at (c ∷ cs) ≡ lex_at (passed at (c ∷ cs) more) more
gap_turn at c cs more e =
    let n : length (c ∷ cs) ≡ suc (length cs) = omega arith in
    ap (λ (n : ℕ). lex_from n at (c ∷ cs)) n ∙ ap (turn at (c ∷ cs) (lex_from (length cs))) e ∙ enough (length cs) (length more) (passed at (c ∷ cs) more) more (gap_shorter c cs more e) (omega arith)

found_turn : (at c : ℕ) (cs : List ℕ) (l : Lexeme) (more : List ℕ) → next c cs ≡ found l more → lex_at at (c ∷ cs) ≡ put_token (record { lexeme = l; start = at; finish = passed at (c ∷ cs) more }) (lex_at (passed at (c ∷ cs) more) more)
found_turn at c cs l more e =
    let n : length (c ∷ cs) ≡ suc (length cs) = omega arith in
    ap (λ (n : ℕ). lex_from n at (c ∷ cs)) n ∙ ap (turn at (c ∷ cs) (lex_from (length cs))) e
    ∙ ap (put_token (record { lexeme = l; start = at; finish = passed at (c ∷ cs) more })) (enough (length cs) (length more) (passed at (c ∷ cs) more) more (found_shorter c cs l more e) (omega arith))

-- ---- on texts

-- what the loop has reached: a place, and the tokens before it
abbrev At : List ℕ → List ℕ → List Token → Option (List Token)
At text rest front = continued front (lex_at (length text - length rest) (characters rest))

joined_put : (front : List Token) (t : Token) (o : Option (List Token)) → continued front (put_token t o) ≡ continued (front ++ t ∷ []) o
joined_put front t None = refl
joined_put front t (Some ts) = ap (λ (l : List Token). some l) (sym (append_assoc front (t ∷ []) ts))
  where
    some : List Token → Option (List Token)
    some l = Some l

-- the place behind, in bytes
place : (text rest more : List ℕ) (c : ℕ) (cs front : List ℕ) → IsUtf8 rest → IsUtf8 more → characters rest ≡ c ∷ cs → c ∷ cs ≡ front ++ characters more → length rest ≤ length text
    → (passed (length text - length rest) (c ∷ cs) (characters more) ≡ length text - length more) × (length more ≤ length rest)
place text rest more c cs front u v e whole le =
    let a : width (c ∷ cs) ≡ length rest = ap width (sym e) ∙ width_characters rest u in
    let b : width (characters more) ≡ length more = width_characters more v in
    let w : width (c ∷ cs) ≡ width front + width (characters more) = ap width whole ∙ width-append front (characters more) in
    (rw (a, b) (omega arith), omega arith)

pub gap_step : (text rest more : List ℕ) (front : List Token) (o : Option (List Token)) → IsUtf8 rest → IsUtf8 more → length rest ≤ length text → gap (characters more) ≡ next_at (characters rest) → At text rest front ≡ o
    → (length more ≤ length rest) × (length (characters more) < length (characters rest)) × (At text more front ≡ o)
gap_step text rest more front o u v le e h = by (characters rest) refl e
  where
    by : (cs : List ℕ) → characters rest ≡ cs → gap (characters more) ≡ next_at cs → (length more ≤ length rest) × (length (characters more) < length (characters rest)) × (At text more front ≡ o)
    by [] i g = absurd cc
    by (c ∷ cs) i g =
        let s : Gapped (c ∷ cs) (characters more) = gap_sound c cs (characters more) (sym g) in
        let p = place text rest more c cs (segment_text s.part) u v i s.stood.whole le in
        let step = gap_turn (length text - length rest) c cs (characters more) (sym g) in
        let small = ap (length {A = ℕ}) i in
        (p.1, omega (arith, gap_shorter c cs (characters more) (sym g)), ap (λ (n : ℕ). continued front (lex_at n (characters more))) (sym p.0) ∙ ap (continued front) (sym step) ∙ ap (λ (r : List ℕ). continued front (lex_at (length text - length rest) r)) (sym i) ∙ h)

pub found_step : (text rest more : List ℕ) (l : Lexeme) (front : List Token) (o : Option (List Token)) → IsUtf8 rest → IsUtf8 more → length rest ≤ length text → found l (characters more) ≡ next_at (characters rest) → At text rest front ≡ o
    → (length more ≤ length rest) × (length (characters more) < length (characters rest)) × (At text more (front ++ record { lexeme = l; start = length text - length rest; finish = length text - length more } ∷ []) ≡ o)
found_step text rest more l front o u v le e h = by (characters rest) refl e
  where
    by : (cs : List ℕ) → characters rest ≡ cs → found l (characters more) ≡ next_at cs → (length more ≤ length rest) × (length (characters more) < length (characters rest)) × (At text more (front ++ record { lexeme = l; start = length text - length rest; finish = length text - length more } ∷ []) ≡ o)
    by [] i g = absurd cc
    by (c ∷ cs) i g =
        let s : Found (c ∷ cs) l (characters more) = found_sound c cs l (characters more) (sym g) in
        let p = place text rest more c cs s.front u v i s.stood.whole le in
        let step = found_turn (length text - length rest) c cs l (characters more) (sym g) in
        let small = ap (length {A = ℕ}) i in (
          p.1,
          omega (arith, found_shorter c cs l (characters more) (sym g)),
          sym (joined_put front (record { lexeme = l; start = length text - length rest; finish = length text - length more }) (lex_at (length text - length more) (characters more)))
              ∙ ap (λ (n : ℕ). continued front (put_token (record { lexeme = l; start = length text - length rest; finish = n }) (lex_at n (characters more)))) (sym p.0) ∙ ap (continued front) (sym step) ∙ ap (λ (r : List ℕ). continued front (lex_at (length text - length rest) r)) (sym i) ∙ h,
        )

pub bad_step : (text rest : List ℕ) (front : List Token) (o : Option (List Token)) → (characters rest ≡ [] → ⊥) → bad ≡ next_at (characters rest) → At text rest front ≡ o → None ≡ o
bad_step text rest front o some e h = by (characters rest) refl e
  where
    by : (cs : List ℕ) → characters rest ≡ cs → bad ≡ next_at cs → None ≡ o
    by [] i g = absurd (some i)
    by (c ∷ cs) i g =
        let n : length (c ∷ cs) ≡ suc (length cs) = omega arith in
        let step : lex_at (length text - length rest) (c ∷ cs) ≡ None = ap (λ (n : ℕ). lex_from n (length text - length rest) (c ∷ cs)) n ∙ ap (turn (length text - length rest) (c ∷ cs) (lex_from (length cs))) (sym g) in
        sym (ap (continued front) step) ∙ ap (λ (r : List ℕ). continued front (lex_at (length text - length rest) r)) (sym i) ∙ h

pub tokens_more : (ts : List CodeToken) (t : CodeToken) → tokens_view (ts ++ t ∷ []) ≡ tokens_view ts ++ token_view t ∷ []
tokens_more [] t = refl
tokens_more (x ∷ ts) t = ap (λ (l : List Token). token_view x ∷ l) (tokens_more ts t)

pub tokens_are : (text : List ℕ) → lex (characters text) ≡ tokens_of text
unfolding tokens_of
tokens_are text = refl

pub characters_some : (rest : List ℕ) → IsUtf8 rest → (length rest ≡ 0 → ⊥) → characters rest ≡ [] → ⊥
characters_some rest u some e = some (sym (width_characters rest u) ∙ ap width e)

characters_none : (rest : List ℕ) → length rest ≡ 0 → characters rest ≡ []
characters_none [] e = refl
characters_none (b ∷ rest) e = absurd (omega arith)

pub end_step : (text rest : List ℕ) (front : List Token) (o : Option (List Token)) → length rest ≡ 0 → At text rest front ≡ o → Some front ≡ o
end_step text rest front o none h = ap (λ (l : List Token). some l) (sym (append-nil front)) ∙ ap (λ (r : List ℕ). continued front (lex_at (length text - length rest) r)) (sym (characters_none rest none)) ∙ h
  where
    some : List Token → Option (List Token)
    some l = Some l
