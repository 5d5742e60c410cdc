-- Words and keywords.
use Rattle.std.proofs.Common.{◌≡◌, ℕ, ◌+◌, ◌/◌, ◌%◌, ◌<◌, ◌≤◌, Bool, true, false, cond, ltb, eqb, ◌&&◌, List, [], ◌∷◌, ◌++◌, Option, Some, refl, sym, ap, ◌∙◌, arith, map, bytes_eq}
use Rattle.std.specs.Char.{to_ascii_lowercase}
use Rattle.std.specs.Char.{encode_utf8 as encode}
use Rattle.std.proofs.lemmas.Bool.{ltb-true, ltb-false, ne_eqb, le-ltb, and_parts}
use Rattle.std.proofs.lemmas.Slice.Eq.{bytes_eq-Decides}
use Rattle.pg_meaning.specs.declared.lexemes.Keyword.{Keyword}
use Rattle.pg_meaning.specs.Tokens.{utf8, keywords, keyword_among, keyword_of, worded, word_at, after, continues_word}
use Rattle.pg_lex.proofs.Pairs.{both, same_pair}
use Rattle.pg_lex.specs.Scans.{word_front, worded_front}

-- ---- the same word in characters and in bytes

abbrev are_ascii : List ℕ → Bool
are_ascii [] = true
are_ascii (c ∷ cs) = ltb c 128 && are_ascii cs

-- a character past ASCII begins with a byte past ASCII
high_byte : (c : ℕ) → 128 ≤ c → (b : ℕ) × (bs : List ℕ) × (encode c ≡ b ∷ bs) × (128 ≤ b)
unfolding encode
high_byte c high = rw (le-ltb c 128 high) (at (ltb c 2048) (ltb c 65536))
  where
    at : (x y : Bool) → (b : ℕ) × (bs : List ℕ) × (cond x ((192 + c / 64) ∷ (128 + c % 64) ∷ []) (cond y ((224 + c / 4096) ∷ (128 + (c / 64) % 64) ∷ (128 + c % 64) ∷ []) ((240 + c / 262144) ∷ (128 + (c / 4096) % 64) ∷ (128 + (c / 64) % 64) ∷ (128 + c % 64) ∷ [])) ≡ b ∷ bs) × (128 ≤ b)
    at true y = (_, _, refl, omega arith)
    at false true = (_, _, refl, omega arith)
    at false false = (_, _, refl, omega arith)

lower_high : (b : ℕ) → 128 ≤ b → to_ascii_lowercase b ≡ b
lower_high b high = rw (le-ltb b 65 (omega arith), le-ltb b 91 (omega arith)) refl

-- a step of the comparison below
low_test : (c : ℕ) (bs ds k : List ℕ) → ((k : List ℕ) → are_ascii k ≡ true → bytes_eq k (map to_ascii_lowercase bs) ≡ bytes_eq k (map to_ascii_lowercase ds)) → are_ascii k ≡ true
    → bytes_eq k (to_ascii_lowercase c ∷ map to_ascii_lowercase bs) ≡ bytes_eq k (to_ascii_lowercase c ∷ map to_ascii_lowercase ds)
low_test c bs ds [] more h = refl
low_test c bs ds (x ∷ k) more h = ap (λ (t : Bool). eqb x (to_ascii_lowercase c) && t) (more k (and_parts (ltb x 128) (are_ascii k) h).1)

high_test : (c : ℕ) (bs ds k : List ℕ) → 128 ≤ c → are_ascii k ≡ true → bytes_eq k (map to_ascii_lowercase (encode c ++ bs)) ≡ bytes_eq k (to_ascii_lowercase c ∷ map to_ascii_lowercase ds)
high_test c bs ds [] le h = let b = high_byte c le in ap (λ (l : List ℕ). bytes_eq [] (map to_ascii_lowercase (l ++ bs))) b.2
high_test c bs ds (x ∷ k) le h =
    let b = high_byte c le in
    let small : x < 128 = ltb-true x 128 (and_parts (ltb x 128) (are_ascii k) h).0 in
    let no : eqb x b.0 ≡ false = ne_eqb x b.0 (λ e. omega (arith, b.3)) in
    let none : eqb x c ≡ false = ne_eqb x c (λ e. omega arith) in
    ap (λ (l : List ℕ). bytes_eq (x ∷ k) (map to_ascii_lowercase (l ++ bs))) b.2 ∙ rw (lower_high b.0 b.3, lower_high c le, no, none) refl

same_test : (k cs : List ℕ) → are_ascii k ≡ true → bytes_eq k (map to_ascii_lowercase (utf8 cs)) ≡ bytes_eq k (map to_ascii_lowercase cs)
same_test [] [] h = refl
same_test (x ∷ k) [] h = refl
same_test k (c ∷ cs) h = at (ltb c 128) refl (λ k g. same_test k cs g)
  where
    at : (t : Bool) → ltb c 128 ≡ t → ((k : List ℕ) → are_ascii k ≡ true → bytes_eq k (map to_ascii_lowercase (utf8 cs)) ≡ bytes_eq k (map to_ascii_lowercase cs)) → bytes_eq k (map to_ascii_lowercase (elim t as (λ _. List ℕ) [ true ↦ c ∷ [] | false ↦ encode c ] ++ utf8 cs)) ≡ bytes_eq k (to_ascii_lowercase c ∷ map to_ascii_lowercase cs)
    at true e more = low_test c (utf8 cs) cs k more h
    at false e more = high_test c (utf8 cs) cs k (ltb-false c 128 e) h

abbrev ascii_keys : List (List ℕ × Keyword) → Bool
ascii_keys [] = true
ascii_keys (p ∷ ps) = are_ascii p.0 && ascii_keys ps

abbrev pub pick : Bool → Keyword → Option Keyword → Option Keyword
pick t k o = elim t [ true ↦ Some k | false ↦ o ]

among_same : (ps : List (List ℕ × Keyword)) (cs : List ℕ) → ascii_keys ps ≡ true → keyword_among ps (map to_ascii_lowercase (utf8 cs)) ≡ keyword_among ps (map to_ascii_lowercase cs)
among_same [] cs h = refl
among_same (p ∷ ps) cs h =
    let a = and_parts (are_ascii p.0) (ascii_keys ps) h in
    ap (λ (t : Bool). pick t p.1 (keyword_among ps (map to_ascii_lowercase (utf8 cs)))) (same_test p.0 cs a.0) ∙ ap (λ (o : Option Keyword). pick (bytes_eq p.0 (map to_ascii_lowercase cs)) p.1 o) (among_same ps cs a.1)

pub keyword_same : (cs : List ℕ) → keyword_of (utf8 cs) ≡ keyword_of cs
unfolding keyword_of keywords
keyword_same cs = among_same keywords cs refl

pub worded_word : (cs w more : List ℕ) → word_front cs ≡ Some (w, more) → worded_front cs ≡ Some (worded w (keyword_of w), more)
worded_word [] w more e = absurd cc
worded_word (c ∷ cs) w more e =
    let h = same_pair (utf8 (word_at c cs)) w (after continues_word cs) more e in
    ap (λ (o : Option Keyword). both (worded (utf8 (word_at c cs)) o) (after continues_word cs)) (sym (keyword_same (word_at c cs))) ∙ rw (h.0, h.1) refl

-- ---- one keyword and those behind it

pub found : (k w : List ℕ) (x : Keyword) (ps : List (List ℕ × Keyword)) → w ≡ k → keyword_among ((k, x) ∷ ps) w ≡ Some x
found k w x ps e = ap (λ t. pick t x (keyword_among ps w)) ((bytes_eq-Decides k w).1 (sym e))

pub passed : (k w : List ℕ) (x : Keyword) (ps : List (List ℕ × Keyword)) → (w ≡ k → ⊥) → keyword_among ((k, x) ∷ ps) w ≡ keyword_among ps w
passed k w x ps other = at (bytes_eq k w) refl
  where
    at : (t : Bool) → bytes_eq k w ≡ t → pick t x (keyword_among ps w) ≡ keyword_among ps w
    at true e = absurd (other (sym ((bytes_eq-Decides k w).0 e)))
    at false e = refl
