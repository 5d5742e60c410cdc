-- The longest front whose characters pass a test.
use Rattle.std.proofs.Common.{◌≡◌, ℕ, ◌<◌, ◌≤◌, Bool, true, false, List, [], ◌∷◌, ◌++◌, length, length-append, ◌||◌, Some, refl, ap, ◌∙◌, arith, leb}
use Rattle.std.proofs.lemmas.Bool.{leb-true, and_parts}
use Rattle.std.proofs.lemmas.Str.{encode_ascii}
use Rattle.pg_lex.proofs.Texts.{utf8_of_same}
use Rattle.pg_meaning.specs.Tokens.{run, after, utf8, continues_word, is_digit, All, Starts}
use Rattle.pg_lex.specs.Scans.{word_front, digits_front}

pub run_after : (p : ℕ → Bool) (cs : List ℕ) → cs ≡ run p cs ++ after p cs
run_after p [] = refl
run_after p (c ∷ cs) = elim (p c) as (λ (x : Bool). c ∷ cs ≡ elim x as (λ _. List ℕ) [ true ↦ c ∷ run p cs | false ↦ [] ] ++ elim x as (λ _. List ℕ) [ true ↦ after p cs | false ↦ c ∷ cs ]) [ true ↦ ap (λ (r : List ℕ). c ∷ r) (run_after p cs) | false ↦ refl ]

pub run_all : (p : ℕ → Bool) (cs : List ℕ) → All p (run p cs)
run_all p [] = tt
run_all p (c ∷ cs) = at (p c) refl (run_all p cs)
  where
    at : (x : Bool) → p c ≡ x → All p (run p cs) → All p (elim x as (λ _. List ℕ) [ true ↦ c ∷ run p cs | false ↦ [] ])
    at true e h = (e, h)
    at false e h = tt

-- a first character, those of the run, and the rest
pub ends : (p : ℕ → Bool) (c : ℕ) (text behind rest : List ℕ) → text ≡ c ∷ behind → rest ≡ after p behind → text ≡ (c ∷ run p behind) ++ rest
ends p c text behind rest e f = rw (e, f) (ap (λ (r : List ℕ). c ∷ r) (run_after p behind))

pub ends_there : (p : ℕ → Bool) (c : ℕ) (text behind rest : List ℕ) → text ≡ c ∷ behind → rest ≡ after p behind → (front : List ℕ) × (text ≡ front ++ rest)
ends_there p c text behind rest e f = (c ∷ run p behind, ends p c text behind rest e f)

pub word_is : (c : ℕ) (text behind rest w : List ℕ) → text ≡ c ∷ behind → rest ≡ after continues_word behind → w ≡ utf8 (c ∷ run continues_word behind) → word_front text ≡ Some (w, rest)
word_is c text behind rest w e f g = rw (e, f, g) refl

pub utf8_digits : (cs : List ℕ) → All is_digit cs → utf8 cs ≡ cs
utf8_digits [] h = refl
utf8_digits (c ∷ cs) h =
    let small : c < 128 = omega (arith, leb-true c 57 (and_parts (leb 48 c) (leb c 57) h.0).1) in
    ap (λ (l : List ℕ). l ++ utf8 cs) (utf8_of_same c ∙ encode_ascii c small) ∙ ap (λ (l : List ℕ). c ∷ l) (utf8_digits cs h.1)

pub digits_is : (c : ℕ) (text behind rest w : List ℕ) → text ≡ c ∷ behind → is_digit c ≡ true → rest ≡ after is_digit behind → w ≡ utf8 (c ∷ run is_digit behind) → digits_front text ≡ Some (w, rest)
digits_is c text behind rest w e d f g = rw (e, f, g, utf8_digits (c ∷ run is_digit behind) (d, run_all is_digit behind)) refl

-- ---- where a run ends

after_yes : (p : ℕ → Bool) (c : ℕ) (cs : List ℕ) → p c ≡ true → after p (c ∷ cs) ≡ after p cs
after_yes p c cs h = ap (λ (t : Bool). elim t as (λ _. List ℕ) [ true ↦ after p cs | false ↦ c ∷ cs ]) h

after_no : (p : ℕ → Bool) (c : ℕ) (cs : List ℕ) → p c ≡ false → after p (c ∷ cs) ≡ c ∷ cs
after_no p c cs h = ap (λ (t : Bool). elim t as (λ _. List ℕ) [ true ↦ after p cs | false ↦ c ∷ cs ]) h

run_yes : (p : ℕ → Bool) (c : ℕ) (cs : List ℕ) → p c ≡ true → run p (c ∷ cs) ≡ c ∷ run p cs
run_yes p c cs h = ap (λ (t : Bool). elim t as (λ _. List ℕ) [ true ↦ c ∷ run p cs | false ↦ [] ]) h

run_no : (p : ℕ → Bool) (c : ℕ) (cs : List ℕ) → p c ≡ false → run p (c ∷ cs) ≡ []
run_no p c cs h = ap (λ (t : Bool). elim t as (λ _. List ℕ) [ true ↦ c ∷ run p cs | false ↦ [] ]) h

pub after_starts : (p : ℕ → Bool) (cs : List ℕ) → Starts p (after p cs) ≡ false
after_starts p [] = refl
after_starts p (c ∷ cs) = at (p c) refl (after_starts p cs)
  where
    at : (x : Bool) → p c ≡ x → Starts p (after p cs) ≡ false → Starts p (elim x as (λ _. List ℕ) [ true ↦ after p cs | false ↦ c ∷ cs ]) ≡ false
    at true e h = h
    at false e h = e

pub after_short : (p : ℕ → Bool) (cs : List ℕ) → length (after p cs) ≤ length cs
after_short p cs = let e = ap (length {A = ℕ}) (run_after p cs) in omega (arith, length-append (run p cs) (after p cs))

pub after_len : (p : ℕ → Bool) (f m : List ℕ) → All p f → length (after p (f ++ m)) ≤ length m
after_len p [] m all = after_short p m
after_len p (c ∷ f) m all = let e = ap (length {A = ℕ}) (after_yes p c (f ++ m) all.0) in omega (arith, after_len p f m all.1, e)

pub run_is : (p : ℕ → Bool) (f m : List ℕ) → All p f → Starts p m ≡ false → run p (f ++ m) ≡ f
run_is p [] [] all ends = refl
run_is p [] (c ∷ m) all ends = run_no p c m ends
run_is p (c ∷ f) m all ends = run_yes p c (f ++ m) all.0 ∙ ap (λ (r : List ℕ). c ∷ r) (run_is p f m all.1 ends)

pub after_is : (p : ℕ → Bool) (f m : List ℕ) → All p f → Starts p m ≡ false → after p (f ++ m) ≡ m
after_is p [] [] all ends = refl
after_is p [] (c ∷ m) all ends = after_no p c m ends
after_is p (c ∷ f) m all ends = after_yes p c (f ++ m) all.0 ∙ after_is p f m all.1 ends

pub all_more : (p : ℕ → Bool) (f : List ℕ) (c : ℕ) → All p f → p c ≡ true → All p (f ++ c ∷ [])
all_more p [] c all e = (e, tt)
all_more p (d ∷ f) c all e = (all.0, all_more p f c all.1 e)

-- where the characters are all there may be, none goes on
pub longest_ends : (p : ℕ → Bool) (m : List ℕ) → ((c : ℕ) (cs : List ℕ) → m ≡ c ∷ cs → p c ≡ true → ⊥) → Starts p m ≡ false
longest_ends p [] h = refl
longest_ends p (c ∷ cs) h = at (p c) refl
  where
    at : (x : Bool) → p c ≡ x → p c ≡ false
    at true e = absurd (h c cs refl e)
    at false e = e

pub starts_or : (p q : ℕ → Bool) (m : List ℕ) → Starts p m ≡ false → Starts q m ≡ false → Starts (λ c. p c || q c) m ≡ false
starts_or p q [] h g = refl
starts_or p q (c ∷ m) h g = rw (h, g) refl

pub starts_parts : (p q : ℕ → Bool) (m : List ℕ) → Starts (λ c. p c || q c) m ≡ false → (Starts p m ≡ false) × (Starts q m ≡ false)
starts_parts p q [] h = (refl, refl)
starts_parts p q (c ∷ m) h = at (p c) (q c) h
  where
    at : (x y : Bool) → (x || y) ≡ false → (x ≡ false) × (y ≡ false)
    at true y h = absurd cc
    at false y h = (refl, h)
