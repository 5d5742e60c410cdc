-- The contents of strings.
use Rattle.std.proofs.Common.{◌≡◌, ℕ, zero, suc, ◌+◌, ◌*◌, Bool, true, false, cond, eqb, List, [], ◌∷◌, ◌++◌, Option, Some, None, refl, sym, ap, ◌∙◌, encode_utf8, zero-add}
use Rattle.pg_meaning.specs.Tokens.{Front, string_from, outside, backslash, hexadecimal, prepended, hexadecimal_value, escape_of, is_surrogate}
use Rattle.pg_lex.specs.Scans.{behind_text, meant_front, escaped, coded_front, hexadecimal_front, with_rest, character_of, ◌>>=◌}
use Rattle.pg_lex.proofs.Backquotes.{behind_put}

-- the rest of the string behind a character
abbrev pub go_on : ℕ → ℕ × List ℕ → Front (List ℕ)
go_on q p = prepended p.0 (string_from q outside p.1)

last_digit : (q v : ℕ) (cs : List ℕ) → string_from q (hexadecimal zero v) cs ≡ (hexadecimal_front cs >>= λ d. with_rest d.1 (character_of (v * 16 + d.0))) >>= go_on q
last_digit q v [] = refl
last_digit q v (c ∷ cs) = at (hexadecimal_value c)
  where
    coded : (d : ℕ) (x : Bool) → elim x as (λ _. Front (List ℕ)) [ true ↦ None | false ↦ prepended (v * 16 + d) (string_from q outside cs) ] ≡ with_rest cs (cond x None (Some (v * 16 + d))) >>= go_on q
    coded d true = refl
    coded d false = refl

    at : (o : Option ℕ) → elim o as (λ _. Front (List ℕ)) [ None ↦ None | Some d ↦ elim (is_surrogate (v * 16 + d)) as (λ _. Front (List ℕ)) [ true ↦ None | false ↦ prepended (v * 16 + d) (string_from q outside cs) ] ] ≡ (with_rest cs o >>= λ d. with_rest d.1 (character_of (v * 16 + d.0))) >>= go_on q
    at None = refl
    at (Some d) = coded d (is_surrogate (v * 16 + d))

-- a digit, and then others
digit : (q n v : ℕ) (cs : List ℕ) (f : ℕ → List ℕ → Front ℕ) → ((d : ℕ) (ds : List ℕ) → string_from q (hexadecimal n (v * 16 + d)) ds ≡ f d ds >>= go_on q)
    → string_from q (hexadecimal (suc n) v) cs ≡ (hexadecimal_front cs >>= λ d. f d.0 d.1) >>= go_on q
digit q n v [] f h = refl
digit q n v (c ∷ cs) f h = at (hexadecimal_value c)
  where
    at : (o : Option ℕ) → elim o as (λ _. Front (List ℕ)) [ None ↦ None | Some d ↦ string_from q (hexadecimal n (v * 16 + d)) cs ] ≡ (with_rest cs o >>= λ d. f d.0 d.1) >>= go_on q
    at None = refl
    at (Some d) = h d cs

abbrev pub three_more : ℕ → List ℕ → Front ℕ
three_more v cs = hexadecimal_front cs >>= λ b. hexadecimal_front b.1 >>= λ c. hexadecimal_front c.1 >>= λ d. with_rest d.1 (character_of (((v * 16 + b.0) * 16 + c.0) * 16 + d.0))

abbrev pub two_more : ℕ → List ℕ → Front ℕ
two_more v cs = hexadecimal_front cs >>= λ c. hexadecimal_front c.1 >>= λ d. with_rest d.1 (character_of ((v * 16 + c.0) * 16 + d.0))

abbrev pub one_more : ℕ → List ℕ → Front ℕ
one_more v cs = hexadecimal_front cs >>= λ d. with_rest d.1 (character_of (v * 16 + d.0))

coded_same : (q : ℕ) (cs : List ℕ) → string_from q (hexadecimal 3 0) cs ≡ coded_front cs >>= go_on q
coded_same q cs =
    digit q 2 0 cs (λ a as'. three_more a as') (λ a as'. rw (zero-add a) (digit q 1 a as' (λ b bs. two_more (a * 16 + b) bs) (λ b bs. digit q 0 (a * 16 + b) bs (λ c cs. one_more ((a * 16 + b) * 16 + c) cs) (λ c cs. last_digit q ((a * 16 + b) * 16 + c) cs))))

-- ---- one character

abbrev pub next_part : ℕ → Front ℕ → Front (List ℕ)
next_part q None = None
next_part q (Some p) = go_on q p

bound : (q : ℕ) (o : Front ℕ) → (o >>= go_on q) ≡ next_part q o
bound q None = refl
bound q (Some p) = refl

escaped_same : (q : ℕ) (cs : List ℕ) → string_from q backslash cs ≡ next_part q (escaped cs)
escaped_same q [] = refl
escaped_same q (c ∷ cs) = at (eqb c 117)
  where
    plain : (o : Option ℕ) → elim o as (λ _. Front (List ℕ)) [ None ↦ None | Some m ↦ prepended m (string_from q outside cs) ] ≡ next_part q (with_rest cs o)
    plain None = refl
    plain (Some m) = refl

    at : (x : Bool) → elim x as (λ _. Front (List ℕ)) [ true ↦ string_from q (hexadecimal 3 0) cs | false ↦ elim (escape_of c) as (λ _. Front (List ℕ)) [ None ↦ None | Some m ↦ prepended m (string_from q outside cs) ] ] ≡ next_part q (cond x (coded_front cs) (with_rest cs (escape_of c)))
    at true = coded_same q cs ∙ bound q (coded_front cs)
    at false = plain (escape_of c)

pub string_step : (q c : ℕ) (cs : List ℕ) → eqb c q ≡ false → string_from q outside (c ∷ cs) ≡ next_part q (meant_front c cs)
string_step q c cs e = ap (λ (t : Bool). elim t as (λ _. Front (List ℕ)) [ true ↦ Some ([], cs) | false ↦ elim (eqb c 92) as (λ _. Front (List ℕ)) [ true ↦ string_from q backslash cs | false ↦ prepended c (string_from q outside cs) ] ]) e ∙ at (eqb c 92)
  where
    at : (x : Bool) → elim x as (λ _. Front (List ℕ)) [ true ↦ string_from q backslash cs | false ↦ prepended c (string_from q outside cs) ] ≡ next_part q (cond x (escaped cs) (Some (c, cs)))
    at true = escaped_same q cs
    at false = refl

-- the string goes on behind a character
pub string_more : (q : ℕ) (t n r b more : List ℕ) (c m : ℕ) (o : Option (List ℕ × List ℕ)) → behind_text t (string_from q outside r) ≡ o → r ≡ c ∷ b → eqb c q ≡ false → meant_front c b ≡ Some (m, more) → n ≡ t ++ encode_utf8 m → behind_text n (string_from q outside more) ≡ o
string_more q t n r b more c m o h e other f g =
    let step : string_from q outside r ≡ prepended m (string_from q outside more) = ap (string_from q outside) e ∙ string_step q c b other ∙ ap (next_part q) f in
    rw g (sym (behind_put t m (string_from q outside more)) ∙ ap (behind_text t) (sym step) ∙ h)

pub string_ends : (q : ℕ) (t r b : List ℕ) (c : ℕ) (o : Option (List ℕ × List ℕ)) → behind_text t (string_from q outside r) ≡ o → r ≡ c ∷ b → eqb c q ≡ false → meant_front c b ≡ None → o ≡ None
string_ends q t r b c o h e other f = sym h ∙ ap (behind_text t) (ap (string_from q outside) e ∙ string_step q c b other ∙ ap (next_part q) f)
