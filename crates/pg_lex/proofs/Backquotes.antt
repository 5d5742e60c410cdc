-- Names in backquotes.
use Rattle.std.proofs.Common.{◌≡◌, ℕ, Bool, true, false, cond, eqb, List, [], ◌∷◌, ◌++◌, Option, Some, None, refl, sym, ap, ◌∙◌, append_assoc, append-nil, encode_utf8, length, length-append, arith}
use Rattle.std.proofs.lemmas.Bool.{eqb-true}
use Rattle.std.proofs.lemmas.Str.{length-encode, len_utf8_bounds}
use Rattle.pg_meaning.specs.Tokens.{Front, quoted_from, prepended, named, Lexeme, is_empty, utf8, utf8_of}
use Rattle.pg_lex.specs.Scans.{past_front, strip_backquote, behind_text, nonempty}
use Rattle.pg_lex.proofs.Pairs.{both, same_pair}
use Rattle.pg_lex.proofs.Texts.{utf8_of_same}

-- a character more
pub behind_put : (t : List ℕ) (c : ℕ) (o : Front (List ℕ)) → behind_text t (prepended c o) ≡ behind_text (t ++ encode_utf8 c) o
behind_put t c None = refl
behind_put t c (Some p) = ap (λ (l : List ℕ). pair l) (sym (append_assoc t (utf8_of c) (utf8 p.0)) ∙ ap (λ (l : List ℕ). (t ++ l) ++ utf8 p.0) (utf8_of_same c))
  where
    pair : List ℕ → Option (List ℕ × List ℕ)
    pair l = Some (l, p.1)

abbrev one_more : ℕ → Option (List ℕ) → List ℕ → Front (List ℕ)
one_more c None cs = Some ([], cs)
one_more c (Some more) cs = prepended c (quoted_from false more)

quoted_step : (c : ℕ) (cs : List ℕ) → quoted_from false (c ∷ cs) ≡ one_more c (past_front c cs) cs
quoted_step c cs = at (eqb c 96) refl cs
  where
    second : (x : Bool) (d : ℕ) (ds : List ℕ) → c ≡ 96 → elim x as (λ _. Front (List ℕ)) [ true ↦ prepended 96 (quoted_from false ds) | false ↦ Some ([], d ∷ ds) ] ≡ one_more c (cond x (Some ds) None) (d ∷ ds)
    second true d ds e = rw e refl
    second false d ds e = refl

    at : (x : Bool) → eqb c 96 ≡ x → (cs : List ℕ) → elim x as (λ _. Front (List ℕ)) [ true ↦ quoted_from true cs | false ↦ prepended c (quoted_from false cs) ] ≡ one_more c (cond x (strip_backquote cs) (Some cs)) cs
    at true e [] = refl
    at true e (d ∷ ds) = second (eqb d 96) d ds (eqb-true c 96 e)
    at false e cs = refl

pub quoted_more : (t n r b m : List ℕ) (c : ℕ) (o : Option (List ℕ × List ℕ)) → behind_text t (quoted_from false r) ≡ o → r ≡ c ∷ b → past_front c b ≡ Some m → n ≡ t ++ encode_utf8 c → behind_text n (quoted_from false m) ≡ o
quoted_more t n r b m c o h e f g =
    let step : quoted_from false r ≡ prepended c (quoted_from false m) = ap (quoted_from false) e ∙ quoted_step c b ∙ ap (λ (x : Option (List ℕ)). one_more c x b) f in
    rw g (sym (behind_put t c (quoted_from false m)) ∙ ap (behind_text t) (sym step) ∙ h)

pub ended : (t r b : List ℕ) (c : ℕ) (o : Front (List ℕ)) → behind_text t (quoted_from false r) ≡ behind_text [] o → r ≡ c ∷ b → past_front c b ≡ None → behind_text [] o ≡ Some (t, b)
ended t r b c o h e f =
    let step : quoted_from false r ≡ Some ([], b) = ap (quoted_from false) e ∙ quoted_step c b ∙ ap (λ (x : Option (List ℕ)). one_more c x b) f in
    sym h ∙ ap (behind_text t) step ∙ ap (λ (l : List ℕ). both l b) (append-nil t)

-- ---- at least one character

pub unended : (t r : List ℕ) (o : Front (List ℕ)) → behind_text t (quoted_from false r) ≡ behind_text [] o → r ≡ [] → behind_text [] (nonempty o) ≡ None
unended t r None h e = refl
unended t r (Some p) h e = let bad = sym (ap (λ (l : List ℕ). behind_text t (quoted_from false l)) e) ∙ h in absurd cc

empty_short : (l : List ℕ) → length l ≡ 0 → is_empty l ≡ true
empty_short [] h = refl
empty_short (x ∷ l) h = absurd (omega arith)

filled : (l : List ℕ) → (length l ≡ 0 → ⊥) → is_empty l ≡ false
filled [] h = absurd (h (omega arith))
filled (x ∷ l) h = refl

empty_same : (cs : List ℕ) → is_empty (utf8 cs) ≡ is_empty cs
empty_same [] = refl
empty_same (c ∷ cs) =
    let one = ap (length {A = ℕ}) (utf8_of_same c) in
    filled (utf8_of c ++ utf8 cs) (λ h. absurd (omega (arith, length-append (utf8_of c) (utf8 cs), length-encode c, len_utf8_bounds c, one, h)))

abbrev if_some : Bool → List ℕ × List ℕ → Front (List ℕ)
if_some t p = elim t [ true ↦ None | false ↦ Some p ]

name_by : (x : Bool) (t more : List ℕ) (p : List ℕ × List ℕ) → both (utf8 p.0) p.1 ≡ both t more → is_empty t ≡ x → behind_text [] (nonempty (Some p)) ≡ behind_text [] (if_some x p)
name_by x t more p e h =
    let g = same_pair (utf8 p.0) t p.1 more e in
    ap (λ (t : Bool). behind_text [] (if_some t p)) (sym (empty_same p.0) ∙ ap is_empty g.0 ∙ h)

pub name_empty : (t more : List ℕ) (o : Front (List ℕ)) → behind_text [] o ≡ Some (t, more) → length t ≡ 0 → behind_text [] (nonempty o) ≡ None
name_empty t more None e h = absurd cc
name_empty t more (Some p) e h = name_by true t more p e (empty_short t h)

pub name_some : (t more : List ℕ) (o : Front (List ℕ)) → behind_text [] o ≡ Some (t, more) → (length t ≡ 0 → ⊥) → behind_text [] (nonempty o) ≡ Some (t, more)
name_some t more None e h = absurd cc
name_some t more (Some p) e h = name_by false t more p e (filled t h) ∙ e

pub named_some : (f : List ℕ → Lexeme) (o : Front (List ℕ)) (t more : List ℕ) → behind_text [] (nonempty o) ≡ Some (t, more) → named f o ≡ Some (f t, more)
named_some f None t more e = absurd cc
named_some f (Some p) t more e = at (is_empty p.0) e
  where
    at : (x : Bool) → behind_text [] (elim x as (λ _. Front (List ℕ)) [ true ↦ None | false ↦ Some p ]) ≡ Some (t, more) → elim x as (λ _. Front Lexeme) [ true ↦ None | false ↦ Some (f (utf8 p.0), p.1) ] ≡ Some (f t, more)
    at true e = absurd cc
    at false e = let h = same_pair (utf8 p.0) t p.1 more e in rw (h.0, h.1) refl

pub named_none : (f : List ℕ → Lexeme) (o : Front (List ℕ)) → behind_text [] (nonempty o) ≡ None → named f o ≡ None
named_none f None e = refl
named_none f (Some p) e = at (is_empty p.0) e
  where
    at : (x : Bool) → behind_text [] (elim x as (λ _. Front (List ℕ)) [ true ↦ None | false ↦ Some p ]) ≡ None → elim x as (λ _. Front Lexeme) [ true ↦ None | false ↦ Some (f (utf8 p.0), p.1) ] ≡ None
    at true e = refl
    at false e = absurd cc
