-- Symbols by their signs.
use Rattle.std.proofs.Common.{◌≡◌, ℕ, Bool, true, false, cond, eqb, ◌&&◌, List, [], ◌∷◌, ◌++◌, Option, Some, None, refl, sym, ap, ◌∙◌, map}
use Rattle.std.proofs.lemmas.Bool.{eqb-true, eqb-false, eq-eqb, ne_eqb}
use Rattle.pg_meaning.specs.declared.lexemes.Symbol.{Symbol}
use Rattle.pg_meaning.specs.declared.lexemes.Symbol.TheVariants as s
use Rattle.pg_meaning.specs.Tokens.{Front, Lexeme, symbol, symbols, symbol_text, symbol_among, behind}
use Rattle.pg_lex.proofs.Pairs.{both, same_pair}
use Rattle.pg_lex.specs.Scans.{with_rest, sign_of, pair_of, pair_front}

eqb_sym : (a b : ℕ) → eqb a b ≡ eqb b a
eqb_sym a b = at (eqb b a) refl
  where
    at : (x : Bool) → eqb b a ≡ x → eqb a b ≡ x
    at true e = eq-eqb a b (sym (eqb-true b a e))
    at false e = ne_eqb a b (λ h. eqb-false b a e (sym h))

abbrev found : List ℕ → Option Symbol → Front Lexeme
found cs None = None
found cs (Some x) = Some (symbol x, cs)

-- the symbol where its text stands at the front, else another
abbrev chosen : Symbol → Front Lexeme → Option (List ℕ) → Front Lexeme
chosen x other o = elim o [ None ↦ other | Some more ↦ Some (symbol x, more) ]

abbrev if_same : Bool → Option (List ℕ) → Option (List ℕ)
if_same t o = elim t [ true ↦ o | false ↦ None ]

-- ---- of one sign

abbrev sign_in : List (ℕ × Symbol) → ℕ → Option Symbol
sign_in [] c = None
sign_in (p ∷ ps) c = cond (eqb c p.0) (Some p.1) (sign_in ps c)

abbrev AreSigns : List (ℕ × Symbol) → Type 0
AreSigns [] = Unit {0}
AreSigns (p ∷ ps) = (symbol_text p.1 ≡ p.0 ∷ []) × AreSigns ps

abbrev signs : List (ℕ × Symbol)
signs = (40, s.OpenParenthesis) ∷ (41, s.CloseParenthesis) ∷ (91, s.OpenBracket) ∷ (93, s.CloseBracket) ∷ (123, s.OpenBrace) ∷ (125, s.CloseBrace) ∷ (44, s.Comma) ∷ (46, s.Dot) ∷ (58, s.Colon) ∷ (59, s.Semicolon) ∷ (43, s.Plus) ∷ (45, s.Minus) ∷ (42, s.Star) ∷ (47, s.Slash) ∷ (37, s.Percent) ∷ (61, s.Equal) ∷ (60, s.Less) ∷ (62, s.Greater) ∷ (124, s.Bar) ∷ []

among_signs : (ps : List (ℕ × Symbol)) (c : ℕ) (cs : List ℕ) → AreSigns ps → symbol_among (map (λ p. p.1) ps) (c ∷ cs) ≡ found cs (sign_in ps c)
among_signs [] c cs h = refl
among_signs (p ∷ ps) c cs h =
    ap (λ (t : List ℕ). chosen p.1 (symbol_among (map (λ p. p.1) ps) (c ∷ cs)) (behind t (c ∷ cs))) h.0 ∙ ap (λ (t : Bool). chosen p.1 (symbol_among (map (λ p. p.1) ps) (c ∷ cs)) (if_same t (Some cs))) (eqb_sym p.0 c) ∙ at (eqb c p.0) (among_signs ps c cs h.1)
  where
    at : (t : Bool) → symbol_among (map (λ p. p.1) ps) (c ∷ cs) ≡ found cs (sign_in ps c) → chosen p.1 (symbol_among (map (λ p. p.1) ps) (c ∷ cs)) (if_same t (Some cs)) ≡ found cs (cond t (Some p.1) (sign_in ps c))
    at true more = refl
    at false more = more

signs_same : (c : ℕ) (cs : List ℕ) → symbol_among (map (λ p. p.1) signs) (c ∷ cs) ≡ found cs (sign_of c)
signs_same c cs = among_signs signs c cs (refl, (refl, (refl, (refl, (refl, (refl, (refl, (refl, (refl, (refl, (refl, (refl, (refl, (refl, (refl, (refl, (refl, (refl, (refl, tt)))))))))))))))))))

-- ---- of two signs

abbrev pair_in : List (ℕ × ℕ × Symbol) → ℕ → ℕ → Option Symbol
pair_in [] c d = None
pair_in (p ∷ ps) c d = cond (eqb c p.0 && eqb d p.1) (Some p.2) (pair_in ps c d)

abbrev ArePairs : List (ℕ × ℕ × Symbol) → Type 0
ArePairs [] = Unit {0}
ArePairs (p ∷ ps) = (symbol_text p.2 ≡ p.0 ∷ p.1 ∷ []) × ArePairs ps

abbrev pairs : List (ℕ × ℕ × Symbol)
pairs = (46, 46, s.TwoDots) ∷ (60, 62, s.NotEqual) ∷ (60, 61, s.LessOrEqual) ∷ (62, 61, s.GreaterOrEqual) ∷ (43, 61, s.PlusEqual) ∷ []

-- the pair where there is one, else another
abbrev found_or : List ℕ → Front Lexeme → Option Symbol → Front Lexeme
found_or cs other None = other
found_or cs other (Some x) = Some (symbol x, cs)

among_pairs : (ps : List (ℕ × ℕ × Symbol)) (xs : List Symbol) (c d : ℕ) (cs : List ℕ) → ArePairs ps → symbol_among (map (λ p. p.2) ps ++ xs) (c ∷ d ∷ cs) ≡ found_or cs (symbol_among xs (c ∷ d ∷ cs)) (pair_in ps c d)
among_pairs [] xs c d cs h = refl
among_pairs (p ∷ ps) xs c d cs h =
    ap (λ (t : List ℕ). chosen p.2 (symbol_among (map (λ p. p.2) ps ++ xs) (c ∷ d ∷ cs)) (behind t (c ∷ d ∷ cs))) h.0 ∙ ap (λ (t : Bool). chosen p.2 (symbol_among (map (λ p. p.2) ps ++ xs) (c ∷ d ∷ cs)) (if_same t (if_same (eqb p.1 d) (Some cs)))) (eqb_sym p.0 c)
    ∙ ap (λ (t : Bool). chosen p.2 (symbol_among (map (λ p. p.2) ps ++ xs) (c ∷ d ∷ cs)) (if_same (eqb c p.0) (if_same t (Some cs)))) (eqb_sym p.1 d) ∙ at (eqb c p.0) (eqb d p.1) (among_pairs ps xs c d cs h.1)
  where
    at : (t u : Bool) → symbol_among (map (λ p. p.2) ps ++ xs) (c ∷ d ∷ cs) ≡ found_or cs (symbol_among xs (c ∷ d ∷ cs)) (pair_in ps c d)
        → chosen p.2 (symbol_among (map (λ p. p.2) ps ++ xs) (c ∷ d ∷ cs)) (if_same t (if_same u (Some cs))) ≡ found_or cs (symbol_among xs (c ∷ d ∷ cs)) (cond (t && u) (Some p.2) (pair_in ps c d))
    at true true more = refl
    at true false more = more
    at false u more = more

alone : (ps : List (ℕ × ℕ × Symbol)) (xs : List Symbol) (c : ℕ) → ArePairs ps → symbol_among (map (λ p. p.2) ps ++ xs) (c ∷ []) ≡ symbol_among xs (c ∷ [])
alone [] xs c h = refl
alone (p ∷ ps) xs c h = ap (λ (t : List ℕ). chosen p.2 (symbol_among (map (λ p. p.2) ps ++ xs) (c ∷ [])) (behind t (c ∷ []))) h.0 ∙ at (eqb p.0 c) (alone ps xs c h.1)
  where
    at : (t : Bool) → symbol_among (map (λ p. p.2) ps ++ xs) (c ∷ []) ≡ symbol_among xs (c ∷ []) → chosen p.2 (symbol_among (map (λ p. p.2) ps ++ xs) (c ∷ [])) (if_same t None) ≡ symbol_among xs (c ∷ [])
    at true more = more
    at false more = more

pairs_same : (c d : ℕ) (cs : List ℕ) → symbol_among symbols (c ∷ d ∷ cs) ≡ found_or cs (found (d ∷ cs) (sign_of c)) (pair_of c d)
pairs_same c d cs = among_pairs pairs (map (λ p. p.1) signs) c d cs (refl, (refl, (refl, (refl, (refl, tt))))) ∙ ap (λ (o : Front Lexeme). found_or cs o (pair_of c d)) (signs_same c (d ∷ cs))

sign_alone : (c : ℕ) → symbol_among symbols (c ∷ []) ≡ found [] (sign_of c)
sign_alone c = alone pairs (map (λ p. p.1) signs) c (refl, (refl, (refl, (refl, (refl, tt))))) ∙ signs_same c []

-- ---- the longest

pair_found : (cs more : List ℕ) (x : Symbol) → pair_front cs ≡ both x more → symbol_among symbols cs ≡ Some (symbol x, more)
pair_found [] more x e = absurd cc
pair_found (c ∷ []) more x e = absurd cc
pair_found (c ∷ d ∷ cs) more x e = pairs_same c d cs ∙ at (pair_of c d) e
  where
    at : (o : Option Symbol) → with_rest cs o ≡ both x more → found_or cs (found (d ∷ cs) (sign_of c)) o ≡ Some (symbol x, more)
    at None h = absurd cc
    at (Some y) h = let p = same_pair y x cs more h in rw (p.0, p.1) refl

no_pair : (cs b : List ℕ) (c : ℕ) → cs ≡ c ∷ b → pair_front cs ≡ None → symbol_among symbols cs ≡ found b (sign_of c)
no_pair cs [] c e h = ap (λ (l : List ℕ). symbol_among symbols l) e ∙ sign_alone c
no_pair cs (d ∷ b) c e h = ap (λ (l : List ℕ). symbol_among symbols l) e ∙ pairs_same c d b ∙ at (pair_of c d) (sym (ap pair_front e) ∙ h)
  where
    at : (o : Option Symbol) → with_rest b o ≡ None → found_or b (found (d ∷ b) (sign_of c)) o ≡ found (d ∷ b) (sign_of c)
    at None h = refl
    at (Some y) h = absurd cc

pub sign_found : (cs b : List ℕ) (c : ℕ) (o : Option Symbol) → cs ≡ c ∷ b → pair_front cs ≡ None → sign_of c ≡ o → symbol_among symbols cs ≡ found b o
sign_found cs b c o e h g = no_pair cs b c e h ∙ ap (λ (o : Option Symbol). found b o) g

pub sign_alone_stands : (cs b : List ℕ) (c : ℕ) → cs ≡ c ∷ b → b ≡ [] → pair_front cs ≡ None
sign_alone_stands cs b c e f = rw (e, f) refl

pub no_pair_stands : (cs b more : List ℕ) (c d : ℕ) → cs ≡ c ∷ b → b ≡ d ∷ more → None ≡ pair_of c d → pair_front cs ≡ None
no_pair_stands cs b more c d e f h = rw (e, f) (ap (λ (o : Option Symbol). with_rest more o) (sym h))

pub pair_stands : (cs b more : List ℕ) (c d : ℕ) (x : Symbol) → cs ≡ c ∷ b → b ≡ d ∷ more → Some x ≡ pair_of c d → symbol_among symbols cs ≡ Some (symbol x, more)
pair_stands cs b more c d x e f h = pair_found cs more x (rw (e, f) (ap (λ (o : Option Symbol). with_rest more o) (sym h)))
