-- A string in pieces, each of which stands for a character.
use Rattle.std.proofs.Common.{◌≡◌, ℕ, suc, zero, ◌+◌, ◌*◌, ◌≤◌, Bool, true, false, cond, eqb, List, [], ◌∷◌, ◌++◌, length, Option, Some, None, refl, sym, ap, ◌∙◌, subst, append_assoc, length-append, arith}
use Rattle.std.proofs.lemmas.Bool.{eqb-true, eqb-false, eq-eqb, ne_eqb}
use Rattle.pg_meaning.specs.Tokens.{Front, string_from, outside, backslash, prepended, hexadecimal_value, escape_of, is_surrogate, Piece, plain, escaped, coded, piece_text, pieces_text, StandsFor, AllStandFor}
use Rattle.pg_lex.specs.Scans.{meant_front, escaped as escaped_front, coded_front, hexadecimal_front, with_rest, character_of, ◌>>=◌}
use Rattle.pg_lex.proofs.Pairs.{same_pair}
use Rattle.pg_lex.proofs.Quotes.{put_parts}
use Rattle.pg_lex.proofs.Contents.{next_part, string_step, three_more, two_more, one_more}

abbrev one : ℕ → List ℕ → Front ℕ
one m more = Some (m, more)

abbrev all : List ℕ → List ℕ → Front (List ℕ)
all ms more = Some (ms, more)

abbrev some : ℕ → Option ℕ
some n = Some n

-- ---- a character of the string has a piece

-- a hexadecimal digit at the front, its value, and what is made of the rest
record Digit (cs : List ℕ) (f : ℕ → List ℕ → Front ℕ) (m : ℕ) (more : List ℕ) : Type 0 where
  sign : ℕ
  amount : ℕ
  rest : List ℕ
  whole : cs ≡ sign ∷ rest
  means : hexadecimal_value sign ≡ some amount
  goes : f amount rest ≡ one m more

digit_by : (cs : List ℕ) (f : ℕ → List ℕ → Front ℕ) (m : ℕ) (more : List ℕ) → (hexadecimal_front cs >>= λ d. f d.0 d.1) ≡ one m more → Digit cs f m more
digit_by [] f m more e = absurd cc
digit_by (c ∷ cs) f m more e = at (hexadecimal_value c) refl e
  where
    at : (o : Option ℕ) → hexadecimal_value c ≡ o → (with_rest cs o >>= λ d. f d.0 d.1) ≡ one m more → Digit (c ∷ cs) f m more
    at None h g = absurd cc
    at (Some v) h g = record { sign = c; amount = v; rest = cs; whole = refl; means = h; goes = g }

character_is : (v m : ℕ) (cs more : List ℕ) → with_rest cs (character_of v) ≡ one m more → (m ≡ v) × (cs ≡ more) × (is_surrogate v ≡ false)
character_is v m cs more e = at (is_surrogate v) refl e
  where
    at : (x : Bool) → is_surrogate v ≡ x → with_rest cs (cond x None (Some v)) ≡ one m more → (m ≡ v) × (cs ≡ more) × (is_surrogate v ≡ false)
    at true h g = absurd cc
    at false h g = let p = same_pair v m cs more g in (sym p.0, p.1, h)

-- four digits and the character that they stand for
record Coded (cs : List ℕ) (m : ℕ) (more : List ℕ) : Type 0 where
  a : ℕ
  b : ℕ
  c : ℕ
  d : ℕ
  whole : cs ≡ a ∷ b ∷ c ∷ d ∷ more
  stands : (q : ℕ) → StandsFor q (coded a b c d) m

coded_sound : (cs : List ℕ) (m : ℕ) (more : List ℕ) → coded_front cs ≡ one m more → Coded cs m more
coded_sound cs m more e =
    let p : Digit cs (λ a rest. three_more a rest) m more = digit_by cs (λ a rest. three_more a rest) m more e in
    let q : Digit p.rest (λ b rest. two_more (p.amount * 16 + b) rest) m more = digit_by p.rest (λ b rest. two_more (p.amount * 16 + b) rest) m more p.goes in
    let r : Digit q.rest (λ c rest. one_more ((p.amount * 16 + q.amount) * 16 + c) rest) m more = digit_by q.rest (λ c rest. one_more ((p.amount * 16 + q.amount) * 16 + c) rest) m more q.goes in
    let s : Digit r.rest (λ d rest. with_rest rest (character_of (((p.amount * 16 + q.amount) * 16 + r.amount) * 16 + d))) m more = digit_by r.rest (λ d rest. with_rest rest (character_of (((p.amount * 16 + q.amount) * 16 + r.amount) * 16 + d))) m more r.goes in
    let t = character_is (((p.amount * 16 + q.amount) * 16 + r.amount) * 16 + s.amount) m s.rest more s.goes in
    let whole : cs ≡ p.sign ∷ q.sign ∷ r.sign ∷ s.sign ∷ more = p.whole ∙ ap (λ (l : List ℕ). p.sign ∷ l) (q.whole ∙ ap (λ (l : List ℕ). q.sign ∷ l) (r.whole ∙ ap (λ (l : List ℕ). r.sign ∷ l) (s.whole ∙ ap (λ (l : List ℕ). s.sign ∷ l) t.1))) in
    let sound : is_surrogate m ≡ false = ap is_surrogate t.0 ∙ t.2 in
    record { a = p.sign; b = q.sign; c = r.sign; d = s.sign; whole = whole; stands = λ q'. (p.amount, q.amount, r.amount, s.amount, p.means, q.means, r.means, s.means, t.0, sound) }

-- a character of a string, in its piece
record Meant (q c : ℕ) (cs : List ℕ) (m : ℕ) (more : List ℕ) : Type 0 where
  part : Piece
  stands : StandsFor q part m
  whole : c ∷ cs ≡ piece_text part ++ more

escaped_sound : (q : ℕ) (cs : List ℕ) (m : ℕ) (more : List ℕ) → escaped_front cs ≡ one m more → Meant q 92 cs m more
escaped_sound q [] m more e = absurd cc
escaped_sound q (c ∷ cs) m more e = at (eqb c 117) refl e
  where
    simple : (o : Option ℕ) → escape_of c ≡ o → with_rest cs o ≡ one m more → Meant q 92 (c ∷ cs) m more
    simple None h g = absurd cc
    simple (Some n) h g = let p = same_pair n m cs more g in record { part = escaped c; stands = h ∙ ap some p.0; whole = ap (λ (r : List ℕ). 92 ∷ c ∷ r) p.1 }

    at : (x : Bool) → eqb c 117 ≡ x → cond x (coded_front cs) (with_rest cs (escape_of c)) ≡ one m more → Meant q 92 (c ∷ cs) m more
    at true h g =
        let p = coded_sound cs m more g in
        record { part = coded p.a p.b p.c p.d; stands = p.stands q; whole = ap (λ (x : ℕ). 92 ∷ x ∷ cs) (eqb-true c 117 h) ∙ ap (λ (r : List ℕ). 92 ∷ 117 ∷ r) p.whole }
    at false h g = simple (escape_of c) refl g

meant_sound : (q c : ℕ) (cs : List ℕ) (m : ℕ) (more : List ℕ) → (c ≡ q → ⊥) → meant_front c cs ≡ one m more → Meant q c cs m more
meant_sound q c cs m more other e = at (eqb c 92) refl e
  where
    at : (x : Bool) → eqb c 92 ≡ x → cond x (escaped_front cs) (one c cs) ≡ one m more → Meant q c cs m more
    at true h g =
        let p = escaped_sound q cs m more g in
        record { part = p.part; stands = p.stands; whole = ap (λ (x : ℕ). x ∷ cs) (eqb-true c 92 h) ∙ p.whole }
    at false h g = let p = same_pair c m cs more g in record { part = plain c; stands = (sym p.0, other, eqb-false c 92 h); whole = ap (λ (r : List ℕ). c ∷ r) p.1 }

some_text : (p : Piece) → 1 ≤ length (piece_text p)
some_text (plain c) = omega arith
some_text (escaped c) = omega arith
some_text (coded a b c d) = omega arith

-- ---- a string has pieces

pub record Content (q : ℕ) (cs means more : List ℕ) : Type 0 where
  pub pieces : List Piece
  pub stands : AllStandFor q pieces means
  pub whole : cs ≡ pieces_text pieces ++ q ∷ more

pub string_sound : (n q : ℕ) (cs means more : List ℕ) → length cs ≤ n → string_from q outside cs ≡ all means more → Content q cs means more
string_sound n q [] means more le e = absurd cc
string_sound zero q (c ∷ cs) means more le e = absurd (omega arith)
string_sound (suc n) q (c ∷ cs) means more le e = at (eqb c q) refl (λ rest ms small g. string_sound n q rest ms more small g)
  where
    begun : Bool → Front (List ℕ)
    begun t = elim t [ true ↦ Some ([], cs) | false ↦ elim (eqb c 92) as (λ _. Front (List ℕ)) [ true ↦ string_from q backslash cs | false ↦ prepended c (string_from q outside cs) ] ]

    after : (o : Front ℕ) → meant_front c cs ≡ o → (c ≡ q → ⊥) → next_part q o ≡ all means more → ((rest ms : List ℕ) → length rest ≤ n → string_from q outside rest ≡ all ms more → Content q rest ms more) → Content q (c ∷ cs) means more
    after None h other g others = absurd cc
    after (Some x) h other g others =
        let p = put_parts x.0 (string_from q outside x.1) means more g in
        let part : Meant q c cs x.0 x.1 = meant_sound q c cs x.0 x.1 other h in
        let long = ap (length {A = ℕ}) part.whole in
        let rest : Content q x.1 p.0 more = others x.1 p.0 (omega (arith, length-append (piece_text part.part) x.1, some_text part.part)) p.1 in
        let stands : AllStandFor q (part.part ∷ rest.pieces) (x.0 ∷ p.0) = (part.stands, rest.stands) in
        record {
          pieces = part.part ∷ rest.pieces;
          stands = subst (λ (r : List ℕ). AllStandFor q (part.part ∷ rest.pieces) r) p.2 stands;
          whole = part.whole ∙ ap (λ (r : List ℕ). piece_text part.part ++ r) rest.whole ∙ sym (append_assoc (piece_text part.part) (pieces_text rest.pieces) (q ∷ more));
        }

    ends : eqb c q ≡ true → all [] cs ≡ all means more → Content q (c ∷ cs) means more
    ends h g =
        let p = same_pair [] means cs more g in
        let none : AllStandFor q [] [] = tt in
        record { pieces = []; stands = subst (λ (r : List ℕ). AllStandFor q [] r) p.0 none; whole = ap (λ (x : ℕ). x ∷ cs) (eqb-true c q h) ∙ ap (λ (r : List ℕ). q ∷ r) p.1 }

    at : (x : Bool) → eqb c q ≡ x → ((rest ms : List ℕ) → length rest ≤ n → string_from q outside rest ≡ all ms more → Content q rest ms more) → Content q (c ∷ cs) means more
    at true h others = ends h (sym (ap (λ (t : Bool). begun t) h) ∙ e)
    at false h others = after (meant_front c cs) refl (eqb-false c q h) (sym (string_step q c cs h) ∙ e) others

-- ---- pieces are read

digit_yes : (c v : ℕ) (ds : List ℕ) (f : ℕ → List ℕ → Front ℕ) → hexadecimal_value c ≡ some v → (hexadecimal_front (c ∷ ds) >>= λ d. f d.0 d.1) ≡ f v ds
digit_yes c v ds f e = ap (λ (o : Option ℕ). with_rest ds o >>= λ d. f d.0 d.1) e

coded_complete : (q a b c d m : ℕ) (more : List ℕ) → StandsFor q (coded a b c d) m → coded_front (a ∷ b ∷ c ∷ d ∷ more) ≡ one m more
coded_complete q a b c d m more h =
    digit_yes a h.0 (b ∷ c ∷ d ∷ more) (λ a rest. three_more a rest) h.4 ∙ digit_yes b h.1 (c ∷ d ∷ more) (λ b rest. two_more (h.0 * 16 + b) rest) h.5 ∙ digit_yes c h.2 (d ∷ more) (λ c rest. one_more ((h.0 * 16 + h.1) * 16 + c) rest) h.6
    ∙ digit_yes d h.3 more (λ d rest. with_rest rest (character_of (((h.0 * 16 + h.1) * 16 + h.2) * 16 + d))) h.7 ∙ ap (λ (x : Bool). with_rest more (cond x None (some (((h.0 * 16 + h.1) * 16 + h.2) * 16 + h.3)))) (sym (ap is_surrogate h.8) ∙ h.9) ∙ ap (λ (x : ℕ). one x more) (sym h.8)

escaped_complete : (c m : ℕ) (more : List ℕ) → escape_of c ≡ some m → escaped_front (c ∷ more) ≡ one m more
escaped_complete c m more h = at (eqb c 117) refl
  where
    at : (x : Bool) → eqb c 117 ≡ x → cond x (coded_front more) (with_rest more (escape_of c)) ≡ one m more
    at true e = let none : escape_of c ≡ None = ap escape_of (eqb-true c 117 e) in absurd cc
    at false e = ap (with_rest more) h

meant_complete : (q m : ℕ) (p : Piece) (more : List ℕ) → (92 ≡ q → ⊥) → StandsFor q p m → string_from q outside (piece_text p ++ more) ≡ prepended m (string_from q outside more)
meant_complete q m (plain c) more other h =
    string_step q c more (ne_eqb c q h.1) ∙ ap (λ (x : Bool). next_part q (cond x (escaped_front more) (one c more))) (ne_eqb c 92 h.2) ∙ ap (λ (x : ℕ). prepended x (string_from q outside more)) (sym h.0)
meant_complete q m (escaped c) more other h = string_step q 92 (c ∷ more) (ne_eqb 92 q other) ∙ ap (next_part q) (escaped_complete c m more h)
meant_complete q m (coded a b c d) more other h = string_step q 92 (117 ∷ a ∷ b ∷ c ∷ d ∷ more) (ne_eqb 92 q other) ∙ ap (next_part q) (coded_complete q a b c d m more h)

closing : (q : ℕ) (more : List ℕ) → string_from q outside (q ∷ more) ≡ all [] more
closing q more = ap (λ (t : Bool). begun t) (eq-eqb q q refl)
  where
    begun : Bool → Front (List ℕ)
    begun t = elim t [ true ↦ Some ([], more) | false ↦ elim (eqb q 92) as (λ _. Front (List ℕ)) [ true ↦ string_from q backslash more | false ↦ prepended q (string_from q outside more) ] ]

pub string_complete : (q : ℕ) (ps : List Piece) (means more : List ℕ) → (92 ≡ q → ⊥) → AllStandFor q ps means → string_from q outside (pieces_text ps ++ q ∷ more) ≡ all means more
string_complete q [] [] more other h = closing q more
string_complete q [] (m ∷ ms) more other h = absurd h
string_complete q (p ∷ ps) [] more other h = absurd h
string_complete q (p ∷ ps) (m ∷ ms) more other h =
    ap (string_from q outside) (append_assoc (piece_text p) (pieces_text ps) (q ∷ more)) ∙ meant_complete q m p (pieces_text ps ++ q ∷ more) other h.0 ∙ ap (prepended m) (string_complete q ps ms more other h.1)
