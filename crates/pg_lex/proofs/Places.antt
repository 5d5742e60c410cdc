-- What stands at a place, as a segment.
use Rattle.std.proofs.Common.{◌≡◌, ℕ, ◌<◌, Bool, true, false, ◌||◌, ◌⊎◌, inl, inr, eqb, List, [], ◌∷◌, ◌++◌, length, Option, Some, None, refl, sym, ap, ◌∙◌, subst, append_assoc, arith}
use Rattle.std.specs.Char.{is_whitespace}
use Rattle.std.proofs.lemmas.Bool.{eqb-true, eqb-false, not-false}
use Rattle.pg_meaning.specs.declared.lexemes.Symbol.TheVariants as s
use Rattle.pg_meaning.specs.Tokens.{class, Lexeme, symbol, Front, Starts, run, after, is_line_end, lexeme_at, comment_from, closed, Next, gap, found, next, next_slash, next_lexeme, Segment, blank, line_comment, block_comment, lexeme, segment_text, Stands, token_of}
use Rattle.pg_lex.specs.Scans.{is_in_line}
use Rattle.pg_lex.proofs.Runs.{run_after, run_all, after_starts}
use Rattle.pg_lex.proofs.Comments.{comment_sound, Ends}
use Rattle.pg_lex.proofs.Spelled.{spelled_by, Spelled}
use Rattle.pg_lex.proofs.Longest.{longest_by, slash_alone}

-- the segment at the front of characters
pub record Stood (cs : List ℕ) (x : Segment) (more : List ℕ) : Type 0 where
  pub whole : cs ≡ segment_text x ++ more
  pub some : 0 < length (segment_text x)
  pub stands : Stands x more

pub record Gapped (cs more : List ℕ) : Type 0 where
  pub part : Segment
  pub stood : Stood cs part more
  pub no_token : (at : ℕ) → token_of at part ≡ []

pub record Found (cs : List ℕ) (l : Lexeme) (more : List ℕ) : Type 0 where
  pub front : List ℕ
  pub stood : Stood cs (lexeme l front) more

-- ---- what a next place is, by its cases

gaps : (a b : List ℕ) → gap a ≡ gap b → a ≡ b
gaps a b e = cc

line_ends : (more : List ℕ) → Starts is_in_line more ≡ false → (more ≡ []) ⊎ (Starts is_line_end more ≡ true)
line_ends [] h = inl refl
line_ends (c ∷ more) h = inr (not-false (is_line_end c) h)

line_gap : (cs more : List ℕ) → after is_in_line cs ≡ more → Gapped (47 ∷ 47 ∷ cs) more
line_gap cs more e = record {
  part = line_comment (run is_in_line cs);
  stood = record {
    whole = ap (λ (r : List ℕ). 47 ∷ 47 ∷ r) (run_after is_in_line cs ∙ ap (λ (r : List ℕ). run is_in_line cs ++ r) e);
    some = omega arith;
    stands = (run_all is_in_line cs, line_ends more (ap (Starts is_in_line) (sym e) ∙ after_starts is_in_line cs));
  };
  no_token = λ at. refl;
}

block_gap : (cs more : List ℕ) → comment_from false cs ≡ Some more → Gapped (47 ∷ 42 ∷ cs) more
block_gap cs more e =
    let h : Ends cs more = comment_sound false cs more e in
    record {
      part = block_comment h.body;
      stood = record {
        whole = ap (λ (r : List ℕ). 47 ∷ 42 ∷ r) (h.whole ∙ sym (append_assoc h.body (42 ∷ 47 ∷ []) more));
        some = omega arith;
        stands = h.first;
      };
      no_token = λ at. refl;
    }

slash_found : (cs : List ℕ) → Starts (λ c. eqb c 47 || eqb c 42) cs ≡ false → Found (47 ∷ cs) (symbol s.Slash) cs
slash_found cs h = record { front = 47 ∷ []; stood = record { whole = refl; some = omega arith; stands = (refl, slash_alone cs, h) } }

slash_gap : (cs more : List ℕ) → next_slash cs ≡ gap more → Gapped (47 ∷ cs) more
slash_gap [] more e = absurd cc
slash_gap (c ∷ cs) more e = at (eqb c 47) refl (eqb c 42) refl e
  where
    comment : (o : Option (List ℕ)) → comment_from false cs ≡ o → closed o ≡ gap more → Gapped (47 ∷ 42 ∷ cs) more
    comment None h g = absurd cc
    comment (Some r) h g = let p = gaps r more g in block_gap cs more (h ∙ ap (λ (m : List ℕ). some m) p)
      where
        some : List ℕ → Option (List ℕ)
        some m = Some m

    at : (x : Bool) → eqb c 47 ≡ x → (y : Bool) → eqb c 42 ≡ y → elim x as (λ _. Next) [ true ↦ gap (after is_in_line cs) | false ↦ elim y as (λ _. Next) [ true ↦ closed (comment_from false cs) | false ↦ found (symbol s.Slash) (c ∷ cs) ] ] ≡ gap more → Gapped (47 ∷ c ∷ cs) more
    at true h y i g = subst (λ (x : ℕ). Gapped (47 ∷ x ∷ cs) more) (sym (eqb-true c 47 h)) (line_gap cs more (gaps (after is_in_line cs) more g))
    at false h true i g = subst (λ (x : ℕ). Gapped (47 ∷ x ∷ cs) more) (sym (eqb-true c 42 i)) (comment (comment_from false cs) refl g)
    at false h false i g = absurd cc

founds : (k l : Lexeme) (a b : List ℕ) → found k a ≡ found l b → (k ≡ l) × (a ≡ b)
founds k l a b e = let p : k ≡ l = cc in let q : a ≡ b = cc in (p, q)

slash_lexeme : (cs : List ℕ) (l : Lexeme) (more : List ℕ) → next_slash cs ≡ found l more → Found (47 ∷ cs) l more
slash_lexeme [] l more e = let p = founds (symbol s.Slash) l [] more e in subst (λ (l : Lexeme). Found (47 ∷ []) l more) p.0 (subst (λ (r : List ℕ). Found (47 ∷ []) (symbol s.Slash) r) p.1 (slash_found [] refl))
slash_lexeme (c ∷ cs) l more e = at (eqb c 47) refl (eqb c 42) refl e
  where
    comment : (o : Option (List ℕ)) → closed o ≡ found l more → ⊥
    comment None g = absurd cc
    comment (Some r) g = absurd cc

    neither : eqb c 47 ≡ false → eqb c 42 ≡ false → (eqb c 47 || eqb c 42) ≡ false
    neither h i = rw (h, i) refl

    at : (x : Bool) → eqb c 47 ≡ x → (y : Bool) → eqb c 42 ≡ y → elim x as (λ _. Next) [ true ↦ gap (after is_in_line cs) | false ↦ elim y as (λ _. Next) [ true ↦ closed (comment_from false cs) | false ↦ found (symbol s.Slash) (c ∷ cs) ] ] ≡ found l more → Found (47 ∷ c ∷ cs) l more
    at true h y i g = absurd cc
    at false h true i g = absurd (comment (comment_from false cs) g)
    at false h false i g =
        let p = founds (symbol s.Slash) l (c ∷ cs) more g in
        subst (λ (l : Lexeme). Found (47 ∷ c ∷ cs) l more) p.0 (subst (λ (r : List ℕ). Found (47 ∷ c ∷ cs) (symbol s.Slash) r) p.1 (slash_found (c ∷ cs) (neither h i)))

other_lexeme : (c : ℕ) (cs : List ℕ) (l : Lexeme) (more : List ℕ) → eqb c 47 ≡ false → next_lexeme (lexeme_at (c ∷ cs)) ≡ found l more → Found (c ∷ cs) l more
other_lexeme c cs l more h e = at (lexeme_at (c ∷ cs)) refl e
  where
    some : Lexeme → List ℕ → Front Lexeme
    some l m = Some (l, m)

    at : (o : Front Lexeme) → lexeme_at (c ∷ cs) ≡ o → next_lexeme o ≡ found l more → Found (c ∷ cs) l more
    at None i g = absurd cc
    at (Some p) i g =
        let q = founds p.0 l p.1 more g in
        let j : lexeme_at (c ∷ cs) ≡ Some (l, more) = i ∙ (ap (λ (k : Lexeme). some k p.1) q.0 ∙ ap (some l) q.1) in
        let w : Spelled c cs l more = spelled_by (class c) c cs l more refl (eqb-false c 47 h) j in
        record { front = c ∷ w.front; stood = record { whole = ap (λ (r : List ℕ). c ∷ r) w.whole; some = omega arith; stands = (w.spells, longest_by c cs w.front l more j w.whole, w.may) } }

-- ---- both

abbrev pub next_by : Bool → Bool → ℕ → List ℕ → Next
next_by w t c cs = elim w [ true ↦ gap cs | false ↦ elim t [ true ↦ next_slash cs | false ↦ next_lexeme (lexeme_at (c ∷ cs)) ] ]

no_gap : (o : Front Lexeme) (more : List ℕ) → next_lexeme o ≡ gap more → ⊥
no_gap None more e = absurd cc
no_gap (Some p) more e = absurd cc

pub gap_sound : (c : ℕ) (cs more : List ℕ) → next c cs ≡ gap more → Gapped (c ∷ cs) more
gap_sound c cs more e = at (is_whitespace c) refl (eqb c 47) refl e
  where
    at : (w : Bool) → is_whitespace c ≡ w → (t : Bool) → eqb c 47 ≡ t → next_by w t c cs ≡ gap more → Gapped (c ∷ cs) more
    at true h t i g = record { part = blank c; stood = record { whole = ap (λ (r : List ℕ). c ∷ r) (gaps cs more g); some = omega arith; stands = h }; no_token = λ at. refl }
    at false h true i g = subst (λ (x : ℕ). Gapped (x ∷ cs) more) (sym (eqb-true c 47 i)) (slash_gap cs more g)
    at false h false i g = absurd (no_gap (lexeme_at (c ∷ cs)) more g)

pub found_sound : (c : ℕ) (cs : List ℕ) (l : Lexeme) (more : List ℕ) → next c cs ≡ found l more → Found (c ∷ cs) l more
found_sound c cs l more e = at (is_whitespace c) refl (eqb c 47) refl e
  where
    at : (w : Bool) → is_whitespace c ≡ w → (t : Bool) → eqb c 47 ≡ t → next_by w t c cs ≡ found l more → Found (c ∷ cs) l more
    at true h t i g = absurd cc
    at false h true i g = subst (λ (x : ℕ). Found (x ∷ cs) l more) (sym (eqb-true c 47 i)) (slash_lexeme cs l more g)
    at false h false i g = other_lexeme c cs l more i g
