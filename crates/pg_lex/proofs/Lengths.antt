-- A keyword is looked for among those of as many letters.
use Rattle.std.proofs.Common.{◌≡◌, ℕ, Bool, cond, true, false, List, [], ◌∷◌, Option, refl, sym, ap, ◌∙◌, filter, length, bytes_eq}
use Rattle.std.proofs.lemmas.Bool.{false≢true}
use Rattle.std.proofs.lemmas.List.{length-map}
use Rattle.std.specs.Char.{to_ascii_lowercase}
use Rattle.std.specs.Str.{str_to_ascii_lowercase}
use Rattle.pg_meaning.specs.declared.lexemes.Keyword.{Keyword}
use Rattle.pg_meaning.specs.Tokens.{keywords, keyword_among, keyword_of}
use Rattle.pg_lex.proofs.Reserved.{passed, pick}

of_length : (test : ℕ → Bool) (ps : List (List ℕ × Keyword)) (w : List ℕ) → test (length w) ≡ true → keyword_among ps w ≡ keyword_among (filter (λ p. test (length p.0)) ps) w
of_length test [] w h = refl
of_length test (p ∷ ps) w h = at (test (length p.0)) refl (of_length test ps w h)
  where
    others : List (List ℕ × Keyword)
    others = filter (λ p. test (length p.0)) ps

    at : (t : Bool) → test (length p.0) ≡ t → keyword_among ps w ≡ keyword_among others w → keyword_among (p ∷ ps) w ≡ keyword_among (cond t (p ∷ others) others) w
    at true e more = ap (λ (o : Option Keyword). pick (bytes_eq p.0 w) p.1 o) more
    at false e more = passed p.0 w p.1 ps (λ is. false≢true (sym e ∙ ap (λ (v : List ℕ). test (length v)) (sym is) ∙ h)) ∙ more

-- those of the keywords whose length passes a test
abbrev pub keywords_by : (ℕ → Bool) → List (List ℕ × Keyword)
keywords_by test = filter (λ p. test (length p.0)) keywords

pub by_length : (test : ℕ → Bool) (w : List ℕ) → test (length w) ≡ true → keyword_of w ≡ keyword_among (keywords_by test) (str_to_ascii_lowercase w)
unfolding keyword_of
by_length test w h = of_length test keywords (str_to_ascii_lowercase w) (ap test (length-map w to_ascii_lowercase) ∙ h)
