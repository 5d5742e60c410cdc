-- Comments up to their first end.
use Rattle.std.proofs.Common.{◌≡◌, ◌≢◌, ℕ, Bool, true, false, eqb, List, [], ◌∷◌, ◌++◌, Option, Some, refl, sym, ap, ◌∙◌}
use Rattle.std.proofs.lemmas.Bool.{eqb-true, eqb-false}
use Rattle.pg_meaning.specs.Tokens.{comment_from, Starts}

-- no star and slash stand in it
abbrev pub NoEnd : List ℕ → Type 0
NoEnd xs = (a b : List ℕ) → xs ≢ a ++ 42 ∷ 47 ∷ b

abbrev is_slash : ℕ → Bool
is_slash c = eqb c 47

no_end_other : (c : ℕ) (xs : List ℕ) → (c ≡ 42 → ⊥) → NoEnd xs → NoEnd (c ∷ xs)
no_end_other c xs other h [] b e = let p : c ≡ 42 = cc in other p
no_end_other c xs other h (x ∷ a) b e = let p : xs ≡ a ++ 42 ∷ 47 ∷ b = cc in h a b p

no_end_star : (c : ℕ) (xs : List ℕ) → Starts is_slash xs ≡ false → NoEnd xs → NoEnd (c ∷ xs)
no_end_star c xs other h [] b e =
    let p : xs ≡ 47 ∷ b = cc in
    let q : Starts is_slash xs ≡ true = ap (Starts is_slash) p in absurd cc
no_end_star c xs other h (x ∷ a) b e = let p : xs ≡ a ++ 42 ∷ 47 ∷ b = cc in h a b p

no_end_one : NoEnd (42 ∷ [])
no_end_one [] b e = absurd cc
no_end_one (x ∷ []) b e = absurd cc
no_end_one (x ∷ y ∷ a) b e = absurd cc

-- what is read with its body
pub record Ends (cs more : List ℕ) : Type 0 where
  pub body : List ℕ
  pub whole : cs ≡ body ++ 42 ∷ 47 ∷ more
  pub first : NoEnd (body ++ 42 ∷ [])

-- the body begins as what is read
starts_as : (c : ℕ) (cs body more : List ℕ) → c ∷ cs ≡ body ++ 42 ∷ 47 ∷ more → (c ≡ 47 → ⊥) → Starts is_slash (body ++ 42 ∷ []) ≡ false
starts_as c cs [] more e h = refl
starts_as c cs (x ∷ body) more e h = let p : c ≡ x = cc in at (eqb x 47) refl p
  where
    at : (t : Bool) → eqb x 47 ≡ t → c ≡ x → eqb x 47 ≡ false
    at true g p = absurd (h (p ∙ eqb-true x 47 g))
    at false g p = g

abbrev starred : Bool → List ℕ → List ℕ
starred true cs = 42 ∷ cs
starred false cs = cs

more_other : (c : ℕ) (cs more : List ℕ) → (c ≡ 42 → ⊥) → Ends cs more → Ends (c ∷ cs) more
more_other c cs more other h = record { body = c ∷ h.body; whole = ap (λ (r : List ℕ). c ∷ r) h.whole; first = no_end_other c (h.body ++ 42 ∷ []) other h.first }

more_star : (c : ℕ) (cs more : List ℕ) → (c ≡ 47 → ⊥) → Ends (c ∷ cs) more → Ends (42 ∷ c ∷ cs) more
more_star c cs more other h = record { body = 42 ∷ h.body; whole = ap (λ (r : List ℕ). 42 ∷ r) h.whole; first = no_end_star 42 (h.body ++ 42 ∷ []) (starts_as c cs h.body more h.whole other) h.first }

pub comment_sound : (star : Bool) (cs more : List ℕ) → comment_from star cs ≡ Some more → Ends (starred star cs) more
comment_sound star [] more e = absurd cc
comment_sound false (c ∷ cs) more e = at (eqb c 42) refl e (λ b g. comment_sound b cs more g)
  where
    at : (x : Bool) → eqb c 42 ≡ x → comment_from x cs ≡ Some more → ((b : Bool) → comment_from b cs ≡ Some more → Ends (starred b cs) more) → Ends (c ∷ cs) more
    at true h g rest = let e : 42 ∷ cs ≡ c ∷ cs = ap (λ (x : ℕ). x ∷ cs) (sym (eqb-true c 42 h)) in rw e at (rest true g)
    at false h g rest = more_other c cs more (eqb-false c 42 h) (rest false g)
comment_sound true (c ∷ cs) more e = at (eqb c 47) refl (eqb c 42) refl e (λ b g. comment_sound b cs more g)
  where
    at : (x : Bool) → eqb c 47 ≡ x → (y : Bool) → eqb c 42 ≡ y → elim x as (λ _. Option (List ℕ)) [ true ↦ Some cs | false ↦ comment_from y cs ] ≡ Some more → ((b : Bool) → comment_from b cs ≡ Some more → Ends (starred b cs) more) → Ends (42 ∷ c ∷ cs) more
    at true h y i g rest =
        let p : cs ≡ more = cc in
        let q : 42 ∷ c ∷ cs ≡ 42 ∷ 47 ∷ more = ap (λ (x : ℕ). 42 ∷ x ∷ cs) (eqb-true c 47 h) ∙ ap (λ (r : List ℕ). 42 ∷ 47 ∷ r) p in
        record { body = []; whole = q; first = no_end_one }
    at false h true i g rest =
        let e : 42 ∷ cs ≡ c ∷ cs = ap (λ (x : ℕ). x ∷ cs) (sym (eqb-true c 42 i)) in
        more_star c cs more (eqb-false c 47 h) (rw e at (rest true g))
    at false h false i g rest = more_star c cs more (eqb-false c 47 h) (more_other c cs more (eqb-false c 42 i) (rest false g))

-- ---- a comment is read to its end

abbrev step : Bool → Bool → List ℕ → Option (List ℕ)
step x y cs = elim x [ true ↦ Some cs | false ↦ comment_from y cs ]

tail_no_end : (c : ℕ) (xs : List ℕ) → NoEnd (c ∷ xs) → NoEnd xs
tail_no_end c xs h a b e = h (c ∷ a) b (ap (λ (r : List ℕ). c ∷ r) e)

-- behind a star the body begins with no slash
pub comment_complete : (star : Bool) (body more : List ℕ) → NoEnd (starred star (body ++ 42 ∷ [])) → comment_from star (body ++ 42 ∷ 47 ∷ more) ≡ Some more
comment_complete false [] more h = refl
comment_complete true [] more h = refl
comment_complete false (c ∷ body) more h = at (eqb c 42) refl (λ b g. comment_complete b body more g)
  where
    at : (x : Bool) → eqb c 42 ≡ x → ((b : Bool) → NoEnd (starred b (body ++ 42 ∷ [])) → comment_from b (body ++ 42 ∷ 47 ∷ more) ≡ Some more) → comment_from x (body ++ 42 ∷ 47 ∷ more) ≡ Some more
    at true e rest = let p : c ∷ (body ++ 42 ∷ []) ≡ 42 ∷ (body ++ 42 ∷ []) = ap (λ (x : ℕ). x ∷ (body ++ 42 ∷ [])) (eqb-true c 42 e) in rest true (rw p at h)
    at false e rest = rest false (tail_no_end c (body ++ 42 ∷ []) h)
comment_complete true (c ∷ body) more h = at (eqb c 47) refl (eqb c 42) refl (λ b g. comment_complete b body more g)
  where
    at : (x : Bool) → eqb c 47 ≡ x → (y : Bool) → eqb c 42 ≡ y → ((b : Bool) → NoEnd (starred b (body ++ 42 ∷ [])) → comment_from b (body ++ 42 ∷ 47 ∷ more) ≡ Some more) → step x y (body ++ 42 ∷ 47 ∷ more) ≡ Some more
    at true e y i rest = absurd (h [] (body ++ 42 ∷ []) (ap (λ (x : ℕ). 42 ∷ x ∷ (body ++ 42 ∷ [])) (eqb-true c 47 e)))
    at false e true i rest = let p : 42 ∷ c ∷ (body ++ 42 ∷ []) ≡ 42 ∷ 42 ∷ (body ++ 42 ∷ []) = ap (λ (x : ℕ). 42 ∷ x ∷ (body ++ 42 ∷ [])) (eqb-true c 42 i) in rest true (tail_no_end 42 (42 ∷ (body ++ 42 ∷ [])) (rw p at h))
    at false e false i rest = rest false (tail_no_end c (body ++ 42 ∷ []) (tail_no_end 42 (c ∷ (body ++ 42 ∷ [])) h))
