-- The loop over the parts of a query.
use Rattle.std.proofs.Common.{◌≡◌, ℕ, zero, suc, ◌+◌, ◌<◌, ◌≤◌, Bool, true, false, List, [], ◌∷◌, ◌++◌, length, Some, None, refl, sym, ap, ◌∙◌, append_assoc, length-append, arith}
use Rattle.std.proofs.lemmas.Bool.Decides.{nat_tests}
use Rattle.std.proofs.lemmas.List.{append-nil}
use Rattle.std.specs.Prelude.{nat_lt, not}
use Rattle.pg_meaning.specs.declared.lexemes.Keyword.TheVariants as k
use Rattle.pg_meaning.specs.Tokens.{Token, is_empty}
use Rattle.pg_meaning.specs.Tree.{Expression, Clause}
use Rattle.pg_meaning.specs.Parse as parse
use Rattle.pg_meaning.specs.Parse.{Parser, Outcome, Test, and_then, pure, refuse, many, many_from, sees_keyword, with_clause, return_clause, parts, begins_reading, reading, begins_updating, updating}
use Rattle.pg_grammar.proofs.Generic.{some, pick}
use Rattle.pg_syntax.specs.Pieces.{part, last}
use Rattle.pg_syntax_tokens.specs.Shrinks.{Shrinks}
use Rattle.pg_syntax_tokens.specs.ShrinksLaws.{bind_shrinks, eats_shrinks, pure_shrinks, many_shrinks}
use Rattle.pg_syntax.specs.ShrinksClauses.{reading_eats, updating_eats, with_eats}

-- ---- a row behind what was found

abbrev behind : {A : Type 0} → List A → List A → Parser (List A)
behind found xs = pure (found ++ xs)

abbrev further : {A : Type 0} → Test → Parser A → ℕ → List A → A → Parser (List A)
further begins piece n found x = many_from begins piece n (found ++ x ∷ [])

at_turn : {A : Type 0} (begins : Test) (piece : Parser A) (n : ℕ) (f g : List A) (ts : List Token) → ((x : A) (us : List Token) → further begins piece n (f ++ g) x us ≡ and_then (further begins piece n g x us) (behind f))
    → (b : Bool) (o : Outcome A) → pick b (and_then o (further begins piece n (f ++ g))) (some (f ++ g) ts) ≡ and_then (pick b (and_then o (further begins piece n g)) (some g ts)) (behind f)
at_turn begins piece n f g ts rest false o = refl
at_turn begins piece n f g ts rest true None = refl
at_turn begins piece n f g ts rest true (Some p) = rest p.0 p.1

-- a row that goes on behind a list is the row behind its end
moved : {A : Type 0} (begins : Test) (piece : Parser A) (n : ℕ) (f g : List A) (ts : List Token) → many_from begins piece n (f ++ g) ts ≡ and_then (many_from begins piece n g ts) (behind f)
unfolding many_from
moved begins piece zero f g ts = refl
moved {A} begins piece (suc n) f g ts =
    at_turn begins piece n f g ts (λ x us. ap (λ (l : List A). many_from begins piece n l us) (append_assoc f g (x ∷ [])) ∙ moved begins piece n f (g ++ x ∷ []) us) (begins ts) (piece ts)

many_moved : {A : Type 0} (begins : Test) (piece : Parser A) (f : List A) (ts : List Token) → many begins piece f ts ≡ and_then (many begins piece [] ts) (behind f)
many_moved {A} begins piece f ts = ap (λ (l : List A). many_from begins piece (length ts) l ts) (sym (append-nil f)) ∙ moved begins piece (length ts) f [] ts

-- ---- one part

module _ (text : List ℕ) (whole : Parser Expression) where
  -- the parts that are left
  abbrev onward : ℕ → List Clause → Parser (List Clause)
  onward n found ts = and_then (parts text whole n ts) (behind found)

  -- what stands behind a part's clauses
  abbrev pub closed : ℕ → List Clause → Bool → Parser (List Clause)
  closed n found updates ts = pick (sees_keyword k.With ts) (and_then (with_clause text whole ts) (λ c. onward n (found ++ c ∷ []))) (last text whole found updates ts)

  longer : (rs us : List Clause) → nat_lt (length rs) (length (rs ++ us)) ≡ not (is_empty us)
  longer rs [] = let h : length (rs ++ []) ≡ length rs + 0 = length-append rs [] in grind (arith, nat_tests)
  longer rs (c ∷ us) = let h = length-append rs (c ∷ us) in grind (arith, nat_tests)

  regroup : (found rs us cs : List Clause) (c : Clause) → found ++ ((rs ++ us) ++ c ∷ cs) ≡ (((found ++ rs) ++ us) ++ c ∷ []) ++ cs
  regroup found rs us cs c = simp append_assoc

  at_parts : (o : Outcome (List Clause)) (found rs us : List Clause) (c : Clause)
      → and_then (and_then o (λ cs. pure (rs ++ us ++ c ∷ cs))) (behind found) ≡ and_then o (behind (((found ++ rs) ++ us) ++ c ∷ []))
  at_parts None found rs us c = refl
  at_parts (Some p) found rs us c = ap (λ (l : List Clause). some l p.1) (regroup found rs us p.0 c)

  at_return : (o : Outcome Clause) (found rs us : List Clause)
      → and_then (and_then o (λ c. pure (rs ++ us ++ c ∷ []))) (behind found) ≡ and_then o (λ c. pure (((found ++ rs) ++ us) ++ c ∷ []))
  at_return None found rs us = refl
  at_return (Some p) found rs us = ap (λ (l : List Clause). some l p.1) (regroup found rs us [] p.0 ∙ append-nil _)

  at_last : (b : Bool) (found rs us : List Clause) (t : List Token)
      → and_then (pick b (and_then (return_clause text whole t) (λ c. pure (rs ++ us ++ c ∷ []))) ((elim (is_empty us) as (λ x. Parser (List Clause)) [ true ↦ refuse | false ↦ pure (rs ++ us) ]) t)) (behind found)
      ≡ pick b (and_then (return_clause text whole t) (λ c. pure (((found ++ rs) ++ us) ++ c ∷ []))) ((elim (not (is_empty us)) as (λ x. Parser (List Clause)) [ true ↦ pure ((found ++ rs) ++ us) | false ↦ refuse ]) t)
  at_last true found rs us t = at_return (return_clause text whole t) found rs us
  at_last false found rs [] t = refl
  at_last false found rs (c ∷ us) t = ap (λ (l : List Clause). some l t) (sym (append_assoc found rs (c ∷ us)))

  at_with : (n : ℕ) (b : Bool) (o : Outcome Clause) (found rs us : List Clause) (t : List Token)
      → and_then (pick b (and_then o (λ c. λ ts. and_then (parts text whole n ts) (λ cs. pure (rs ++ us ++ c ∷ cs)))) (parse.last text whole rs us t)) (behind found)
      ≡ pick b (and_then o (λ c. onward n (((found ++ rs) ++ us) ++ c ∷ []))) (last text whole ((found ++ rs) ++ us) (nat_lt (length (found ++ rs)) (length ((found ++ rs) ++ us))) t)
  unfolding parse.last
  at_with n true None found rs us t = refl
  at_with n true (Some p) found rs us t = at_parts (parts text whole n p.1) found rs us p.0
  at_with n false o found rs us t = rw (longer (found ++ rs) us) (at_last (sees_keyword k.Return t) found rs us t)

  abbrev next : ℕ → List Clause → List Clause → Parser (List Clause)
  next n rs us t = pick (sees_keyword k.With t) (and_then (with_clause text whole t) (λ c. λ ts. and_then (parts text whole n ts) (λ cs. pure (rs ++ us ++ c ∷ cs)))) (parse.last text whole rs us t)

  abbrev counted : List Clause → List Clause → Parser (List Clause × Bool)
  counted rs us = pure (us, nat_lt (length rs) (length us))

  -- a turn of the loop
  turn : (n : ℕ) (found : List Clause) (ts : List Token) → onward (suc n) found ts ≡ and_then (part whole found ts) (λ r. closed n r.0 r.1)
  unfolding parts
  turn n found ts = rw (many_moved begins_reading (reading whole) found ts) (by (many begins_reading (reading whole) [] ts))
    where
      inner : (rs : List Clause) (o : Outcome (List Clause))
          → and_then (and_then o (next n rs)) (behind found)
          ≡ and_then (and_then (and_then o (behind (found ++ rs))) (counted (found ++ rs))) (λ r. closed n r.0 r.1)
      inner rs None = refl
      inner rs (Some p) = at_with n (sees_keyword k.With p.1) (with_clause text whole p.1) found rs p.0 p.1

      by : (o : Outcome (List Clause))
          → and_then (and_then o (λ rs. λ t. and_then (many begins_updating (updating whole) [] t) (next n rs))) (behind found)
          ≡ and_then (and_then (and_then o (behind found)) (λ rs. λ t. and_then (many begins_updating (updating whole) rs t) (counted rs))) (λ r. closed n r.0 r.1)
      by None = refl
      by (Some p) = inner p.0 (many begins_updating (updating whole) [] p.1) ∙ ap (λ (o : Outcome (List Clause)). and_then (and_then o (counted (found ++ p.0))) (λ r. closed n r.0 r.1)) (sym (many_moved begins_updating (updating whole) (found ++ p.0) p.1))

  same_length : (found : List Clause) → nat_lt (length found) (length found) ≡ false
  same_length found = grind (arith, nat_tests)

  nothing : (found : List Clause) → onward zero found [] ≡ and_then (part whole found []) (λ r. closed 0 r.0 r.1)
  unfolding parts many_from
  nothing found = rw (same_length found) refl

  -- with turns enough; where no token is left, none is needed
  turned : (n : ℕ) (found : List Clause) (ts : List Token) → length ts ≤ n → (m : ℕ) × (n ≤ suc m) × (onward n found ts ≡ and_then (part whole found ts) (λ r. closed m r.0 r.1))
  turned zero found (t ∷ ts) enough = absurd (omega arith)
  turned zero found [] enough = (0, omega arith, nothing found)
  turned (suc n) found ts enough = (n, omega arith, turn n found ts)

  -- What is left to do, with turns enough, gives the whole outcome.
  pub record LeftParts (outcome : Outcome (List Clause)) (found : List Clause) (updates : Bool) (ts : List Token) : Type 0 where
    pub turns : ℕ
    pub enough : length ts ≤ suc turns
    pub is : outcome ≡ closed turns found updates ts

  part_shrinks : Shrinks whole → (found : List Clause) → Shrinks (part whole found)
  part_shrinks h found =
      bind_shrinks (many_shrinks begins_reading found (eats_shrinks (reading_eats h))) (λ rs.
      bind_shrinks (many_shrinks begins_updating rs (eats_shrinks (updating_eats h))) (λ us. pure_shrinks _))

  -- a part behind what was found
  part_read : Shrinks whole → (o : Outcome (List Clause)) (n : ℕ) (before found : List Clause) (updates : Bool) (ts us : List Token) → o ≡ onward n before ts → length ts ≤ n → part whole before ts ≡ Some ((found, updates), us) → LeftParts o found updates us
  part_read h o n before found updates ts us is enough e =
      let t = turned n before ts enough in
      let less = (part_shrinks h before).left ts us (found, updates) e in
      record { turns = t.0; enough = omega (arith, t.1); is = is ∙ t.2 ∙ ap (λ (r : Outcome (List Clause × Bool)). and_then r (λ r. closed t.0 r.0 r.1)) e }

  part_fails : (o : Outcome (List Clause)) (n : ℕ) (before : List Clause) (ts : List Token) → o ≡ onward n before ts → length ts ≤ n → part whole before ts ≡ None → o ≡ None
  part_fails o n before ts is enough e = let t = turned n before ts enough in is ∙ t.2 ∙ ap (λ (r : Outcome (List Clause × Bool)). and_then r (λ r. closed t.0 r.0 r.1)) e

  alone : (o : Outcome (List Clause)) → o ≡ and_then o (behind [])
  alone None = refl
  alone (Some p) = refl

  pub first_read : Shrinks whole → (before found : List Clause) (updates : Bool) (n : ℕ) (ts us : List Token) → length ts ≤ n → before ≡ [] → part whole before ts ≡ Some ((found, updates), us) → LeftParts (parts text whole n ts) found updates us
  first_read h before found updates n ts us enough none e = part_read h (parts text whole n ts) n before found updates ts us (rw none (alone (parts text whole n ts))) enough e

  pub first_fails : (before : List Clause) (n : ℕ) (ts : List Token) → length ts ≤ n → before ≡ [] → part whole before ts ≡ None → parts text whole n ts ≡ None
  first_fails before n ts enough none e = part_fails (parts text whole n ts) n before ts (rw none (alone (parts text whole n ts))) enough e

  -- WITH leads to a further part
  passed_with : (o : Outcome (List Clause)) (found : List Clause) (updates : Bool) (ts us : List Token) (c : Clause) (left : LeftParts o found updates ts) → sees_keyword k.With ts ≡ true → with_clause text whole ts ≡ Some (c, us)
      → o ≡ onward left.turns (found ++ c ∷ []) us
  passed_with o found updates ts us c left seen e =
      let go = λ (r : Outcome Clause). and_then r (λ d. onward left.turns (found ++ d ∷ [])) in
      left.is ∙ ap (λ (b : Bool). pick b (go (with_clause text whole ts)) (last text whole found updates ts)) seen ∙ ap go e

  with_less : Shrinks whole → (ts us : List Token) (c : Clause) → with_clause text whole ts ≡ Some (c, us) → length us < length ts
  with_less h ts us c e = (with_eats text h).left ts us c e

  pub next_read : Shrinks whole → (o : Outcome (List Clause)) (found more next : List Clause) (updates writes : Bool) (ts us vs : List Token) (c : Clause) → LeftParts o found updates ts → sees_keyword k.With ts ≡ true → with_clause text whole ts ≡ Some (c, us)
      → more ≡ found ++ c ∷ [] → part whole more us ≡ Some ((next, writes), vs) → LeftParts o next writes vs
  next_read h o found more next updates writes ts us vs c left seen e is p =
      let less = with_less h ts us c e in
      part_read h o left.turns more next writes us vs (rw is (passed_with o found updates ts us c left seen e)) (omega (arith, left.enough)) p

  pub next_fails : Shrinks whole → (o : Outcome (List Clause)) (found more : List Clause) (updates : Bool) (ts us : List Token) (c : Clause) → LeftParts o found updates ts → sees_keyword k.With ts ≡ true → with_clause text whole ts ≡ Some (c, us)
      → more ≡ found ++ c ∷ [] → part whole more us ≡ None → o ≡ None
  next_fails h o found more updates ts us c left seen e is p =
      let less = with_less h ts us c e in
      part_fails o left.turns more us (rw is (passed_with o found updates ts us c left seen e)) (omega (arith, left.enough)) p

  pub part_less : Shrinks whole → (found next : List Clause) (writes : Bool) (ts us vs : List Token) (c : Clause) → with_clause text whole ts ≡ Some (c, us) → part whole found us ≡ Some ((next, writes), vs) → length vs < length ts
  part_less h found next writes ts us vs c e p =
      let one = with_less h ts us c e in
      let two = (part_shrinks h found).left us vs (next, writes) p in
      omega arith
