-- Laws of the combinators, whatever the grammar.
use Rattle.std.proofs.Common.{◌≡◌, ℕ, zero, suc, ◌+◌, ◌<◌, ◌≤◌, Bool, true, false, List, [], ◌∷◌, ◌++◌, length, Some, None, refl, sym, ap, ◌∙◌, ◌⊎◌, inl, inr, append_assoc, length-append, arith}
use Rattle.std.proofs.lemmas.List.{append-nil}
use Rattle.pg_meaning.specs.Tokens.{Token}
use Rattle.pg_meaning.specs.Parse.{Parser, Outcome, Test, and_then, branch, many_from}
use Rattle.pg_grammar.specs.Rules.{Sound, Complete}

-- each item is spelled by its part
abbrev pub Each : {A : Type 0} → (A → List Token → Type 0) → List A → List Token → Type 0
Each S [] front = front ≡ []
Each S (x ∷ xs) front = (a : List Token) × (b : List Token) × (front ≡ a ++ b) × S x a × Each S xs b

pub bind_some : {A B : Type 0} (o : Outcome A) (f : A → Parser B) (y : B × List Token) → and_then o f ≡ Some y → (a : A) × (t : List Token) × (o ≡ Some (a, t)) × (f a t ≡ Some y)
bind_some (Some p) f y e = (p.0, p.1, refl, e)
bind_some None f y e = absurd cc

abbrev pub some : {A : Type 0} → A → List Token → Outcome A
some a ts = Some (a, ts)

abbrev given : {A : Type 0} → A × List Token → Outcome A → A × List Token
given d (Some p) = p
given d None = d

pub same_some : {A : Type 0} (a b : A) (s t : List Token) → some a s ≡ some b t → (a ≡ b) × (s ≡ t)
same_some {A} a b s t e =
    let d : A × List Token = (a, s) in
    (ap (λ (o : Outcome A). (given d o).0) e, ap (λ (o : Outcome A). (given d o).1) e)

-- the branch that a test takes
abbrev pub pick : {A : Type 0} → Bool → A → A → A
pick b x y = elim b [ true ↦ x | false ↦ y ]

pub chosen : {A : Type 0} (b : Bool) (x y z : A) → pick b x y ≡ z → ((b ≡ true) × (x ≡ z)) ⊎ ((b ≡ false) × (y ≡ z))
chosen true x y z e = inl (refl, e)
chosen false x y z e = inr (refl, e)

pub branch_yes : {A : Type 0} (begins : Test) (p q : Parser A) (ts : List Token) → begins ts ≡ true → branch begins p q ts ≡ p ts
branch_yes begins p q ts e = ap (λ (b : Bool). pick b (p ts) (q ts)) e

pub branch_no : {A : Type 0} (begins : Test) (p q : Parser A) (ts : List Token) → begins ts ≡ false → branch begins p q ts ≡ q ts
branch_no begins p q ts e = ap (λ (b : Bool). pick b (p ts) (q ts)) e

-- a turn that goes on, and one that doesn't
pub many_turn : {A : Type 0} (begins : Test) (piece : Parser A) (n : ℕ) (found : List A) (ts : List Token) → begins ts ≡ true
    → many_from begins piece (suc n) found ts ≡ and_then (piece ts) (λ x. many_from begins piece n (found ++ x ∷ []))
unfolding many_from
many_turn begins piece n found ts e = ap (λ (b : Bool). pick b (and_then (piece ts) (λ x. many_from begins piece n (found ++ x ∷ []))) (some found ts)) e

pub many_stop : {A : Type 0} (begins : Test) (piece : Parser A) (n : ℕ) (found : List A) (ts : List Token) → begins ts ≡ false → many_from begins piece n found ts ≡ Some (found, ts)
unfolding many_from
many_stop begins piece zero found ts e = refl
many_stop begins piece (suc n) found ts e = ap (λ (b : Bool). pick b (and_then (piece ts) (λ x. many_from begins piece n (found ++ x ∷ []))) (some found ts)) e

pub many_sound : {A : Type 0} (begins : Test) (piece : Parser A) (S : A → List Token → Type 0) → Sound piece S
    → (n : ℕ) (found : List A) (ts : List Token) (all : List A) (more : List Token) → many_from begins piece n found ts ≡ Some (all, more)
    → (xs : List A) × (front : List Token) × (all ≡ found ++ xs) × (ts ≡ front ++ more) × Each S xs front
unfolding many_from
many_sound begins piece S sound zero found ts all more e =
    let h = same_some found all ts more e in ([], [], sym (h.0) ∙ sym (append-nil found), h.1, refl)
many_sound begins piece S sound (suc n) found ts all more e =
    elim (chosen (begins ts) (and_then (piece ts) (λ x. many_from begins piece n (found ++ x ∷ []))) (Some (found, ts)) (Some (all, more)) e) [
      | inr h ↦ let g = same_some found all ts more h.1 in ([], [], sym (g.0) ∙ sym (append-nil found), g.1, refl)
      | inl h ↦
          let b = bind_some (piece ts) (λ x. many_from begins piece n (found ++ x ∷ [])) (all, more) h.1 in
          let one = sound ts b.0 b.1 b.2 in
          let others = many_sound begins piece S sound n (found ++ b.0 ∷ []) b.1 all more b.3 in (
            b.0 ∷ others.0,
            one.0 ++ others.1,
            others.2 ∙ append_assoc found (b.0 ∷ []) others.0,
            one.1 ∙ ap (λ (t : List Token). one.0 ++ t) others.3 ∙ sym (append_assoc one.0 others.1 more),
            (one.0, others.1, refl, one.2, others.4),
          )
    ]

-- What pieces need to be read in a row: each begins so, takes a token, and may be followed by the next or by what ends the row.
pub record Row {A : Type 0} (limit : ℕ) (begins : Test) (piece : Parser A) (S : A → List Token → Type 0) (E F : List Token → Type 0) : Type 0 where
  pub read : Complete limit piece S E
  pub first : (a : A) (front more : List Token) → S a front → begins (front ++ more) ≡ true
  pub some : (a : A) (front : List Token) → S a front → 0 < length front
  pub ends : (more : List Token) → F more → (begins more ≡ false) × E more
  pub goes : (more : List Token) → begins more ≡ true → E more

-- what stands behind the piece before the row
pub followed : {A : Type 0} {S : A → List Token → Type 0} {E F : List Token → Type 0} {begins : Test} → ((a : A) (front more : List Token) → S a front → begins (front ++ more) ≡ true) → ((more : List Token) → F more → E more) → ((more : List Token) → begins more ≡ true → E more)
    → (xs : List A) (b more : List Token) → Each S xs b → F more → E (b ++ more)
followed first ends goes [] b more each follow = rw each (ends more follow)
followed first ends goes (x ∷ xs) b more each follow =
    let e : b ++ more ≡ each.0 ++ (each.1 ++ more) = ap (λ (t : List Token). t ++ more) each.2 ∙ append_assoc each.0 each.1 more in
    rw e (goes _ (first x each.0 (each.1 ++ more) each.3))

pub many_complete : {A : Type 0} {limit : ℕ} {begins : Test} {piece : Parser A} {S : A → List Token → Type 0} {E F : List Token → Type 0} → Row limit begins piece S E F
    → (n : ℕ) (found : List A) (xs : List A) (front more : List Token) → Each S xs front → F more → length (front ++ more) < limit → length (front ++ more) ≤ n
    → many_from begins piece n found (front ++ more) ≡ Some (found ++ xs, more)
many_complete {A} {limit} {begins} {piece} row n found [] front more each follow fits turns =
    rw (each, many_stop begins piece n found more (row.ends more follow).0) (ap (λ (l : List A). some l more) (sym (append-nil found)))
many_complete row zero found (x ∷ xs) front more each follow fits turns =
    absurd (omega (arith, row.some x each.0 each.3, ap length each.2, length-append each.0 each.1, length-append front more))
many_complete {A} {limit} {begins} {piece} {S} {E} {F} row (suc n) found (x ∷ xs) front more each follow fits turns =
    let a = each.0 in let b = each.1 in
    let whole : front ++ more ≡ a ++ (b ++ more) = ap (λ (t : List Token). t ++ more) each.2 ∙ append_assoc a b more in
    let len : length (front ++ more) ≡ length a + length (b ++ more) = ap length whole ∙ length-append a (b ++ more) in
    let some_token = row.some x a each.3 in
    let next : E (b ++ more) = followed row.first (λ more f. (row.ends more f).1) row.goes xs b more each.4 follow in
    let one : piece (a ++ (b ++ more)) ≡ Some (x, b ++ more) = row.read x a (b ++ more) each.3 next (omega (arith, ap length whole)) in
    let others = many_complete row n (found ++ x ∷ []) xs b more each.4 follow (omega arith) (omega arith) in
    rw (whole, many_turn begins piece n found (a ++ (b ++ more)) (row.first x a (b ++ more) each.3), one) (others ∙ ap (λ (l : List A). some l more) (append_assoc found (x ∷ []) xs))
