-- What stands in backquotes, with each backquote twice.
use Rattle.std.proofs.Common.{◌≡◌, ℕ, ◌≤◌, Bool, true, false, cond, eqb, List, [], ◌∷◌, ◌++◌, length, Some, None, refl, sym, ap, ◌∙◌, arith}
use Rattle.std.proofs.lemmas.Bool.{eqb-true}
use Rattle.pg_meaning.specs.Tokens.{Front, quoted_from, prepended, doubled, Starts}
use Rattle.pg_lex.proofs.Pairs.{both, same_pair}

abbrev pub is_quote : ℕ → Bool
is_quote c = eqb c 96

pub put_parts : (c : ℕ) (o : Front (List ℕ)) (name more : List ℕ) → prepended c o ≡ both name more → (front : List ℕ) × (o ≡ both front more) × (c ∷ front ≡ name)
put_parts c None name more e = absurd cc
put_parts c (Some p) name more e =
    let h = same_pair (c ∷ p.0) name p.1 more e in
    (p.0, ap (λ (r : List ℕ). both p.0 r) h.1, h.0)

abbrev doubled_by : Bool → ℕ → List ℕ → List ℕ
doubled_by t c cs = cond t (96 ∷ 96 ∷ doubled cs) (c ∷ doubled cs)

doubled_other : (c : ℕ) (cs : List ℕ) → eqb c 96 ≡ false → doubled (c ∷ cs) ≡ c ∷ doubled cs
doubled_other c cs h = ap (λ (t : Bool). doubled_by t c cs) h

-- what the reader takes is a name with its backquotes twice; behind a backquote it takes that one too
abbrev Reads : Bool → List ℕ → List ℕ → List ℕ → Type 0
Reads false cs name more = cs ≡ doubled name ++ 96 ∷ more
Reads true cs name more = 96 ∷ cs ≡ doubled name ++ 96 ∷ more

pub quoted_sound : (b : Bool) (cs name more : List ℕ) → quoted_from b cs ≡ both name more → Reads b cs name more
quoted_sound false [] name more e = absurd cc
quoted_sound false (c ∷ cs) name more e = at (eqb c 96) refl e (λ n g. quoted_sound true cs n more g) (λ n g. quoted_sound false cs n more g)
  where
    at : (x : Bool) → eqb c 96 ≡ x → elim x as (λ _. Front (List ℕ)) [ true ↦ quoted_from true cs | false ↦ prepended c (quoted_from false cs) ] ≡ both name more
        → ((n : List ℕ) → quoted_from true cs ≡ both n more → 96 ∷ cs ≡ doubled n ++ 96 ∷ more) → ((n : List ℕ) → quoted_from false cs ≡ both n more → cs ≡ doubled n ++ 96 ∷ more)
        → c ∷ cs ≡ doubled name ++ 96 ∷ more
    at true h g first second = ap (λ (x : ℕ). x ∷ cs) (eqb-true c 96 h) ∙ first name g
    at false h g first second =
        let p = put_parts c (quoted_from false cs) name more g in
        ap (λ (r : List ℕ). c ∷ r) (second p.0 p.1) ∙ ap (λ (r : List ℕ). r ++ 96 ∷ more) (sym (doubled_other c p.0 h) ∙ ap doubled p.2)
quoted_sound true [] name more e = let h = same_pair [] name [] more e in ap (λ (r : List ℕ). 96 ∷ r) h.1 ∙ ap (λ (n : List ℕ). doubled n ++ 96 ∷ more) h.0
quoted_sound true (c ∷ cs) name more e = at (eqb c 96) refl e (λ n g. quoted_sound false cs n more g)
  where
    at : (x : Bool) → eqb c 96 ≡ x → elim x as (λ _. Front (List ℕ)) [ true ↦ prepended 96 (quoted_from false cs) | false ↦ Some ([], c ∷ cs) ] ≡ both name more
        → ((n : List ℕ) → quoted_from false cs ≡ both n more → cs ≡ doubled n ++ 96 ∷ more) → 96 ∷ c ∷ cs ≡ doubled name ++ 96 ∷ more
    at true h g rest =
        let p = put_parts 96 (quoted_from false cs) name more g in
        ap (λ (x : ℕ). 96 ∷ x ∷ cs) (eqb-true c 96 h) ∙ ap (λ (r : List ℕ). 96 ∷ 96 ∷ r) (rest p.0 p.1) ∙ ap (λ (n : List ℕ). doubled n ++ 96 ∷ more) p.2
    at false h g rest = let p = same_pair [] name (c ∷ cs) more g in ap (λ (r : List ℕ). 96 ∷ r) p.1 ∙ ap (λ (n : List ℕ). doubled n ++ 96 ∷ more) p.0

-- ---- a name in backquotes is read

-- characters before those of an answer
abbrev pub put_all : List ℕ → Front (List ℕ) → Front (List ℕ)
put_all [] o = o
put_all (c ∷ cs) o = prepended c (put_all cs o)

abbrev first_step : Bool → ℕ → List ℕ → Front (List ℕ)
first_step t c cs = elim t [ true ↦ quoted_from true cs | false ↦ prepended c (quoted_from false cs) ]

pub name_read : (name m : List ℕ) → quoted_from false (doubled name ++ 96 ∷ m) ≡ put_all name (quoted_from true m)
name_read [] m = refl
name_read (c ∷ name) m = at (eqb c 96) refl (name_read name m)
  where
    at : (x : Bool) → eqb c 96 ≡ x → quoted_from false (doubled name ++ 96 ∷ m) ≡ put_all name (quoted_from true m) → quoted_from false (doubled_by x c name ++ 96 ∷ m) ≡ prepended c (put_all name (quoted_from true m))
    at true h more = ap (prepended 96) more ∙ ap (λ (x : ℕ). prepended x (put_all name (quoted_from true m))) (sym (eqb-true c 96 h))
    at false h more = ap (λ (t : Bool). first_step t c (doubled name ++ 96 ∷ m)) h ∙ ap (prepended c) more

put_all_some : (cs name more : List ℕ) → put_all cs (both name more) ≡ both (cs ++ name) more
put_all_some [] name more = refl
put_all_some (c ∷ cs) name more = ap (prepended c) (put_all_some cs name more)

ends_there : (m : List ℕ) → Starts is_quote m ≡ false → quoted_from true m ≡ both [] m
ends_there [] h = refl
ends_there (c ∷ m) h = ap (λ (t : Bool). elim t as (λ _. Front (List ℕ)) [ true ↦ prepended 96 (quoted_from false m) | false ↦ Some ([], c ∷ m) ]) h

append_none : (l : List ℕ) → l ++ [] ≡ l
append_none [] = refl
append_none (x ∷ l) = ap (λ (r : List ℕ). x ∷ r) (append_none l)

pub quoted_complete : (name m : List ℕ) → Starts is_quote m ≡ false → quoted_from false (doubled name ++ 96 ∷ m) ≡ both name m
quoted_complete name m h = name_read name m ∙ ap (put_all name) (ends_there m h) ∙ put_all_some name [] m ∙ ap (λ (n : List ℕ). both n m) (append_none name)

-- ---- how much is read

shrinks : (b : Bool) (cs name more : List ℕ) → quoted_from b cs ≡ both name more → length more ≤ length cs
shrinks false [] name more e = absurd cc
shrinks false (c ∷ cs) name more e = at (eqb c 96) e (λ n g. shrinks true cs n more g) (λ n g. shrinks false cs n more g)
  where
    at : (x : Bool) → first_step x c cs ≡ both name more → ((n : List ℕ) → quoted_from true cs ≡ both n more → length more ≤ length cs) → ((n : List ℕ) → quoted_from false cs ≡ both n more → length more ≤ length cs) → length more ≤ length (c ∷ cs)
    at true g first second = omega (arith, first name g)
    at false g first second = let p = put_parts c (quoted_from false cs) name more g in omega (arith, second p.0 p.1)
shrinks true [] name more e = let h = ap (length {A = ℕ}) (same_pair [] name [] more e).1 in omega arith
shrinks true (c ∷ cs) name more e = at (eqb c 96) e (λ n g. shrinks false cs n more g)
  where
    at : (x : Bool) → elim x as (λ _. Front (List ℕ)) [ true ↦ prepended 96 (quoted_from false cs) | false ↦ Some ([], c ∷ cs) ] ≡ both name more → ((n : List ℕ) → quoted_from false cs ≡ both n more → length more ≤ length cs) → length more ≤ length (c ∷ cs)
    at true g rest = let p = put_parts 96 (quoted_from false cs) name more g in omega (arith, rest p.0 p.1)
    at false g rest = let h = ap (length {A = ℕ}) (same_pair [] name (c ∷ cs) more g).1 in omega arith

all_parts : (cs : List ℕ) (o : Front (List ℕ)) (name more : List ℕ) → put_all cs o ≡ both name more → (front : List ℕ) × (o ≡ both front more)
all_parts [] o name more e = (name, e)
all_parts (c ∷ cs) o name more e = let p = put_parts c (put_all cs o) name more e in all_parts cs o p.0 more p.1

-- at least a name that stands there
pub quoted_len : (name m other more : List ℕ) → quoted_from false (doubled name ++ 96 ∷ m) ≡ both other more → length more ≤ length m
quoted_len name m other more e = let p = all_parts name (quoted_from true m) other more (sym (name_read name m) ∙ e) in shrinks true m p.0 more p.1

-- two names one behind the other are a longer one
pub doubled_two : (a b : List ℕ) → doubled a ++ 96 ∷ 96 ∷ doubled b ≡ doubled (a ++ 96 ∷ b)
doubled_two [] b = refl
doubled_two (c ∷ a) b = at (eqb c 96) (doubled_two a b)
  where
    at : (x : Bool) → doubled a ++ 96 ∷ 96 ∷ doubled b ≡ doubled (a ++ 96 ∷ b) → doubled_by x c a ++ 96 ∷ 96 ∷ doubled b ≡ doubled_by x c (a ++ 96 ∷ b)
    at true more = ap (λ (r : List ℕ). 96 ∷ 96 ∷ r) more
    at false more = ap (λ (r : List ℕ). c ∷ r) more
