-- The places of a CREATE where a node is made, in two parts and counted.
use Rattle.std.proofs.Common.{◌≡◌, ℕ, ◌+◌, Bool, true, false, cond, not, List, [], ◌∷◌, ◌++◌, map, length, Option, Some, None, refl, sym, ap, ◌∙◌, append_assoc, append-nil, arith}
use Rattle.std.proofs.lemmas.List.{length-append}
use Rattle.pg_meaning.specs.Meaning.{placed, new_places}
use Rattle.pg_meaning.specs.Names.{Names, is_among}
use Rattle.pg_meaning.specs.Patterns.{node_name}
use Rattle.pg_meaning.specs.Tree.{NodePattern}

-- a place of this variable makes a node
abbrev pub is_new : Names → Option (List ℕ) → Bool
is_new names None = true
is_new names (Some name) = not (is_among names name)

-- the names behind such a place
abbrev pub known_with : Names → Option (List ℕ) → Names
known_with names None = names
known_with names (Some name) = cond (is_among names name) names (name ∷ names)

abbrev pub known : Names → List (NodePattern × ℕ) → Names
known names [] = names
known names (p ∷ ps) = known (known_with names (node_name p.0)) ps

abbrev pub new_place : Names → NodePattern × ℕ → List (NodePattern × ℕ)
new_place names p = cond (is_new names (node_name p.0)) (p ∷ []) []

-- how many nodes are made at the places of these patterns
abbrev pub count_made : Names → List NodePattern → ℕ
count_made names [] = 0
count_made names (n ∷ ns) = cond (is_new names (node_name n)) 1 0 + count_made (known_with names (node_name n)) ns

pub first_place : (names : Names) (p : NodePattern × ℕ) (ps : List (NodePattern × ℕ)) → new_places names (p ∷ ps) ≡ new_place names p ++ new_places (known_with names (node_name p.0)) ps
first_place names p ps = elim (node_name p.0) as (λ o.
    elim o as (λ o. List (NodePattern × ℕ)) [
      | None ↦ p ∷ new_places names ps
      | Some name ↦ elim (is_among names name) as (λ b. List (NodePattern × ℕ)) [ true ↦ new_places names ps | false ↦ p ∷ new_places (name ∷ names) ps ]
    ] ≡ cond (is_new names o) (p ∷ []) [] ++ new_places (known_with names o) ps) [
      | None ↦ refl
      | Some name ↦ elim (is_among names name) as (λ b.
          elim b as (λ b. List (NodePattern × ℕ)) [ true ↦ new_places names ps | false ↦ p ∷ new_places (name ∷ names) ps ]
          ≡ cond (not b) (p ∷ []) [] ++ new_places (cond b names (name ∷ names)) ps) [ true ↦ refl | false ↦ refl ]
    ]

pub new_places_joined : (names : Names) (ps qs : List (NodePattern × ℕ)) → new_places names (ps ++ qs) ≡ new_places names ps ++ new_places (known names ps) qs
new_places_joined names [] qs = refl
new_places_joined names (p ∷ ps) qs =
    let rest = known_with names (node_name p.0) in
    first_place names p (ps ++ qs)
    ∙ ap (λ xs. new_place names p ++ xs) (new_places_joined rest ps qs)
    ∙ sym (append_assoc (new_place names p) (new_places rest ps) (new_places (known rest ps) qs))
    ∙ ap (λ xs. xs ++ new_places (known rest ps) qs) (sym (first_place names p ps))

pub known_joined : (names : Names) (ps qs : List (NodePattern × ℕ)) → known names (ps ++ qs) ≡ known (known names ps) qs
known_joined names [] qs = refl
known_joined names (p ∷ ps) qs = known_joined (known_with names (node_name p.0)) ps qs

-- one place more
pub new_places_with : (names : Names) (ps : List (NodePattern × ℕ)) (p : NodePattern × ℕ) → new_places names (ps ++ p ∷ []) ≡ new_places names ps ++ new_place (known names ps) p
new_places_with names ps p =
    new_places_joined names ps (p ∷ []) ∙ ap (λ xs. new_places names ps ++ xs) (first_place (known names ps) p [] ∙ append-nil (new_place (known names ps) p))

length_cond : (b : Bool) (p : NodePattern × ℕ) → length (cond b (p ∷ []) []) ≡ cond b 1 0
length_cond true p = refl
length_cond false p = refl

pub counted : (names : Names) (ns : List NodePattern) → length (new_places names (map (λ n. (n, 0)) ns)) ≡ count_made names ns
counted names [] = refl
counted names (n ∷ ns) =
    let rest = known_with names (node_name n) in
    ap length (first_place names (n, 0) (map (λ n. (n, 0)) ns))
    ∙ length-append (new_place names (n, 0)) (new_places rest (map (λ n. (n, 0)) ns))
    ∙ ap (λ k. length (new_place names (n, 0)) + k) (counted rest ns)
    ∙ ap (λ k. k + count_made rest ns) (length_cond (is_new names (node_name n)) (n, 0))

-- what is made so far, and what is still to be made
abbrev pub made_and_left : Names → List (NodePattern × ℕ) → List NodePattern → ℕ
made_and_left names ps ns = length (new_places names ps) + count_made (known names ps) ns

regrouped : (a b c d e : ℕ) → d ≡ a + b → e ≡ c → d + e ≡ a + (b + c)
regrouped a b c d e h i = omega arith

pub one_less : (names : Names) (ps : List (NodePattern × ℕ)) (n : NodePattern) (id : ℕ) (ns : List NodePattern) → made_and_left names (ps ++ (n, id) ∷ []) ns ≡ made_and_left names ps (n ∷ ns)
one_less names ps n id ns =
    regrouped (length (new_places names ps)) (cond (is_new (known names ps) (node_name n)) 1 0) (count_made (known_with (known names ps) (node_name n)) ns) (length (new_places names (ps ++ (n, id) ∷ []))) (count_made (known names (ps ++ (n, id) ∷ [])) ns)
    (ap length (new_places_with names ps (n, id)) ∙ length-append (new_places names ps) (new_place (known names ps) (n, id)) ∙ ap (λ k. length (new_places names ps) + k) (length_cond (is_new (known names ps) (node_name n)) (n, id)))
    (ap (λ k. count_made k ns) (known_joined names ps ((n, id) ∷ [])))

pub all_less : (names : Names) (ps : List (NodePattern × ℕ)) (ns : List NodePattern) (ids : List ℕ) (more : List NodePattern) → length ids ≡ length ns
    → made_and_left names (ps ++ placed ns ids) more ≡ made_and_left names ps (ns ++ more)
all_less names ps [] ids more e = ap (λ qs. made_and_left names qs more) (append-nil ps)
all_less names ps (n ∷ ns) [] more e = cc
all_less names ps (n ∷ ns) (id ∷ ids) more e =
    ap (λ qs. made_and_left names qs more) (sym (append_assoc ps ((n, id) ∷ []) (placed ns ids)))
    ∙ all_less names (ps ++ (n, id) ∷ []) ns ids more (omega arith)
    ∙ one_less names ps n id (ns ++ more)
