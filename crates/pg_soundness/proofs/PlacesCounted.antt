-- The node places of a CREATE, counted by the charge and by the meaning.
use Rattle.std.proofs.Common.{◌≡◌, ℕ, suc, pred, ◌+◌, true, false, List, [], ◌∷◌, ◌++◌, map, flat_map, length, Some, None, refl, sym, ap, subst, ◌∙◌, append_assoc, arith}
use Rattle.std.proofs.lemmas.List.{length-append}
use Rattle.std.specs.List.{AllByRecursion, AllZip}
use Rattle.pg_meaning.specs.Meaning.{placed, all_placed, new_places, made_hops, all_made, IsTrailOf}
use Rattle.pg_meaning.specs.Names.{Names, is_among}
use Rattle.pg_meaning.specs.Patterns.{nodes_of, node_name, named_nodes, all_named, Bond, single, Assignment}
use Rattle.pg_meaning.specs.Tree.{NodePattern, RelationshipPattern, PathPattern}
use Rattle.pg_meaning.specs.Updates.{count_nodes}
use Rattle.pg_soundness.proofs.MakingRows.{as_many_nodes}
use Rattle.pg_soundness.specs.Places.{CreationIsCharged, named_place, NamesAreOfPlaces}

-- ---- lists

module _ {X Y : Type 0} where
  mapped_joined : (f : X → Y) (xs ys : List X) → map f (xs ++ ys) ≡ map f xs ++ map f ys
  mapped_joined f [] ys = refl
  mapped_joined f (x ∷ xs) ys = ap (λ zs. f x ∷ zs) (mapped_joined f xs ys)

  all_of_joined : (f : X → List Y) (xs ys : List X) → flat_map f (xs ++ ys) ≡ flat_map f xs ++ flat_map f ys
  all_of_joined f [] ys = refl
  all_of_joined f (x ∷ xs) ys = ap (λ zs. f x ++ zs) (all_of_joined f xs ys) ∙ sym (append_assoc (f x) (flat_map f xs) (flat_map f ys))

one_more : (a b : ℕ) → a ≡ b → suc a ≡ 1 + b
one_more a b e = omega arith

-- ---- nodes

abbrev pattern : NodePattern × ℕ → NodePattern
pattern p = p.0

places_counted : (names : Names) (ps : List (NodePattern × ℕ)) → length (new_places names ps) ≡ count_nodes names (map pattern ps)
places_counted names [] = refl
places_counted names (p ∷ ps) = elim (node_name p.0) as (λ o.
    length (elim o as (λ o. List (NodePattern × ℕ)) [
      | None ↦ p ∷ new_places names ps
      | Some name ↦ elim (is_among names name) as (λ b. List (NodePattern × ℕ)) [ true ↦ new_places names ps | false ↦ p ∷ new_places (name ∷ names) ps ]
    ]) ≡ elim o as (λ o. ℕ) [
      | None ↦ 1 + count_nodes names (map pattern ps)
      | Some name ↦ elim (is_among names name) as (λ b. ℕ) [ true ↦ count_nodes names (map pattern ps) | false ↦ 1 + count_nodes (name ∷ names) (map pattern ps) ]
    ]) [
      | None ↦ one_more _ _ (places_counted names ps)
      | Some name ↦ elim (is_among names name) as (λ b.
          length (elim b as (λ b. List (NodePattern × ℕ)) [ true ↦ new_places names ps | false ↦ p ∷ new_places (name ∷ names) ps ])
          ≡ elim b as (λ b. ℕ) [ true ↦ count_nodes names (map pattern ps) | false ↦ 1 + count_nodes (name ∷ names) (map pattern ps) ]) [
            | true ↦ places_counted names ps
            | false ↦ one_more _ _ (places_counted (name ∷ names) ps)
          ]
    ]

placed_patterns : (ns : List NodePattern) (ids : List ℕ) → length ids ≡ length ns → map pattern (placed ns ids) ≡ ns
placed_patterns [] ids e = refl
placed_patterns (n ∷ ns) [] e = cc
placed_patterns (n ∷ ns) (id ∷ ids) e = ap (λ ms. n ∷ ms) (placed_patterns ns ids (ap pred e))

all_patterns : (paths : List PathPattern) (a : Assignment) → AllZip IsTrailOf paths a → map pattern (all_placed paths a) ≡ flat_map nodes_of paths
all_patterns [] [] h = refl
all_patterns [] (t ∷ ts) h = absurd h
all_patterns (p ∷ ps) [] h = absurd h
all_patterns (p ∷ ps) (t ∷ ts) h =
    mapped_joined pattern (placed (nodes_of p) t.nodes) (all_placed ps ts)
    ∙ ap (λ ns. ns ++ map pattern (all_placed ps ts)) (placed_patterns (nodes_of p) t.nodes h.0.0)
    ∙ ap (λ ns. nodes_of p ++ ns) (all_patterns ps ts h.1)

-- ---- relationships

hops_counted : (hs : List (RelationshipPattern × NodePattern)) (ns : List ℕ) (bs : List Bond) → length ns ≡ suc (length hs) → length bs ≡ length hs → AllByRecursion (λ b. (r : ℕ) × (b ≡ single r)) bs → length (made_hops hs ns bs) ≡ length hs
hops_counted [] ns bs e f h = refl
hops_counted (x ∷ hs) [] bs e f h = cc
hops_counted (x ∷ hs) (m ∷ []) bs e f h = let impossible : 0 ≡ suc (length hs) = ap pred e in cc
hops_counted (x ∷ hs) (m ∷ n ∷ ns) [] e f h = cc
hops_counted (x ∷ hs) (m ∷ n ∷ ns) (b ∷ bs) e f h =
    subst (λ c. length (made_hops (x ∷ hs) (m ∷ n ∷ ns) (c ∷ bs)) ≡ suc (length hs)) (sym h.0.1) (ap suc (hops_counted hs (n ∷ ns) bs (ap pred e) (ap pred f) h.1))

all_hops_counted : (paths : List PathPattern) (a : Assignment) → AllZip IsTrailOf paths a → length (all_made paths a) ≡ length (flat_map (λ (p : PathPattern). p.hops) paths)
all_hops_counted [] [] h = refl
all_hops_counted [] (t ∷ ts) h = absurd h
all_hops_counted (p ∷ ps) [] h = absurd h
all_hops_counted (p ∷ ps) (t ∷ ts) h =
    length-append (made_hops p.hops t.nodes t.bonds) (all_made ps ts)
    ∙ ap (λ k. k + length (all_made ps ts)) (hops_counted p.hops t.nodes t.bonds (h.0.0 ∙ ap suc (as_many_nodes p.hops)) h.0.1 h.0.2)
    ∙ ap (λ k. length p.hops + k) (all_hops_counted ps ts h.1)
    ∙ sym (length-append p.hops (flat_map (λ (p : PathPattern). p.hops) ps))

-- ---- the laws

summed : (nodes relationships before_nodes before_relationships new hops counted charged : ℕ) → nodes ≡ before_nodes + new → relationships ≡ before_relationships + hops → new ≡ counted → hops ≡ charged
    → nodes + relationships ≡ before_nodes + before_relationships + (counted + charged)
summed nodes relationships before_nodes before_relationships new hops counted charged a b c d = omega arith

pub creation_is_charged : CreationIsCharged
creation_is_charged g paths graph row after results c =
    summed after.next_node after.next_relationship graph.next_node graph.next_relationship _ _ _ _ c.next_node c.next_relationship
    (places_counted g.scope (all_placed paths c.assignment) ∙ ap (count_nodes g.scope) (all_patterns paths c.assignment c.shape))
    (all_hops_counted paths c.assignment c.shape)

named_of_places : (ns : List NodePattern) (ids : List ℕ) → named_nodes ns ids ≡ flat_map named_place (placed ns ids)
named_of_places [] ids = refl
named_of_places (n ∷ ns) [] = refl
named_of_places (n ∷ ns) (id ∷ ids) =
    elim (node_name n) as (λ o.
    elim o as (λ o. List (List ℕ × ℕ)) [ None ↦ named_nodes ns ids | Some name ↦ (name, id) ∷ named_nodes ns ids ]
    ≡ elim o as (λ o. List (List ℕ × ℕ)) [ None ↦ [] | Some name ↦ (name, id) ∷ [] ] ++ flat_map named_place (placed ns ids)) [
      | None ↦ named_of_places ns ids
      | Some name ↦ ap (λ xs. (name, id) ∷ xs) (named_of_places ns ids)
    ]

pub names_are_of_places : NamesAreOfPlaces
names_are_of_places [] ts = refl
names_are_of_places (p ∷ ps) [] = refl
names_are_of_places (p ∷ ps) (t ∷ ts) =
    ap (λ xs. xs ++ all_named ps ts) (named_of_places (nodes_of p) t.nodes)
    ∙ ap (λ xs. flat_map named_place (placed (nodes_of p) t.nodes) ++ xs) (names_are_of_places ps ts)
    ∙ sym (all_of_joined named_place (placed (nodes_of p) t.nodes) (all_placed ps ts))
