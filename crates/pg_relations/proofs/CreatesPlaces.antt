-- The places and hops of a CREATE, whatever ids its assignment has.
use Rattle.std.proofs.Common.{◌≡◌, ℕ, suc, pred, true, false, ◌⊎◌, inl, inr, List, [], ◌∷◌, ◌++◌, map, flat_map, length, Some, None, refl, sym, ap, subst, ◌∙◌}
use Rattle.std.specs.List.{AllByRecursion, AllZip}
use Rattle.pg_soundness.proofs.MakingRows.{as_many_nodes}
use Rattle.pg_soundness.proofs.MatchLists.{in_left, in_right, in_either, map_joined}
use Rattle.pg_meaning.specs.Lists.{IsIn}
use Rattle.pg_meaning.specs.Meaning.{placed, all_placed, all_nodes, new_places, Made, made_hops, all_made, IsTrailOf}
use Rattle.pg_meaning.specs.Names.{Names, is_among}
use Rattle.pg_meaning.specs.Patterns.{nodes_of, node_name, Bond, single, Assignment}
use Rattle.pg_meaning.specs.Tree.{NodePattern, RelationshipPattern, PathPattern}

module _ {X Y : Type 0} (f : X → List Y) where
  pub of_flat : (y : Y) (xs : List X) → IsIn y (flat_map f xs) → (x : X) × IsIn x xs × IsIn y (f x)
  of_flat y [] i = absurd i
  of_flat y (x ∷ xs) i = by_part (in_either y (f x) (flat_map f xs) i) (of_flat y xs)
    where
      by_part : IsIn y (f x) ⊎ IsIn y (flat_map f xs) → (IsIn y (flat_map f xs) → (w : X) × IsIn w xs × IsIn y (f w)) → (w : X) × IsIn w (x ∷ xs) × IsIn y (f w)
      by_part (inl i) rest = (x, inl refl, i)
      by_part (inr i) rest = let later = rest i in (later.0, inr later.1, later.2)

  pub in_flat : (x : X) (y : Y) (xs : List X) → IsIn x xs → IsIn y (f x) → IsIn y (flat_map f xs)
  in_flat x y [] i j = absurd i
  in_flat x y (w ∷ xs) (inl e) j = in_left y (f w) (flat_map f xs) (subst (λ v. IsIn y (f v)) e j)
  in_flat x y (w ∷ xs) (inr i) j = in_right y (f w) (flat_map f xs) (in_flat x y xs i j)

abbrev pub pattern : NodePattern × ℕ → NodePattern
pattern p = p.0

-- the patterns of the places where a node is made
abbrev pub new_of : Names → List NodePattern → List NodePattern
new_of names [] = []
new_of names (n ∷ ns) = elim (node_name n) [
  | None ↦ n ∷ new_of names ns
  | Some name ↦ elim (is_among names name) [ true ↦ new_of names ns | false ↦ n ∷ new_of (name ∷ names) ns ]
]

new_patterns : (names : Names) (ps : List (NodePattern × ℕ)) → map pattern (new_places names ps) ≡ new_of names (map pattern ps)
new_patterns names [] = refl
new_patterns names (p ∷ ps) = elim (node_name p.0) as (λ o.
    map pattern (elim o as (λ o. List (NodePattern × ℕ)) [
      | None ↦ p ∷ new_places names ps
      | Some name ↦ elim (is_among names name) as (λ b. List (NodePattern × ℕ)) [ true ↦ new_places names ps | false ↦ p ∷ new_places (name ∷ names) ps ]
    ]) ≡ elim o as (λ o. List NodePattern) [
      | None ↦ p.0 ∷ new_of names (map pattern ps)
      | Some name ↦ elim (is_among names name) as (λ b. List NodePattern) [ true ↦ new_of names (map pattern ps) | false ↦ p.0 ∷ new_of (name ∷ names) (map pattern ps) ]
    ]) [
      | None ↦ ap (λ ns. p.0 ∷ ns) (new_patterns names ps)
      | Some name ↦ elim (is_among names name) as (λ b.
          map pattern (elim b as (λ b. List (NodePattern × ℕ)) [ true ↦ new_places names ps | false ↦ p ∷ new_places (name ∷ names) ps ])
          ≡ elim b as (λ b. List NodePattern) [ true ↦ new_of names (map pattern ps) | false ↦ p.0 ∷ new_of (name ∷ names) (map pattern ps) ]) [
            | true ↦ new_patterns names ps
            | false ↦ ap (λ ns. p.0 ∷ ns) (new_patterns (name ∷ names) ps)
          ]
    ]

placed_patterns : (ns : List NodePattern) (ids : List ℕ) → length ids ≡ length ns → map pattern (placed ns ids) ≡ ns
placed_patterns [] ids e = refl
placed_patterns (n ∷ ns) [] e = cc
placed_patterns (n ∷ ns) (id ∷ ids) e = ap (λ ms. n ∷ ms) (placed_patterns ns ids (ap pred e))

pub all_patterns : (paths : List PathPattern) (a : Assignment) → AllZip IsTrailOf paths a → map pattern (all_placed paths a) ≡ all_nodes paths
all_patterns [] [] h = refl
all_patterns [] (t ∷ ts) h = absurd h
all_patterns (p ∷ ps) [] h = absurd h
all_patterns (p ∷ ps) (t ∷ ts) h =
    map_joined pattern (placed (nodes_of p) t.nodes) (all_placed ps ts)
    ∙ ap (λ ns. ns ++ map pattern (all_placed ps ts)) (placed_patterns (nodes_of p) t.nodes h.0.0)
    ∙ ap (λ ns. nodes_of p ++ ns) (all_patterns ps ts h.1)

at_nought : (ns : List NodePattern) → map pattern (map (λ n. (n, 0)) ns) ≡ ns
at_nought [] = refl
at_nought (n ∷ ns) = ap (λ ms. n ∷ ms) (at_nought ns)

pub made_at_all : (names : Names) (ns : List NodePattern) → new_of names ns ≡ map pattern (new_places names (map (λ n. (n, 0)) ns))
made_at_all names ns = ap (new_of names) (sym (at_nought ns)) ∙ sym (new_patterns names (map (λ n. (n, 0)) ns))

-- where a node is made is told by the paths alone
pub made_where : (names : Names) (paths : List PathPattern) (a : Assignment) → AllZip IsTrailOf paths a
    → map pattern (new_places names (all_placed paths a)) ≡ map pattern (new_places names (map (λ n. (n, 0)) (all_nodes paths)))
made_where names paths a h =
    new_patterns names (all_placed paths a) ∙ ap (new_of names) (all_patterns paths a h ∙ sym (at_nought (all_nodes paths))) ∙ sym (new_patterns names (map (λ n. (n, 0)) (all_nodes paths)))

-- ---- hops

abbrev pub hop_of : Made → RelationshipPattern
hop_of m = m.pattern

hop_patterns : (hs : List (RelationshipPattern × NodePattern)) (ns : List ℕ) (bs : List Bond) → length ns ≡ suc (length hs) → length bs ≡ length hs → AllByRecursion (λ b. (r : ℕ) × (b ≡ single r)) bs
    → map hop_of (made_hops hs ns bs) ≡ map (λ (h : RelationshipPattern × NodePattern). h.0) hs
hop_patterns [] ns bs e f h = refl
hop_patterns (x ∷ hs) [] bs e f h = cc
hop_patterns (x ∷ hs) (m ∷ []) bs e f h = let impossible : 0 ≡ suc (length hs) = ap pred e in cc
hop_patterns (x ∷ hs) (m ∷ n ∷ ns) [] e f h = cc
hop_patterns (x ∷ hs) (m ∷ n ∷ ns) (b ∷ bs) e f h =
    subst (λ c. map hop_of (made_hops (x ∷ hs) (m ∷ n ∷ ns) (c ∷ bs)) ≡ map (λ (h : RelationshipPattern × NodePattern). h.0) (x ∷ hs)) (sym h.0.1)
    (ap (λ rs. x.0 ∷ rs) (hop_patterns hs (n ∷ ns) bs (ap pred e) (ap pred f) h.1))

pub all_hop_patterns : (paths : List PathPattern) (a : Assignment) → AllZip IsTrailOf paths a → map hop_of (all_made paths a) ≡ map (λ (h : RelationshipPattern × NodePattern). h.0) (flat_map (λ (p : PathPattern). p.hops) paths)
all_hop_patterns [] [] h = refl
all_hop_patterns [] (t ∷ ts) h = absurd h
all_hop_patterns (p ∷ ps) [] h = absurd h
all_hop_patterns (p ∷ ps) (t ∷ ts) h =
    map_joined hop_of (made_hops p.hops t.nodes t.bonds) (all_made ps ts)
    ∙ ap (λ rs. rs ++ map hop_of (all_made ps ts)) (hop_patterns p.hops t.nodes t.bonds (h.0.0 ∙ ap suc (as_many_nodes p.hops)) h.0.1 h.0.2)
    ∙ ap (λ rs. map (λ (h : RelationshipPattern × NodePattern). h.0) p.hops ++ rs) (all_hop_patterns ps ts h.1)
    ∙ sym (map_joined (λ (h : RelationshipPattern × NodePattern). h.0) p.hops (flat_map (λ (p : PathPattern). p.hops) ps))
