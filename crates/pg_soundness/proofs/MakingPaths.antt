-- The paths of a CREATE, one after the other.
use Rattle.std.proofs.Common.{◌≡◌, ℕ, suc, pred, ◌+◌, ◌≤◌, List, [], ◌∷◌, ◌++◌, flat_map, length, IsTrue, Result, Ok, Err, refl, sym, ap, subst, ◌∙◌, append_assoc, append-nil, arith}
use Rattle.std.proofs.lemmas.List.{length-append}
use Rattle.std.specs.List.{AllByRecursion, AllZip}
use Rattle.pg_soundness.proofs.MakingElements.{all_properties, Reached, Fails, IsOne, Left, NodesMade, nodes_made, HopsMade, hops_made}
use Rattle.pg_soundness.proofs.MakingPlaces.{known, count_made, all_less}
use Rattle.pg_soundness.proofs.MakingProgress.{Progress}
use Rattle.pg_soundness.proofs.MakingRows.{as_many_nodes}
use Rattle.pg_meaning.specs.Agreement.{given_in}
use Rattle.pg_meaning.specs.Answer.{◌>>=◌}
use Rattle.pg_meaning.specs.Graph.{Graph, IsGraph, has_node}
use Rattle.pg_meaning.specs.Lists.{IsIn}
use Rattle.pg_meaning.specs.Meaning.{Made, placed, all_placed, new_places, made_hops, all_made, all_nodes, IsTrailOf, new_nodes, new_relationships}
use Rattle.pg_meaning.specs.Meters.{Setting}
use Rattle.pg_meaning.specs.Patterns.{nodes_of, relationship_properties, Bond, single, Trail, Assignment}
use Rattle.pg_meaning.specs.Rows.{Row}
use Rattle.pg_meaning.specs.Tree.{NodePattern, RelationshipPattern, PathPattern}
use Rattle.pg_meaning.specs.Updates.{Making, make_nodes, make_hops, make_bonds, make_path, make_paths}
use Rattle.pg_meaning.specs.declared.fault.Fault.{Fault}

pub all_back : {X : Type 0} (P : X → Type 0) (xs ys : List X) → AllByRecursion P (xs ++ ys) → AllByRecursion P ys
all_back P [] ys h = h
all_back P (x ∷ xs) ys h = all_back P xs ys h.1

ids_of_placed : (P : ℕ → Type 0) (ns : List NodePattern) (ids : List ℕ) → length ids ≡ length ns → AllByRecursion (λ p. P p.1) (placed ns ids) → AllByRecursion P ids
ids_of_placed P [] [] e h = tt
ids_of_placed P [] (id ∷ ids) e h = cc
ids_of_placed P (n ∷ ns) [] e h = cc
ids_of_placed P (n ∷ ns) (id ∷ ids) e h = (h.0, ids_of_placed P ns ids (ap pred e) h.1)

abbrev pub AreSingleBonds : List Bond → Type 0
AreSingleBonds = AllByRecursion (λ b. (r : ℕ) × (b ≡ single r))

made_a_hop : (hs : List (RelationshipPattern × NodePattern)) (ids : List ℕ) (bs : List Bond) → length ids ≡ suc (length hs) → length bs ≡ length hs → AreSingleBonds bs → length (made_hops hs ids bs) ≡ length hs
made_a_hop [] ids bs e f singles = refl
made_a_hop (h ∷ hs) ids [] e f singles = cc
made_a_hop (h ∷ hs) [] (b ∷ bs) e f singles = cc
made_a_hop (h ∷ hs) (m ∷ []) (b ∷ bs) e f singles = cc
made_a_hop (h ∷ hs) (m ∷ n ∷ ns) (b ∷ bs) e f singles =
    subst (λ b. length (made_hops (h ∷ hs) (m ∷ n ∷ ns) (b ∷ bs)) ≡ suc (length hs)) (sym singles.0.1) (ap suc (made_a_hop hs (n ∷ ns) bs (ap pred e) (ap pred f) singles.1))

no_more : (made left total : ℕ) → made + left ≡ total → made ≤ total
no_more made left total e = omega arith

no_more_hops : (made here others total : ℕ) → made + (here + others) ≡ total → made ≤ total
no_more_hops made here others total e = omega arith

hops_past : (a b c d made m : ℕ) → a + (b + c) ≡ d → made ≡ b → m ≡ a + made → m + c ≡ d
hops_past a b c d made m e f k = omega arith

module _ (s : Setting) (paths : List PathPattern) (graph : Graph) (row : Row) (g : IsGraph graph) where
  abbrev pub AreParts : PathPattern → Type 0
  AreParts p = AllByRecursion (IsOne s paths graph row g) (nodes_of p) × AllByRecursion (λ h. IsIn (relationship_properties h.0) (all_properties paths)) p.hops

  abbrev PathMade : (p : PathPattern) (ps : List (NodePattern × ℕ)) (ms : List Made) → Result (Graph × Row × Trail) Fault → Type 0
  PathMade p ps ms (Ok made) = IsTrailOf p made.2 × AreSingleBonds made.2.bonds × Reached s paths graph row g made.0 made.1 (ps ++ placed (nodes_of p) made.2.nodes) (ms ++ made_hops p.hops made.2.nodes made.2.bonds)
  PathMade p ps ms (Err f) = Fails s paths graph row g f

  path_made : (before : Graph) (bound : Row) (p : PathPattern) (ps : List (NodePattern × ℕ)) (ms : List Made) (more : List NodePattern) (others : ℕ) → Reached s paths graph row g before bound ps ms → AreParts p
      → Left s paths graph row g ps (nodes_of p ++ more) → length ms + (length p.hops + others) ≡ new_relationships paths → PathMade p ps ms (make_path s graph row (before, bound) p)
  path_made before bound p ps ms more others so_far parts left hops =
      by_nodes (make_nodes s graph row (record { graph = before; bound = bound; ids = [] }) (nodes_of p))
      (nodes_made s paths graph row g (nodes_of p) (record { graph = before; bound = bound; ids = [] }) ps ms more so_far parts.0 left (no_more_hops (length ms) (length p.hops) others (new_relationships paths) hops))
    where
      finished : (after : Graph) (more_bound : Row) (ids : List ℕ) → length ids ≡ length (nodes_of p) → (r : Result (Graph × List Bond) Fault) → HopsMade s paths graph row g more_bound p.hops ids (ps ++ placed (nodes_of p) ids) ms r
          → PathMade p ps ms (r >>= λ made. Ok (made.0, more_bound, record { nodes = ids; bonds = made.1 }))
      finished after more_bound ids e (Err f) h = h
      finished after more_bound ids e (Ok made) h = ((e, h.0, h.1), h.1, h.2)

      by_ids : (after : Graph) (more_bound : Row) (ids : List ℕ) → length ids ≡ length (nodes_of p) → Reached s paths graph row g after more_bound (ps ++ placed (nodes_of p) ids) ms
          → PathMade p ps ms (make_bonds s graph row p.hops ids after >>= λ made. Ok (made.0, more_bound, record { nodes = ids; bonds = made.1 }))
      by_ids after more_bound [] e reached = cc
      by_ids after more_bound (n ∷ ns) e reached =
          let there = ids_of_placed (λ id. IsTrue (has_node after id)) (nodes_of p) (n ∷ ns) e (all_back (λ q. IsTrue (has_node after q.1)) ps (placed (nodes_of p) (n ∷ ns)) reached.live) in
          finished after more_bound (n ∷ ns) e (make_hops s graph row p.hops n ns after)
          (hops_made s paths graph row g more_bound p.hops n ns after (ps ++ placed (nodes_of p) (n ∷ ns)) ms others reached (ap pred e ∙ as_many_nodes p.hops) parts.1 there.0 there.1
          (no_more (length (new_places s.scope (ps ++ placed (nodes_of p) (n ∷ ns)))) (count_made (known s.scope (ps ++ placed (nodes_of p) (n ∷ ns))) more) (new_nodes (given_in s) paths) (all_less s.scope ps (nodes_of p) (n ∷ ns) more e ∙ left)) hops)

      by_nodes : (r : Result Making Fault) → NodesMade s paths graph row g (record { graph = before; bound = bound; ids = [] }) (nodes_of p) ps ms r
          → PathMade p ps ms (r >>= λ m. make_bonds s graph row p.hops m.ids m.graph >>= λ made. Ok (made.0, m.bound, record { nodes = m.ids; bonds = made.1 }))
      by_nodes (Err f) h = h
      by_nodes (Ok m) h =
          subst (λ ids. PathMade p ps ms (make_bonds s graph row p.hops ids m.graph >>= λ made. Ok (made.0, m.bound, record { nodes = ids; bonds = made.1 }))) (sym h.1)
          (by_ids m.graph m.bound h.0 h.2 h.3)

  abbrev pub PathsMade : (qs : List PathPattern) (ps : List (NodePattern × ℕ)) (ms : List Made) → Result (Graph × Assignment) Fault → Type 0
  PathsMade qs ps ms (Ok made) = AllZip IsTrailOf qs made.1 × (bound : Row) × Reached s paths graph row g made.0 bound (ps ++ all_placed qs made.1) (ms ++ all_made qs made.1)
  PathsMade qs ps ms (Err f) = Fails s paths graph row g f

  pub paths_made : (qs : List PathPattern) (before : Graph) (bound : Row) (ps : List (NodePattern × ℕ)) (ms : List Made) → Reached s paths graph row g before bound ps ms → AllByRecursion AreParts qs
      → Left s paths graph row g ps (all_nodes qs) → length ms + length (flat_map (λ p. p.hops) qs) ≡ new_relationships paths → PathsMade qs ps ms (make_paths s graph row (before, bound) qs)
  paths_made [] before bound ps ms so_far parts left hops =
      (tt, bound, subst (λ ns. Progress s graph row before bound (ps ++ []) ns) (sym (append-nil ms)) (subst (λ qs. Progress s graph row before bound qs ms) (sym (append-nil ps)) so_far))
  paths_made (q ∷ qs) before bound ps ms so_far parts left hops =
      by_first (make_path s graph row (before, bound) q)
      (path_made before bound q ps ms (all_nodes qs) (length (flat_map (λ p. p.hops) qs)) so_far parts.0 left hops_split)
      (λ made h. paths_made qs made.0 made.1 (ps ++ placed (nodes_of q) made.2.nodes) (ms ++ made_hops q.hops made.2.nodes made.2.bonds) h.2 parts.1 (all_less s.scope ps (nodes_of q) made.2.nodes (all_nodes qs) h.0.0 ∙ left)
      (hops_past (length ms) (length q.hops) (length (flat_map (λ p. p.hops) qs)) (new_relationships paths) (length (made_hops q.hops made.2.nodes made.2.bonds)) (length (ms ++ made_hops q.hops made.2.nodes made.2.bonds))
      hops_split (made_a_hop q.hops made.2.nodes made.2.bonds (h.0.0 ∙ ap suc (as_many_nodes q.hops)) h.0.1 h.1) (length-append ms (made_hops q.hops made.2.nodes made.2.bonds))))
    where
      hops_split : length ms + (length q.hops + length (flat_map (λ p. p.hops) qs)) ≡ new_relationships paths
      hops_split = ap (λ k. length ms + k) (sym (length-append q.hops (flat_map (λ p. p.hops) qs))) ∙ hops

      by_rest : (made : Graph × Row × Trail) → IsTrailOf q made.2 → (r : Result (Graph × Assignment) Fault)
          → PathsMade qs (ps ++ placed (nodes_of q) made.2.nodes) (ms ++ made_hops q.hops made.2.nodes made.2.bonds) r → PathsMade (q ∷ qs) ps ms (r >>= λ others. Ok (others.0, made.2 ∷ others.1))
      by_rest made shape (Err f) h = h
      by_rest made shape (Ok others) h = (
        (shape, h.0),
        h.1,
        subst (λ ns. Progress s graph row others.0 h.1 (ps ++ (placed (nodes_of q) made.2.nodes ++ all_placed qs others.1)) ns) (append_assoc ms (made_hops q.hops made.2.nodes made.2.bonds) (all_made qs others.1))
            (subst (λ rs. Progress s graph row others.0 h.1 rs ((ms ++ made_hops q.hops made.2.nodes made.2.bonds) ++ all_made qs others.1)) (append_assoc ps (placed (nodes_of q) made.2.nodes) (all_placed qs others.1)) h.2),
      )

      by_first : (r : Result (Graph × Row × Trail) Fault) → PathMade q ps ms r
          → ((made : Graph × Row × Trail) → PathMade q ps ms (Ok made)
          → PathsMade qs (ps ++ placed (nodes_of q) made.2.nodes) (ms ++ made_hops q.hops made.2.nodes made.2.bonds) (make_paths s graph row (made.0, made.1) qs))
          → PathsMade (q ∷ qs) ps ms (r >>= λ made. make_paths s graph row (made.0, made.1) qs >>= λ others. Ok (others.0, made.2 ∷ others.1))
      by_first (Err f) h rest = h
      by_first (Ok made) h rest = by_rest made h.0 (make_paths s graph row (made.0, made.1) qs) (rest made h)
