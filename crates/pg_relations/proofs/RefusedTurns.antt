-- What no clause gives over several rows.
use Rattle.std.proofs.Common.{◌≡◌, ℕ, ◌+◌, inl, inr, List, [], ◌∷◌, length, Some, codes, refl, sym, ap, subst, ◌∙◌, arith}
use Rattle.std.specs.List.{AllByRecursion, AllZip}
use Rattle.pg_meaning.specs.ExamplesOfSteps.{within, unnamed}
use Rattle.pg_meaning.specs.Graph.{Graph, Node, empty_graph, node_at}
use Rattle.pg_meaning.specs.Meaning.{Step, IsTrailOf, IsMadeNode, all_placed, new_places, MergeMade}
use Rattle.pg_meaning.specs.Names.{is_among, in_byte_order}
use Rattle.pg_meaning.specs.Patterns.{Assignment, Bond, Fits}
use Rattle.pg_meaning.specs.Rows.{Row}
use Rattle.pg_meaning.specs.Tree.{create, merge}
use Rattle.pg_meaning.specs.Turns.{Given}
use Rattle.pg_meaning.specs.Value.{no_entries}
use Rattle.pg_relations.proofs.MergesDetermined.{none_set, not_none}
use Rattle.pg_relations.proofs.RefusedCreations.{some_node}
use Rattle.pg_relations.specs.Merged.{One}
use Rattle.pg_relations.specs.RefusedSteps.{made_with}
use Rattle.pg_relations.specs.RefusedTurns.{made_twice, two_rows, RefusedTurns}

-- ---- CREATE

for_each : (results : List Row) → Step (within []) (create (unnamed ∷ [])) empty_graph two_rows (made_with (codes "L" ∷ []) no_entries) results → ⊥
for_each results s =
    two_is_one s.0.next_node s.4.0.next_node _ _ s.3.next_node (some_node empty_graph s.0 s.3.assignment (within []) s.3.shape s.3.nodes).0 s.4.3.next_node (some_node s.0 s.4.0 s.4.3.assignment (within []) s.4.3.shape s.4.3.nodes).0
    (ap (λ (graph : Graph). graph.next_node) s.4.4.0)
  where
    two_is_one : (a b m n : ℕ) → a ≡ 0 + m → m ≡ 1 → b ≡ a + n → n ≡ 1 → 1 ≡ b → ⊥
    two_is_one a b m n d e f h k = omega (arith, d, e, f, h, k)

-- ---- MERGE

nothing_fits : (a : Assignment) → Fits (unnamed ∷ []) no_entries empty_graph [] a → ⊥
nothing_fits [] h = absurd h.each
nothing_fits (t ∷ ts) h = let impossible = (h.each).0.3.present in cc

-- what was made has the label
labelled_node : (graph after : Graph) (a : Assignment) (g : Given) → AllZip IsTrailOf (unnamed ∷ []) a → AllByRecursion (IsMadeNode g graph [] after) (new_places [] (all_placed (unnamed ∷ []) a))
    → (n : ℕ) × (e : Node) × (node_at after n ≡ Some e) × (e.labels ≡ in_byte_order (codes "L" ∷ []))
labelled_node graph after [] g z h = absurd z
labelled_node graph after (t ∷ []) g z h = by_nodes t.nodes t.bonds z.0.0 h
  where
    by_nodes : (ns : List ℕ) (bs : List Bond) → length ns ≡ 1 → AllByRecursion (IsMadeNode g graph [] after) (new_places [] (all_placed (unnamed ∷ []) (record { nodes = ns; bonds = bs } ∷ [])))
        → (n : ℕ) × (e : Node) × (node_at after n ≡ Some e) × (e.labels ≡ in_byte_order (codes "L" ∷ []))
    by_nodes [] bs l h = absurd (apart l)
      where
        apart : ◌≡◌ {A = ℕ} 0 1 → ⊥
        apart e = omega arith
    by_nodes (n ∷ ns) bs l h = (n, h.0.0, h.0.3, h.0.4)
labelled_node graph after (t ∷ u ∷ ts) g z h = absurd z.1

there_fits : (graph : Graph) → (n : ℕ) × (e : Node) × (node_at graph n ≡ Some e) × (e.labels ≡ in_byte_order (codes "L" ∷ [])) → (a : Assignment) × Fits (unnamed ∷ []) no_entries graph [] a
there_fits graph (n, e, there, labels) = (
  record { nodes = n ∷ []; bonds = [] } ∷ [],
  record {
    each = ((n, [], refl, record { node = e; present = there; labelled = (ap (λ ls. is_among ls (codes "L")) labels, tt); alike = tt }, tt), tt);
    bound = tt;
    repeated = tt;
    once = tt;
  },
)

found_once : (results : List Row) → Step (within []) (merge unnamed []) empty_graph two_rows made_twice results → ⊥
found_once results s = by_first s.3.one
  where
    two_is_one : (a m : ℕ) → a ≡ 0 + m → m ≡ 1 → 2 ≡ a → ⊥
    two_is_one a m d e f = omega (arith, d, e, f)

    by_second : (m : MergeMade (within []) unnamed [] empty_graph [] s.0 s.1) → One (within []) unnamed [] s.0 [] s.4.0 s.4.1 → ⊥
    by_second m (inl h) =
        let left = s.4.4.0 ∙ none_set (within []) s.0 s.4.0 s.4.1 h.items_run ∙ none_set (within []) m.made s.0 s.1 m.items_run in
        two_is_one m.made.next_node _ m.creation.next_node (some_node empty_graph m.made m.creation.assignment (within []) m.creation.shape m.creation.nodes).0 (ap (λ (graph : Graph). graph.next_node) left)
    by_second m (inr h) =
        let node = labelled_node empty_graph m.made m.creation.assignment (within []) m.creation.shape m.creation.nodes in
        let fits = there_fits m.made node in
        h.none fits.0 (subst (λ graph. Fits (unnamed ∷ []) no_entries graph [] fits.0) (sym (none_set (within []) m.made s.0 s.1 m.items_run)) fits.1)

    by_first : One (within []) unnamed [] empty_graph [] s.0 s.1 → ⊥
    by_first (inl m) = not_none (within []) unnamed [] empty_graph [] m.found m.matches.each m.some nothing_fits
    by_first (inr m) = by_second m s.4.3.one

-- ---- rows

none_is_some : (row : Row) → [] ≡ row ∷ [] → ⊥
none_is_some row e = cc

two_are_one : two_rows ≡ [] ∷ [] → ⊥
two_are_one e = more (ap (λ (rows : List Row). length rows) e)
  where
    more : ◌≡◌ {A = ℕ} 2 1 → ⊥
    more e = omega arith

pub refused_turns : RefusedTurns
refused_turns = (for_each, found_once, (λ s. none_is_some [] s.1), (λ s. two_are_one s.1), (λ s. none_is_some [] s.1), (λ q parameters most scope graph rows f x. x.0))
