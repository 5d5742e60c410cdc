-- What no CREATE makes.
use Rattle.std.proofs.Common.{Result, Ok, Err, ◌≡◌, ◌≢◌, ℕ, zero, suc, ◌+◌, ◌^◌, ◌-◌, ◌<◌, ◌≤◌, ◌⊎◌, inl, inr, length, bytes_eq, Bool, true, false, List, [], ◌∷◌, Option, Some, None, codes, pos, refl, sym, ap, subst, ◌∙◌, arith}
use Rattle.std.specs.FinMap.Entries as by_id
use Rattle.std.specs.List.{AllZip, AllByRecursion}
use Rattle.std.specs.Ordering.{nat_cmp}
use Rattle.pg_meaning.specs.AnswerLaws.{same_ok}
use Rattle.pg_meaning.specs.ExamplesOfFits.{not_true, pair_graph}
use Rattle.pg_meaning.specs.ExamplesOfSteps.{within, unnamed, spent_graph, between_both, both_rows}
use Rattle.pg_meaning.specs.Graph.{Graph, Node, Relationship, empty_graph, add_node, node_at, relationship_at}
use Rattle.pg_meaning.specs.Lists.{IsIn, AllPairsByRecursion}
use Rattle.pg_meaning.specs.Meaning.{given_of, CreateRow, CreateFaults, StandsFor, IsMadeNode, IsMadeRelationship, IsTrailOf, new_places, all_placed, all_made}
use Rattle.pg_meaning.specs.Names.{Names}
use Rattle.pg_meaning.specs.Patterns.{Assignment, Bond, single, nodes_of, node_name, bind_match}
use Rattle.pg_meaning.specs.Rows.{Row}
use Rattle.pg_meaning.specs.Tree.{NodePattern, PathPattern, Properties, no_properties}
use Rattle.pg_meaning.specs.Turns.{Given}
use Rattle.pg_meaning.specs.Value.{Value, node, integer, Entries, no_entries, entry}
use Rattle.pg_meaning.specs.Reading.{test_bound}
use Rattle.pg_meaning.specs.Updates.{given_properties}
use Rattle.pg_meaning.specs.Walks.{bound_value}
use Rattle.pg_meaning.specs.declared.fault.Fault.{Fault}
use Rattle.pg_meaning.specs.declared.fault.Fault.TheVariants.{ElementQuota, IdsExhausted}
use Rattle.pg_relations.specs.RefusedSteps.{made_with, named_node, unjoined_graph, stray_graph, turned_graph, back, doubled_graph, retyped_graph, looped, unlooped_graph, RefusedCreations}

-- what a node made for (:L) has
abbrev AsWritten : Graph → Type 0
AsWritten after = (e : Node) × (node_at after 0 ≡ Some e) × (e.labels ≡ codes "L" ∷ []) × (e.properties ≡ no_entries)

as_written : (after : Graph) (first : List Row) → after.next_node ≡ 1 → CreateRow (within []) (unnamed ∷ []) empty_graph [] after first → AsWritten after
as_written after first one c = by_shape c.assignment c.shape c.nodes
  where
    at_nought : (n : ℕ) → IsMadeNode (within []) empty_graph [] after (unnamed.first, n) → AsWritten after
    at_nought zero m = (m.0, m.3, m.4, sym (same_ok no_entries m.0.properties m.5))
    at_nought (suc n) m = absurd (past n (subst (λ k. suc n < k) one m.2))
      where
        past : (n : ℕ) → suc n < 1 → ⊥
        past n h = omega arith

    by_nodes : (ns : List ℕ) (bs : List Bond) → length ns ≡ 1 → AllByRecursion (IsMadeNode (within []) empty_graph [] after) (new_places [] (all_placed (unnamed ∷ []) (record { nodes = ns; bonds = bs } ∷ []))) → AsWritten after
    by_nodes [] bs l h = absurd (apart l)
      where
        apart : ◌≡◌ {A = ℕ} 0 1 → ⊥
        apart e = omega arith
    by_nodes (n ∷ ns) bs l h = at_nought n h.0

    by_shape : (a : Assignment) → AllZip IsTrailOf (unnamed ∷ []) a → AllByRecursion (IsMadeNode (within []) empty_graph [] after) (new_places [] (all_placed (unnamed ∷ []) a)) → AsWritten after
    by_shape [] z h = absurd z
    by_shape (t ∷ []) z h = by_nodes t.nodes t.bonds z.0.0 h
    by_shape (t ∷ u ∷ ts) z h = absurd z.1

abbrev labels_of : Option Node → Names
labels_of None = []
labels_of (Some e) = e.labels

abbrev properties_of : Option Node → Entries
properties_of None = no_entries
properties_of (Some e) = e.properties

abbrev is_l : Names → Bool
is_l [] = false
is_l (l ∷ ls) = bytes_eq l (codes "L")

abbrev is_bare : Entries → Bool
is_bare no_entries = true
is_bare (entry k v es) = false

-- two nodes with one label and two ids: that of the other label is none of them
abbrev two_labels : Graph
two_labels = add_node (codes "M" ∷ []) no_entries (made_with (codes "L" ∷ []) no_entries)

not_one : (n : ℕ) → IsMadeNode (within []) empty_graph [] two_labels (unnamed.first, n) → n ≡ 0
not_one zero m = refl
not_one (suc zero) m = absurd (not_true (ap is_l (ap labels_of m.3 ∙ m.4)))
not_one (suc (suc n)) m = absurd (past n m.2)
  where
    past : (n : ℕ) → suc (suc n) < 2 → ⊥
    past n h = omega arith

two_nodes : (first : List Row) → CreateRow (within []) (unnamed ∷ unnamed ∷ []) empty_graph [] two_labels first → ⊥
two_nodes first c = by_shape c.assignment c.shape c.nodes c.node_ids
  where
    by_nodes : (ns ms : List ℕ) (bs cs : List Bond) → length ns ≡ 1 → length ms ≡ 1
        → AllByRecursion (IsMadeNode (within []) empty_graph [] two_labels) (new_places [] (all_placed (unnamed ∷ unnamed ∷ []) (record { nodes = ns; bonds = bs } ∷ record { nodes = ms; bonds = cs } ∷ [])))
        → AllPairsByRecursion (λ (p q : NodePattern × ℕ). p.1 ≢ q.1) (new_places [] (all_placed (unnamed ∷ unnamed ∷ []) (record { nodes = ns; bonds = bs } ∷ record { nodes = ms; bonds = cs } ∷ []))) → ⊥
    by_nodes [] ms bs cs l k h o = absurd (apart l)
      where
        apart : ◌≡◌ {A = ℕ} 0 1 → ⊥
        apart e = omega arith
    by_nodes (n ∷ ns) [] bs cs l k h o = absurd (apart k)
      where
        apart : ◌≡◌ {A = ℕ} 0 1 → ⊥
        apart e = omega arith
    by_nodes (n ∷ ns) (m ∷ ms) bs cs l k h o = both_at n m ns ms l k h o
      where
        both_at : (n m : ℕ) (ns ms : List ℕ) → length (n ∷ ns) ≡ 1 → length (m ∷ ms) ≡ 1
            → AllByRecursion (IsMadeNode (within []) empty_graph [] two_labels) ((unnamed.first, n) ∷ (unnamed.first, m) ∷ [])
            → AllPairsByRecursion (λ (p q : NodePattern × ℕ). p.1 ≢ q.1) ((unnamed.first, n) ∷ (unnamed.first, m) ∷ []) → ⊥
        both_at n m ns ms l k h o = o.0.0 (not_one n h.0 ∙ sym (not_one m h.1.0))

    by_shape : (a : Assignment) → AllZip IsTrailOf (unnamed ∷ unnamed ∷ []) a
        → AllByRecursion (IsMadeNode (within []) empty_graph [] two_labels) (new_places [] (all_placed (unnamed ∷ unnamed ∷ []) a))
        → AllPairsByRecursion (λ (p q : NodePattern × ℕ). p.1 ≢ q.1) (new_places [] (all_placed (unnamed ∷ unnamed ∷ []) a)) → ⊥
    by_shape [] z h o = absurd z
    by_shape (t ∷ []) z h o = absurd z.1
    by_shape (t ∷ u ∷ []) z h o = by_nodes t.nodes u.nodes t.bonds u.bonds z.0.0 z.1.0.0 h o
    by_shape (t ∷ u ∷ v ∷ ts) z h o = absurd z.1.1

-- a node that is made is in the graph
pub some_node : (graph after : Graph) (a : Assignment) (g : Given) → AllZip IsTrailOf (unnamed ∷ []) a → AllByRecursion (IsMadeNode g graph [] after) (new_places [] (all_placed (unnamed ∷ []) a))
    → (length (new_places [] (all_placed (unnamed ∷ []) a)) ≡ 1) × ((n : ℕ) × (e : Node) × (node_at after n ≡ Some e))
some_node graph after [] g z h = absurd z
some_node graph after (t ∷ []) g z h = by_nodes t.nodes t.bonds z.0.0 h
  where
    by_nodes : (ns : List ℕ) (bs : List Bond) → length ns ≡ 1 → AllByRecursion (IsMadeNode g graph [] after) (new_places [] (all_placed (unnamed ∷ []) (record { nodes = ns; bonds = bs } ∷ [])))
        → (length (new_places [] (all_placed (unnamed ∷ []) (record { nodes = ns; bonds = bs } ∷ []))) ≡ 1) × ((n : ℕ) × (e : Node) × (node_at after n ≡ Some e))
    by_nodes [] bs l h = absurd (apart l)
      where
        apart : ◌≡◌ {A = ℕ} 0 1 → ⊥
        apart e = omega arith
    by_nodes (n ∷ ns) bs l h = (refl, (n, h.0.0, h.0.3))
some_node graph after (t ∷ u ∷ ts) g z h = absurd z.1

some_length : (nodes : List (ℕ × Node)) (n : ℕ) (e : Node) → by_id.find nat_cmp n nodes ≡ Some e → 0 < length nodes
some_length [] n e h = cc
some_length (x ∷ xs) n e h = more (length xs)
  where
    more : (n : ℕ) → 0 < suc n
    more n = omega arith

no_room : (after : Graph) (results : List Row) → CreateRow (given_of no_entries 0 []) (unnamed ∷ []) empty_graph [] after results → ⊥
no_room after results c =
    let there = some_node empty_graph after c.assignment (given_of no_entries 0 []) c.shape c.nodes in
    past (length after.nodes) (length after.relationships) (some_length after.nodes there.1.0 there.1.1 there.1.2) c.room
  where
    past : (m n : ℕ) → 0 < m → m + n ≤ 0 → ⊥
    past m n h k = omega (arith, h, k)

no_id : (after : Graph) (results : List Row) → CreateRow (within []) (unnamed ∷ []) spent_graph [] after results → ⊥
no_id after results c =
    let there = some_node spent_graph after c.assignment (within []) c.shape c.nodes in
    past after.next_node (length (new_places [] (all_placed (unnamed ∷ []) c.assignment))) c.next_node there.0 c.node_counter
  where
    past : (next new : ℕ) → next ≡ 2 ^ 63 + new → new ≡ 1 → next ≤ 2 ^ 63 → ⊥
    past next new e f h = omega (arith, e, f, h)

-- ---- ends

abbrev Pair : ℕ → ℕ → ℕ → Assignment
Pair n m r = record { nodes = n ∷ m ∷ []; bonds = single r ∷ [] } ∷ []

-- a path of one hop has two nodes and a relationship
pair_of : (p : PathPattern) → length (nodes_of p) ≡ 2 → length p.hops ≡ 1 → (a : Assignment) → AllZip IsTrailOf (p ∷ []) a → (n : ℕ) × (m : ℕ) × (r : ℕ) × (a ≡ Pair n m r)
pair_of p two one [] z = absurd z
pair_of p two one (t ∷ []) z = by_parts t.nodes t.bonds (z.0.0 ∙ two) (z.0.1 ∙ one) z.0.2
  where
    by_parts : (ns : List ℕ) (bs : List Bond) → length ns ≡ 2 → length bs ≡ 1 → AllByRecursion (λ b. (r : ℕ) × (b ≡ single r)) bs → (n : ℕ) × (m : ℕ) × (r : ℕ) × (record { nodes = ns; bonds = bs } ∷ [] ≡ Pair n m r)
    by_parts [] bs l k s = absurd (apart l)
      where
        apart : ◌≡◌ {A = ℕ} 0 2 → ⊥
        apart e = omega arith
    by_parts (n ∷ []) bs l k s = absurd (apart l)
      where
        apart : ◌≡◌ {A = ℕ} 1 2 → ⊥
        apart e = omega arith
    by_parts (n ∷ m ∷ i ∷ ns) bs l k s = absurd (apart (length ns) l)
      where
        apart : (k : ℕ) → suc (suc (suc k)) ≡ 2 → ⊥
        apart k e = omega arith
    by_parts (n ∷ m ∷ []) [] l k s = absurd (apart k)
      where
        apart : ◌≡◌ {A = ℕ} 0 1 → ⊥
        apart e = omega arith
    by_parts (n ∷ m ∷ []) (b ∷ c ∷ bs) l k s = absurd (apart (length bs) k)
      where
        apart : (k : ℕ) → suc (suc k) ≡ 1 → ⊥
        apart k e = omega arith
    by_parts (n ∷ m ∷ []) (b ∷ []) l k s = (n, m, s.0.0, ap (λ c. record { nodes = n ∷ m ∷ []; bonds = c ∷ [] } ∷ []) s.0.1)
pair_of p two one (t ∷ u ∷ ts) z = absurd z.1

abbrev node_of : Option Value → ℕ
node_of (Some (node n)) = n
node_of o = 9

abbrev source_of : Option Relationship → ℕ
source_of None = 9
source_of (Some e) = e.source

abbrev target_of : Option Relationship → ℕ
target_of None = 9
target_of (Some e) = e.target

not_turned : (results : List Row) → CreateRow (within (codes "b" ∷ codes "a" ∷ [])) (between_both ∷ []) pair_graph both_rows turned_graph results → ⊥
not_turned results c =
    let p = pair_of between_both refl refl c.assignment c.shape in
    let bound = subst (λ a. AllByRecursion (StandsFor both_rows) (all_placed (between_both ∷ []) a)) p.3 c.bound in
    let made = subst (λ a. AllByRecursion (IsMadeRelationship (within (codes "b" ∷ codes "a" ∷ [])) pair_graph both_rows turned_graph) (all_made (between_both ∷ []) a)) p.3 c.relationships in
    at_ends p.0 p.2 bound.0 made.0.0 made.0.1 made.0.2 made.0.3 made.0.5.0
  where
    at_ends : (n r : ℕ) → (◌≡◌ {A = Option Value} (Some (node 0)) None) ⊎ (◌≡◌ {A = Option Value} (Some (node 0)) (Some (node n)))
        → (e : Relationship) → 1 ≤ r → r < 2 → relationship_at turned_graph r ≡ Some e → e.source ≡ n → ⊥
    at_ends n r (inl none) e h l there source = cc
    at_ends n r (inr is) e h l there source =
        let last : r ≡ 1 = omega (arith, h, l) in
        apart (ap source_of (subst (λ k. relationship_at turned_graph k ≡ Some e) last there) ∙ source ∙ sym (ap node_of is))
      where
        apart : ◌≡◌ {A = ℕ} 1 0 → ⊥
        apart e = omega arith

abbrev type_of : Option Relationship → List ℕ
type_of None = []
type_of (Some e) = e.type

not_retyped : (results : List Row) → CreateRow (within (codes "b" ∷ codes "a" ∷ [])) (between_both ∷ []) pair_graph both_rows retyped_graph results → ⊥
not_retyped results c =
    let p = pair_of between_both refl refl c.assignment c.shape in
    let made = subst (λ a. AllByRecursion (IsMadeRelationship (within (codes "b" ∷ codes "a" ∷ [])) pair_graph both_rows retyped_graph) (all_made (between_both ∷ []) a)) p.3 c.relationships in
    of_type p.2 made.0.0 made.0.1 made.0.2 made.0.3 made.0.4
  where
    of_type : (r : ℕ) (e : Relationship) → 1 ≤ r → r < 2 → relationship_at retyped_graph r ≡ Some e → e.type ≡ codes "K" → ⊥
    of_type r e h l there kind =
        let last : r ≡ 1 = omega (arith, h, l) in
        not_true (ap (λ t. bytes_eq t (codes "K")) (ap type_of (subst (λ k. relationship_at retyped_graph k ≡ Some e) last there) ∙ kind))

not_back : (results : List Row) → CreateRow (within (codes "b" ∷ codes "a" ∷ [])) (back ∷ []) pair_graph both_rows doubled_graph results → ⊥
not_back results c =
    let p = pair_of back refl refl c.assignment c.shape in
    let bound = subst (λ a. AllByRecursion (StandsFor both_rows) (all_placed (back ∷ []) a)) p.3 c.bound in
    let made = subst (λ a. AllByRecursion (IsMadeRelationship (within (codes "b" ∷ codes "a" ∷ [])) pair_graph both_rows doubled_graph) (all_made (back ∷ []) a)) p.3 c.relationships in
    at_ends p.1 p.2 bound.1.0 made.0.0 made.0.1 made.0.2 made.0.3 made.0.5.0
  where
    at_ends : (m r : ℕ) → (◌≡◌ {A = Option Value} (Some (node 1)) None) ⊎ (◌≡◌ {A = Option Value} (Some (node 1)) (Some (node m)))
        → (e : Relationship) → 1 ≤ r → r < 2 → relationship_at doubled_graph r ≡ Some e → e.source ≡ m → ⊥
    at_ends m r (inl none) e h l there source = cc
    at_ends m r (inr is) e h l there source =
        let last : r ≡ 1 = omega (arith, h, l) in
        apart (ap source_of (subst (λ k. relationship_at doubled_graph k ≡ Some e) last there) ∙ source ∙ sym (ap node_of is))
      where
        apart : ◌≡◌ {A = ℕ} 0 1 → ⊥
        apart e = omega arith

not_unlooped : (graph : Graph) (results : List Row) → graph.next_node ≡ 1 → CreateRow (within []) (looped ∷ []) graph [] unlooped_graph results → ⊥
not_unlooped graph results first c =
    let p = pair_of looped refl refl c.assignment c.shape in
    let repeated = subst (λ a. AllPairsByRecursion (λ (p q : NodePattern × ℕ). node_name p.0 ≢ None → node_name p.0 ≡ node_name q.0 → p.1 ≡ q.1) (all_placed (looped ∷ []) a)) p.3 c.repeated in
    let nodes = subst (λ a. AllByRecursion (IsMadeNode (within []) graph [] unlooped_graph) (new_places [] (all_placed (looped ∷ []) a))) p.3 c.nodes in
    let made = subst (λ a. AllByRecursion (IsMadeRelationship (within []) graph [] unlooped_graph) (all_made (looped ∷ []) a)) p.3 c.relationships in
    at_ends p.0 p.1 p.2 (subst (λ k. k ≤ p.0) first nodes.0.1) (repeated.0.0 named_so refl) made.0.0 made.0.2 made.0.3 made.0.5.1
  where
    named_so : ◌≡◌ {A = Option (List ℕ)} (Some (codes "x")) None → ⊥
    named_so e = cc

    at_ends : (n m r : ℕ) → 1 ≤ n → n ≡ m → (e : Relationship) → r < 1 → relationship_at unlooped_graph r ≡ Some e → e.target ≡ m → ⊥
    at_ends n m r h same e l there target =
        let first : r ≡ 0 = omega (arith, l) in
        let nought = ap target_of (subst (λ k. relationship_at unlooped_graph k ≡ Some e) first there) ∙ target in
        apart n m h same nought
      where
        apart : (n m : ℕ) → 1 ≤ n → n ≡ m → 0 ≡ m → ⊥
        apart n m h e f = omega (arith, h, e, f)

-- the row binds the node
bound_row : (after : Graph) → CreateRow (within []) (named_node ∷ []) empty_graph [] after ([] ∷ []) → ⊥
bound_row after c = by_shape c.assignment c.shape c.extended
  where
    no_binding : (n : ℕ) → ◌≡◌ {A = List Row} ([] ∷ []) (((codes "x", node n) ∷ []) ∷ []) → ⊥
    no_binding n e = apart (ap (λ (rs : List Row). elim rs as (λ rs. ℕ) [ [] ↦ 0 | r ∷ more ↦ length r ]) e)
      where
        apart : ◌≡◌ {A = ℕ} 0 1 → ⊥
        apart e = omega arith

    by_nodes : (ns : List ℕ) (bs : List Bond) → length ns ≡ 1 → ◌≡◌ {A = List Row} ([] ∷ []) (bind_match after (named_node ∷ []) (record { nodes = ns; bonds = bs } ∷ []) [] ∷ []) → ⊥
    by_nodes [] bs l e = absurd (apart l)
      where
        apart : ◌≡◌ {A = ℕ} 0 1 → ⊥
        apart e = omega arith
    by_nodes (n ∷ ns) bs l e = no_binding n e

    by_shape : (a : Assignment) → AllZip IsTrailOf (named_node ∷ []) a → ◌≡◌ {A = List Row} ([] ∷ []) (bind_match after (named_node ∷ []) a [] ∷ []) → ⊥
    by_shape [] z e = absurd z
    by_shape (t ∷ []) z e = by_nodes t.nodes t.bonds z.0.0 e
    by_shape (t ∷ u ∷ ts) z e = absurd z.1

no_stray : (results : List Row) → CreateRow (within []) (unnamed ∷ []) empty_graph [] stray_graph results → ⊥
no_stray results c = past ((c.graph_again).nodes_below.1.0)
  where
    past : 7 < 1 → ⊥
    past h = omega arith

-- ---- which fault

not_ids : CreateFaults (given_of no_entries 0 []) (unnamed ∷ []) empty_graph [] IdsExhausted → ⊥
not_ids (inl (n, inl e, h)) = fine (subst (λ m. test_bound false empty_graph (bound_value (node_name m) []) ≡ Err IdsExhausted) e h)
  where
    fine : ◌≡◌ {A = Result (Unit {0}) Fault} (Ok tt) (Err IdsExhausted) → ⊥
    fine e = cc
not_ids (inl (n, inr i, h)) = absurd i
not_ids (inr (inl (ps, inl e, h))) = fine (subst (λ p. given_properties no_entries empty_graph [] p ≡ Err IdsExhausted) e h)
  where
    fine : ◌≡◌ {A = Result Entries Fault} (Ok no_entries) (Err IdsExhausted) → ⊥
    fine e = cc
not_ids (inr (inl (ps, inr i, h))) = absurd i
not_ids (inr (inr (inl h))) = other h.0
  where
    other : IdsExhausted ≡ ElementQuota → ⊥
    other e = cc
not_ids (inr (inr (inr (inl h)))) = past h.1.1
  where
    past : 2 ^ 63 - 1 < 1 → ⊥
    past h = omega arith
not_ids (inr (inr (inr (inr h)))) = none h.1.0
  where
    none : 0 < 0 → ⊥
    none h = omega arith

not_quota : CreateFaults (within []) (unnamed ∷ []) spent_graph [] ElementQuota → ⊥
not_quota (inl (n, inl e, h)) = fine (subst (λ m. test_bound false spent_graph (bound_value (node_name m) []) ≡ Err ElementQuota) e h)
  where
    fine : ◌≡◌ {A = Result (Unit {0}) Fault} (Ok tt) (Err ElementQuota) → ⊥
    fine e = cc
not_quota (inl (n, inr i, h)) = absurd i
not_quota (inr (inl (ps, inl e, h))) = fine (subst (λ p. given_properties no_entries spent_graph [] p ≡ Err ElementQuota) e h)
  where
    fine : ◌≡◌ {A = Result Entries Fault} (Ok no_entries) (Err ElementQuota) → ⊥
    fine e = cc
not_quota (inr (inl (ps, inr i, h))) = absurd i
not_quota (inr (inr (inl h))) = past h.1.1
  where
    past : 10 < 4 → ⊥
    past h = omega arith
not_quota (inr (inr (inr (inl h)))) = other h.0
  where
    other : ElementQuota ≡ IdsExhausted → ⊥
    other e = cc
not_quota (inr (inr (inr (inr h)))) = none h.1.0
  where
    none : 0 < 0 → ⊥
    none h = omega arith

not_joined : CreateFaults (within (codes "b" ∷ codes "a" ∷ [])) (between_both ∷ []) unjoined_graph both_rows ElementQuota → ⊥
not_joined (inl (n, i, h)) = by_node i
  where
    fine : ◌≡◌ {A = Result (Unit {0}) Fault} (Ok tt) (Err ElementQuota) → ⊥
    fine e = cc

    by_node : IsIn n (nodes_of between_both) → ⊥
    by_node (inl e) = fine (subst (λ m. test_bound false unjoined_graph (bound_value (node_name m) both_rows) ≡ Err ElementQuota) e h)
    by_node (inr (inl e)) = fine (subst (λ m. test_bound false unjoined_graph (bound_value (node_name m) both_rows) ≡ Err ElementQuota) e h)
    by_node (inr (inr i)) = absurd i
not_joined (inr (inl (ps, i, h))) = fine (subst (λ p. given_properties no_entries unjoined_graph both_rows p ≡ Err ElementQuota) (bare ps i) h)
  where
    bare : (ps : Properties) → IsIn ps (no_properties ∷ no_properties ∷ no_properties ∷ []) → ps ≡ no_properties
    bare ps (inl e) = e
    bare ps (inr (inl e)) = e
    bare ps (inr (inr (inl e))) = e
    bare ps (inr (inr (inr i))) = absurd i

    fine : ◌≡◌ {A = Result Entries Fault} (Ok no_entries) (Err ElementQuota) → ⊥
    fine e = cc
not_joined (inr (inr (inl h))) = past h.1.1
  where
    past : 10 < 4 → ⊥
    past h = omega arith
not_joined (inr (inr (inr (inl h)))) = none h.1.0
  where
    none : 0 < 0 → ⊥
    none h = omega arith
not_joined (inr (inr (inr (inr h)))) = other h.0
  where
    other : ElementQuota ≡ IdsExhausted → ⊥
    other e = cc

pub refused_creations : RefusedCreations
refused_creations = (
  (λ s. let w = as_written (made_with (codes "M" ∷ []) no_entries) s.1 refl (subst (λ g. CreateRow (within []) (unnamed ∷ []) empty_graph [] g s.1) (sym s.4.0) s.3) in not_true (ap is_l (ap labels_of w.1 ∙ w.2))),
  (λ s. let w = as_written (made_with (codes "L" ∷ []) (entry (codes "k") (integer (pos 1)) no_entries)) s.1 refl (subst (λ g. CreateRow (within []) (unnamed ∷ []) empty_graph [] g s.1) (sym s.4.0) s.3) in not_true (ap is_bare (ap properties_of w.1 ∙ w.3))),
  (λ s. two_nodes s.1 (subst (λ g. CreateRow (within []) (unnamed ∷ unnamed ∷ []) empty_graph [] g s.1) (sym s.4.0) s.3)),
  (λ s. not_true (ap is_l (ap labels_of (ap (λ (g : Graph). node_at g 0) s.4.0 ∙ (s.3).old_nodes 0 (omega arith))))),
  no_room,
  no_id,
  (not_turned, not_unlooped, not_back, not_retyped),
  bound_row,
  no_stray,
  not_ids,
  not_quota,
  not_joined,
)
