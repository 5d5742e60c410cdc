-- The nodes and the relationships of one path, each made or a fault of the row.
use Rattle.std.proofs.Common.{◌≡◌, ℕ, suc, pred, ◌+◌, ◌≤◌, nat_lt, false, inl, inr, List, [], ◌∷◌, ◌++◌, cond, flat_map, length, Option, Some, None, IsTrue, Result, Ok, Err, refl, sym, ap, subst, ◌∙◌, append_assoc, append-nil, arith}
use Rattle.std.proofs.lemmas.List.{length-append}
use Rattle.std.specs.List.{AllByRecursion}
use Rattle.pg_soundness.proofs.MakingPlaces.{known, known_with, count_made, made_and_left, one_less}
use Rattle.pg_soundness.proofs.MakingProgress.{Progress, newness, bound_is_live, with_old, with_new, with_relationship}
use Rattle.pg_meaning.specs.Agreement.{given_in}
use Rattle.pg_meaning.specs.Answer.{◌>>=◌, ◌>>◌, unless}
use Rattle.pg_meaning.specs.AnswerLaws.{by_answer}
use Rattle.pg_soundness.proofs.MakingTurns.{by_unless, not_below}
use Rattle.pg_meaning.specs.Graph.{Graph, IsGraph, Way, outgoing, incoming, both, has_node, element_count, add_node}
use Rattle.pg_meaning.specs.Lists.{IsIn}
use Rattle.pg_meaning.specs.ListsLaws.{all_weaker}
use Rattle.pg_meaning.specs.Meaning.{Made, LacksRoom, CreateFaults, placed, new_places, made_hops, new_nodes, new_relationships}
use Rattle.pg_meaning.specs.Meters.{Setting, greatest_id}
use Rattle.pg_meaning.specs.Patterns.{node_name, texts_of, types_of, way_of, relationship_properties, Bond, single}
use Rattle.pg_meaning.specs.Reading.{test_bound}
use Rattle.pg_meaning.specs.Rows.{Row, bind_if_named}
use Rattle.pg_meaning.specs.Tree.{Properties, NodePattern, RelationshipPattern, PathPattern}
use Rattle.pg_meaning.specs.Updates.{given_properties, first_text, add_between, Making, make_node, make_new_node, make_nodes, make_relationship, make_hops}
use Rattle.pg_meaning.specs.Value.{Value, node, Entries}
use Rattle.pg_meaning.specs.Walks.{bound_value}
use Rattle.pg_meaning.specs.declared.fault.Fault.{Fault}
use Rattle.pg_meaning.specs.declared.fault.Fault.TheVariants.{TypeFault, ElementQuota, IdsExhausted}

no_room_for_node : (most count start made left total hops others : ℕ) → most ≤ count → count ≤ start + made + others → made + (1 + left) ≡ total → others ≤ hops → LacksRoom most start (total + hops)
no_room_for_node most count start made left total hops others a b c d = (omega arith, omega arith)

no_room_for_hop : (most count start made total hops others left : ℕ) → most ≤ count → count ≤ start + made + others → made ≤ total → others + (1 + left) ≡ hops → LacksRoom most start (total + hops)
no_room_for_hop most count start made total hops others left a b c d = (omega arith, omega arith)

no_id_left : (greatest next start made left total : ℕ) → greatest ≤ next → next ≡ start + made → made + (1 + left) ≡ total → LacksRoom greatest start total
no_id_left greatest next start made left total a b c = (omega arith, omega arith)

-- all properties that the paths give
abbrev pub all_properties : List PathPattern → List Properties
all_properties paths = flat_map (λ p. p.first.properties ∷ flat_map (λ h. relationship_properties h.0 ∷ h.1.properties ∷ []) p.hops) paths

module _ (s : Setting) (paths : List PathPattern) (graph : Graph) (row : Row) (g : IsGraph graph) where
  abbrev pub Reached : (after : Graph) (bound : Row) (ps : List (NodePattern × ℕ)) (ms : List Made) → Type 0
  Reached = Progress s graph row

  abbrev pub Fails : Fault → Type 0
  Fails = CreateFaults (given_in s) paths graph row

  -- a node of the paths, bound to no other than a node that is there
  abbrev pub IsOne : NodePattern → Type 0
  IsOne n = IsIn n.properties (all_properties paths) × (test_bound false graph (bound_value (node_name n) row) ≡ Ok tt)

  abbrev pub Left : List (NodePattern × ℕ) → List NodePattern → Type 0
  Left ps ns = made_and_left s.scope ps ns ≡ new_nodes (given_in s) paths

  -- ---- nodes

  abbrev NodeMade : (m : Making) (n : NodePattern) (ps : List (NodePattern × ℕ)) (ms : List Made) → Result Making Fault → Type 0
  NodeMade m n ps ms (Ok next) = (id : ℕ) × (next.ids ≡ m.ids ++ id ∷ []) × Reached next.graph next.bound (ps ++ (n, id) ∷ []) ms
  NodeMade m n ps ms (Err f) = Fails f

  abbrev pub NodesMade : (m : Making) (ns : List NodePattern) (ps : List (NodePattern × ℕ)) (ms : List Made) → Result Making Fault → Type 0
  NodesMade m ns ps ms (Ok next) = (ids : List ℕ) × (next.ids ≡ m.ids ++ ids) × (length ids ≡ length ns) × Reached next.graph next.bound (ps ++ placed ns ids) ms
  NodesMade m ns ps ms (Err f) = Fails f

  one_is_new : (m : Making) (n : NodePattern) (ps : List (NodePattern × ℕ)) (ms : List Made) (more : List NodePattern) → Reached m.graph m.bound ps ms → bound_value (node_name n) m.bound ≡ None
      → IsIn n.properties (all_properties paths) → Left ps (n ∷ more) → length ms ≤ new_relationships paths → NodeMade m n ps ms (make_new_node s graph row n m)
  one_is_new m n ps ms more so_far free among left hops =
      by_answer (NodeMade m n ps ms) (given_properties s.parameters graph row n.properties) roomy
      (λ props given_by. by_unless (NodeMade m n ps ms) (nat_lt (element_count m.graph) s.quota.max_elements) ElementQuota (counted props)
      (λ room. by_unless (NodeMade m n ps ms) (nat_lt m.graph.next_node greatest_id) IdsExhausted (made props)
      (λ ids. (m.graph.next_node, refl, with_new s graph row m.graph m.bound ps ms so_far n props free given_by room ids))
      (λ full. inr (inr (inr (inl (refl, no_id_left greatest_id m.graph.next_node graph.next_node (length (new_places s.scope ps)) rest (new_nodes (given_in s) paths) (not_below _ _ full) so_far.next_node total))))))
      (λ full. inr (inr (inl (refl, no_room_for_node s.quota.max_elements (element_count m.graph) (element_count graph) (length (new_places s.scope ps)) rest (new_nodes (given_in s) paths) (new_relationships paths) (length ms) (not_below _ _ full) so_far.count total hops)))))
      (λ f fault. inr (inl (n.properties, among, fault)))
    where
      made : Entries → Result Making Fault
      made props = Ok (record { graph = add_node (texts_of n.labels) props m.graph; bound = bind_if_named (node_name n) (node m.graph.next_node) m.bound; ids = m.ids ++ m.graph.next_node ∷ [] })

      counted : Entries → Result Making Fault
      counted props = unless (nat_lt m.graph.next_node greatest_id) IdsExhausted >> made props

      roomy : Entries → Result Making Fault
      roomy props = unless (nat_lt (element_count m.graph) s.quota.max_elements) ElementQuota >> counted props

      rest : ℕ
      rest = count_made (known_with (known s.scope ps) (node_name n)) more

      total : length (new_places s.scope ps) + (1 + rest) ≡ new_nodes (given_in s) paths
      total = ap (λ b. length (new_places s.scope ps) + (cond b 1 0 + rest)) (sym (newness s graph row m.graph m.bound ps ms so_far (node_name n) free)) ∙ left

  one_made : (m : Making) (n : NodePattern) (ps : List (NodePattern × ℕ)) (ms : List Made) (more : List NodePattern) → Reached m.graph m.bound ps ms → IsOne n → Left ps (n ∷ more)
      → length ms ≤ new_relationships paths → NodeMade m n ps ms (make_node s graph row m n)
  one_made m n ps ms more so_far one left hops = by_bound (bound_value (node_name n) m.bound) refl
    where
      by_value : (v : Value) → bound_value (node_name n) m.bound ≡ Some v → (id : ℕ) × (v ≡ node id) × IsTrue (has_node m.graph id)
          → NodeMade m n ps ms (elim v [ node id ↦ Ok (record { graph = m.graph; bound = m.bound; ids = m.ids ++ id ∷ [] }) | _ ↦ Err TypeFault ])
      by_value v e live =
          subst (λ v. NodeMade m n ps ms (elim v [ node id ↦ Ok (record { graph = m.graph; bound = m.bound; ids = m.ids ++ id ∷ [] }) | _ ↦ Err TypeFault ])) (sym live.1)
          (live.0, refl, with_old s graph row m.graph m.bound ps ms so_far n live.0 (e ∙ ap (λ v. Some v) live.1) live.2)

      by_bound : (o : Option Value) → bound_value (node_name n) m.bound ≡ o
          → NodeMade m n ps ms (elim o [ Some v ↦ elim v [ node id ↦ Ok (record { graph = m.graph; bound = m.bound; ids = m.ids ++ id ∷ [] }) | _ ↦ Err TypeFault ] | None ↦ make_new_node s graph row n m ])
      by_bound None e = one_is_new m n ps ms more so_far e one.0 left hops
      by_bound (Some v) e = by_value v e (bound_is_live s graph row m.graph m.bound ps ms so_far (node_name n) v g one.1 e)

  pub nodes_made : (ns : List NodePattern) (m : Making) (ps : List (NodePattern × ℕ)) (ms : List Made) (more : List NodePattern) → Reached m.graph m.bound ps ms → AllByRecursion IsOne ns → Left ps (ns ++ more)
      → length ms ≤ new_relationships paths → NodesMade m ns ps ms (make_nodes s graph row m ns)
  nodes_made [] m ps ms more so_far ones left hops = ([], sym (append-nil m.ids), refl, subst (λ qs. Reached m.graph m.bound qs ms) (sym (append-nil ps)) so_far)
  nodes_made (n ∷ ns) m ps ms more so_far ones left hops =
      by_first (make_node s graph row m n) (one_made m n ps ms (ns ++ more) so_far ones.0 left hops)
      (λ next id reached. nodes_made ns next (ps ++ (n, id) ∷ []) ms more reached ones.1 (one_less s.scope ps n id (ns ++ more) ∙ left) hops)
    where
      by_rest : (next : Making) (id : ℕ) → next.ids ≡ m.ids ++ id ∷ [] → (r : Result Making Fault) → NodesMade next ns (ps ++ (n, id) ∷ []) ms r → NodesMade m (n ∷ ns) ps ms r
      by_rest next id e (Err f) h = h
      by_rest next id e (Ok last) h = (
        id ∷ h.0,
        h.1 ∙ ap (λ ids. ids ++ h.0) e ∙ append_assoc m.ids (id ∷ []) h.0,
        ap suc h.2,
        subst (λ qs. Reached last.graph last.bound qs ms) (append_assoc ps ((n, id) ∷ []) (placed ns h.0)) h.3,
      )

      by_first : (r : Result Making Fault) → NodeMade m n ps ms r
          → ((next : Making) (id : ℕ) → Reached next.graph next.bound (ps ++ (n, id) ∷ []) ms → NodesMade next ns (ps ++ (n, id) ∷ []) ms (make_nodes s graph row next ns))
          → NodesMade m (n ∷ ns) ps ms (r >>= λ next. make_nodes s graph row next ns)
      by_first (Err f) h rest = h
      by_first (Ok next) h rest = by_rest next h.0 h.1 (make_nodes s graph row next ns) (rest next h.0 h.2)

  -- ---- relationships

  abbrev pub HopsMade : (bound : Row) (hs : List (RelationshipPattern × NodePattern)) (ids : List ℕ) (ps : List (NodePattern × ℕ)) (ms : List Made) → Result (Graph × List Bond) Fault → Type 0
  HopsMade bound hs ids ps ms (Ok made) =
      (length made.1 ≡ length hs) × AllByRecursion (λ b. (r : ℕ) × (b ≡ single r)) made.1 × Reached made.0 bound ps (ms ++ made_hops hs ids made.1)
  HopsMade bound hs ids ps ms (Err f) = Fails f

  abbrev HopMade : (bound : Row) (r : RelationshipPattern) (left right : ℕ) (before : Graph) (ps : List (NodePattern × ℕ)) (ms : List Made) → Result Graph Fault → Type 0
  HopMade bound r left right before ps ms (Ok next) =
      Reached next bound ps (ms ++ record { pattern = r; left = left; right = right; id = before.next_relationship } ∷ []) × ((n : ℕ) → IsTrue (has_node before n) → IsTrue (has_node next n))
  HopMade bound r left right before ps ms (Err f) = Fails f

  one_hop : (bound : Row) (r : RelationshipPattern) (left right : ℕ) (before : Graph) (ps : List (NodePattern × ℕ)) (ms : List Made) (others : ℕ) → Reached before bound ps ms
      → IsIn (relationship_properties r) (all_properties paths) → IsTrue (has_node before left) → IsTrue (has_node before right)
      → length (new_places s.scope ps) ≤ new_nodes (given_in s) paths → length ms + (1 + others) ≡ new_relationships paths → HopMade bound r left right before ps ms (make_relationship s graph row r left right before)
  one_hop bound r left right before ps ms others so_far among from to nodes hops =
      by_answer (HopMade bound r left right before ps ms) (given_properties s.parameters graph row (relationship_properties r)) roomy
      (λ props given_by. by_unless (HopMade bound r left right before ps ms) (nat_lt (element_count before) s.quota.max_elements) ElementQuota (counted props)
      (λ room. by_unless (HopMade bound r left right before ps ms) (nat_lt before.next_relationship greatest_id) IdsExhausted (made props)
      (λ ids. (with_relationship s graph row before bound ps ms so_far r left right props given_by from to room ids, stays props (way_of r)))
      (λ full. inr (inr (inr (inr (refl, no_id_left greatest_id before.next_relationship graph.next_relationship (length ms) others (new_relationships paths) (not_below _ _ full) so_far.next_relationship hops))))))
      (λ full. inr (inr (inl (refl, no_room_for_hop s.quota.max_elements (element_count before) (element_count graph) (length (new_places s.scope ps)) (new_nodes (given_in s) paths) (new_relationships paths) (length ms) others (not_below _ _ full) so_far.count nodes hops)))))
      (λ f fault. inr (inl (relationship_properties r, among, fault)))
    where
      made : Entries → Result Graph Fault
      made props = Ok (add_between (way_of r) (first_text (types_of r)) left right props before)

      counted : Entries → Result Graph Fault
      counted props = unless (nat_lt before.next_relationship greatest_id) IdsExhausted >> made props

      roomy : Entries → Result Graph Fault
      roomy props = unless (nat_lt (element_count before) s.quota.max_elements) ElementQuota >> counted props

      stays : (props : Entries) (w : Way) (n : ℕ) → IsTrue (has_node before n) → IsTrue (has_node (add_between w (first_text (types_of r)) left right props before) n)
      stays props outgoing n h = h
      stays props incoming n h = h
      stays props both n h = h

  pub hops_made : (bound : Row) (hs : List (RelationshipPattern × NodePattern)) (left : ℕ) (ns : List ℕ) (before : Graph) (ps : List (NodePattern × ℕ)) (ms : List Made) (others : ℕ) → Reached before bound ps ms
      → length ns ≡ length hs → AllByRecursion (λ h. IsIn (relationship_properties h.0) (all_properties paths)) hs
      → IsTrue (has_node before left) → AllByRecursion (λ n. IsTrue (has_node before n)) ns
      → length (new_places s.scope ps) ≤ new_nodes (given_in s) paths → length ms + (length hs + others) ≡ new_relationships paths
      → HopsMade bound hs (left ∷ ns) ps ms (make_hops s graph row hs left ns before)
  hops_made bound [] left ns before ps ms others so_far e among from to nodes hops = (refl, tt, subst (Reached before bound ps) (sym (append-nil ms)) so_far)
  hops_made bound (h ∷ hs) left [] before ps ms others so_far e among from to nodes hops = cc
  hops_made bound (h ∷ hs) left (n ∷ ns) before ps ms others so_far e among from to nodes hops =
      by_first (make_relationship s graph row h.0 left n before) (one_hop bound h.0 left n before ps ms (length hs + others) so_far among.0 from to.0 nodes (one_first (length ms) (length hs) others (new_relationships paths) hops))
      (λ after reached stays. hops_made bound hs n ns after ps (ms ++ record { pattern = h.0; left = left; right = n; id = before.next_relationship } ∷ []) others reached (ap pred e) among.1 (stays n to.0) (all_weaker _ _ (λ m. stays m) ns to.1) nodes
      (one_past (length ms) (length hs) others (new_relationships paths) (length (ms ++ record { pattern = h.0; left = left; right = n; id = before.next_relationship } ∷ [])) hops
      (length-append ms (record { pattern = h.0; left = left; right = n; id = before.next_relationship } ∷ []))))
    where
      one_first : (a b c d : ℕ) → a + (suc b + c) ≡ d → a + (1 + (b + c)) ≡ d
      one_first a b c d e = omega arith

      one_past : (a b c d m : ℕ) → a + (suc b + c) ≡ d → m ≡ a + 1 → m + (b + c) ≡ d
      one_past a b c d m e f = omega arith

      by_rest : (r : Result (Graph × List Bond) Fault) → HopsMade bound hs (n ∷ ns) ps (ms ++ record { pattern = h.0; left = left; right = n; id = before.next_relationship } ∷ []) r
          → HopsMade bound (h ∷ hs) (left ∷ n ∷ ns) ps ms (r >>= λ made. Ok (made.0, single before.next_relationship ∷ made.1))
      by_rest (Err f) k = k
      by_rest (Ok made) k = (
        ap suc k.0,
        ((before.next_relationship, refl), k.1),
        subst (Reached made.0 bound ps) (append_assoc ms (record { pattern = h.0; left = left; right = n; id = before.next_relationship } ∷ []) (made_hops hs (n ∷ ns) made.1)) k.2,
      )

      by_first : (r : Result Graph Fault) → HopMade bound h.0 left n before ps ms r
          → ((after : Graph) → Reached after bound ps (ms ++ record { pattern = h.0; left = left; right = n; id = before.next_relationship } ∷ []) → ((m : ℕ) → IsTrue (has_node before m) → IsTrue (has_node after m))
          → HopsMade bound hs (n ∷ ns) ps (ms ++ record { pattern = h.0; left = left; right = n; id = before.next_relationship } ∷ []) (make_hops s graph row hs n ns after))
          → HopsMade bound (h ∷ hs) (left ∷ n ∷ ns) ps ms (r >>= λ after. make_hops s graph row hs n ns after >>= λ made. Ok (made.0, single before.next_relationship ∷ made.1))
      by_first (Err f) k rest = k
      by_first (Ok after) k rest = by_rest (make_hops s graph row hs n ns after) (rest after k.0 k.1)
