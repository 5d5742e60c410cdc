-- CREATE agrees with its meaning: each row gets its elements, or a fault of the meaning.
use Rattle.std.proofs.Common.{◌≡◌, ◌≢◌, ℕ, ◌+◌, arith, Bool, false, inl, inr, List, [], ◌∷◌, ◌++◌, map, flat_map, length, Some, None, Result, Ok, Err, refl, sym, ap, ◌∙◌}
use Rattle.std.specs.List.{AllByRecursion, AllZip}
use Rattle.pg_soundness.proofs.MakingElements.{all_properties}
use Rattle.pg_soundness.proofs.MakingPaths.{all_back, AreParts, PathsMade, paths_made}
use Rattle.pg_soundness.proofs.MakingPlaces.{count_made, counted}
use Rattle.pg_soundness.proofs.MakingProgress.{IsNamed, all_pairs, at_start}
use Rattle.pg_soundness.proofs.MakingRows.{HasShape, binds_match}
use Rattle.pg_soundness.specs.Making.{CreateAgrees}
use Rattle.pg_meaning.specs.Agreement.{given_in}
use Rattle.pg_meaning.specs.Answer.{◌>>=◌, ◌>>◌}
use Rattle.pg_soundness.proofs.MakingTurns.{RowAgrees, rows_make_create}
use Rattle.pg_soundness.proofs.RowNames.{BindsOnly}
use Rattle.pg_meaning.specs.Graph.{Graph, IsGraph}
use Rattle.pg_meaning.specs.Lists.{IsIn}
use Rattle.pg_meaning.specs.ListsLaws.{all_both, all_in_themselves}
use Rattle.pg_meaning.specs.Meaning.{CreateRow, CreateFaults, BoundNodesLive, BoundNodeFaults, IsTrailOf, all_nodes, all_placed}
use Rattle.pg_meaning.specs.Meters.{Setting, State}
use Rattle.pg_meaning.specs.Patterns.{nodes_of, node_name, relationship_properties, bind_match, add_path_names, Assignment}
use Rattle.pg_meaning.specs.Reading.{test_bound, test_nodes, test_paths}
use Rattle.pg_meaning.specs.Rows.{Row}
use Rattle.pg_meaning.specs.Tree.{Properties, NodePattern, RelationshipPattern, PathPattern}
use Rattle.pg_meaning.specs.Updates.{make, make_paths, create_row}
use Rattle.pg_meaning.specs.Value.{node}
use Rattle.pg_meaning.specs.Walks.{bound_value}
use Rattle.pg_meaning.specs.declared.fault.Fault.{Fault}

-- ---- lists in lists

all_front : {X : Type 0} (P : X → Type 0) (xs ys : List X) → AllByRecursion P (xs ++ ys) → AllByRecursion P xs
all_front P [] ys h = tt
all_front P (x ∷ xs) ys h = (h.0, all_front P xs ys h.1)

all_within : {X Y : Type 0} (P : Y → Type 0) (f : X → List Y) (xs : List X) → AllByRecursion P (flat_map f xs) → AllByRecursion (λ x. AllByRecursion P (f x)) xs
all_within P f [] h = tt
all_within P f (x ∷ xs) h = (all_front P (f x) (flat_map f xs) h, all_within P f xs (all_back P (f x) (flat_map f xs) h))

module _ (P : Properties → Type 0) where
  of_nodes : (hs : List (RelationshipPattern × NodePattern)) → AllByRecursion P (flat_map (λ h. relationship_properties h.0 ∷ h.1.properties ∷ []) hs) → AllByRecursion (λ n. P n.properties) (map (λ h. h.1) hs)
  of_nodes [] h = tt
  of_nodes (x ∷ hs) h = (h.1.0, of_nodes hs h.1.1)

  of_relationships : (hs : List (RelationshipPattern × NodePattern)) → AllByRecursion P (flat_map (λ h. relationship_properties h.0 ∷ h.1.properties ∷ []) hs) → AllByRecursion (λ h. P (relationship_properties h.0)) hs
  of_relationships [] h = tt
  of_relationships (x ∷ hs) h = (h.0, of_relationships hs h.1.1)

-- ---- bound nodes

abbrev NodesLive : Bool → Graph → Row → List NodePattern → Result (Unit {0}) Fault → Type 0
NodesLive may_be_null graph row ns (Ok x) = AllByRecursion (λ n. test_bound may_be_null graph (bound_value (node_name n) row) ≡ Ok tt) ns
NodesLive may_be_null graph row ns (Err f) = (n : NodePattern) × IsIn n ns × (test_bound may_be_null graph (bound_value (node_name n) row) ≡ Err f)

nodes_live : (may_be_null : Bool) (graph : Graph) (row : Row) (ns : List NodePattern) → NodesLive may_be_null graph row ns (test_nodes may_be_null graph row ns)
nodes_live may_be_null graph row [] = tt
nodes_live may_be_null graph row (n ∷ ns) = by_first (test_bound may_be_null graph (bound_value (node_name n) row)) refl (test_nodes may_be_null graph row ns) (nodes_live may_be_null graph row ns)
  where
    by_first : (t : Result (Unit {0}) Fault) → test_bound may_be_null graph (bound_value (node_name n) row) ≡ t → (r : Result (Unit {0}) Fault) → NodesLive may_be_null graph row ns r → NodesLive may_be_null graph row (n ∷ ns) (t >> r)
    by_first (Err f) e r h = (n, inl refl, e)
    by_first (Ok x) e (Ok y) h = (e, h)
    by_first (Ok x) e (Err f) h = (h.0, inr h.1, h.2)

-- the test of the bound nodes says which holds
abbrev pub BoundTested : (may_be_null : Bool) → Graph → Row → List PathPattern → Result (Unit {0}) Fault → Type 0
BoundTested may_be_null graph row paths (Ok x) = BoundNodesLive may_be_null graph row paths
BoundTested may_be_null graph row paths (Err f) = BoundNodeFaults may_be_null graph paths row f

pub bound_tested : (may_be_null : Bool) (graph : Graph) (row : Row) (paths : List PathPattern) → BoundTested may_be_null graph row paths (test_paths may_be_null graph row paths)
bound_tested may_be_null graph row paths = by_test (test_paths may_be_null graph row paths) (nodes_live may_be_null graph row (all_nodes paths))
  where
    by_test : (r : Result (Unit {0}) Fault) → NodesLive may_be_null graph row (all_nodes paths) r → BoundTested may_be_null graph row paths r
    by_test (Ok x) h = h
    by_test (Err f) h = h

-- ---- a row

same_ids : (bound : Row) (x y : NodePattern × ℕ) → IsNamed bound x → IsNamed bound y → node_name x.0 ≢ None → node_name x.0 ≡ node_name y.0 → x.1 ≡ y.1
same_ids bound x y (inl e) k some same = absurd (some e)
same_ids bound x y (inr e) (inl f) some same = absurd (some (same ∙ f))
same_ids bound x y (inr e) (inr f) some same = ap (λ o. elim o [ Some v ↦ elim v [ node n ↦ n | _ ↦ x.1 ] | None ↦ x.1 ]) (sym e ∙ ap (λ name. bound_value name bound) same ∙ f)

-- what making gives of a row
abbrev pub MakeAgrees : Setting → List PathPattern → Graph → Row → Result (Graph × Row) Fault → Type 0
MakeAgrees s paths graph row (Ok made) = CreateRow (given_in s) paths graph row made.0 (made.1 ∷ []) × BindsOnly (add_path_names paths s.scope) made.1
MakeAgrees s paths graph row (Err f) = CreateFaults (given_in s) paths graph row f

module _ (s : Setting) (paths : List PathPattern) (graph : Graph) (row : Row) (g : IsGraph graph) where
  parts : BoundNodesLive false graph row paths → AllByRecursion (AreParts s paths graph row g) paths
  parts live = each paths (all_within (λ ps. IsIn ps (all_properties paths)) (λ p. p.first.properties ∷ flat_map (λ h. relationship_properties h.0 ∷ h.1.properties ∷ []) p.hops) paths (all_in_themselves (all_properties paths)))
      (all_within (λ n. test_bound false graph (bound_value (node_name n) row) ≡ Ok tt) nodes_of paths live)
    where
      each : (qs : List PathPattern) → AllByRecursion (λ p. AllByRecursion (λ ps. IsIn ps (all_properties paths)) (p.first.properties ∷ flat_map (λ h. relationship_properties h.0 ∷ h.1.properties ∷ []) p.hops)) qs
          → AllByRecursion (λ p. AllByRecursion (λ n. test_bound false graph (bound_value (node_name n) row) ≡ Ok tt) (nodes_of p)) qs → AllByRecursion (AreParts s paths graph row g) qs
      each [] h k = tt
      each (q ∷ qs) h k = (
        (
          all_both (λ n. IsIn n.properties (all_properties paths)) (λ n. test_bound false graph (bound_value (node_name n) row) ≡ Ok tt) (nodes_of q) (h.0.0, of_nodes (λ ps. IsIn ps (all_properties paths)) q.hops h.0.1) k.0,
          of_relationships (λ ps. IsIn ps (all_properties paths)) q.hops h.0.1,
        ),
        each qs h.1 k.1,
      )

  shapes : (qs : List PathPattern) (ts : Assignment) → AllZip IsTrailOf qs ts → AllZip HasShape qs ts
  shapes [] [] h = tt
  shapes [] (t ∷ ts) h = absurd h
  shapes (q ∷ qs) [] h = absurd h
  shapes (q ∷ qs) (t ∷ ts) h = ((h.0.0, h.0.1), shapes qs ts h.1)

  pub made : BindsOnly s.scope row → BoundNodesLive false graph row paths → MakeAgrees s paths graph row (make s paths graph row)
  made h live =
      by_paths (make_paths s graph row (graph, row) paths)
      (paths_made s paths graph row g paths graph row [] [] (at_start s graph row g h) (parts live) (nothing (count_made s.scope (all_nodes paths)) ∙ sym (counted s.scope (all_nodes paths))) (nothing (length (flat_map (λ p. p.hops) paths))))
    where
      nothing : (n : ℕ) → 0 + n ≡ n
      nothing n = omega arith

      by_paths : (r : Result (Graph × Assignment) Fault) → PathsMade s paths graph row g paths [] [] r → MakeAgrees s paths graph row (r >>= λ made. Ok (made.0, bind_match made.0 paths made.1 row))
      by_paths (Err f) k = k
      by_paths (Ok after) k = (
        record {
          live = live;
          assignment = after.1;
          shape = k.0;
          bound = k.2.stands;
          repeated = all_pairs (IsNamed k.1) (λ x y. node_name x.0 ≢ None → node_name x.0 ≡ node_name y.0 → x.1 ≡ y.1) (same_ids k.1) (all_placed paths after.1) k.2.named;
          nodes = k.2.nodes;
          node_ids = k.2.node_ids;
          next_node = k.2.next_node;
          relationships = k.2.relationships;
          relationship_ids = k.2.relationship_ids;
          next_relationship = k.2.next_relationship;
          old_nodes = k.2.old_nodes;
          old_relationships = k.2.old_relationships;
          graph_again = k.2.graph_again;
          room = k.2.room;
          node_counter = k.2.node_counter;
          relationship_counter = k.2.relationship_counter;
          extended = refl;
        },
        binds_match after.0 paths after.1 s.scope row (shapes paths after.1 k.0) h,
      )

-- ---- the law

row_agrees : (s : Setting) (paths : List PathPattern) (state : State) (row : Row) → IsGraph state.graph → BindsOnly s.scope row → RowAgrees s paths state row (create_row s paths state row)
row_agrees s paths state row g h = by_test (test_paths false state.graph row paths) (bound_tested false state.graph row paths)
  where
    by_made : (r : Result (Graph × Row) Fault) → MakeAgrees s paths state.graph row r → RowAgrees s paths state row (r >>= λ made. Ok (record { graph = made.0; rows = state.rows ++ made.1 ∷ []; steps = state.steps }))
    by_made (Err f) k = k
    by_made (Ok after) k = (after.1 ∷ [], refl, k.0, k.0.graph_again, (k.1, tt))

    by_test : (t : Result (Unit {0}) Fault) → BoundTested false state.graph row paths t
        → RowAgrees s paths state row (t >> (make s paths state.graph row >>= λ made. Ok (record { graph = made.0; rows = state.rows ++ made.1 ∷ []; steps = state.steps })))
    by_test (Err f) k = inl k
    by_test (Ok x) k = by_made (make s paths state.graph row) (made s paths state.graph row g h k)

pub create_agrees : CreateAgrees
create_agrees paths s state faults given_here planned g h = rows_make_create s paths (row_agrees s paths) state g h
