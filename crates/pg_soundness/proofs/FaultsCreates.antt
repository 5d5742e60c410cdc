-- CREATE and MERGE go well or end in a fault of a run.
use Rattle.std.proofs.Common.{◌≡◌, ℕ, suc, ◌+◌, Bool, true, false, not, cond, List, [], ◌∷◌, ◌++◌, map, flat_map, length, Option, Some, None, Result, Ok, Err, refl, ap, arith}
use Rattle.std.proofs.Math.Bool.{beq}
use Rattle.std.proofs.lemmas.List.{length-map}
use Rattle.std.specs.List.{AllByRecursion, list_any}
use Rattle.pg_meaning.specs.Agreement.{AreGiven, AreRowsOf}
use Rattle.pg_meaning.specs.AgreementLaws.{named_in, given_split}
use Rattle.pg_meaning.specs.Answer.{◌>>=◌, ◌>>◌, each_step}
use Rattle.pg_soundness.proofs.RowNames.{BindsOnly}
use Rattle.pg_meaning.specs.Grammar.{key, commas, path_marks, set_marks, on_marks, event_mark, AreSetItems}
use Rattle.pg_meaning.specs.Graph.{Graph}
use Rattle.pg_meaning.specs.ListsLaws.{all_joined, all_mapped}
use Rattle.pg_meaning.specs.Meters.{Setting, State, spend, test_room, test_counter}
use Rattle.pg_meaning.specs.Names.{Names}
use Rattle.pg_meaning.specs.Patterns.{nodes_of, node_name, relationship_properties, property_pairs, Bond, Trail, Assignment, bind_match, add_path_names}
use Rattle.pg_meaning.specs.Reading.{test_paths}
use Rattle.pg_meaning.specs.Rows.{Row}
use Rattle.pg_meaning.specs.StaticFaults.{creating, merging, paths_faults, set_faults}
use Rattle.pg_meaning.specs.Tree.{Properties, no_properties, given, from_parameter, NodePattern, RelationshipPattern, PathPattern, SetItem, create, merge}
use Rattle.pg_meaning.specs.Updates.{test_storable, given_pairs, given_properties, Making, make_new_node, make_node, make_nodes, make_relationship, make_hops, make_bonds, make_path, make_paths, make, create_row, set_row, wants_null, test_not_null, items_on, merged_row, merge_found, merge_row}
use Rattle.pg_meaning.specs.Value.{Value, null, boolean, integer, text, list, mapping, node, relationship, path, Entries}
use Rattle.pg_meaning.specs.Walks.{Listing, PathWanted, paths_wanted, walks, bound_value}
use Rattle.pg_meaning.specs.declared.fault.Fault.{Fault}
use Rattle.pg_meaning.specs.declared.fault.Fault.TheVariants.{TypeFault}
use Rattle.pg_meaning.specs.declared.lexemes.Keyword.TheVariants as k
use Rattle.pg_soundness.proofs.FaultsMatches.{ends_known, IsLong, AreLong, long_binds, walks_long}
use Rattle.pg_soundness.proofs.FaultsPatterns.{PairsReady, HopReady, PathReady, paths_ready, fine_pairs, fine_wanted, fine_bound_nodes}
use Rattle.pg_soundness.proofs.FaultsReads.{state_ends, commas_given, none_each, fine_mapping, fine_storable, SetReady, fine_set_row, set_items_ready}
use Rattle.pg_soundness.proofs.FaultsSteps.{Ends, ends_all, ends_then, ends_after, ends_steps, fine_spend}
use Rattle.pg_soundness.proofs.FaultsValues.{Fine, fine_all, fine_after, fine_unless}
use Rattle.pg_soundness.proofs.MatchScopes.{first_none, second_none}
use Rattle.pg_soundness.specs.Faults.{ClauseEndsWell}

one_longer : {X : Type 0} (xs : List X) (x : X) → length (xs ++ (x ∷ [])) ≡ suc (length xs)
one_longer [] x = refl
one_longer (y ∷ xs) x = ap suc (one_longer xs x)

fine_room : (s : Setting) (graph : Graph) → Fine (test_room s graph)
fine_room s graph = fine_unless _ _ refl

fine_counter : (n : ℕ) → Fine (test_counter n)
fine_counter n = fine_unless _ _ refl

module _ (scope : Names) (s : Setting) (before : Graph) (row : Row) (b : BindsOnly scope row) where
  abbrev ReadyPairs : Properties → Type 0
  ReadyPairs ps = PairsReady scope s.parameters (property_pairs ps)

  fine_given : (graph : Graph) (ps : Properties) → ReadyPairs ps → Fine (given_pairs s.parameters graph row ps)
  fine_given graph no_properties r = tt
  fine_given graph (given ps) r = fine_pairs scope s.parameters graph row b (property_pairs (given ps)) r
  fine_given graph (from_parameter n) r = fine_mapping _

  fine_properties : (graph : Graph) (ps : Properties) → ReadyPairs ps → Fine (given_properties s.parameters graph row ps)
  fine_properties graph ps r = fine_all (given_pairs s.parameters graph row ps) _ (fine_given graph ps r) (λ pairs. fine_after (test_storable pairs) (Ok _) (fine_storable pairs) tt)

  -- ---- nodes

  abbrev OneMore : Making → Making → Type 0
  OneMore m r = length r.ids ≡ suc (length m.ids)

  new_node : (m : Making) (n : NodePattern) → ReadyPairs n.properties → Ends (OneMore m) (make_new_node s before row n m)
  new_node m n r =
      ends_all (OneMore m) (given_properties s.parameters before row n.properties) _ (fine_properties before n.properties r)
      (λ es. by_tests (test_room s m.graph) (test_counter m.graph.next_node) (fine_room s m.graph) (fine_counter m.graph.next_node) _ (one_longer m.ids m.graph.next_node))
    where
      by_tests : (t u : Result (Unit {0}) Fault) → Fine t → Fine u → (r : Making) → OneMore m r → Ends (OneMore m) (t >> (u >> Ok r))
      by_tests (Ok x) (Ok y) h g r o = o
      by_tests (Ok x) (Err f) h g r o = g
      by_tests (Err f) u h g r o = h

  abbrev made_by : Making → NodePattern → Option Value → Result Making Fault
  made_by m n o = elim o as (λ o. Result Making Fault) [
    | Some v ↦ elim v as (λ v. Result Making Fault) [ node id ↦ Ok (record { graph = m.graph; bound = m.bound; ids = m.ids ++ id ∷ [] }) | _ ↦ Err TypeFault ]
    | None ↦ make_new_node s before row n m
  ]

  one_node : (m : Making) (n : NodePattern) → ReadyPairs n.properties → Ends (OneMore m) (make_node s before row m n)
  one_node m n r = by_bound (bound_value (node_name n) m.bound)
    where
      by_bound : (o : Option Value) → Ends (OneMore m) (made_by m n o)
      by_bound None = new_node m n r
      by_bound (Some (node id)) = one_longer m.ids id
      by_bound (Some null) = refl
      by_bound (Some (boolean c)) = refl
      by_bound (Some (integer i)) = refl
      by_bound (Some (text t)) = refl
      by_bound (Some (list vs)) = refl
      by_bound (Some (mapping es)) = refl
      by_bound (Some (relationship q)) = refl
      by_bound (Some (path ids)) = refl

  all_nodes : (ns : List NodePattern) (m : Making) → AllByRecursion (λ n. ReadyPairs n.properties) ns → Ends (λ (r : Making). length r.ids ≡ length m.ids + length ns) (make_nodes s before row m ns)
  all_nodes [] m h = no_more (length m.ids)
    where
      no_more : (n : ℕ) → n ≡ n + 0
      no_more n = omega arith
  all_nodes (n ∷ ns) m h =
      ends_then (OneMore m) (λ (r : Making). length r.ids ≡ length m.ids + length (n ∷ ns)) (make_node s before row m n) (λ t. each_step (make_node s before row) t ns) (one_node m n h.0)
      (λ t o. weaker (each_step (make_node s before row) t ns) (λ (r : Making) e. one_more (length r.ids) (length t.ids) (length m.ids) (length ns) e o) (all_nodes ns t h.1))
    where
      one_more : (x t m n : ℕ) → x ≡ t + n → t ≡ suc m → x ≡ m + suc n
      one_more x t m n e f = omega (arith, e, f)

      weaker : {P Q : Making → Type 0} (r : Result Making Fault) → ((m : Making) → P m → Q m) → Ends P r → Ends Q r
      weaker (Ok m) g h = g m h
      weaker (Err f) g h = h

  -- ---- relationships

  fine_relationship : (r : RelationshipPattern) (left right : ℕ) (graph : Graph) → ReadyPairs (relationship_properties r) → Fine (make_relationship s before row r left right graph)
  fine_relationship r left right graph h =
      fine_all (given_properties s.parameters before row (relationship_properties r)) _ (fine_properties before (relationship_properties r) h)
      (λ es. by_tests (test_room s graph) (test_counter graph.next_relationship) (fine_room s graph) (fine_counter graph.next_relationship) _)
    where
      by_tests : (t u : Result (Unit {0}) Fault) → Fine t → Fine u → (g : Graph) → Fine (t >> (u >> Ok g))
      by_tests (Ok x) (Ok y) h g r = tt
      by_tests (Ok x) (Err f) h g r = g
      by_tests (Err f) u h g r = h

  abbrev Bonds : ℕ → Graph × List Bond → Type 0
  Bonds n r = length r.1 ≡ n

  hops_made : (hs : List (RelationshipPattern × NodePattern)) (left : ℕ) (ns : List ℕ) (graph : Graph) → length ns ≡ length hs → AllByRecursion (HopReady scope s.parameters) hs → Ends (Bonds (length hs)) (make_hops s before row hs left ns graph)
  hops_made [] left ns graph e h = refl
  hops_made (x ∷ hs) left [] graph e h = cc
  hops_made (x ∷ hs) left (n ∷ ns) graph e h =
      ends_all (Bonds (length (x ∷ hs))) (make_relationship s before row x.0 left n graph) _ (fine_relationship x.0 left n graph h.0.0)
      (λ after. ends_then (Bonds (length hs)) (Bonds (length (x ∷ hs))) (make_hops s before row hs n ns after) _ (hops_made hs n ns after (one_less (length ns) (length hs) e) h.1) (λ made l. ap suc l))
    where
      one_less : (m n : ℕ) → suc m ≡ suc n → m ≡ n
      one_less m n e = omega (arith, e)

  bonds_made : (hs : List (RelationshipPattern × NodePattern)) (ns : List ℕ) (graph : Graph) → length ns ≡ suc (length hs) → AllByRecursion (HopReady scope s.parameters) hs → Ends (Bonds (length hs)) (make_bonds s before row hs ns graph)
  bonds_made hs [] graph e h = cc
  bonds_made hs (n ∷ ns) graph e h = hops_made hs n ns graph (one_less (length ns) (length hs) e) h
    where
      one_less : (m n : ℕ) → suc m ≡ suc n → m ≡ n
      one_less m n e = omega (arith, e)

  -- ---- paths

  nodes_ready : (hs : List (RelationshipPattern × NodePattern)) → AllByRecursion (HopReady scope s.parameters) hs → AllByRecursion (λ n. ReadyPairs n.properties) (map (λ h. h.1) hs)
  nodes_ready [] h = tt
  nodes_ready (x ∷ hs) h = (h.0.1, nodes_ready hs h.1)

  path_made : (p : PathPattern) (so_far : Graph × Row) → PathReady scope s.parameters p → Ends (λ (r : Graph × Row × Trail). IsLong (length p.hops) r.2) (make_path s before row so_far p)
  path_made p so_far h =
      ends_then (λ (m : Making). length m.ids ≡ 0 + length (nodes_of p)) (λ (r : Graph × Row × Trail). IsLong (length p.hops) r.2) (make_nodes s before row none (nodes_of p)) _ (all_nodes (nodes_of p) none (h.0, nodes_ready p.hops h.1))
      (λ m e. let long = as_long (length m.ids) (length (map (λ x. x.1) p.hops)) (length p.hops) e (length-map p.hops (λ x. x.1)) in
      ends_then (Bonds (length p.hops)) (λ (r : Graph × Row × Trail). IsLong (length p.hops) r.2) (make_bonds s before row p.hops m.ids m.graph) _ (bonds_made p.hops m.ids m.graph long h.1) (λ made l. (long, l)))
    where
      none : Making
      none = record { graph = so_far.0; bound = so_far.1; ids = [] }

      as_long : (x m n : ℕ) → x ≡ 0 + suc m → m ≡ n → x ≡ suc n
      as_long x m n e f = omega (arith, e, f)

  paths_made : (ps : List PathPattern) (so_far : Graph × Row) → AllByRecursion (PathReady scope s.parameters) ps → Ends (λ (r : Graph × Assignment). AreLong ps r.1) (make_paths s before row so_far ps)
  paths_made [] so_far h = tt
  paths_made (p ∷ ps) so_far h =
      ends_then (λ (r : Graph × Row × Trail). IsLong (length p.hops) r.2) (λ (r : Graph × Assignment). AreLong (p ∷ ps) r.1) (make_path s before row so_far p) _ (path_made p so_far h.0)
      (λ made l. ends_then (λ (r : Graph × Assignment). AreLong ps r.1) (λ (r : Graph × Assignment). AreLong (p ∷ ps) r.1) (make_paths s before row (made.0, made.1) ps) _ (paths_made ps (made.0, made.1) h.1) (λ others m. (l, m)))

  pub make_ends : (paths : List PathPattern) → AllByRecursion (PathReady scope s.parameters) paths → Ends (λ (r : Graph × Row). BindsOnly (add_path_names paths scope) r.1) (make s paths before row)
  make_ends paths h =
      ends_then (λ (r : Graph × Assignment). AreLong paths r.1) (λ (r : Graph × Row). BindsOnly (add_path_names paths scope) r.1) (make_paths s before row (before, row) paths) _ (paths_made paths (before, row) h)
      (λ made l. long_binds made.0 paths made.1 scope row l b)

-- ---- CREATE

pub create_ends : (paths : List PathPattern) → ClauseEndsWell (create paths)
create_ends paths s state are faults parameters planned rows =
    state_ends behind _
    (ends_all IsRow (spend s state.steps _) _ (fine_spend s state.steps _)
    (λ steps. ends_steps IsRow (BindsOnly s.scope) (create_row s paths) at_row (record { graph = state.graph; rows = []; steps = steps }) state.rows tt rows))
  where
    behind : Names
    behind = add_path_names paths s.scope

    IsRow : State → Type 0
    IsRow next = AreRowsOf behind next.rows

    ready : AllByRecursion (PathReady s.scope s.parameters) paths
    ready = paths_ready s.scope s.parameters creating (record { nodes = []; others = [] }) paths are.1 faults (commas_given s.parameters (map path_marks paths) parameters)

    at_row : (t : State) (row : Row) → IsRow t → BindsOnly s.scope row → Ends IsRow (create_row s paths t row)
    at_row t row h b =
        ends_after IsRow (test_paths false t.graph row paths) (make s paths t.graph row >>= λ made. Ok (record { graph = made.0; rows = t.rows ++ made.1 ∷ []; steps = t.steps })) (fine_bound_nodes false t.graph row paths)
        (ends_then (λ (r : Graph × Row). BindsOnly behind r.1) IsRow (make s paths t.graph row) _ (make_ends s.scope s t.graph row b paths ready)
        (λ made m. all_joined (BindsOnly behind) t.rows (made.1 ∷ []) h (m, tt)))

-- ---- MERGE

on_given : (parameters : Entries) (parts : List (Bool × List SetItem)) → AreGiven (named_in (on_marks parts)) parameters → AllByRecursion (λ p. AllByRecursion (λ ms. AreGiven (named_in ms) parameters) (map set_marks p.1)) parts
on_given parameters [] h = tt
on_given parameters (p ∷ parts) h =
    let both = given_split parameters (commas (map set_marks p.1)) (on_marks parts) (on_given_behind p.0 h) in
    (commas_given parameters (map set_marks p.1) both.0, on_given parameters parts both.1)
  where
    on_given_behind : (c : Bool) → AreGiven (named_in (key k.On ∷ event_mark c ∷ key k.Set ∷ (commas (map set_marks p.1) ++ on_marks parts))) parameters → AreGiven (named_in (commas (map set_marks p.1) ++ on_marks parts)) parameters
    on_given_behind true h = h
    on_given_behind false h = h

parts_ready : (scope : Names) (parameters : Entries) (parts : List (Bool × List SetItem)) → AllByRecursion (λ o. AreSetItems o.1) parts → AllByRecursion (λ o. flat_map (set_faults scope) o.1 ≡ []) parts → AllByRecursion (λ p. AllByRecursion (λ ms. AreGiven (named_in ms) parameters) (map set_marks p.1)) parts → (c : Bool) → AllByRecursion (SetReady scope parameters) (items_on c parts)
parts_ready scope parameters [] w e h c = tt
parts_ready scope parameters (p ∷ parts) w e h c =
    all_joined (SetReady scope parameters) (cond (beq p.0 c) p.1 []) (items_on c parts) (by_kind (beq p.0 c)) (parts_ready scope parameters parts w.1 e.1 h.1 c)
  where
    by_kind : (d : Bool) → AllByRecursion (SetReady scope parameters) (cond d p.1 [])
    by_kind true = set_items_ready scope parameters p.1 w.0.1 (none_each (set_faults scope) p.1 e.0) h.0
    by_kind false = tt

pub merge_ends : (p : PathPattern) (parts : List (Bool × List SetItem)) → ClauseEndsWell (merge p parts)
merge_ends p parts s state are faults parameters planned rows =
    state_ends behind _ (ends_steps IsRow (BindsOnly s.scope) (merge_row s p parts) at_row (record { graph = state.graph; rows = []; steps = state.steps }) state.rows tt rows)
  where
    behind : Names
    behind = add_path_names (p ∷ []) s.scope

    IsRow : State → Type 0
    IsRow next = AreRowsOf behind next.rows

    both_given : AreGiven (named_in (path_marks p)) s.parameters × AreGiven (named_in (on_marks parts)) s.parameters
    both_given = given_split s.parameters (path_marks p) (on_marks parts) parameters

    no_path_faults : paths_faults merging s.scope (p ∷ []) ≡ []
    no_path_faults = first_none (paths_faults merging s.scope (p ∷ [])) (flat_map (λ o. flat_map (set_faults behind) o.1) parts) faults

    ready : AllByRecursion (PathReady s.scope s.parameters) (p ∷ [])
    ready = paths_ready s.scope s.parameters merging (record { nodes = []; others = [] }) (p ∷ []) (are.0, tt) no_path_faults (both_given.0, tt)

    items : (c : Bool) → AllByRecursion (SetReady behind s.parameters) (items_on c parts)
    items c = parts_ready behind s.parameters parts are.1 (none_each (λ o. flat_map (set_faults behind) o.1) parts (second_none (paths_faults merging s.scope (p ∷ [])) (flat_map (λ o. flat_map (set_faults behind) o.1) parts) faults)) (on_given s.parameters parts both_given.1) c

    merged : (c : Bool) (t : State) (row : Row) → IsRow t → BindsOnly behind row → Ends IsRow (merged_row s (items_on c parts) t row)
    merged c t row h b =
        ends_all IsRow (spend s t.steps _) _ (fine_spend s t.steps _)
        (λ steps. ends_all IsRow (set_row s (items_on c parts) t.graph row) _ (fine_set_row behind s (items_on c parts) (items c) t.graph row b) (λ graph. all_joined (BindsOnly behind) t.rows (row ∷ []) h (b, tt)))

    found_ends : (t : State) (row : Row) → IsRow t → BindsOnly s.scope row → (l : Listing Assignment) → AllByRecursion (AreLong (p ∷ [])) l.0 → Ends IsRow (merge_found s p parts t row l)
    found_ends t row h b l long = by_found l.0 long
      where
        by_found : (as_ : List Assignment) → AllByRecursion (AreLong (p ∷ [])) as_ → Ends IsRow (merge_found s p parts t row (as_, l.1))
        by_found [] g =
            ends_all IsRow (spend s t.steps _) _ (fine_spend s t.steps _)
            (λ steps. ends_then (λ (r : Graph × Row). BindsOnly behind r.1) IsRow (make s (p ∷ []) t.graph row) _ (make_ends s.scope s t.graph row b (p ∷ []) ready)
            (λ made m. merged true (record { graph = made.0; rows = t.rows; steps = steps }) made.1 h m))
        by_found (a ∷ as_) g =
            ends_steps IsRow (BindsOnly behind) (merged_row s (items_on false parts)) (λ u r i c. merged false u r i c) t (map (λ c. bind_match t.graph (p ∷ []) c row) (a ∷ as_)) h
            (all_mapped (λ c. bind_match t.graph (p ∷ []) c row) (AreLong (p ∷ [])) (BindsOnly behind) (λ c m. long_binds t.graph (p ∷ []) c s.scope row m b) (a ∷ as_) g)

    at_row : (t : State) (row : Row) → IsRow t → BindsOnly s.scope row → Ends IsRow (merge_row s p parts t row)
    at_row t row h b =
        ends_after IsRow (test_paths false t.graph row (p ∷ [])) (paths_wanted row s.parameters t.graph (p ∷ []) >>= after_wanted) (fine_bound_nodes false t.graph row (p ∷ []))
        (ends_known IsRow (paths_wanted row s.parameters t.graph (p ∷ [])) after_wanted (fine_wanted s.scope s.parameters t.graph row b (p ∷ []) ready)
        (λ wanted is. ends_after IsRow (test_not_null wanted) (after_test wanted) (fine_unless (not (list_any wants_null wanted)) _ refl)
        (ends_all IsRow (spend s t.steps (found_of wanted).1) (after_spent wanted) (fine_spend s t.steps (found_of wanted).1)
        (λ steps. found_ends (record { graph = t.graph; rows = t.rows; steps = steps }) row h b (found_of wanted) (walks_long t.graph s.parameters [] row (p ∷ []) wanted s.anchors is planned)))))
      where
        found_of : List PathWanted → Listing Assignment
        found_of wanted = walks t.graph s.parameters [] wanted s.anchors row

        after_spent : List PathWanted → ℕ → Result State Fault
        after_spent wanted steps = merge_found s p parts (record { graph = t.graph; rows = t.rows; steps = steps }) row (found_of wanted)

        after_test : List PathWanted → Result State Fault
        after_test wanted = spend s t.steps (found_of wanted).1 >>= after_spent wanted

        after_wanted : List PathWanted → Result State Fault
        after_wanted wanted = test_not_null wanted >> after_test wanted
