-- A store as a graph: the empty one, and whether it has a node.
use Rattle.std.proofs.Common.{◌≡◌, ◌<◌, ◌^◌, ℕ, List, [], map as map_list, Bor, Option, Some, None, IsSome, is_some, true, false, option_copied, arith, refl, sym, ap, subst, ◌∙◌}
use Rattle.std.proofs.lemmas.List.{nil_from_length}
use Rattle.std.specs.FinMap as map
use Rattle.std.specs.Global.{Vec}
use Rattle.std.specs.Ordering.{nat_cmp}
use Rattle.std.specs.Option.{option_map}
use Rattle.pg_graph.proofs.Held.{empty_holds, held_is_graph}
use Rattle.pg_graph.proofs.Refined.{node_is_read, relationship_is_read}
use Rattle.pg_graph.proofs.Removed.{without_none, has_none}
use Rattle.pg_graph.specs.Content.{Content, Seen, empty_content}
use Rattle.pg_names.specs.Names.{AreDistinct}
use Rattle.pg_graph.specs.Refinement.{graph_of, node_of, relationship_of, Holds}
use Rattle.pg_graph.specs.Removed.{Ids, has_id, live_content}
use Rattle.pg_graph.specs.declared.records.NodeRecord.{NodeRecord}
use Rattle.pg_graph.specs.declared.records.RelRecord.{RelRecord}
use Rattle.pg_meaning.specs.Graph.{Graph, IsGraph, empty_graph, element_count, has_node, has_relationship}
use Rattle.pg_store.specs.Covers.{Key, HasCovered, has_in}
use Rattle.pg_store.specs.Noted.{HasNoted, is_in}
use Rattle.pg_store.specs.Journal.{CanUndo, NoneGone, live, undone}
use Rattle.pg_store.specs.Stores.{graph_of_store, state_of, IsFit}
use Rattle.pg_store.specs.declared.journal.Entry.{Entry}
use Rattle.pg_store.specs.declared.sets.Sets.{Sets}
use Rattle.pg_store.specs.declared.shared.Shared.{Shared}
use Rattle.pg_store.specs.declared.store.Store.{Store}

pub nothing_held : (X : Type 0) → map.entries (map.empty {X = X} {R = nat_cmp}) ≡ []
nothing_held X = nil_from_length _ (sym (map.len-entries (map.empty {X = X} {R = nat_cmp})) ∙ map.len-empty nat_cmp X)

abbrev made : List (List ℕ) → List (ℕ × NodeRecord) → List (ℕ × RelRecord) → Graph
made names ns rs = record { nodes = map_list (λ e. (e.0, node_of names e.1)) ns; relationships = map_list (λ e. (e.0, relationship_of names e.1)) rs; next_node = 0; next_relationship = 0 }

no_elements : (names : List (List ℕ)) (c : Content) → c ≡ empty_content → graph_of names c 0 0 ≡ empty_graph
no_elements names c h = ap (λ (c : Content). graph_of names c 0 0) h ∙ (λ i. made names (nothing_held NodeRecord i) (nothing_held RelRecord i))

module _ {T S K : Type 0} (seen : Seen T S) (tables : T) (shared : Shared S K) (gone_nodes gone_rels : Ids) (journal : Vec Entry) (sets : Sets) (empty : seen.content tables shared.tables ≡ empty_content) (no_nodes : gone_nodes ≡ map.empty) (no_rels : gone_rels ≡ map.empty) (nothing_done : journal.items ≡ []) where
  abbrev new_store : Store T
  new_store = record { tables = tables; next = record { node = 0; rel = 0 }; elements = 0; gone_nodes = gone_nodes; gone_rels = gone_rels; journal = journal; sets = sets }

  live_empty : live (state_of seen new_store shared) ≡ empty_content
  live_empty =
      (λ i. live_content (seen.content tables shared.tables) (no_nodes i) (no_rels i))
      ∙ (λ i. record { nodes = without_none (seen.content tables shared.tables).nodes i; rels = without_none (seen.content tables shared.tables).rels i })
      ∙ empty

  pub new_is_empty : graph_of_store seen new_store shared ≡ empty_graph
  new_is_empty = no_elements shared.names (live (state_of seen new_store shared)) live_empty

  holds_empty : (c : Content) → c ≡ empty_content → AreDistinct shared.names → Holds shared.names c 0 0
  holds_empty c is distinct = subst (λ (c : Content). Holds shared.names c 0 0) (sym is) (empty_holds shared.names 0 0 distinct)

  pub new_is_fit : ((k : Key) (i : ℕ) → is_in sets k i ≡ false) → AreDistinct shared.names → seen.fits tables shared.tables → IsFit seen new_store shared
  new_is_fit none distinct fits = record {
    fits = fits;
    well = record {
      held = holds_empty (seen.content tables shared.tables) empty distinct;
      holds = holds_empty (live (state_of seen new_store shared)) live_empty distinct;
      counted = sym (ap element_count new_is_empty);
      nodes_wait = λ id h. absurd (cc (h, ap (λ (ids : Ids). has_id ids id) no_nodes, has_none id));
      rels_wait = λ id h. absurd (cc (h, ap (λ (ids : Ids). has_id ids id) no_rels, has_none id));
      node_ids = omega arith;
      rel_ids = omega arith;
      few = omega arith;
    };
    journal = subst (λ (es : List Entry). CanUndo shared.names es (state_of seen new_store shared)) (sym nothing_done) tt;
    covered = subst (λ (es : List Entry). HasCovered (has_in sets) es (state_of seen new_store shared)) (sym nothing_done)
        (λ k i n is number. absurd (cc (is, ap (λ (c : Content). map.get c.nodes i) empty, map.get-empty {X = NodeRecord} nat_cmp i)));
    noted = subst (λ (es : List Entry). HasNoted (is_in sets) sets.stale_ids.items es (state_of seen new_store shared)) (sym nothing_done) (λ k i h. let no = none k i in absurd (cc (h, no)));
    none_gone = subst (λ (es : List Entry). NoneGone (undone es (state_of seen new_store shared))) (sym nothing_done) (record { nodes = no_nodes; rels = no_rels });
  }

pub copied_is_there : {X : Type 0} (o : Option (Bor X)) → is_some (option_copied o) ≡ is_some o
copied_is_there None = refl
copied_is_there (Some x) = refl

pub node_is_there : (names : List (List ℕ)) (c : Content) (i j id : ℕ) (o : Option NodeRecord) → o ≡ map.get c.nodes id → has_node (graph_of names c i j) id ≡ is_some o
node_is_there names c i j id o is = ap is_some (node_is_read names c i j id ∙ ap (option_map (node_of names)) (sym is)) ∙ by_case o
  where
    by_case : (o : Option NodeRecord) → is_some (option_map (node_of names) o) ≡ is_some o
    by_case None = refl
    by_case (Some n) = refl

-- what IsSome says of the node at an end
pub end_is_there : (names : List (List ℕ)) (c : Content) (i j id : ℕ) → IsSome (map.get c.nodes id) → has_node (graph_of names c i j) id ≡ true
end_is_there names c i j id there = by_case (map.get c.nodes id) refl there
  where
    by_case : (o : Option NodeRecord) → o ≡ map.get c.nodes id → IsSome o → has_node (graph_of names c i j) id ≡ true
    by_case None is h = absurd (cc)
    by_case (Some n) is h = node_is_there names c i j id (Some n) is

pub store_is_graph : {T S K : Type 0} (seen : Seen T S) (store : Store T) (shared : Shared S K) → IsFit seen store shared → IsGraph (graph_of_store seen store shared)
store_is_graph seen store shared fit = held_is_graph shared.names (live (state_of seen store shared)) store.next.node store.next.rel fit.well.holds

pub rel_is_there : (names : List (List ℕ)) (c : Content) (i j id : ℕ) (o : Option RelRecord) → o ≡ map.get c.rels id → has_relationship (graph_of names c i j) id ≡ is_some o
rel_is_there names c i j id o is = ap is_some (relationship_is_read names c i j id ∙ ap (option_map (relationship_of names)) (sym is)) ∙ by_case o
  where
    by_case : (o : Option RelRecord) → is_some (option_map (relationship_of names) o) ≡ is_some o
    by_case None = refl
    by_case (Some r) = refl

some_of : {A B : Type 0} (f : A → B) (o : Option A) → is_some (option_map f o) ≡ true → IsSome o
some_of f None h = absurd (cc)
some_of f (Some a) h = refl

-- what the graph has, the content has
pub node_held : (names : List (List ℕ)) (c : Content) (i j id : ℕ) → has_node (graph_of names c i j) id ≡ true → IsSome (map.get c.nodes id)
node_held names c i j id h = some_of (node_of names) (map.get c.nodes id) (ap is_some (sym (node_is_read names c i j id)) ∙ h)

pub rel_held : (names : List (List ℕ)) (c : Content) (i j id : ℕ) → has_relationship (graph_of names c i j) id ≡ true → IsSome (map.get c.rels id)
rel_held names c i j id h = some_of (relationship_of names) (map.get c.rels id) (ap is_some (sym (relationship_is_read names c i j id)) ∙ h)

pub copied_some : {X : Type 0} (o : Option (Bor X)) → IsSome (option_copied o) → IsSome o
copied_some None h = h
copied_some (Some x) h = refl

-- an integer of 64 bits
pub node_is_below : {T S K : Type 0} (seen : Seen T S) (store : Store T) (shared : Shared S K) (id : ℕ) → IsFit seen store shared → has_node (graph_of_store seen store shared) id ≡ true → id < 2 ^ 63
node_is_below seen store shared id fit is = by_case (map.get (live (state_of seen store shared)).nodes id) refl (node_held shared.names (live (state_of seen store shared)) store.next.node store.next.rel id is)
  where
    by_case : (o : Option NodeRecord) → map.get (live (state_of seen store shared)).nodes id ≡ o → IsSome o → id < 2 ^ 63
    by_case None none h = absurd (cc)
    by_case (Some n) there h = let below = (fit.well.holds.nodes id n there).below in let ids = fit.well.node_ids in omega (arith, below, ids)

pub rel_is_below : {T S K : Type 0} (seen : Seen T S) (store : Store T) (shared : Shared S K) (id : ℕ) → IsFit seen store shared → has_relationship (graph_of_store seen store shared) id ≡ true → id < 2 ^ 63
rel_is_below seen store shared id fit is = by_case (map.get (live (state_of seen store shared)).rels id) refl (rel_held shared.names (live (state_of seen store shared)) store.next.node store.next.rel id is)
  where
    by_case : (o : Option RelRecord) → map.get (live (state_of seen store shared)).rels id ≡ o → IsSome o → id < 2 ^ 63
    by_case None none h = absurd (cc)
    by_case (Some r) there h = let below = (fit.well.holds.rels id r there).below in let ids = fit.well.rel_ids in omega (arith, below, ids)
