-- Removed elements that leave the tables: the graph stays.
use Rattle.std.proofs.Common.{◌≡◌, ◌&&◌, ◌<◌, ◌-◌, ℕ, cond, true, false, List, [], Option, None, Some, IsSome, is_some, inl, inr, arith, refl, sym, ap, subst, ◌∙◌}
use Rattle.std.proofs.lemmas.Bool.{cases_eq}
use Rattle.std.specs.Cmp.{nat_cmp_total}
use Rattle.std.specs.FinMap as map
use Rattle.std.specs.FinMap.{FinMap}
use Rattle.std.specs.Global.{Vec}
use Rattle.std.specs.Ordering.{nat_cmp}
use Rattle.pg_graph.proofs.Held.{holds_without_node, holds_without_relationship}
use Rattle.pg_graph.proofs.Others.{keeps_refl, keeps_trans}
use Rattle.pg_graph.proofs.Blanks.{shown_some, shown_twice}
use Rattle.pg_graph.proofs.NamedChanges.{each_named, keys_named, shown_alike}
use Rattle.pg_graph.proofs.Removed.{get_gone, get_kept, is_live, has_removed, has_removed_other, without_both, without_none, still_some_without, some_there}
use Rattle.pg_graph.specs.Content.{Content, Seen, Keeps, without_node, without_rel, outgoing_of, incoming_of}
use Rattle.pg_graph.specs.Records.{Properties, shown}
use Rattle.pg_graph.specs.Refinement.{graph_of, node_of, relationship_of, label_texts, property_entries, AreNamed, IsNodeOf, IsRelOf, Holds}
use Rattle.pg_graph.specs.Removed.{Ids, has_id}
use Rattle.pg_graph.specs.Stored.{has_number}
use Rattle.pg_graph.specs.declared.records.NodeRecord.{NodeRecord}
use Rattle.pg_graph.specs.declared.records.RelRecord.{RelRecord}
use Rattle.pg_index.specs.Properties.{is_equal}
use Rattle.pg_meaning.specs.Graph.{element_count}
use Rattle.pg_meaning.specs.Value.{Value, null, boolean, integer, text, list, mapping, node, relationship, path}
use Rattle.pg_names.specs.Names.{AreDistinct}
use Rattle.pg_store.proofs.Changed.{node_stays, rel_stays}
use Rattle.pg_store.proofs.CoverLemmas.{Has, covers_now, covers_with, covers_other_properties}
use Rattle.pg_store.proofs.Noting.{StaleIds, noted_now, noted_with, there_is}
use Rattle.pg_store.proofs.NoteLemmas.{or_left}
use Rattle.pg_store.proofs.States.{live_with_node_changed, none_out, none_in, with_node_changed, node_changed, node_change_well, with_rel_changed, rel_changed, rel_change_well}
use Rattle.std.specs.Option.{option_map, option_map_or}
use Rattle.pg_store.specs.Covers.{Key, every, with_label, with_value, belongs, Covers, HasCovered, has_in}
use Rattle.pg_store.specs.Journal.{State, IsWell, CanUndo, NoneGone, live, graph_in, undone}
use Rattle.pg_store.specs.Noted.{AreNoted, HasNoted, is_in}
use Rattle.pg_store.specs.Stores.{index_pairs, state_of, graph_of_store, IsFit, IsSettling, Settles}
use Rattle.pg_store.specs.declared.journal.Entry.{Entry}
use Rattle.pg_store.specs.declared.shared.Shared.{Shared}
use Rattle.pg_store.specs.declared.store.Store.{Store}
use Rattle.pg_value_core.specs.declared.ids.NodeId.{NodeId}
use Rattle.pg_value_core.specs.declared.value.Value as code
use Rattle.pg_value_core.specs.declared.ids.RelId.{RelId}

pub among : (ids : Ids) (id : ℕ) (u : Unit {0}) → map.get ids id ≡ Some u → has_id ids id ≡ true
among ids id u h = ap is_some h

still_waits : {X : Type 0} (m : FinMap nat_cmp X) (ids : Ids) (k : ℕ) → ((id : ℕ) → has_id ids id ≡ true → IsSome (map.get m id)) → (id : ℕ) → has_id (map.remove ids k) id ≡ true → IsSome (map.get (map.remove m k) id)
still_waits m ids k wait id h = elim (cases_eq id k) [
  | inl same ↦ let gone = has_removed ids k in let there : has_id (map.remove ids k) k ≡ true = subst (λ n. has_id (map.remove ids k) n ≡ true) same h in absurd (cc)
  | inr ne ↦ still_some_without m k id ne (wait id (sym (has_removed_other ids k id ne) ∙ h))
]

module _ (names : List (List ℕ)) (s : State) (id : ℕ) (well : IsWell names s) where
  -- a removed relationship
  module _ (gone : has_id s.gone_rels id ≡ true) where
    abbrev pub without_gone_rel : State
    without_gone_rel = record s { content = without_rel s.content id; gone_rels = map.remove s.gone_rels id }

    pub live_rels : live without_gone_rel ≡ live s
    live_rels = λ t. record { nodes = (live s).nodes; rels = without_both s.content.rels s.gone_rels id gone t }

    pub graph_without_rel : graph_in names without_gone_rel ≡ graph_in names s
    graph_without_rel = ap (λ (c : Content). graph_of names c s.next.node s.next.rel) live_rels

    pub well_without_rel : IsWell names without_gone_rel
    well_without_rel = record {
      held = holds_without_relationship names s.content s.next.node s.next.rel id well.held;
      holds = subst (λ (c : Content). Holds names c s.next.node s.next.rel) (sym live_rels) well.holds;
      counted = well.counted ∙ sym (ap element_count graph_without_rel);
      nodes_wait = well.nodes_wait;
      rels_wait = still_waits s.content.rels s.gone_rels id well.rels_wait;
      node_ids = well.node_ids;
      rel_ids = well.rel_ids;
      few = well.few;
    }

  -- a removed node, where no relationship is left to go
  module _ (gone : has_id s.gone_nodes id ≡ true) (no_rels : s.gone_rels ≡ map.empty) where
    all_live : (live s).rels ≡ s.content.rels
    all_live = ap (λ (ids : Ids). (live (record s { gone_rels = ids })).rels) no_rels ∙ without_none s.content.rels

    pub nothing_out : outgoing_of s.content.rels id ≡ []
    nothing_out = ap (λ (rels : FinMap nat_cmp RelRecord). outgoing_of rels id) (sym all_live) ∙ none_out names (live s) s.next.node s.next.rel id well.holds (get_gone s.content.nodes s.gone_nodes id gone)

    pub nothing_in : incoming_of s.content.rels id ≡ []
    nothing_in = ap (λ (rels : FinMap nat_cmp RelRecord). incoming_of rels id) (sym all_live) ∙ none_in names (live s) s.next.node s.next.rel id well.holds (get_gone s.content.nodes s.gone_nodes id gone)

    abbrev pub without_gone_node : State
    without_gone_node = record s { content = without_node s.content id; gone_nodes = map.remove s.gone_nodes id }

    pub live_nodes : live without_gone_node ≡ live s
    live_nodes = λ t. record { nodes = without_both s.content.nodes s.gone_nodes id gone t; rels = (live s).rels }

    pub graph_without_node : graph_in names without_gone_node ≡ graph_in names s
    graph_without_node = ap (λ (c : Content). graph_of names c s.next.node s.next.rel) live_nodes

    pub well_without_node : IsWell names without_gone_node
    well_without_node = record {
      held = holds_without_node names s.content s.next.node s.next.rel id well.held nothing_out nothing_in;
      holds = subst (λ (c : Content). Holds names c s.next.node s.next.rel) (sym live_nodes) well.holds;
      counted = well.counted ∙ sym (ap element_count graph_without_node);
      nodes_wait = still_waits s.content.nodes s.gone_nodes id well.nodes_wait;
      rels_wait = well.rels_wait;
      node_ids = well.node_ids;
      rel_ids = well.rel_ids;
      few = well.few;
    }

-- ---- blank keys

-- null is equal to nothing
finds_shown : (v : code.Value) (o : Option Value) → option_map_or (λ w. is_equal w v) (shown o) false ≡ option_map_or (λ w. is_equal w v) o false
finds_shown v None = refl
finds_shown v (Some null) = refl
finds_shown v (Some (boolean b)) = refl
finds_shown v (Some (integer i)) = refl
finds_shown v (Some (text t)) = refl
finds_shown v (Some (list vs)) = refl
finds_shown v (Some (mapping fs)) = refl
finds_shown v (Some (node n)) = refl
finds_shown v (Some (relationship r)) = refl
finds_shown v (Some (path ids)) = refl

module _ (was less : Properties) (alike : (q : ℕ) → map.get less q ≡ shown (map.get was q)) where
  pub keys_there : (names : List (List ℕ)) → AreDistinct names → AreNamed names (map.keys was) → AreNamed names (map.keys less)
  keys_there names distinct named = keys_named names less (λ q v found. each_named names distinct was named q v (shown_some (map.get was q) v (sym (alike q) ∙ found)))

  pub entries_there : (names : List (List ℕ)) → AreDistinct names → AreNamed names (map.keys was) → property_entries names less ≡ property_entries names was
  entries_there names distinct named = shown_alike names distinct was named less (keys_there names distinct named) (λ q. ap shown (alike q) ∙ shown_twice (map.get was q))

  -- a blank key finds nothing
  pub found_there : (n : NodeRecord) → n.properties ≡ was → (k : Key) → belongs k (record n { properties = less }) ≡ belongs k n
  found_there n is every = refl
  found_there n is (with_label l) = refl
  found_there n is (with_value l q v) =
      ap (λ o. has_number (Some l) n && option_map_or (λ w. is_equal w v) o false) (alike q)
      ∙ ap (λ b. has_number (Some l) n && b) (finds_shown v (map.get was q))
      ∙ ap (λ (ps : Properties). has_number (Some l) n && option_map_or (λ w. is_equal w v) (map.get ps q) false) (sym is)

module _ (names : List (List ℕ)) (s : State) (id : NodeId) (n : NodeRecord) (ps : Properties) (well : IsWell names s) (there : map.get (live s).nodes id.0 ≡ Some n) (alike : (q : ℕ) → map.get ps q ≡ shown (map.get n.properties q)) where
  abbrev pub less_node : NodeRecord
  less_node = record n { properties = ps }

  pub some_node : IsSome (map.get (live s).nodes id.0)
  some_node = subst IsSome (sym there) refl

  pub node_held_here : map.get s.content.nodes id.0 ≡ Some n
  node_held_here = sym (get_kept s.content.nodes s.gone_nodes id.0 (is_live s.content.nodes s.gone_nodes id.0 some_node).0) ∙ there

  abbrev pub node_is : IsNodeOf names s.next.node id.0 n
  node_is = well.holds.nodes id.0 n there

  pub keys_left : AreNamed names (map.keys ps)
  keys_left = keys_there n.properties ps alike names well.held.distinct node_is.keys

  same_node : node_of names less_node ≡ node_of names n
  same_node = λ t. record { labels = label_texts names n.labels; properties = entries_there n.properties ps alike names well.held.distinct node_is.keys t }

  abbrev pub without_blanks : State
  without_blanks = with_node_changed names s id less_node n well some_node node_is.labels keys_left node_held_here

  pub well_without_blanks : IsWell names without_blanks
  well_without_blanks = node_change_well names s id less_node n well some_node node_is.labels keys_left node_held_here

  pub graph_without_blanks : graph_in names without_blanks ≡ graph_in names s
  graph_without_blanks =
      node_changed names s id less_node n well some_node node_is.labels keys_left node_held_here
      ∙ node_stays names (live s) s.next.node s.next.rel id.0 n (λ _. node_of names less_node) there same_node

  pub covers_without_blanks : (has : Has) → Covers has s → Covers has without_blanks
  covers_without_blanks has c = covers_with has s id.0 less_node c (λ k h. c k id.0 n node_held_here (sym (found_there n.properties ps alike n refl k) ∙ h))

  pub noted_without_blanks : (has : Has) (stale_ids : StaleIds) → AreNoted has stale_ids s → AreNoted has stale_ids without_blanks
  noted_without_blanks has stale_ids was =
      noted_with has has stale_ids stale_ids (λ k i h. or_left (has k i) _ h) (λ k i h. h) s without_blanks id.0 was less_node
      (ap (λ (c : Content). c.nodes) (live_with_node_changed names s id less_node n well some_node node_is.labels keys_left node_held_here))
      (λ k g h. or_left (belongs k less_node) _ (found_there n.properties ps alike n refl k ∙ sym (there_is s k id.0 n there) ∙ h))

module _ (names : List (List ℕ)) (s : State) (id : RelId) (r : RelRecord) (ps : Properties) (well : IsWell names s) (there : map.get (live s).rels id.0 ≡ Some r) (alike : (q : ℕ) → map.get ps q ≡ shown (map.get r.properties q)) where
  pub some_rel : IsSome (map.get (live s).rels id.0)
  some_rel = subst IsSome (sym there) refl

  pub rel_held_here : map.get s.content.rels id.0 ≡ Some r
  rel_held_here = sym (get_kept s.content.rels s.gone_rels id.0 (is_live s.content.rels s.gone_rels id.0 some_rel).0) ∙ there

  pub properties_here : option_map (λ (r : RelRecord). r.properties) (map.get s.content.rels id.0) ≡ Some r.properties
  properties_here = ap (option_map (λ (r : RelRecord). r.properties)) rel_held_here

  abbrev pub rel_is : IsRelOf names (live s).nodes s.next.rel id.0 r
  rel_is = well.holds.rels id.0 r there

  pub rel_keys_left : AreNamed names (map.keys ps)
  rel_keys_left = keys_there r.properties ps alike names well.held.distinct rel_is.keys

  abbrev pub rel_without_blanks : State
  rel_without_blanks = with_rel_changed names s id ps r.properties well some_rel rel_keys_left properties_here

  pub well_rel_without_blanks : IsWell names rel_without_blanks
  well_rel_without_blanks = rel_change_well names s id ps r.properties well some_rel rel_keys_left properties_here

  pub graph_rel_without_blanks : graph_in names rel_without_blanks ≡ graph_in names s
  graph_rel_without_blanks =
      rel_changed names s id ps r.properties well some_rel rel_keys_left properties_here
      ∙ rel_stays names (live s) s.next.node s.next.rel id.0 r (λ e. record e { properties = property_entries names ps }) there
      (λ t. record (relationship_of names r) { properties = entries_there r.properties ps alike names well.held.distinct rel_is.keys t })

  pub covers_rel_without_blanks : (has : Has) → Covers has s → Covers has rel_without_blanks
  covers_rel_without_blanks has c = covers_other_properties has s id.0 ps c

module _ {T S : Type 0} (seen : Seen T S) where
  module _ {K : Type 0} (store : Store T) (shared : Shared S K) where
    -- the changes are forgotten
    pub forgotten : IsFit seen store shared → (journal : Vec Entry) → journal.items ≡ [] → IsSettling seen (record store { journal = journal }) shared
    forgotten fit journal none = record {
      fits = fit.fits;
      well = fit.well;
      journal = none;
      covered = covers_now (has_in store.sets) store.journal.items (state_of seen store shared) fit.covered;
      noted = noted_now (is_in store.sets) store.sets.stale_ids.items store.journal.items (state_of seen store shared) fit.noted;
    }

    -- a store where nothing is left to undo, and what was removed is gone
    pub none_waits : IsFit seen store shared → store.journal.items ≡ [] → NoneGone (state_of seen store shared)
    none_waits fit none = subst (λ (es : List Entry). NoneGone (undone es (state_of seen store shared))) none fit.none_gone

    pub settled_fit : IsSettling seen store shared → NoneGone (state_of seen store shared) → IsFit seen store shared
    settled_fit was none = record {
      fits = was.fits;
      well = was.well;
      journal = subst (λ (es : List Entry). CanUndo shared.names es (state_of seen store shared)) (sym was.journal) tt;
      covered = subst (λ (es : List Entry). HasCovered (has_in store.sets) es (state_of seen store shared)) (sym was.journal) was.covered;
      noted = subst (λ (es : List Entry). HasNoted (is_in store.sets) store.sets.stale_ids.items es (state_of seen store shared)) (sym was.journal) was.noted;
      none_gone = subst (λ (es : List Entry). NoneGone (undone es (state_of seen store shared))) (sym was.journal) none;
    }

    pub settles_first : IsSettling seen store shared → Settles seen store shared store shared
    settles_first was = record { settling = was; graph = refl; names = refl; keeps = keeps_refl store.tables shared.tables was.fits; pairs = refl }

  pub settles_on : {K : Type 0} (old now new : Store T) (before shared after : Shared S K) (s : State) → Settles seen old before now shared
      → state_of seen new after ≡ s → IsWell shared.names s → Covers (has_in new.sets) s → AreNoted (is_in new.sets) new.sets.stale_ids.items s → index_pairs new ≡ index_pairs now → graph_in shared.names s ≡ graph_of_store seen now shared → after.names ≡ shared.names → new.journal.items ≡ now.journal.items → Keeps seen now.tables shared.tables new.tables after.tables
      → Settles seen old before new after
  settles_on old now new before shared after s was is well covers noted pairs same names journal keeps = record {
    settling = record {
      fits = keeps.fits;
      well = subst (λ (ns : List (List ℕ)). IsWell ns (state_of seen new after)) (sym names) (subst (IsWell shared.names) (sym is) well);
      journal = journal ∙ was.settling.journal;
      covered = subst (Covers (has_in new.sets)) (sym is) covers;
      noted = subst (AreNoted (is_in new.sets) new.sets.stale_ids.items) (sym is) noted;
    };
    graph = ap (λ (ns : List (List ℕ)). graph_in ns (state_of seen new after)) names ∙ ap (graph_in shared.names) is ∙ same ∙ was.graph;
    names = names ∙ was.names;
    keeps = keeps_trans old.tables now.tables new.tables before.tables shared.tables after.tables was.keeps keeps;
    pairs = pairs ∙ was.pairs;
  }

-- settled, and settled again
pub settles_then : {T S K : Type 0} (seen : Seen T S) (old now new : Store T) (before shared after : Shared S K) → Settles seen old before now shared → Settles seen now shared new after → Settles seen old before new after
settles_then seen old now new before shared after p q = record {
  settling = q.settling;
  graph = q.graph ∙ p.graph;
  names = q.names ∙ p.names;
  keeps = keeps_trans old.tables now.tables new.tables before.tables shared.tables after.tables p.keeps q.keeps;
  pairs = q.pairs ∙ p.pairs;
}

pub fewer : {X : Type 0} (m : FinMap nat_cmp X) (k : ℕ) (v : X) → map.get m k ≡ Some v → map.len (map.remove m k) < map.len m
fewer m k v is =
    let less = map.len-remove nat_cmp_total m k ∙ ap (λ o. cond (is_some o) (map.len m - 1) (map.len m)) is in
    let some = some_there m k (ap is_some is) in
    let some_is = map.len-entries m ∙ some.1 in
    omega (arith, less, some_is)
