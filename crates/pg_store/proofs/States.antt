-- What each change makes of a store's state: the graph that it then stands for, and that undoing it gives the state before.
use Rattle.std.proofs.Common.{◌≡◌, ◌==◌, ◌<◌, ◌+◌, ◌-◌, ◌^◌, ℕ, Bool, true, false, List, [], ◌∷◌, length, Option, Some, None, IsSome, is_some, inl, inr, arith, refl, sym, ap, subst, ◌∙◌}
use Rattle.std.proofs.lemmas.Bool.{cases_eq}
use Rattle.std.proofs.lemmas.Bool.Decides.{nat_tests}
use Rattle.std.proofs.lemmas.List.{length-map}
use Rattle.std.specs.FinMap as map
use Rattle.std.specs.FinMap.{FinMap}
use Rattle.std.specs.Option.{option_map, option_map_or}
use Rattle.std.specs.Ordering.{nat_cmp}
use Rattle.pg_graph.proofs.Held.{holds_with_node, holds_with_relationship, holds_with_changed_node, holds_with_changed_relationship, holds_without_node, holds_without_relationship}
use Rattle.pg_graph.proofs.Made.{next_is_absent, node_made}
use Rattle.pg_graph.proofs.Maps.{get_inserted, removed_inserted, put_again, put_back, put_same}
use Rattle.pg_graph.proofs.Refined.{relationship_is_added, node_is_changed, relationship_is_changed, node_is_dropped, relationship_is_dropped}
use Rattle.pg_graph.proofs.Removed.{is_live, get_kept, has_inserted_other, without_inserted, without_more, one_less, one_more, as_many, some_there, still_some, none_where}
use Rattle.pg_graph.specs.Content.{Content, with_node, with_rel, with_rel_properties, without_node, without_rel, outgoing_of, incoming_of}
use Rattle.pg_graph.specs.Records.{Properties}
use Rattle.pg_graph.specs.Refinement.{AreNamed, graph_of, node_of, relationship_of, label_texts, property_entries, text_of, elements, Holds}
use Rattle.pg_graph.specs.Removed.{Ids, has_id}
use Rattle.pg_graph.specs.declared.records.NodeRecord.{NodeRecord}
use Rattle.pg_graph.specs.declared.records.RelRecord.{RelRecord}
use Rattle.pg_meaning.specs.Graph.{add_node, add_relationship, change_node, change_relationship, remove_elements, element_count}
use Rattle.pg_meaning.specs.Names.{in_byte_order}
use Rattle.pg_store.specs.Journal.{State, IsWell, CanUndoOne, live, graph_in, undo_one}
use Rattle.pg_store.specs.Edits.{CanGiveBack, CanGoBack, node_before, properties_before}
use Rattle.pg_store.specs.declared.edits.NodeBefore.{NodeBefore}
use Rattle.pg_store.specs.declared.edits.PropertiesBefore.{PropertiesBefore}
use Rattle.pg_store.specs.declared.journal.Entry.{Entry}
use Rattle.pg_store.specs.declared.journal.Entry.TheVariants.{NodeAdded, RelAdded, NodeChanged, RelChanged, NodeRemoved, RelRemoved}
use Rattle.pg_value_core.specs.declared.ids.NodeId.{NodeId}
use Rattle.pg_value_core.specs.declared.ids.RelId.{RelId}

-- ---- of any content

pub counted_of : (names : List (List ℕ)) (c : Content) (i j : ℕ) → element_count (graph_of names c i j) ≡ length (map.entries c.nodes) + length (map.entries c.rels)
counted_of names c i j =
    let nodes : length (elements (node_of names) c.nodes) ≡ length (map.entries c.nodes) = length-map (map.entries c.nodes) (λ e. (e.0, node_of names e.1)) in
    let rels : length (elements (relationship_of names) c.rels) ≡ length (map.entries c.rels) = length-map (map.entries c.rels) (λ e. (e.0, relationship_of names e.1)) in
    omega (arith, nodes, rels)

pub next_rel_is_absent : (names : List (List ℕ)) (c : Content) (i j : ℕ) → Holds names c i j → map.get c.rels j ≡ None
next_rel_is_absent names c i j h = by_case (map.get c.rels j) refl
  where
    by_case : (o : Option RelRecord) → map.get c.rels j ≡ o → o ≡ None
    by_case None is = refl
    by_case (Some r) is = let below = (h.rels j r is).below in absurd (omega arith)

other_node : {X : Type 0} (m : FinMap nat_cmp X) (k n : ℕ) → map.get m k ≡ None → IsSome (map.get m n) → (n == k) ≡ false
other_node m k n absent there = by_test (n == k) refl
  where
    same_number : (m n : ℕ) → (m == n) ≡ true → m ≡ n
    same_number m n h = grind (arith, nat_tests)

    by_test : (b : Bool) → (n == k) ≡ b → b ≡ false
    by_test true is = absurd (cc (ap (map.get m) (same_number n k is), absent, there))
    by_test false is = refl

-- an absent node has no relationships
pub none_out : (names : List (List ℕ)) (c : Content) (i j k : ℕ) → Holds names c i j → map.get c.nodes k ≡ None → outgoing_of c.rels k ≡ []
none_out names c i j k h absent = none_where (λ r. r.source.0 == k) c.rels (λ q r e. other_node c.nodes k r.source.0 absent (h.rels q r e).source)

pub none_in : (names : List (List ℕ)) (c : Content) (i j k : ℕ) → Holds names c i j → map.get c.nodes k ≡ None → incoming_of c.rels k ≡ []
none_in names c i j k h absent = none_where (λ r. r.target.0 == k) c.rels (λ q r e. other_node c.nodes k r.target.0 absent (h.rels q r e).target)

-- an id that the tables do not have is none of those that wait in them
not_gone : {X : Type 0} (m : FinMap nat_cmp X) (ids : Ids) (k : ℕ) → ((id : ℕ) → has_id ids id ≡ true → IsSome (map.get m id)) → map.get m k ≡ None → has_id ids k ≡ false
not_gone m ids k wait absent = by_test (has_id ids k) refl
  where
    by_test : (b : Bool) → has_id ids k ≡ b → b ≡ false
    by_test true is = absurd (cc (wait k is, absent))
    by_test false is = refl

none_of_test : {X : Type 0} (o : Option X) → is_some o ≡ false → o ≡ None
none_of_test None h = refl
none_of_test (Some x) h = absurd (cc)

wait_more : {X : Type 0} (m : FinMap nat_cmp X) (ids : Ids) (k : ℕ) → IsSome (map.get m k) → ((id : ℕ) → has_id ids id ≡ true → IsSome (map.get m id)) → (id : ℕ) → has_id (map.insert ids k tt) id ≡ true → IsSome (map.get m id)
wait_more m ids k there wait id h = elim (cases_eq id k) [
  | inl same ↦ subst (λ n. IsSome (map.get m n)) (sym same) there
  | inr ne ↦ wait id (sym (has_inserted_other ids k id ne) ∙ h)
]

-- what a change leaves: the journal's entry for it leads back
pub record Undoes (names : List (List ℕ)) (e : Entry) (before after : State) : Type 0 where
  pub back : undo_one e after ≡ before
  pub can : CanUndoOne e after
  pub well : IsWell names after

-- ---- a node is added

module _ (names : List (List ℕ)) (s : State) (n : NodeRecord) (well : IsWell names s) (labels : AreNamed names n.labels) (keys : AreNamed names (map.keys n.properties)) (room : s.next.node < 2 ^ 63) (count : s.elements < 2 ^ 63) where
  abbrev pub with_new_node : State
  with_new_node = record s { content = with_node s.content s.next.node n; next = record { node = s.next.node + 1; rel = s.next.rel }; elements = s.elements + 1 }

  node_absent : map.get s.content.nodes s.next.node ≡ None
  node_absent = next_is_absent names s.content s.next.node s.next.rel well.held

  live_node_absent : map.get (live s).nodes s.next.node ≡ None
  live_node_absent = next_is_absent names (live s) s.next.node s.next.rel well.holds

  pub live_with_new_node : live with_new_node ≡ with_node (live s) s.next.node n
  live_with_new_node = λ t. record { nodes = without_inserted s.content.nodes s.gone_nodes s.next.node n (not_gone s.content.nodes s.gone_nodes s.next.node well.nodes_wait node_absent) t; rels = (live s).rels }

  pub new_node_made : (texts : List (List ℕ)) → in_byte_order texts ≡ label_texts names n.labels → graph_in names with_new_node ≡ add_node texts (property_entries names n.properties) (graph_in names s)
  new_node_made texts h =
      ap (λ (c : Content). graph_of names c (s.next.node + 1) s.next.rel) live_with_new_node
      ∙ node_made names (live s) s.next.node s.next.rel n texts h

  well_with_new_node : IsWell names with_new_node
  well_with_new_node = record {
    held = holds_with_node names s.content s.next.node s.next.rel n well.held labels keys;
    holds = subst (λ (c : Content). Holds names c (s.next.node + 1) s.next.rel) (sym live_with_new_node) (holds_with_node names (live s) s.next.node s.next.rel n well.holds labels keys);
    counted =
        let now : element_count (graph_in names with_new_node) ≡ length (map.entries (with_node (live s) s.next.node n).nodes) + length (map.entries (live s).rels) =
        ap (λ (c : Content). element_count (graph_of names c (s.next.node + 1) s.next.rel)) live_with_new_node ∙ counted_of names (with_node (live s) s.next.node n) (s.next.node + 1) s.next.rel in
        let more = one_more (live s).nodes s.next.node n live_node_absent in
        let was = well.counted ∙ counted_of names (live s) s.next.node s.next.rel in
        omega (arith, now, more, was);
    nodes_wait = λ id h. still_some s.content.nodes s.next.node n id (well.nodes_wait id h);
    rels_wait = well.rels_wait;
    node_ids = omega arith;
    rel_ids = well.rel_ids;
    few = omega arith;
  }

  last_node : s.next.node + 1 - 1 ≡ s.next.node
  last_node = omega arith

  last_element : s.elements + 1 - 1 ≡ s.elements
  last_element = omega arith

  pub new_node_undone : Undoes names NodeAdded s with_new_node
  new_node_undone = record {
    back = λ t. record {
      content = record {
        nodes = (ap (map.remove (map.insert s.content.nodes s.next.node n)) last_node ∙ removed_inserted s.content.nodes s.next.node n node_absent) t;
        rels = s.content.rels;
      };
      gone_nodes = s.gone_nodes;
      gone_rels = s.gone_rels;
      next = record { node = last_node t; rel = s.next.rel };
      elements = last_element t;
    };
    can = (
      omega arith,
      omega arith,
      subst (λ k. IsSome (map.get (map.insert s.content.nodes s.next.node n) k)) (sym last_node) (subst IsSome (sym (get_inserted s.content.nodes s.next.node n)) refl),
      subst (λ k. outgoing_of s.content.rels k ≡ []) (sym last_node) (none_out names s.content s.next.node s.next.rel s.next.node well.held node_absent),
      subst (λ k. incoming_of s.content.rels k ≡ []) (sym last_node) (none_in names s.content s.next.node s.next.rel s.next.node well.held node_absent),
    );
    well = well_with_new_node;
  }

-- ---- a relationship is added

module _ (names : List (List ℕ)) (s : State) (r : RelRecord) (well : IsWell names s) (kind : r.kind < length names) (keys : AreNamed names (map.keys r.properties)) (source : IsSome (map.get (live s).nodes r.source.0)) (target : IsSome (map.get (live s).nodes r.target.0)) (room : s.next.rel < 2 ^ 63) (count : s.elements < 2 ^ 63) where
  abbrev pub with_new_rel : State
  with_new_rel = record s { content = with_rel s.content s.next.rel r; next = record { node = s.next.node; rel = s.next.rel + 1 }; elements = s.elements + 1 }

  rel_absent : map.get s.content.rels s.next.rel ≡ None
  rel_absent = next_rel_is_absent names s.content s.next.node s.next.rel well.held

  live_with_new_rel : live with_new_rel ≡ with_rel (live s) s.next.rel r
  live_with_new_rel = λ t. record { nodes = (live s).nodes; rels = without_inserted s.content.rels s.gone_rels s.next.rel r (not_gone s.content.rels s.gone_rels s.next.rel well.rels_wait rel_absent) t }

  pub new_rel_made : graph_in names with_new_rel ≡ add_relationship (text_of names r.kind) r.source.0 r.target.0 (property_entries names r.properties) (graph_in names s)
  new_rel_made =
      ap (λ (c : Content). graph_of names c s.next.node (s.next.rel + 1)) live_with_new_rel
      ∙ relationship_is_added names (live s) s.next.node s.next.rel r

  well_with_new_rel : IsWell names with_new_rel
  well_with_new_rel = record {
    held = holds_with_relationship names s.content s.next.node s.next.rel r well.held kind keys (is_live s.content.nodes s.gone_nodes r.source.0 source).1 (is_live s.content.nodes s.gone_nodes r.target.0 target).1;
    holds = subst (λ (c : Content). Holds names c s.next.node (s.next.rel + 1)) (sym live_with_new_rel) (holds_with_relationship names (live s) s.next.node s.next.rel r well.holds kind keys source target);
    counted =
        let now : element_count (graph_in names with_new_rel) ≡ length (map.entries (live s).nodes) + length (map.entries (with_rel (live s) s.next.rel r).rels) =
        ap (λ (c : Content). element_count (graph_of names c s.next.node (s.next.rel + 1))) live_with_new_rel ∙ counted_of names (with_rel (live s) s.next.rel r) s.next.node (s.next.rel + 1) in
        let more = one_more (live s).rels s.next.rel r (next_rel_is_absent names (live s) s.next.node s.next.rel well.holds) in
        let was = well.counted ∙ counted_of names (live s) s.next.node s.next.rel in
        omega (arith, now, more, was);
    nodes_wait = well.nodes_wait;
    rels_wait = λ id h. still_some s.content.rels s.next.rel r id (well.rels_wait id h);
    node_ids = well.node_ids;
    rel_ids = omega arith;
    few = omega arith;
  }

  last_rel : s.next.rel + 1 - 1 ≡ s.next.rel
  last_rel = omega arith

  last_one : s.elements + 1 - 1 ≡ s.elements
  last_one = omega arith

  pub new_rel_undone : Undoes names RelAdded s with_new_rel
  new_rel_undone = record {
    back = λ t. record {
      content = record {
        nodes = s.content.nodes;
        rels = (ap (map.remove (map.insert s.content.rels s.next.rel r)) last_rel ∙ removed_inserted s.content.rels s.next.rel r rel_absent) t;
      };
      gone_nodes = s.gone_nodes;
      gone_rels = s.gone_rels;
      next = record { node = s.next.node; rel = last_rel t };
      elements = last_one t;
    };
    can = (
      omega arith,
      omega arith,
      subst (λ k. IsSome (map.get (map.insert s.content.rels s.next.rel r) k)) (sym last_rel) (subst IsSome (sym (get_inserted s.content.rels s.next.rel r)) refl),
    );
    well = well_with_new_rel;
  }

-- ---- a node is changed

module _ (names : List (List ℕ)) (s : State) (id : NodeId) (n w : NodeRecord) (well : IsWell names s) (there : IsSome (map.get (live s).nodes id.0)) (labels : AreNamed names n.labels) (keys : AreNamed names (map.keys n.properties)) (before : map.get s.content.nodes id.0 ≡ Some w) where
  abbrev pub with_node_changed : State
  with_node_changed = record s { content = with_node s.content id.0 n }

  pub live_with_node_changed : live with_node_changed ≡ with_node (live s) id.0 n
  live_with_node_changed = λ t. record { nodes = without_inserted s.content.nodes s.gone_nodes id.0 n (is_live s.content.nodes s.gone_nodes id.0 there).0 t; rels = (live s).rels }

  pub node_changed : graph_in names with_node_changed ≡ change_node (λ _. node_of names n) id.0 (graph_in names s)
  node_changed =
      ap (λ (c : Content). graph_of names c s.next.node s.next.rel) live_with_node_changed
      ∙ node_is_changed names (live s) s.next.node s.next.rel id.0 n there

  pub node_change_well : IsWell names with_node_changed
  node_change_well = record {
    held = holds_with_changed_node names s.content s.next.node s.next.rel id.0 n well.held (is_live s.content.nodes s.gone_nodes id.0 there).1 labels keys;
    holds = subst (λ (c : Content). Holds names c s.next.node s.next.rel) (sym live_with_node_changed) (holds_with_changed_node names (live s) s.next.node s.next.rel id.0 n well.holds there labels keys);
    counted =
        let now : element_count (graph_in names with_node_changed) ≡ length (map.entries (with_node (live s) id.0 n).nodes) + length (map.entries (live s).rels) =
        ap (λ (c : Content). element_count (graph_of names c s.next.node s.next.rel)) live_with_node_changed ∙ counted_of names (with_node (live s) id.0 n) s.next.node s.next.rel in
        let same = as_many (live s).nodes id.0 n there in
        let was = well.counted ∙ counted_of names (live s) s.next.node s.next.rel in
        omega (arith, now, same, was);
    nodes_wait = λ q h. still_some s.content.nodes id.0 n q (well.nodes_wait q h);
    rels_wait = well.rels_wait;
    node_ids = well.node_ids;
    rel_ids = well.rel_ids;
    few = well.few;
  }

  -- what takes the change back leads to the node before
  pub node_change_undone : (b : NodeBefore) → node_before b n ≡ w → CanGoBack b n → Undoes names (NodeChanged id b) s with_node_changed
  node_change_undone b is can = record {
    back =
        ap (λ o. record s { content = option_map_or (λ m. with_node with_node_changed.content id.0 (node_before b m)) o with_node_changed.content }) (get_inserted s.content.nodes id.0 n)
        ∙ (λ t. record s { content = record { nodes = (ap (map.insert (map.insert s.content.nodes id.0 n) id.0) is ∙ put_back s.content.nodes id.0 n w before) t; rels = s.content.rels } });
    can = (n, get_inserted s.content.nodes id.0 n, can);
    well = node_change_well;
  }

-- what tables hold of a node that is there
pub held_live : (s : State) (id : ℕ) (w : NodeRecord) → IsSome (map.get (live s).nodes id) → map.get s.content.nodes id ≡ Some w → map.get (live s).nodes id ≡ Some w
held_live s id w there was = get_kept s.content.nodes s.gone_nodes id (is_live s.content.nodes s.gone_nodes id there).0 ∙ was

pub held_live_rel : (s : State) (id : ℕ) (w : RelRecord) → IsSome (map.get (live s).rels id) → map.get s.content.rels id ≡ Some w → map.get (live s).rels id ≡ Some w
held_live_rel s id w there was = get_kept s.content.rels s.gone_rels id (is_live s.content.rels s.gone_rels id there).0 ∙ was

pub the_same : {X : Type 0} (x y : X) {o : Option X} → o ≡ Some x → o ≡ Some y → x ≡ y
the_same x y a b = cc (a, b)

-- a node that was taken out and is put in again, changed or as it was
pub taken_and_put : (c c1 c2 : Content) (id : ℕ) (blank n : NodeRecord) → c1 ≡ with_node c id blank → c2 ≡ with_node c1 id n → c2 ≡ with_node c id n
taken_and_put c c1 c2 id blank n out back =
    back ∙ ap (λ (x : Content). with_node x id n) out ∙ (λ t. record { nodes = put_again c.nodes id blank n t; rels = c.rels })

pub node_as_it_was : (c : Content) (id : ℕ) (n : NodeRecord) → map.get c.nodes id ≡ Some n → with_node c id n ≡ c
node_as_it_was c id n is = λ t. record { nodes = put_same c.nodes id n is t; rels = c.rels }

-- ---- a relationship is changed

pub present : {X : Type 0} (o : Option X) → IsSome o → (x : X) × (o ≡ Some x)
present None h = absurd (cc)
present (Some x) h = (x, refl)

pub changed_at : (c : Content) (id : ℕ) (ps : Properties) (r : RelRecord) → map.get c.rels id ≡ Some r → with_rel_properties c id ps ≡ with_rel c id (record r { properties = ps })
changed_at c id ps r is = ap (λ o. option_map_or (λ rel. with_rel c id (record rel { properties = ps })) o c) is

pub properties_taken_and_put : (c c1 c2 : Content) (id : ℕ) (blank ps : Properties) → IsSome (map.get c.rels id) → c1 ≡ with_rel_properties c id blank → c2 ≡ with_rel_properties c1 id ps → c2 ≡ with_rel_properties c id ps
properties_taken_and_put c c1 c2 id blank ps there out back =
    let r = present (map.get c.rels id) there in
    let empty : RelRecord = record r.0 { properties = blank } in
    let full : RelRecord = record r.0 { properties = ps } in
    back ∙ ap (λ (x : Content). with_rel_properties x id ps) (out ∙ changed_at c id blank r.0 r.1)
    ∙ changed_at (with_rel c id empty) id ps empty (get_inserted c.rels id empty)
    ∙ (λ t. record { nodes = c.nodes; rels = put_again c.rels id empty full t })
    ∙ sym (changed_at c id ps r.0 r.1)

pub rel_stays_there : (c c1 : Content) (id : ℕ) (ps : Properties) → IsSome (map.get c.rels id) → c1 ≡ with_rel_properties c id ps → IsSome (map.get c1.rels id)
rel_stays_there c c1 id ps there is =
    let r = present (map.get c.rels id) there in
    let new : RelRecord = record r.0 { properties = ps } in
    subst IsSome (sym (ap (λ (x : Content). map.get x.rels id) (is ∙ changed_at c id ps r.0 r.1) ∙ get_inserted c.rels id new)) refl

pub node_stays_there : (c c1 : Content) (id : ℕ) (n : NodeRecord) → c1 ≡ with_node c id n → IsSome (map.get c1.nodes id)
node_stays_there c c1 id n is = subst IsSome (sym (ap (λ (x : Content). map.get x.nodes id) is ∙ get_inserted c.nodes id n)) refl

pub rel_as_it_was : (c : Content) (id : ℕ) (r : RelRecord) → map.get c.rels id ≡ Some r → with_rel_properties c id r.properties ≡ c
rel_as_it_was c id r is = changed_at c id r.properties r is ∙ (λ t. record { nodes = c.nodes; rels = put_same c.rels id r is t })

module _ (names : List (List ℕ)) (s : State) (id : RelId) (ps before : Properties) (well : IsWell names s) (there : IsSome (map.get (live s).rels id.0)) (keys : AreNamed names (map.keys ps)) (was : option_map (λ (r : RelRecord). r.properties) (map.get s.content.rels id.0) ≡ Some before) where
  abbrev pub with_rel_changed : State
  with_rel_changed = record s { content = with_rel_properties s.content id.0 ps }

  held_there : IsSome (map.get s.content.rels id.0)
  held_there = (is_live s.content.rels s.gone_rels id.0 there).1

  old : (r : RelRecord) × (map.get s.content.rels id.0 ≡ Some r)
  old = present (map.get s.content.rels id.0) held_there

  abbrev new : RelRecord
  new = record old.0 { properties = ps }

  live_old : map.get (live s).rels id.0 ≡ Some old.0
  live_old = get_kept s.content.rels s.gone_rels id.0 (is_live s.content.rels s.gone_rels id.0 there).0 ∙ old.1

  changed_content : with_rel_properties s.content id.0 ps ≡ with_rel s.content id.0 new
  changed_content = changed_at s.content id.0 ps old.0 old.1

  live_with_rel_changed : live with_rel_changed ≡ with_rel_properties (live s) id.0 ps
  live_with_rel_changed =
      ap (λ (c : Content). live (record s { content = c })) changed_content
      ∙ (λ t. record { nodes = (live s).nodes; rels = without_inserted s.content.rels s.gone_rels id.0 new (is_live s.content.rels s.gone_rels id.0 there).0 t })
      ∙ sym (changed_at (live s) id.0 ps old.0 live_old)

  pub rel_changed : graph_in names with_rel_changed ≡ change_relationship (λ r. record r { properties = property_entries names ps }) id.0 (graph_in names s)
  rel_changed =
      ap (λ (c : Content). graph_of names c s.next.node s.next.rel) live_with_rel_changed
      ∙ relationship_is_changed names (live s) s.next.node s.next.rel id.0 ps there

  is_before : old.0.properties ≡ before
  is_before = cc (ap (option_map (λ (r : RelRecord). r.properties)) old.1)

  pub rel_change_well : IsWell names with_rel_changed
  rel_change_well = record {
    held = holds_with_changed_relationship names s.content s.next.node s.next.rel id.0 ps well.held keys;
    holds = subst (λ (c : Content). Holds names c s.next.node s.next.rel) (sym live_with_rel_changed) (holds_with_changed_relationship names (live s) s.next.node s.next.rel id.0 ps well.holds keys);
    counted =
        let now : element_count (graph_in names with_rel_changed) ≡ length (map.entries (live s).nodes) + length (map.entries (with_rel (live s) id.0 new).rels) =
        ap (λ (c : Content). element_count (graph_of names c s.next.node s.next.rel)) (live_with_rel_changed ∙ changed_at (live s) id.0 ps old.0 live_old) ∙ counted_of names (with_rel (live s) id.0 new) s.next.node s.next.rel in
        let same = as_many (live s).rels id.0 new there in
        let was = well.counted ∙ counted_of names (live s) s.next.node s.next.rel in
        omega (arith, now, same, was);
    nodes_wait = subst (λ (c : Content). (q : ℕ) → has_id s.gone_nodes q ≡ true → IsSome (map.get c.nodes q)) (sym changed_content) well.nodes_wait;
    rels_wait = subst (λ (c : Content). (q : ℕ) → has_id s.gone_rels q ≡ true → IsSome (map.get c.rels q)) (sym changed_content) (λ q h. still_some s.content.rels id.0 new q (well.rels_wait q h));
    node_ids = well.node_ids;
    rel_ids = well.rel_ids;
    few = well.few;
  }

  -- what takes the change back leads to the properties before
  pub rel_change_undone : (b : PropertiesBefore) → properties_before b ps ≡ before → CanGiveBack b ps → Undoes names (RelChanged id b) s with_rel_changed
  rel_change_undone b is can = record {
    back =
        ap (λ (c : Content). undo_one (RelChanged id b) (record s { content = c })) changed_content
        ∙ ap (λ o. record s { content = option_map_or (λ r. with_rel (with_rel s.content id.0 new) id.0 (record r { properties = properties_before b r.properties })) o (with_rel s.content id.0 new) }) (get_inserted s.content.rels id.0 new)
        ∙ (λ t. record s { content = with_rel (with_rel s.content id.0 new) id.0 (record old.0 { properties = (is ∙ sym is_before) t }) })
        ∙ (λ t. record s { content = record { nodes = s.content.nodes; rels = put_back s.content.rels id.0 new old.0 old.1 t } });
    can = (new, ap (λ (c : Content). map.get c.rels id.0) changed_content ∙ get_inserted s.content.rels id.0 new, can);
    well = rel_change_well;
  }

-- ---- a relationship is removed

one_back : (n : ℕ) → 0 < n → n - 1 + 1 ≡ n
one_back n h = omega arith

module _ (names : List (List ℕ)) (s : State) (id : RelId) (well : IsWell names s) (there : IsSome (map.get (live s).rels id.0)) where
  abbrev pub with_rel_removed : State
  with_rel_removed = record s { gone_rels = map.insert s.gone_rels id.0 tt; elements = s.elements - 1 }

  live_with_rel_removed : live with_rel_removed ≡ without_rel (live s) id.0
  live_with_rel_removed = λ t. record { nodes = (live s).nodes; rels = without_more s.content.rels s.gone_rels id.0 t }

  pub rel_removed : graph_in names with_rel_removed ≡ remove_elements [] (id.0 ∷ []) (graph_in names s)
  rel_removed =
      ap (λ (c : Content). graph_of names c s.next.node s.next.rel) live_with_rel_removed
      ∙ relationship_is_dropped names (live s) s.next.node s.next.rel id.0

  pub a_rel : 0 < s.elements
  a_rel =
      let some = some_there (live s).rels id.0 there in
      let some_is = some.1 in
      let was = well.counted ∙ counted_of names (live s) s.next.node s.next.rel in
      omega (arith, some_is, was)

  pub rel_removal_undone : Undoes names (RelRemoved id) s with_rel_removed
  rel_removal_undone = record {
    back = λ t. record s {
      gone_rels = removed_inserted s.gone_rels id.0 tt (none_of_test (map.get s.gone_rels id.0) (is_live s.content.rels s.gone_rels id.0 there).0) t;
      elements = one_back s.elements a_rel t;
    };
    can = (subst IsSome (sym (get_inserted s.gone_rels id.0 tt)) refl, let few = well.few in let some = a_rel in omega (arith, few, some));
    well = record {
      held = well.held;
      holds = subst (λ (c : Content). Holds names c s.next.node s.next.rel) (sym live_with_rel_removed) (holds_without_relationship names (live s) s.next.node s.next.rel id.0 well.holds);
      counted =
          let now : element_count (graph_in names with_rel_removed) ≡ length (map.entries (live s).nodes) + length (map.entries (without_rel (live s) id.0).rels) =
          ap (λ (c : Content). element_count (graph_of names c s.next.node s.next.rel)) live_with_rel_removed ∙ counted_of names (without_rel (live s) id.0) s.next.node s.next.rel in
          let less = one_less (live s).rels id.0 there in
          let some = some_there (live s).rels id.0 there in
          let some_is = some.1 in
          let was = well.counted ∙ counted_of names (live s) s.next.node s.next.rel in
          omega (arith, now, less, some_is, was);
      nodes_wait = well.nodes_wait;
      rels_wait = wait_more s.content.rels s.gone_rels id.0 (is_live s.content.rels s.gone_rels id.0 there).1 well.rels_wait;
      node_ids = well.node_ids;
      rel_ids = well.rel_ids;
      few = let few = well.few in omega (arith, few);
    };
  }

-- ---- a node is removed

module _ (names : List (List ℕ)) (s : State) (id : NodeId) (well : IsWell names s) (there : IsSome (map.get (live s).nodes id.0)) (no_outgoing : outgoing_of (live s).rels id.0 ≡ []) (no_incoming : incoming_of (live s).rels id.0 ≡ []) where
  abbrev pub with_node_removed : State
  with_node_removed = record s { gone_nodes = map.insert s.gone_nodes id.0 tt; elements = s.elements - 1 }

  pub live_with_node_removed : live with_node_removed ≡ without_node (live s) id.0
  live_with_node_removed = λ t. record { nodes = without_more s.content.nodes s.gone_nodes id.0 t; rels = (live s).rels }

  pub node_removed : graph_in names with_node_removed ≡ remove_elements (id.0 ∷ []) [] (graph_in names s)
  node_removed =
      ap (λ (c : Content). graph_of names c s.next.node s.next.rel) live_with_node_removed
      ∙ node_is_dropped names (live s) s.next.node s.next.rel id.0

  pub a_node : 0 < s.elements
  a_node =
      let some = some_there (live s).nodes id.0 there in
      let some_is = some.1 in
      let was = well.counted ∙ counted_of names (live s) s.next.node s.next.rel in
      omega (arith, some_is, was)

  pub node_removal_undone : Undoes names (NodeRemoved id) s with_node_removed
  node_removal_undone = record {
    back = λ t. record s {
      gone_nodes = removed_inserted s.gone_nodes id.0 tt (none_of_test (map.get s.gone_nodes id.0) (is_live s.content.nodes s.gone_nodes id.0 there).0) t;
      elements = one_back s.elements a_node t;
    };
    can = (subst IsSome (sym (get_inserted s.gone_nodes id.0 tt)) refl, let few = well.few in let some = a_node in omega (arith, few, some));
    well = record {
      held = well.held;
      holds = subst (λ (c : Content). Holds names c s.next.node s.next.rel) (sym live_with_node_removed) (holds_without_node names (live s) s.next.node s.next.rel id.0 well.holds no_outgoing no_incoming);
      counted =
          let now : element_count (graph_in names with_node_removed) ≡ length (map.entries (without_node (live s) id.0).nodes) + length (map.entries (live s).rels) =
          ap (λ (c : Content). element_count (graph_of names c s.next.node s.next.rel)) live_with_node_removed ∙ counted_of names (without_node (live s) id.0) s.next.node s.next.rel in
          let less = one_less (live s).nodes id.0 there in
          let some = some_there (live s).nodes id.0 there in
          let some_is = some.1 in
          let was = well.counted ∙ counted_of names (live s) s.next.node s.next.rel in
          omega (arith, now, less, some_is, was);
      nodes_wait = wait_more s.content.nodes s.gone_nodes id.0 (is_live s.content.nodes s.gone_nodes id.0 there).1 well.nodes_wait;
      rels_wait = well.rels_wait;
      node_ids = well.node_ids;
      rel_ids = well.rel_ids;
      few = let few = well.few in omega (arith, few);
    };
  }
