-- A store's state, and what undoing the entries of its journal makes of it.
use Rattle.std.specs.Prelude.{◌≡◌, ◌<◌, ◌≤◌, ◌+◌, ◌-◌, ◌^◌, ℕ, true, List, [], ◌∷◌, Some, IsSome}
use Rattle.std.specs.FinMap as map
use Rattle.std.specs.Option.{option_map_or}
use Rattle.pg_graph.specs.Content.{Content, with_node, without_node, with_rel, without_rel, outgoing_of, incoming_of}
use Rattle.pg_graph.specs.Refinement.{graph_of, Holds}
use Rattle.pg_graph.specs.Removed.{Ids, has_id, live_content}
use Rattle.pg_graph.specs.declared.next_ids.NextIds.{NextIds}
use Rattle.pg_graph.specs.declared.records.NodeRecord.{NodeRecord}
use Rattle.pg_graph.specs.declared.records.RelRecord.{RelRecord}
use Rattle.pg_meaning.specs.Graph.{Graph, element_count}
use Rattle.pg_store.specs.Edits.{CanGiveBack, CanGoBack, node_before, properties_before}
use Rattle.pg_store.specs.declared.edits.NodeBefore.{NodeBefore}
use Rattle.pg_store.specs.declared.edits.PropertiesBefore.{PropertiesBefore}
use Rattle.pg_store.specs.declared.journal.Entry.{Entry}
use Rattle.pg_store.specs.declared.journal.Entry.TheVariants.{NodeAdded, RelAdded, NodeChanged, RelChanged, NodeRemoved, RelRemoved}

-- what the tables hold, which of it is removed, the ids that come next, and how many elements there are
pub record State : Type 0 where
  pub content : Content
  pub gone_nodes : Ids
  pub gone_rels : Ids
  pub next : NextIds
  pub elements : ℕ

-- what is there
abbrev pub live : State → Content
live s = live_content s.content s.gone_nodes s.gone_rels

abbrev pub graph_in : List (List ℕ) → State → Graph
graph_in names s = graph_of names (live s) s.next.node s.next.rel

-- the state stands for a graph, its elements are counted, what is removed waits in the tables, and ids are integers of the language
pub record IsWell (names : List (List ℕ)) (s : State) : Type 0 where
  pub held : Holds names s.content s.next.node s.next.rel
  pub holds : Holds names (live s) s.next.node s.next.rel
  pub counted : s.elements ≡ element_count (graph_in names s)
  pub nodes_wait : (id : ℕ) → has_id s.gone_nodes id ≡ true → IsSome (map.get s.content.nodes id)
  pub rels_wait : (id : ℕ) → has_id s.gone_rels id ≡ true → IsSome (map.get s.content.rels id)
  pub node_ids : s.next.node ≤ 2 ^ 63
  pub rel_ids : s.next.rel ≤ 2 ^ 63
  pub few : s.elements ≤ 2 ^ 63

-- nothing that is removed waits in the tables
pub record NoneGone (s : State) : Type 0 where
  pub nodes : s.gone_nodes ≡ map.empty
  pub rels : s.gone_rels ≡ map.empty

-- an element as it was before one change of it: of a property, only what stood under its key is told
abbrev pub with_node_before : Content → ℕ → NodeBefore → Content
with_node_before c id before = option_map_or (λ n. with_node c id (node_before before n)) (map.get c.nodes id) c

abbrev pub with_rel_before : Content → ℕ → PropertiesBefore → Content
with_rel_before c id before = option_map_or (λ r. with_rel c id (record r { properties = properties_before before r.properties })) (map.get c.rels id) c

-- the state before one change
abbrev pub undo_one : Entry → State → State
undo_one NodeAdded s = record s { content = without_node s.content (s.next.node - 1); next = record { node = s.next.node - 1; rel = s.next.rel }; elements = s.elements - 1 }
undo_one RelAdded s = record s { content = without_rel s.content (s.next.rel - 1); next = record { node = s.next.node; rel = s.next.rel - 1 }; elements = s.elements - 1 }
undo_one (NodeChanged id before) s = record s { content = with_node_before s.content id.0 before }
undo_one (RelChanged id before) s = record s { content = with_rel_before s.content id.0 before }
undo_one (NodeRemoved id) s = record s { gone_nodes = map.remove s.gone_nodes id.0; elements = s.elements + 1 }
undo_one (RelRemoved id) s = record s { gone_rels = map.remove s.gone_rels id.0; elements = s.elements + 1 }

-- what undoing one change asks of the state
abbrev pub CanUndoOne : Entry → State → Type 0
CanUndoOne NodeAdded s =
    (0 < s.next.node) × (0 < s.elements) × IsSome (map.get s.content.nodes (s.next.node - 1))
    × (outgoing_of s.content.rels (s.next.node - 1) ≡ []) × (incoming_of s.content.rels (s.next.node - 1) ≡ [])
CanUndoOne RelAdded s = (0 < s.next.rel) × (0 < s.elements) × IsSome (map.get s.content.rels (s.next.rel - 1))
CanUndoOne (NodeChanged id before) s = (n : NodeRecord) × (map.get s.content.nodes id.0 ≡ Some n) × CanGoBack before n
CanUndoOne (RelChanged id before) s = (r : RelRecord) × (map.get s.content.rels id.0 ≡ Some r) × CanGiveBack before r.properties
CanUndoOne (NodeRemoved id) s = IsSome (map.get s.gone_nodes id.0) × (s.elements < 2 ^ 63)
CanUndoOne (RelRemoved id) s = IsSome (map.get s.gone_rels id.0) × (s.elements < 2 ^ 63)

-- the state before the changes, the latest of which stands last
abbrev pub undone : List Entry → State → State
undone [] s = s
undone (e ∷ es) s = undo_one e (undone es s)

-- each change can be undone, and leads back to a state that stands for a graph
abbrev pub CanUndo : List (List ℕ) → List Entry → State → Type 0
CanUndo names [] s = Unit {0}
CanUndo names (e ∷ es) s = CanUndoOne e (undone es s) × IsWell names (undone (e ∷ es) s) × CanUndo names es s
