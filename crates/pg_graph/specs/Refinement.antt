-- What tables, a table of names and two counters mean as a graph: numbers of names read as their texts.
use Rattle.std.specs.Prelude.{◌≡◌, ◌==◌, ◌<◌, ◌+◌, ℕ, List, [], ◌∷◌, map as map_list, length, Some, IsSome, slice_get, unwrap_or, false}
use Rattle.std.specs.FinMap as map
use Rattle.std.specs.FinMap.{FinMap}
use Rattle.std.specs.List.{AllByRecursion, list_any, position}
use Rattle.std.specs.Option.{option_map, option_map_or}
use Rattle.std.specs.Ordering.{nat_cmp}
use Rattle.std.specs.Str.{bytes_eq}
use Rattle.pg_meaning.specs.Entries.{with_entry, value_at}
use Rattle.pg_meaning.specs.Graph.{Graph, Node, Relationship, node_at, relationship_at, incident, outgoing, incoming, add_node, add_relationship, change_node, change_relationship, remove_elements, IsGraph}
use Rattle.pg_meaning.specs.Names.{in_byte_order, is_among}
use Rattle.pg_meaning.specs.Value.{Value, null, Entries, no_entries}
use Rattle.pg_graph.specs.Content.{Content, empty_content, with_node, without_node, with_rel, with_rel_properties, without_rel, outgoing_of, incoming_of}
use Rattle.pg_names.specs.Names.{AreDistinct, KeepsNames}
use Rattle.pg_graph.specs.Records.{Properties}
use Rattle.pg_graph.specs.declared.records.NodeRecord.{NodeRecord}
use Rattle.pg_graph.specs.declared.records.RelRecord.{RelRecord}

abbrev pub text_of : List (List ℕ) → ℕ → List ℕ
text_of names n = option_map_or (λ t. t) (slice_get names n) []

abbrev pub label_texts : List (List ℕ) → List ℕ → List (List ℕ)
label_texts names labels = in_byte_order (map_list (text_of names) labels)

-- a blank key shows nothing
abbrev pub put_shown : List ℕ → Value → Entries → Entries
put_shown k null es = es
put_shown k v es = with_entry k v es

abbrev pub named_entries : List (List ℕ) → List (ℕ × Value) → Entries
named_entries names [] = no_entries
named_entries names (e ∷ es) = put_shown (text_of names e.0) e.1 (named_entries names es)

abbrev pub property_entries : List (List ℕ) → Properties → Entries
property_entries names properties = named_entries names (map.entries properties)

abbrev pub node_of : List (List ℕ) → NodeRecord → Node
node_of names n = record { labels = label_texts names n.labels; properties = property_entries names n.properties }

abbrev pub relationship_of : List (List ℕ) → RelRecord → Relationship
relationship_of names r = record {
  type = text_of names r.kind;
  source = r.source.0;
  target = r.target.0;
  properties = property_entries names r.properties;
}

-- ids rising
abbrev pub elements : {A B : Type 0} → (A → B) → FinMap nat_cmp A → List (ℕ × B)
elements f m = map_list (λ e. (e.0, f e.1)) (map.entries m)

abbrev pub graph_of : List (List ℕ) → Content → ℕ → ℕ → Graph
graph_of names c next_node next_rel = record {
  nodes = elements (node_of names) c.nodes;
  relationships = elements (relationship_of names) c.rels;
  next_node = next_node;
  next_relationship = next_rel;
}

-- each number is one of the table
abbrev pub AreNamed : List (List ℕ) → List ℕ → Type 0
AreNamed names numbers = AllByRecursion (λ n. n < length names) numbers

pub record IsNodeOf (names : List (List ℕ)) (next id : ℕ) (n : NodeRecord) : Type 0 where
  pub below : id < next
  pub labels : AreNamed names n.labels
  pub keys : AreNamed names (map.keys n.properties)

pub record IsRelOf (names : List (List ℕ)) (nodes : FinMap nat_cmp NodeRecord) (next id : ℕ) (r : RelRecord) : Type 0 where
  pub below : id < next
  pub kind : r.kind < length names
  pub keys : AreNamed names (map.keys r.properties)
  pub source : IsSome (map.get nodes r.source.0)
  pub target : IsSome (map.get nodes r.target.0)

-- the content stands for a graph: names are numbers of the table, ids are below the counters, and ends are there
pub record Holds (names : List (List ℕ)) (c : Content) (next_node next_rel : ℕ) : Type 0 where
  pub distinct : AreDistinct names
  pub nodes : (id : ℕ) (n : NodeRecord) → map.get c.nodes id ≡ Some n → IsNodeOf names next_node id n
  pub rels : (id : ℕ) (r : RelRecord) → map.get c.rels id ≡ Some r → IsRelOf names c.nodes next_rel id r

abbrev pub HeldIsGraph : Type 0
HeldIsGraph = (names : List (List ℕ)) (c : Content) (i j : ℕ) → Holds names c i j → IsGraph (graph_of names c i j)

-- ---- what reads tell

abbrev pub NodeIsRead : Type 0
NodeIsRead = (names : List (List ℕ)) (c : Content) (i j id : ℕ) → node_at (graph_of names c i j) id ≡ option_map (node_of names) (map.get c.nodes id)

abbrev pub RelationshipIsRead : Type 0
RelationshipIsRead = (names : List (List ℕ)) (c : Content) (i j id : ℕ) → relationship_at (graph_of names c i j) id ≡ option_map (relationship_of names) (map.get c.rels id)

abbrev pub OutgoingAreRead : Type 0
OutgoingAreRead = (names : List (List ℕ)) (c : Content) (i j node : ℕ) → incident outgoing node (graph_of names c i j) ≡ outgoing_of c.rels node

abbrev pub IncomingAreRead : Type 0
IncomingAreRead = (names : List (List ℕ)) (c : Content) (i j node : ℕ) → incident incoming node (graph_of names c i j) ≡ incoming_of c.rels node

-- a label is looked for by its number
abbrev pub LabelIsRead : Type 0
LabelIsRead = (names : List (List ℕ)) (labels : List ℕ) (text : List ℕ) → AreDistinct names → AreNamed names labels
    → is_among (label_texts names labels) text ≡ option_map_or (λ n. list_any (λ l. l == n) labels) (position (bytes_eq text) names) false

-- and a property by the number of its key
abbrev pub PropertyIsRead : Type 0
PropertyIsRead = (names : List (List ℕ)) (properties : Properties) (text : List ℕ) → AreDistinct names → AreNamed names (map.keys properties)
    → value_at text (property_entries names properties) ≡ option_map_or (λ n. unwrap_or (map.get properties n) null) (position (bytes_eq text) names) null

-- ---- what changes do

abbrev pub NamesMayGrow : Type 0
NamesMayGrow = (old new : List (List ℕ)) (c : Content) (i j : ℕ) → Holds old c i j → KeepsNames old new → graph_of new c i j ≡ graph_of old c i j

abbrev pub NodeIsAdded : Type 0
NodeIsAdded = (names : List (List ℕ)) (c : Content) (i j : ℕ) (n : NodeRecord)
    → graph_of names (with_node c i n) (i + 1) j ≡ add_node (map_list (text_of names) n.labels) (property_entries names n.properties) (graph_of names c i j)

abbrev pub RelationshipIsAdded : Type 0
RelationshipIsAdded = (names : List (List ℕ)) (c : Content) (i j : ℕ) (r : RelRecord)
    → graph_of names (with_rel c j r) i (j + 1) ≡ add_relationship (text_of names r.kind) r.source.0 r.target.0 (property_entries names r.properties) (graph_of names c i j)

abbrev pub NodeIsChanged : Type 0
NodeIsChanged = (names : List (List ℕ)) (c : Content) (i j id : ℕ) (n : NodeRecord) → IsSome (map.get c.nodes id)
    → graph_of names (with_node c id n) i j ≡ change_node (λ _. node_of names n) id (graph_of names c i j)

abbrev pub RelationshipIsChanged : Type 0
RelationshipIsChanged = (names : List (List ℕ)) (c : Content) (i j id : ℕ) (properties : Properties) → IsSome (map.get c.rels id)
    → graph_of names (with_rel_properties c id properties) i j ≡ change_relationship (λ r. record r { properties = property_entries names properties }) id (graph_of names c i j)

abbrev pub NodeIsDropped : Type 0
NodeIsDropped = (names : List (List ℕ)) (c : Content) (i j id : ℕ) → graph_of names (without_node c id) i j ≡ remove_elements (id ∷ []) [] (graph_of names c i j)

abbrev pub RelationshipIsDropped : Type 0
RelationshipIsDropped = (names : List (List ℕ)) (c : Content) (i j id : ℕ) → graph_of names (without_rel c id) i j ≡ remove_elements [] (id ∷ []) (graph_of names c i j)

-- ---- what still holds after them

abbrev pub EmptyHolds : Type 0
EmptyHolds = (names : List (List ℕ)) (i j : ℕ) → AreDistinct names → Holds names empty_content i j

abbrev pub HoldsWithMoreNames : Type 0
HoldsWithMoreNames = (old new : List (List ℕ)) (c : Content) (i j : ℕ) → Holds old c i j → AreDistinct new → KeepsNames old new → Holds new c i j

abbrev pub HoldsWithNode : Type 0
HoldsWithNode = (names : List (List ℕ)) (c : Content) (i j : ℕ) (n : NodeRecord) → Holds names c i j
    → AreNamed names n.labels → AreNamed names (map.keys n.properties) → Holds names (with_node c i n) (i + 1) j

abbrev pub HoldsWithRelationship : Type 0
HoldsWithRelationship = (names : List (List ℕ)) (c : Content) (i j : ℕ) (r : RelRecord) → Holds names c i j
    → r.kind < length names → AreNamed names (map.keys r.properties) → IsSome (map.get c.nodes r.source.0) → IsSome (map.get c.nodes r.target.0)
    → Holds names (with_rel c j r) i (j + 1)

abbrev pub HoldsWithChangedNode : Type 0
HoldsWithChangedNode = (names : List (List ℕ)) (c : Content) (i j id : ℕ) (n : NodeRecord) → Holds names c i j → IsSome (map.get c.nodes id)
    → AreNamed names n.labels → AreNamed names (map.keys n.properties) → Holds names (with_node c id n) i j

abbrev pub HoldsWithChangedRelationship : Type 0
HoldsWithChangedRelationship = (names : List (List ℕ)) (c : Content) (i j id : ℕ) (properties : Properties) → Holds names c i j
    → AreNamed names (map.keys properties) → Holds names (with_rel_properties c id properties) i j

abbrev pub HoldsWithoutNode : Type 0
HoldsWithoutNode = (names : List (List ℕ)) (c : Content) (i j id : ℕ) → Holds names c i j
    → outgoing_of c.rels id ≡ [] → incoming_of c.rels id ≡ [] → Holds names (without_node c id) i j

abbrev pub HoldsWithoutRelationship : Type 0
HoldsWithoutRelationship = (names : List (List ℕ)) (c : Content) (i j id : ℕ) → Holds names c i j → Holds names (without_rel c id) i j
