-- How a value stands in a reply: an element with what it holds, a path as its elements in turn. Profile.
use Rattle.std.specs.Prelude.{ℕ, List, [], ◌∷◌, map, Option, Some, None}
use Rattle.serde_json.specs.Data.{Data, Items, no_items, item, Members, no_members, member}
use Rattle.serde_json.specs.Data as json
use Rattle.serde_json.specs.Find.{of_integer}
use Rattle.pg_json.specs.Replies.{items_of, node_data, rel_data, path_data}
use Rattle.pg_meaning.specs.Graph.{Graph, Node, Relationship, node_at, relationship_at}
use Rattle.pg_meaning.specs.Value.{Value, null, boolean, integer, text, list, mapping, node, relationship, path, Values, no_items as no_values, item as value, Entries, no_entries, entry}

abbrev pub text_items : List (List ℕ) → Items
text_items ts = items_of (map json.string ts)

-- a value that is stored: it holds no element
abbrev mutual
  pub stored_data : Value → Data
  stored_data (boolean b) = json.boolean b
  stored_data (integer i) = json.number (of_integer i)
  stored_data (text s) = json.string s
  stored_data (list vs) = json.array (stored_items vs)
  stored_data (mapping es) = json.object (stored_members es)
  stored_data v = json.null

  pub stored_items : Values → Items
  stored_items no_values = no_items
  stored_items (value v vs) = item (stored_data v) (stored_items vs)

  pub stored_members : Entries → Members
  stored_members no_entries = no_members
  stored_members (entry k v es) = member k (stored_data v) (stored_members es)

module _ (graph : Graph) where
  abbrev pub shown_node : ℕ → Option Node → Data
  shown_node n None = json.null
  shown_node n (Some e) = node_data n (text_items e.labels) (stored_members e.properties)

  abbrev pub shown_relationship : ℕ → Option Relationship → Data
  shown_relationship r None = json.null
  shown_relationship r (Some e) = rel_data r e.target (stored_members e.properties) e.source e.type

  abbrev mutual
    pub path_items : List ℕ → Items
    path_items [] = no_items
    path_items (n ∷ ids) = item (shown_node n (node_at graph n)) (hop_items ids)

    pub hop_items : List ℕ → Items
    hop_items [] = no_items
    hop_items (r ∷ ids) = item (shown_relationship r (relationship_at graph r)) (path_items ids)

  abbrev mutual
    pub printed : Value → Data
    printed (node n) = shown_node n (node_at graph n)
    printed (relationship r) = shown_relationship r (relationship_at graph r)
    printed (path ids) = path_data (path_items ids)
    printed (list vs) = json.array (printed_items vs)
    printed (mapping es) = json.object (printed_members es)
    printed (boolean b) = json.boolean b
    printed (integer i) = json.number (of_integer i)
    printed (text s) = json.string s
    printed null = json.null

    pub printed_items : Values → Items
    printed_items no_values = no_items
    printed_items (value v vs) = item (printed v) (printed_items vs)

    pub printed_members : Entries → Members
    printed_members no_entries = no_members
    printed_members (entry k v es) = member k (printed v) (printed_members es)
