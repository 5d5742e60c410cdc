-- The text of a reply, as the compact text of its data.
use Rattle.std.specs.Prelude.{ℕ, ◌+◌, List, [], ◌∷◌, map, codes, String, string_bytes}
use Rattle.std.specs.declared.alloc.Global.{Global}
use Rattle.serde_json.specs.Data.{Data, null, boolean, number, unsigned, string, array, object, Items, no_items, item, Members, no_members, member}
use Rattle.serde_json.specs.Find.{of_integer}
use Rattle.serde_json.specs.Written.{compact_text}
use Rattle.pg_value_core.specs.declared.out.Out.{Out, fold-Out}
use Rattle.pg_value_core.specs.declared.out.Out.TheOpen.{Out-F}
use Rattle.pg_json.specs.declared.status.TenantStatus.{TenantStatus}

abbrev pub items_of : List Data → Items
items_of [] = no_items
items_of (d ∷ ds) = item d (items_of ds)

abbrev pub members_of : List (String Global × Data) → Members
members_of [] = no_members
members_of (m ∷ ms) = member (string_bytes m.0) m.1 (members_of ms)

abbrev pub text_items : List (String Global) → Items
text_items ts = items_of (map (λ t. string (string_bytes t)) ts)

abbrev pub natural : ℕ → Data
natural n = number (unsigned n)

-- {"$node":0,"labels":["P"],"properties":{"name":"x"}}
abbrev pub node_data : ℕ → Items → Members → Data
node_data id labels ps = object (member (codes "$node") (natural id) (member (codes "labels") (array labels) (member (codes "properties") (object ps) no_members)))

-- {"$rel":0,"end":1,"properties":{},"start":0,"type":"K"}
abbrev pub rel_data : ℕ → ℕ → Members → ℕ → List ℕ → Data
rel_data id end ps start kind =
    object (member (codes "$rel") (natural id) (member (codes "end") (natural end) (member (codes "properties") (object ps)
    (member (codes "start") (natural start) (member (codes "type") (string kind) no_members)))))

-- {"$path":[..]}
abbrev pub path_data : Items → Data
path_data ds = object (member (codes "$path") (array ds) no_members)

-- one level, with each value inside already seen as its data
abbrev pub data_step : Out-F Data → Data
data_step Out-F.Null = null
data_step (Out-F.Bool b) = boolean b
data_step (Out-F.Int z) = number (of_integer z)
data_step (Out-F.Text s) = string (string_bytes s)
data_step (Out-F.List ds) = array (items_of ds.items)
data_step (Out-F.Map ms) = object (members_of ms.items)
data_step (Out-F.Node id labels ps) = node_data id.0 (text_items labels.items) (members_of ps.items)
data_step (Out-F.Rel id kind start end ps) = rel_data id.0 end.0 (members_of ps.items) start.0 (string_bytes kind)
data_step (Out-F.Path ds) = path_data (items_of ds.items)

abbrev pub data_of : Out → Data
data_of = fold-Out Data data_step

abbrev pub outs : List Out → Items
outs vs = items_of (map data_of vs)

abbrev pub named_outs : List (String Global × Out) → Members
named_outs ms = members_of (map (λ m. (m.0, data_of m.1)) ms)

-- {"code":0,"columns":[..],"rows":[[..],..],"steps":n}
abbrev pub query_data : Items → Items → ℕ → Data
query_data columns rows steps = object (member (codes "code") (natural 0) (member (codes "columns") (array columns) (member (codes "rows") (array rows) (member (codes "steps") (natural steps) no_members))))

-- [label,key]
abbrev pub index_data : List ℕ → List ℕ → Data
index_data label key = array (item (string label) (item (string key) no_items))

abbrev pub index_items : List (String Global × String Global) → Items
index_items is = items_of (map (λ i. index_data (string_bytes i.0) (string_bytes i.1)) is)

-- {"code":0,"elements":n,"indexes":[[label,key],..],"max_elements":n,"max_steps":n,"next_node":n,"next_rel":n}
abbrev pub status_data : ℕ → Items → ℕ → ℕ → ℕ → ℕ → Data
status_data elements indexes max_elements max_steps next_node next_rel =
    object (member (codes "code") (natural 0) (member (codes "elements") (natural elements) (member (codes "indexes") (array indexes)
    (member (codes "max_elements") (natural max_elements) (member (codes "max_steps") (natural max_steps)
    (member (codes "next_node") (natural next_node) (member (codes "next_rel") (natural next_rel) no_members)))))))

abbrev pub tenant_data : TenantStatus → Data
tenant_data s = status_data s.elements (index_items s.indexes.items) s.max_elements s.max_steps s.next_node s.next_rel

unfoldable pub tenant_text : TenantStatus → List ℕ
tenant_text s = compact_text (tenant_data s)

-- the bytes that a reply may have
abbrev pub max_reply : ℕ
max_reply = 16777216

-- the bytes that the body of a page may have
abbrev pub max_page : ℕ
max_page = max_reply + 32
