-- What a record of a pool is: a node's or a relationship's, whose, and under which id.
use Rattle.std.specs.Prelude.{ℕ, Bool, true, false, Option, None, Some, []}
use Rattle.std.specs.Option.{unwrap_or}
use Rattle.std.specs.FinMap as map
use Rattle.pg_pool.specs.Slab.{Slab, get}
use Rattle.pg_graph.specs.declared.records.NodeRecord.{NodeRecord}
use Rattle.pg_graph.specs.declared.records.RelRecord.{RelRecord}
use Rattle.std.specs.declared.snapshot.Snapshot.{Snapshot}
use Rattle.pg_pool.specs.declared.pool.Identity.{Identity}
use Rattle.pg_pool.specs.declared.pool.Record.{Record}
use Rattle.pg_pool.specs.declared.pool.Record.TheVariants.{Node, Rel}

abbrev pub identity_of : ℕ → ℕ → Snapshot Identity
identity_of owner id = record { marker = record {}; value = record { owner = owner; id = id } }

-- an owner's record of the node, or the relationship, of this id
abbrev pub node_record : ℕ → ℕ → NodeRecord → Record
node_record owner id node = Node (identity_of owner id) node

abbrev pub rel_record : ℕ → ℕ → RelRecord → Record
rel_record owner id rel = Rel (identity_of owner id) rel

abbrev pub owner_of : Record → ℕ
owner_of (Node identity node) = identity.value.owner
owner_of (Rel identity rel) = identity.value.owner

abbrev pub is_node : Record → Bool
is_node (Node identity node) = true
is_node (Rel identity rel) = false

abbrev pub id_of : Record → ℕ
id_of (Node identity node) = identity.value.id
id_of (Rel identity rel) = identity.value.id

abbrev pub node_of : Record → Option NodeRecord
node_of (Node identity node) = Some node
node_of (Rel identity rel) = None

abbrev pub rel_of : Record → Option RelRecord
rel_of (Node identity node) = None
rel_of (Rel identity rel) = Some rel

-- whose record a slot has, whether it is a node's, and under which id
abbrev pub label : Option Record → Option (ℕ × (Bool × ℕ))
label None = None
label (Some r) = Some (owner_of r, (is_node r, id_of r))

abbrev pub node_in : Option Record → Option NodeRecord
node_in None = None
node_in (Some r) = node_of r

abbrev pub rel_in : Option Record → Option RelRecord
rel_in None = None
rel_in (Some r) = rel_of r

abbrev pub node_or_none : Option Record → NodeRecord
node_or_none slot = unwrap_or (node_in slot) (record { labels = []; properties = map.empty })

abbrev pub rel_or_none : Option Record → RelRecord
rel_or_none slot = unwrap_or (rel_in slot) (record { kind = 0; source = record { 0 = 0 }; target = record { 0 = 0 }; properties = map.empty })

-- the node in a slot, which is asked of slots that have one
abbrev pub node_at : Slab Record → ℕ → NodeRecord
node_at slots key = node_or_none (get slots key)

-- the relationship in a slot, which is asked of slots that have one
abbrev pub rel_at : Slab Record → ℕ → RelRecord
rel_at slots key = rel_or_none (get slots key)
