-- What a pool's records mean to the tables that keep records there.
use Rattle.std.specs.Prelude.{◌≡◌, ◌≢◌, ◌↔◌, ℕ, Bool, true, false, Some}
use Rattle.std.specs.FinMap as map
use Rattle.std.specs.FinMap.{FinMap}
use Rattle.std.specs.Ordering.{nat_cmp}
use Rattle.pg_pool.specs.Slab.{Slab, get}
use Rattle.pg_graph.specs.Content.{Content, Seen}
use Rattle.pg_pool.specs.Lists.{IsIncidence}
use Rattle.pg_graph.specs.declared.records.NodeRecord.{NodeRecord}
use Rattle.pg_graph.specs.declared.records.RelRecord.{RelRecord}
use Rattle.pg_pool.specs.Records.{owner_of, label, node_at, rel_at, node_record, rel_record}
use Rattle.pg_pool.specs.Values.{map_values}
use Rattle.pg_pool.specs.declared.pool.Record.{Record}
use Rattle.pg_pool.specs.declared.pool.Pool.{Pool}
use Rattle.pg_pool.specs.declared.pooled_tables.PooledTables.{PooledTables}

-- the map sends exactly the ids of the owner's nodes (or relationships) to their slots
abbrev pub Finds : Bool → ℕ → FinMap nat_cmp ℕ → Slab Record → Type 0
Finds nodes owner ids slots = (id key : ℕ) → (map.get ids id ≡ Some key) ↔ (label (get slots key) ≡ Some (owner, (nodes, id)))

-- the tables' maps send exactly the ids of their owner's records to their slots, and their lists are those of the relationships there
pub record Fits {K : Type 0} (t : PooledTables K) (pool : Pool K) : Type 0 where
  pub nodes : Finds true t.owner t.nodes pool.records
  pub rels : Finds false t.owner t.rels pool.records
  pub incidence : IsIncidence t.incidence (map_values (rel_at pool.records) t.rels)

-- what the tables' slots have
abbrev pub content_of : {K : Type 0} → PooledTables K → Pool K → Content
content_of t pool = record { nodes = map_values (node_at pool.records) t.nodes; rels = map_values (rel_at pool.records) t.rels }

-- no record is the owner's
abbrev pub IsUnused : {K : Type 0} → ℕ → Pool K → Type 0
IsUnused owner pool = (key id : ℕ) (nodes : Bool) → label (get pool.records key) ≢ Some (owner, (nodes, id))

-- how the tables of one owner are seen over the pool
abbrev pub pooled : {K : Type 0} → Seen (PooledTables K) (Pool K)
pooled = record { owner = λ t. t.owner; fits = Fits; content = content_of; is_unused = IsUnused }

-- the content is exactly the owner's records in the pool, each element in one slot
pub record AreRecords {K : Type 0} (content : Content) (owner : ℕ) (pool : Pool K) : Type 0 where
  pub nodes : (id : ℕ) (node : NodeRecord) → (map.get content.nodes id ≡ Some node) ↔ ((key : ℕ) × (get pool.records key ≡ Some (node_record owner id node)))
  pub rels : (id : ℕ) (rel : RelRecord) → (map.get content.rels id ≡ Some rel) ↔ ((key : ℕ) × (get pool.records key ≡ Some (rel_record owner id rel)))
  pub once : (key other id : ℕ) (nodes : Bool) → label (get pool.records key) ≡ Some (owner, (nodes, id)) → label (get pool.records other) ≡ Some (owner, (nodes, id)) → key ≡ other

-- each record of the owner is in the slot in which it was, and the owner has no other
abbrev pub SlotsStay : {K : Type 0} → ℕ → Pool K → Pool K → Type 0
SlotsStay owner old new = (key : ℕ) (r : Record) → owner_of r ≡ owner → (get old.records key ≡ Some r) ↔ (get new.records key ≡ Some r)
