-- What a server keeps in the pool of its tables' records.
use Rattle.std.specs.Prelude.{◌≡◌, ℕ, ◌<◌, List, length, None}
use Rattle.pg_pool.specs.Slab.{get}
use Rattle.pg_graph.specs.Content.{Content}
use Rattle.pg_graph.specs.Refinement.{graph_of, Holds}
use Rattle.pg_graph.specs.Removed.{Ids, live_content}
use Rattle.pg_meaning.specs.Graph.{Graph}
use Rattle.pg_names.specs.declared.indexed_texts.IndexedTexts.{IndexedTexts}
use Rattle.pg_pool.specs.Tables.{AreRecords, pooled}
use Rattle.pg_pool.specs.declared.pool.Pool.{Pool}
use Rattle.pg_server.specs.Holds.{HoldTenants}
use Rattle.pg_server.specs.State.{ServerSeen, state_at}

-- The graph is made of the owner's records in the pool, each element of one, without those of removed elements that still lie
-- there: each name in a record is a number of these names, and is read as its text.
pub record HoldsRecords (names : List (List ℕ)) (pool : Pool IndexedTexts) (owner : ℕ) (graph : Graph) : Type 0 where
  pub content : Content
  pub gone_nodes : Ids
  pub gone_rels : Ids
  pub records : AreRecords content owner pool
  pub named : Holds names content graph.next_node graph.next_relationship
  pub graph_is : graph ≡ graph_of names (live_content content gone_nodes gone_rels) graph.next_node graph.next_relationship

-- each tenant's graph is that of the records of its place
abbrev pub TenantsHoldRecords : Type 0
TenantsHoldRecords =
    (server : ServerSeen (Pool IndexedTexts)) → HoldTenants pooled server
    → (place : ℕ) → place < length server.state.tenants → HoldsRecords server.state.names server.tables place (state_at server.state place).graph

-- a pool that no owner uses has no record
abbrev pub UnusedIsEmpty : Type 0
UnusedIsEmpty = (pool : Pool IndexedTexts) → ((owner : ℕ) → pooled.is_unused owner pool) → (key : ℕ) → get pool.records key ≡ None
