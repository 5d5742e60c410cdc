-- The records of a server's pool are its tenants'.
use Rattle.std.proofs.Common.{◌≡◌, ℕ, Option, Some, None, refl, ap, subst}
use Rattle.pg_pool.specs.Slab.{get}
use Rattle.pg_pool.proofs.Found.{are_records}
use Rattle.pg_pool.specs.Records.{owner_of, is_node, id_of, label}
use Rattle.pg_pool.specs.Tables.{AreRecords, IsUnused, content_of}
use Rattle.pg_pool.specs.declared.pool.Pool.{Pool}
use Rattle.pg_pool.specs.declared.pool.Record.{Record}
use Rattle.graphd.specs.Records.{HoldsRecords, TenantsHoldRecords, UnusedIsEmpty}

pub tenants_hold_records : TenantsHoldRecords
tenants_hold_records server hold place below =
    let held = hold place below in
    let pool = server.tables in
    subst (HoldsRecords server.state.names pool place) held.graph
    (record {
      content = content_of held.store.tables pool;
      gone_nodes = held.store.gone_nodes;
      gone_rels = held.store.gone_rels;
      records = subst (λ owner. AreRecords (content_of held.store.tables pool) owner pool) held.own (are_records held.store.tables pool held.fit.fits);
      named = held.fit.well.held;
      graph_is = refl;
    })

empty_slot : {K : Type 0} (pool : Pool K) → ((owner : ℕ) → IsUnused owner pool) → (key : ℕ) (slot : Option Record) → get pool.records key ≡ slot → slot ≡ None
empty_slot pool unused key None is = refl
empty_slot pool unused key (Some r) is = absurd (unused (owner_of r) key (id_of r) (is_node r) (ap label is))

pub unused_is_empty : UnusedIsEmpty
unused_is_empty pool unused key = empty_slot pool unused key (get pool.records key) refl
