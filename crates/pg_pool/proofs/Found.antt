-- What tables show is what their owner's slots have.
use Rattle.std.proofs.Common.{◌≡◌, ◌↔◌, ◌≢◌, ℕ, Bool, true, false, Option, Some, None, sym, ap, ◌∙◌}
use Rattle.std.specs.FinMap as map
use Rattle.pg_pool.specs.Slab.{get}
use Rattle.pg_graph.specs.Content.{OthersStay}
use Rattle.pg_graph.specs.declared.records.NodeRecord.{NodeRecord}
use Rattle.pg_graph.specs.declared.records.RelRecord.{RelRecord}
use Rattle.pg_pool.proofs.SlotChanges.{no_some, same_some, true_not_false}
use Rattle.pg_pool.proofs.Values.{inside_value, outside_some}
use Rattle.pg_pool.specs.Records.{owner_of, label, node_in, rel_in, node_or_none, rel_or_none, node_at, rel_at, node_record, rel_record}
use Rattle.pg_pool.specs.Tables.{Fits, content_of, pooled, AreRecords, SlotsStay}
use Rattle.pg_pool.specs.declared.pool.Record.{Record}
use Rattle.pg_pool.specs.declared.pool.Record.TheVariants.{Node, Rel}
use Rattle.pg_pool.specs.declared.pool.Pool.{Pool}
use Rattle.pg_pool.specs.declared.pooled_tables.PooledTables.{PooledTables}

-- a slot that is labelled as a node's has a node's record
pub node_slot : (s : Option Record) (o id : ℕ) → label s ≡ Some (o, (true, id)) → (node : NodeRecord) × (s ≡ Some (node_record o id node))
node_slot None o id e = absurd (no_some _ e)
node_slot (Some (Node identity node)) o id e = (node, λ j. Some (node_record (same_some _ _ e j).0 (same_some _ _ e j).1.1 node))
node_slot (Some (Rel identity rel)) o id e = absurd (true_not_false (sym (ap (λ p. p.1.0) (same_some _ _ e))))

pub rel_slot : (s : Option Record) (o id : ℕ) → label s ≡ Some (o, (false, id)) → (rel : RelRecord) × (s ≡ Some (rel_record o id rel))
rel_slot None o id e = absurd (no_some _ e)
rel_slot (Some (Node identity node)) o id e = absurd (true_not_false (ap (λ p. p.1.0) (same_some _ _ e)))
rel_slot (Some (Rel identity rel)) o id e = (rel, λ j. Some (rel_record (same_some _ _ e j).0 (same_some _ _ e j).1.1 rel))

pub node_there : (s : Option Record) (o id : ℕ) → label s ≡ Some (o, (true, id)) → node_in s ≡ Some (node_or_none s)
node_there s o id e = let slot = node_slot s o id e in ap node_in slot.1 ∙ ap (λ r. Some (node_or_none r)) (sym slot.1)

pub rel_there : (s : Option Record) (o id : ℕ) → label s ≡ Some (o, (false, id)) → rel_in s ≡ Some (rel_or_none s)
rel_there s o id e = let slot = rel_slot s o id e in ap rel_in slot.1 ∙ ap (λ r. Some (rel_or_none r)) (sym slot.1)

module _ {K : Type 0} (t : PooledTables K) (pool : Pool K) (fits : Fits t pool) where
  node_is_record : (id : ℕ) (node : NodeRecord) → (map.get (content_of t pool).nodes id ≡ Some node) ↔ ((key : ℕ) × (get pool.records key ≡ Some (node_record t.owner id node)))
  node_is_record id node = (
    λ e.
        let found = inside_value (node_at pool.records) t.nodes id node e in
        let slot = node_slot (get pool.records found.0) t.owner id ((fits.nodes id found.0).0 found.1) in
        let same : slot.0 ≡ node = sym (ap node_or_none slot.1) ∙ found.2 in
        (found.0, slot.1 ∙ ap (λ (n : NodeRecord). Some (node_record t.owner id n)) same),
    λ r. outside_some (node_at pool.records) t.nodes id r.0 ((fits.nodes id r.0).1 (ap label r.1)) ∙ ap (λ s. Some (node_or_none s)) r.1,
  )

  rel_is_record : (id : ℕ) (rel : RelRecord) → (map.get (content_of t pool).rels id ≡ Some rel) ↔ ((key : ℕ) × (get pool.records key ≡ Some (rel_record t.owner id rel)))
  rel_is_record id rel = (
    λ e.
        let found = inside_value (rel_at pool.records) t.rels id rel e in
        let slot = rel_slot (get pool.records found.0) t.owner id ((fits.rels id found.0).0 found.1) in
        let same : slot.0 ≡ rel = sym (ap rel_or_none slot.1) ∙ found.2 in
        (found.0, slot.1 ∙ ap (λ (r : RelRecord). Some (rel_record t.owner id r)) same),
    λ r. outside_some (rel_at pool.records) t.rels id r.0 ((fits.rels id r.0).1 (ap label r.1)) ∙ ap (λ s. Some (rel_or_none s)) r.1,
  )

  one_slot : (key other id : ℕ) (nodes : Bool) → label (get pool.records key) ≡ Some (t.owner, (nodes, id)) → label (get pool.records other) ≡ Some (t.owner, (nodes, id)) → key ≡ other
  one_slot key other id true e f = same_some _ _ (sym ((fits.nodes id key).1 e) ∙ (fits.nodes id other).1 f)
  one_slot key other id false e f = same_some _ _ (sym ((fits.rels id key).1 e) ∙ (fits.rels id other).1 f)

  pub are_records : AreRecords (content_of t pool) t.owner pool
  are_records = record { nodes = node_is_record; rels = rel_is_record; once = one_slot }

-- over two pools with one content, the owner's records of the first are in the same slots of the second
slots_same : {K : Type 0} (t : PooledTables K) (one two : Pool K) → Fits t one → Fits t two → content_of t one ≡ content_of t two → (key : ℕ) (r : Record) → owner_of r ≡ t.owner → get one.records key ≡ Some r → get two.records key ≡ Some r
slots_same t one two fits fits' same key (Node identity node) own e =
    let named : label (get one.records key) ≡ Some (t.owner, (true, identity.value.id)) = ap label e ∙ ap (λ o. Some (o, (true, identity.value.id))) own in
    let found = (fits.nodes identity.value.id key).1 named in
    let slot = node_slot (get two.records key) t.owner identity.value.id ((fits'.nodes identity.value.id key).0 found) in
    let shown : map.get (content_of t one).nodes identity.value.id ≡ Some node = outside_some (node_at one.records) t.nodes identity.value.id key found ∙ ap (λ s. Some (node_or_none s)) e in
    let shown' : map.get (content_of t two).nodes identity.value.id ≡ Some slot.0 = outside_some (node_at two.records) t.nodes identity.value.id key found ∙ ap (λ s. Some (node_or_none s)) slot.1 in
    let alike : slot.0 ≡ node = same_some _ _ (sym shown' ∙ ap (λ c. map.get c.nodes identity.value.id) (sym same) ∙ shown) in
    slot.1 ∙ (λ j. Some (node_record (sym own j) identity.value.id (alike j)))
slots_same t one two fits fits' same key (Rel identity rel) own e =
    let named : label (get one.records key) ≡ Some (t.owner, (false, identity.value.id)) = ap label e ∙ ap (λ o. Some (o, (false, identity.value.id))) own in
    let found = (fits.rels identity.value.id key).1 named in
    let slot = rel_slot (get two.records key) t.owner identity.value.id ((fits'.rels identity.value.id key).0 found) in
    let shown : map.get (content_of t one).rels identity.value.id ≡ Some rel = outside_some (rel_at one.records) t.rels identity.value.id key found ∙ ap (λ s. Some (rel_or_none s)) e in
    let shown' : map.get (content_of t two).rels identity.value.id ≡ Some slot.0 = outside_some (rel_at two.records) t.rels identity.value.id key found ∙ ap (λ s. Some (rel_or_none s)) slot.1 in
    let alike : slot.0 ≡ rel = same_some _ _ (sym shown' ∙ ap (λ c. map.get c.rels identity.value.id) (sym same) ∙ shown) in
    slot.1 ∙ (λ j. Some (rel_record (sym own j) identity.value.id (alike j)))

-- what leaves the owner's content as it was leaves its records in their slots
pub slots_stay : {K : Type 0} (t : PooledTables K) (old new : Pool K) (o : ℕ) → Fits t old → t.owner ≢ o → OthersStay pooled o old new → SlotsStay t.owner old new
slots_stay t old new o fits apart others key r own = (
  slots_same t old new fits (others.fit t apart fits) (sym (others.same t apart fits)) key r own,
  slots_same t new old (others.fit t apart fits) fits (others.same t apart fits) key r own,
)
