-- What a call that changes one slot leaves of its tables, and of those of other owners.
use Rattle.std.proofs.Common.{◌≡◌, ◌≢◌, ℕ, true, false, Some, None, Result, Ok, Err, OnErr, inl, refl, sym, ap, subst, ◌∙◌}
use Rattle.std.specs.Ordering.{nat_cmp}
use Rattle.std.specs.FinMap as map
use Rattle.std.specs.FinMap.{FinMap}
use Rattle.pg_pool.specs.Slab.{get}
use Rattle.pg_graph.specs.Content.{Content, OthersStay, with_node, without_node, with_rel, without_rel}
use Rattle.pg_pool.specs.Lists.{IsIncidence}
use Rattle.pg_pool.specs.declared.links.Incidence.{Incidence}
use Rattle.pg_graph.specs.declared.records.NodeRecord.{NodeRecord}
use Rattle.pg_graph.specs.declared.records.RelRecord.{RelRecord}
use Rattle.pg_value_core.specs.declared.ids.NodeId.{NodeId}
use Rattle.pg_value_core.specs.declared.ids.RelId.{RelId}
use Rattle.pg_pool.proofs.SlotChanges.{true_not_false, IsOwn, OnlyOwn, AllBut, own_of_label, own_of_none, none_of_none, none_of_other, only_own, kept_after, others_find, others_hold, finds_untouched, finds_relabelled, finds_added, finds_removed, holds_untouched, holds_added, holds_changed, holds_removed}
use Rattle.pg_pool.proofs.Values.{values_same}
use Rattle.pg_pool.specs.Records.{label, node_or_none, rel_or_none, node_at, rel_at, node_record, rel_record}
use Rattle.pg_pool.specs.Tables.{Finds, Fits, content_of, pooled}
use Rattle.pg_pool.specs.Values.{map_values}
use Rattle.pg_pool.specs.declared.pool.Pool.{Pool}
use Rattle.pg_pool.specs.declared.pooled_tables.PooledTables.{PooledTables}

false_not_true : false ≢ true
false_not_true e = true_not_false (sym e)

-- if no slot changed but the owner's and empty ones, nothing of other owners changed
pub others_stay : {K : Type 0} (o : ℕ) (old new : Pool K) → OnlyOwn o old.records new.records → OthersStay pooled o old new
others_stay o old new only = record {
  fit = λ t apart fits. record {
    nodes = others_find o old.records new.records only true t.owner t.nodes apart fits.nodes;
    rels = others_find o old.records new.records only false t.owner t.rels apart fits.rels;
    incidence = subst (IsIncidence t.incidence) (sym (others_hold o old.records new.records only rel_or_none false t.owner t.rels apart fits.rels)) fits.incidence;
  };
  same = λ t apart fits i. record {
    nodes = others_hold o old.records new.records only node_or_none true t.owner t.nodes apart fits.nodes i;
    rels = others_hold o old.records new.records only rel_or_none false t.owner t.rels apart fits.rels i;
  };
  unused = λ n apart none key id b e. none key id b (ap label (sym (kept_after o old.records new.records only key n _ apart e)) ∙ e);
}

-- what a call on tables leaves
pub record Step {K : Type 0} (t t' : PooledTables K) (pool pool' : Pool K) (now : Content) : Type 0 where
  pub fits : Fits t' pool'
  pub content : content_of t' pool' ≡ now
  pub others : OthersStay pooled t.owner pool pool'

module _ {K : Type 0} (t : PooledTables K) (pool pool' : Pool K) (key : ℕ) (fits : Fits t pool) (but : AllBut key pool.records pool'.records) where
  pub node_added : (id : NodeId) (node : NodeRecord) (ids : FinMap nat_cmp ℕ) → map.get t.nodes id.0 ≡ None → get pool.records key ≡ None
      → get pool'.records key ≡ Some (node_record t.owner id.0 node) → ids ≡ map.insert t.nodes id.0 key
      → Step t (record t { nodes = ids }) pool pool' (with_node (content_of t pool) id.0 node)
  node_added id node ids absent empty written inserted =
      let rels = holds_untouched false t.owner t.rels pool.records pool'.records key but fits.rels rel_or_none (none_of_none false t.owner _ empty) in
      let nodes = ap (map_values (node_at pool'.records)) inserted
      ∙ holds_added true t.owner t.nodes pool.records pool'.records key but fits.nodes node_or_none id.0 empty
      ∙ ap (λ slot. map.insert (map_values (node_at pool.records) t.nodes) id.0 (node_or_none slot)) written in
      record {
        fits = record {
          nodes = subst (λ m. Finds true t.owner m pool'.records) (sym inserted) (finds_added true t.owner t.nodes pool.records pool'.records key but fits.nodes id.0 absent empty (ap label written));
          rels = finds_untouched false t.owner t.rels pool.records pool'.records key but fits.rels (none_of_none false t.owner _ empty) (none_of_other false true t.owner id.0 _ true_not_false (ap label written));
          incidence = subst (IsIncidence t.incidence) (sym rels) fits.incidence;
        };
        content = λ i. record { nodes = nodes i; rels = rels i };
        others = others_stay t.owner pool pool' (only_own t.owner key pool.records pool'.records but (own_of_none _ _ empty) (subst (IsOwn t.owner) (sym written) refl));
      }

  pub node_changed : (id : NodeId) (node : NodeRecord) → map.get t.nodes id.0 ≡ Some key
      → get pool'.records key ≡ Some (node_record t.owner id.0 node)
      → Step t t pool pool' (with_node (content_of t pool) id.0 node)
  node_changed id node there written =
      let was = (fits.nodes id.0 key).0 there in
      let kept : label (get pool'.records key) ≡ label (get pool.records key) = ap label written ∙ sym was in
      let rels = holds_untouched false t.owner t.rels pool.records pool'.records key but fits.rels rel_or_none (none_of_other false true t.owner id.0 _ true_not_false was) in
      let nodes = holds_changed true t.owner t.nodes pool.records pool'.records key but fits.nodes node_or_none id.0 there
      ∙ ap (λ slot. map.insert (map_values (node_at pool.records) t.nodes) id.0 (node_or_none slot)) written in
      record {
        fits = record {
          nodes = finds_relabelled true t.owner t.nodes pool.records pool'.records key but fits.nodes kept;
          rels = finds_relabelled false t.owner t.rels pool.records pool'.records key but fits.rels kept;
          incidence = subst (IsIncidence t.incidence) (sym rels) fits.incidence;
        };
        content = λ i. record { nodes = nodes i; rels = rels i };
        others = others_stay t.owner pool pool' (only_own t.owner key pool.records pool'.records but (own_of_label _ _ _ was) (subst (IsOwn t.owner) (sym written) refl));
      }

  pub node_dropped : (id : ℕ) (ids : FinMap nat_cmp ℕ) → map.get t.nodes id ≡ Some key → get pool'.records key ≡ None → ids ≡ map.remove t.nodes id
      → Step t (record t { nodes = ids }) pool pool' (without_node (content_of t pool) id)
  node_dropped id ids there empty removed =
      let was = (fits.nodes id key).0 there in
      let rels = holds_untouched false t.owner t.rels pool.records pool'.records key but fits.rels rel_or_none (none_of_other false true t.owner id _ true_not_false was) in
      let nodes = ap (map_values (node_at pool'.records)) removed
      ∙ holds_removed true t.owner t.nodes pool.records pool'.records key but fits.nodes node_or_none id there in
      record {
        fits = record {
          nodes = subst (λ m. Finds true t.owner m pool'.records) (sym removed) (finds_removed true t.owner t.nodes pool.records pool'.records key but fits.nodes id there empty);
          rels = finds_untouched false t.owner t.rels pool.records pool'.records key but fits.rels (none_of_other false true t.owner id _ true_not_false was) (none_of_none false t.owner _ empty);
          incidence = subst (IsIncidence t.incidence) (sym rels) fits.incidence;
        };
        content = λ i. record { nodes = nodes i; rels = rels i };
        others = others_stay t.owner pool pool' (only_own t.owner key pool.records pool'.records but (own_of_label _ _ _ was) (own_of_none _ _ empty));
      }

  pub rel_added : (id : RelId) (rel : RelRecord) (ids : FinMap nat_cmp ℕ) (incidence : Incidence) → map.get t.rels id.0 ≡ None → get pool.records key ≡ None
      → get pool'.records key ≡ Some (rel_record t.owner id.0 rel) → ids ≡ map.insert t.rels id.0 key
      → IsIncidence incidence (map.insert (content_of t pool).rels id.0 rel)
      → Step t (record t { rels = ids; incidence = incidence }) pool pool' (with_rel (content_of t pool) id.0 rel)
  rel_added id rel ids incidence absent empty written inserted links =
      let nodes = holds_untouched true t.owner t.nodes pool.records pool'.records key but fits.nodes node_or_none (none_of_none true t.owner _ empty) in
      let rels = ap (map_values (rel_at pool'.records)) inserted
      ∙ holds_added false t.owner t.rels pool.records pool'.records key but fits.rels rel_or_none id.0 empty
      ∙ ap (λ slot. map.insert (map_values (rel_at pool.records) t.rels) id.0 (rel_or_none slot)) written in
      record {
        fits = record {
          nodes = finds_untouched true t.owner t.nodes pool.records pool'.records key but fits.nodes (none_of_none true t.owner _ empty) (none_of_other true false t.owner id.0 _ false_not_true (ap label written));
          rels = subst (λ m. Finds false t.owner m pool'.records) (sym inserted) (finds_added false t.owner t.rels pool.records pool'.records key but fits.rels id.0 absent empty (ap label written));
          incidence = subst (IsIncidence incidence) (sym rels) links;
        };
        content = λ i. record { nodes = nodes i; rels = rels i };
        others = others_stay t.owner pool pool' (only_own t.owner key pool.records pool'.records but (own_of_none _ _ empty) (subst (IsOwn t.owner) (sym written) refl));
      }

  pub rel_changed : (id : RelId) (rel : RelRecord) → map.get t.rels id.0 ≡ Some key
      → get pool'.records key ≡ Some (rel_record t.owner id.0 rel)
      → IsIncidence t.incidence (map.insert (content_of t pool).rels id.0 rel)
      → Step t t pool pool' (with_rel (content_of t pool) id.0 rel)
  rel_changed id rel there written links =
      let was = (fits.rels id.0 key).0 there in
      let kept : label (get pool'.records key) ≡ label (get pool.records key) = ap label written ∙ sym was in
      let nodes = holds_untouched true t.owner t.nodes pool.records pool'.records key but fits.nodes node_or_none (none_of_other true false t.owner id.0 _ false_not_true was) in
      let rels = holds_changed false t.owner t.rels pool.records pool'.records key but fits.rels rel_or_none id.0 there
      ∙ ap (λ slot. map.insert (map_values (rel_at pool.records) t.rels) id.0 (rel_or_none slot)) written in
      record {
        fits = record {
          nodes = finds_relabelled true t.owner t.nodes pool.records pool'.records key but fits.nodes kept;
          rels = finds_relabelled false t.owner t.rels pool.records pool'.records key but fits.rels kept;
          incidence = subst (IsIncidence t.incidence) (sym rels) links;
        };
        content = λ i. record { nodes = nodes i; rels = rels i };
        others = others_stay t.owner pool pool' (only_own t.owner key pool.records pool'.records but (own_of_label _ _ _ was) (subst (IsOwn t.owner) (sym written) refl));
      }

  pub rel_dropped : (id : ℕ) (ids : FinMap nat_cmp ℕ) (incidence : Incidence) → map.get t.rels id ≡ Some key → get pool'.records key ≡ None → ids ≡ map.remove t.rels id
      → IsIncidence incidence (map.remove (content_of t pool).rels id)
      → Step t (record t { rels = ids; incidence = incidence }) pool pool' (without_rel (content_of t pool) id)
  rel_dropped id ids incidence there empty removed links =
      let was = (fits.rels id key).0 there in
      let nodes = holds_untouched true t.owner t.nodes pool.records pool'.records key but fits.nodes node_or_none (none_of_other true false t.owner id _ false_not_true was) in
      let rels = ap (map_values (rel_at pool'.records)) removed
      ∙ holds_removed false t.owner t.rels pool.records pool'.records key but fits.rels rel_or_none id there in
      record {
        fits = record {
          nodes = finds_untouched true t.owner t.nodes pool.records pool'.records key but fits.nodes (none_of_other true false t.owner id _ false_not_true was) (none_of_none true t.owner _ empty);
          rels = subst (λ m. Finds false t.owner m pool'.records) (sym removed) (finds_removed false t.owner t.rels pool.records pool'.records key but fits.rels id there empty);
          incidence = subst (IsIncidence incidence) (sym rels) links;
        };
        content = λ i. record { nodes = nodes i; rels = rels i };
        others = others_stay t.owner pool pool' (only_own t.owner key pool.records pool'.records but (own_of_label _ _ _ was) (own_of_none _ _ empty));
      }

-- no slot changed, and the tables' own parts mean what they meant
pub nothing_changed : {K : Type 0} (t : PooledTables K) (pool pool' : Pool K) (ids : FinMap nat_cmp ℕ) (incidence : Incidence) → Fits t pool → ((k : ℕ) → get pool'.records k ≡ get pool.records k) → ids ≡ t.rels
    → IsIncidence incidence (content_of t pool).rels
    → Step t (record t { rels = ids; incidence = incidence }) pool pool' (content_of t pool)
nothing_changed t pool pool' ids incidence fits same as_before links =
    let nodes = values_same (node_at pool.records) (node_at pool'.records) t.nodes (λ q k found. ap node_or_none (same k)) in
    let rels = ap (map_values (rel_at pool'.records)) as_before ∙ values_same (rel_at pool.records) (rel_at pool'.records) t.rels (λ q k found. ap rel_or_none (same k)) in
    record {
      fits = record {
        nodes = λ id k. (λ e. ap label (same k) ∙ (fits.nodes id k).0 e, λ e. (fits.nodes id k).1 (ap label (sym (same k)) ∙ e));
        rels = subst (λ m. Finds false t.owner m pool'.records) (sym as_before) (λ id k. (λ e. ap label (same k) ∙ (fits.rels id k).0 e, λ e. (fits.rels id k).1 (ap label (sym (same k)) ∙ e)));
        incidence = subst (IsIncidence incidence) (sym rels) links;
      };
      content = λ i. record { nodes = nodes i; rels = rels i };
      others = others_stay t.owner pool pool' (λ k. inl (same k));
    }

pub at_err : {V E P : Type 0} (r : Result V E) → P → OnErr r P
at_err (Ok v) p = tt
at_err (Err e) p = p
