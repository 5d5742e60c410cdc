-- The lists of an incidence rise, and a relationship that keeps its ends changes none.
use Rattle.std.proofs.Common.{◌≡◌, ◌==◌, ℕ, Bool, cond, Some, inl, inr, refl, sym, ap, subst, ◌∙◌}
use Rattle.std.proofs.lemmas.Bool.{cases_eq}
use Rattle.std.specs.FinMap.{FinMap, get, insert, remove}
use Rattle.std.specs.Ordering.{nat_cmp}
use Rattle.pg_graph.proofs.Ids.{ids_rise, list_with}
use Rattle.pg_graph.proofs.Maps.{same_numbered, get_inserted, get_inserted_other, get_removed, get_removed_other}
use Rattle.pg_graph.specs.Content.{ids_where}
use Rattle.pg_graph.specs.Links.{AllRise, IsIncidence, with_id}
use Rattle.pg_graph.specs.Sorted.{Rises}
use Rattle.pg_graph.specs.declared.links.Incidence.{Incidence}
use Rattle.pg_graph.specs.declared.records.RelRecord.{RelRecord}

module _ {X : Type 0} (m : FinMap nat_cmp X) (k : ℕ) where
  overwritten : (v : X) → insert (remove m k) k v ≡ insert m k v
  overwritten v = same_numbered _ _ (λ q. elim (cases_eq q k) [
    | inl same ↦ subst (λ (r : ℕ). get (insert (remove m k) k v) r ≡ get (insert m k v) r) (sym same) (get_inserted (remove m k) k v ∙ sym (get_inserted m k v))
    | inr ne ↦ get_inserted_other (remove m k) k v q ne ∙ get_removed_other m k q ne ∙ sym (get_inserted_other m k v q ne)
  ])

  put_again : (v : X) → get m k ≡ Some v → insert m k v ≡ m
  put_again v there = same_numbered _ _ (λ q. elim (cases_eq q k) [
    | inl same ↦ subst (λ (r : ℕ). get (insert m k v) r ≡ get m r) (sym same) (get_inserted m k v ∙ sym there)
    | inr ne ↦ get_inserted_other m k v q ne
  ])

  ids_replaced : (p : X → Bool) (old new : X) → get m k ≡ Some old → p new ≡ p old → ids_where p (insert m k new) ≡ ids_where p m
  ids_replaced p old new there same =
      ap (ids_where p) (sym (overwritten new))
      ∙ sym (list_with p (remove m k) k new (p new) refl (get_removed m k))
      ∙ ap (λ b. cond b (with_id k (ids_where p (remove m k))) (ids_where p (remove m k))) same
      ∙ list_with p (remove m k) k old (p old) refl (get_removed m k)
      ∙ ap (ids_where p) (overwritten old ∙ put_again old there)

module _ (i : Incidence) (rels : FinMap nat_cmp RelRecord) (is : IsIncidence i rels) where
  pub outgoing_rise : AllRise i.outgoing
  outgoing_rise q = subst (Rises (λ n. n)) (sym (is.outgoing q)) (ids_rise (λ r. r.source.0 == q) rels)

  pub incoming_rise : AllRise i.incoming
  incoming_rise q = subst (Rises (λ n. n)) (sym (is.incoming q)) (ids_rise (λ r. r.target.0 == q) rels)

  pub ends_stay : (id : ℕ) (old new : RelRecord) → get rels id ≡ Some old → new.source ≡ old.source → new.target ≡ old.target → IsIncidence i (insert rels id new)
  ends_stay id old new there source target = record {
    outgoing = λ q. is.outgoing q ∙ sym (ids_replaced rels id (λ r. r.source.0 == q) old new there (ap (λ n. n.0 == q) source));
    incoming = λ q. is.incoming q ∙ sym (ids_replaced rels id (λ r. r.target.0 == q) old new there (ap (λ n. n.0 == q) target));
  }
