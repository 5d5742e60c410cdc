-- Changes of sets by value that a hash map keeps, after which none is empty.
use Rattle.std.proofs.Common.{◌≡◌, ℕ, Bool, true, false, cond, List, [], ◌∷◌, Option, Some, None, Result, Ok, Err, OnOk, OnErr, IfSome, refl, sym, ap, subst, ◌∙◌}
use Rattle.std.proofs.lemmas.Cmp.{on_equiv, eq_by_cmp_equiv}
use Rattle.std.proofs.lemmas.List.Elements.{All-nil, All-cons, All-head, All-tail}
use Rattle.std.proofs.lemmas.Map.Entries.{All-lookup}
use Rattle.std.proofs.lemmas.Map.Views.{All-values_from_lookup}
use Rattle.std.specs.Cmp.{IsEquivalence}
use Rattle.std.specs.FinMap as map
use Rattle.std.specs.List.{All, IsDistinct}
use Rattle.std.specs.Map.{keys_of, lookup, values_of}
use Rattle.std.specs.Ordering.{on, eq_by_cmp}
use Rattle.pg_graph.specs.Removed.{Ids}
use Rattle.pg_index.proofs.Indexes.{found_alike}
use Rattle.pg_index.proofs.KeptLemmas.{has_some}
use Rattle.pg_index.specs.Index.{the_ids}
use Rattle.pg_index.specs.Kept.{NoneIsEmpty}
use Rattle.pg_meaning.specs.Order.{value_order}
use Rattle.pg_meaning.specs.OrderLaws.{order_total}
use Rattle.pg_value_core.specs.View.{view}
use Rattle.pg_value_core.specs.declared.value.Value.{Value}

abbrev pub one_value : Value → Value → Bool
one_value = on view (eq_by_cmp value_order)

pub one_equiv : IsEquivalence one_value
one_equiv = on_equiv view (eq_by_cmp_equiv order_total)

each_entry : {K : Type 0} (es : List (K × Ids)) → NoneIsEmpty (values_of es) → All (λ e. has_some e.1) es
each_entry [] kept = All-nil (λ e. has_some e.1)
each_entry (e ∷ es) kept = All-cons (λ e. has_some e.1) e es (All-head has_some e.1 (values_of es) kept) (each_entry es (All-tail has_some e.1 (values_of es) kept))

some_found : {K : Type 0} (test : K → Bool) (es : List (K × Ids)) → NoneIsEmpty (values_of es) → IfSome (lookup test es) has_some
some_found test es kept = All-lookup has_some test es (each_entry es kept)

module _ {K : Type 0} {E : K → K → Bool} (laws : IsEquivalence E) where
  with_new : (old new : List (K × Ids)) (k : K) (ids : Ids) → ((q : K) → lookup (E q) new ≡ cond (E k q) (Some ids) (lookup (E q) old)) → IsDistinct E (keys_of new) → NoneIsEmpty (values_of old) → has_some ids
      → NoneIsEmpty (values_of new)
  with_new old new k ids found distinct kept some = All-values_from_lookup laws has_some new distinct (λ q. subst (λ (o : Option Ids). IfSome o has_some) (sym (found q)) (by_test (E k q) (lookup (E q) old) (some_found (E q) old kept)))
    where
      by_test : (b : Bool) (o : Option Ids) → IfSome o has_some → IfSome (cond b (Some ids) o) has_some
      by_test true o h = some
      by_test false o h = h

  -- a set that comes to a key, or none
  pub with_new_set : {V F : Type 0} (r : Result V F) (old new : List (K × Ids)) (k : K) (ids : Ids) → OnOk r ((q : K) → lookup (E q) new ≡ cond (E k q) (Some ids) (lookup (E q) old)) → OnErr r (new ≡ old)
      → IsDistinct E (keys_of new) → NoneIsEmpty (values_of old) → has_some ids → NoneIsEmpty (values_of new)
  with_new_set (Ok v) old new k ids found same distinct kept some = with_new old new k ids found distinct kept some
  with_new_set (Err e) old new k ids found same distinct kept some = subst (λ es. NoneIsEmpty (values_of es)) (sym same) kept

  -- a key that leaves, whatever its set was then
  pub without_key : (old between new : List (K × Ids)) (k : K) → ((q : K) → E k q ≡ false → lookup (E q) between ≡ lookup (E q) old) → ((q : K) → E k q ≡ false → lookup (E q) new ≡ lookup (E q) between)
      → lookup (E k) new ≡ None → IsDistinct E (keys_of new) → NoneIsEmpty (values_of old) → NoneIsEmpty (values_of new)
  without_key old between new k others left none distinct kept = All-values_from_lookup laws has_some new distinct (λ q. by_test q (E k q) refl)
    where
      by_test : (q : K) (b : Bool) → E k q ≡ b → IfSome (lookup (E q) new) has_some
      by_test q true is = subst (λ (o : Option Ids). IfSome o has_some) (sym (found_alike laws new k q is ∙ none)) tt
      by_test q false is = subst (λ (o : Option Ids). IfSome o has_some) (sym (left q is ∙ others q is)) (some_found (E q) old kept)

  -- a set that is put back leaves all sets as they were
  pub same_set : (old new : List (K × Ids)) (k : K) (was is : Ids) → Some was ≡ lookup (E k) old → is ≡ was → ((q : K) → lookup (E q) new ≡ cond (E k q) (Some is) (lookup (E q) old))
      → (q : K) → the_ids (lookup (E q) new) ≡ the_ids (lookup (E q) old)
  same_set old new k was is there same found q = ap the_ids (found q ∙ by_test (E k q) refl)
    where
      by_test : (b : Bool) → E k q ≡ b → cond b (Some is) (lookup (E q) old) ≡ lookup (E q) old
      by_test true at = ap Some same ∙ there ∙ sym (found_alike laws old k q at)
      by_test false at = refl

module _ {K : Type 0} (E : K → K → Bool) (old between new : List (K × Ids)) (k : K) (was is : Ids) (id : ℕ) where
  -- a set that lost its last id leaves with its key
  pub set_gone : Some was ≡ lookup (E k) old → is ≡ map.remove was id → is ≡ map.empty → ((q : K) → lookup (E q) between ≡ cond (E k q) (Some is) (lookup (E q) old))
      → ((q : K) → lookup (E q) new ≡ cond (E k q) None (lookup (E q) between))
      → (q : K) → the_ids (lookup (E q) new) ≡ cond (E k q) (map.remove (the_ids (lookup (E k) old)) id) (the_ids (lookup (E q) old))
  set_gone there less empty found left q = ap the_ids (left q ∙ ap (λ o. cond (E k q) None o) (found q)) ∙ by_test (E k q) (lookup (E q) old)
    where
      by_test : (b : Bool) (o : Option Ids) → the_ids (cond b None (cond b (Some is) o)) ≡ cond b (map.remove (the_ids (lookup (E k) old)) id) (the_ids o)
      by_test true o = sym empty ∙ less ∙ ap (λ found. map.remove (the_ids found) id) there
      by_test false o = refl
