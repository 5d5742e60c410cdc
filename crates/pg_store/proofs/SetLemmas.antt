-- What a set that gains an id, or loses one, says of all of them.
use Rattle.std.proofs.Common.{◌≡◌, ◌==◌, ◌||◌, ℕ, Bool, true, false, cond, List, ◌∷◌, Some, Result, Ok, Err, OnOk, OnErr, inl, inr, arith, refl, sym, ap, subst, ◌∙◌}
use Rattle.std.proofs.lemmas.Bool.{cases_eq}
use Rattle.std.proofs.lemmas.Bool.Decides.{nat_tests}
use Rattle.std.specs.BTreeMap.{is_at}
use Rattle.std.specs.Cmp.{nat_cmp_total, tied_itself, Equal-is}
use Rattle.std.specs.FinMap as map
use Rattle.std.specs.List.{list_any}
use Rattle.std.specs.Ordering.{nat_cmp, is_eq}
use Rattle.pg_graph.proofs.Removed.{has_inserted, has_removed_other, still_some}
use Rattle.pg_graph.specs.Removed.{Ids, has_id}
use Rattle.pg_index.specs.Index.{ids_at}
use Rattle.pg_index.specs.Properties.{all_find, is_found_by}
use Rattle.pg_graph.specs.Stored.{has_number}
use Rattle.pg_index.specs.declared.properties.PropertyIndex.{PropertyIndex}
use Rattle.std.specs.declared.alloc.Global.{Global}
use Rattle.std.specs.Prelude.{Vec}
use Rattle.pg_meaning.specs.Equality.{eq3}
use Rattle.pg_meaning.specs.Logic.{is_true}
use Rattle.pg_meaning.specs.Value as meaning
use Rattle.pg_value_core.specs.View.{view}
use Rattle.std.specs.Option.{option_map_or}
use Rattle.std.specs.Prelude.{◌&&◌}
use Rattle.pg_store.proofs.CoverLemmas.{Has, Grows}
use Rattle.pg_store.specs.Covers.{FindAlike, Key, every, with_label, with_value, belongs, has_in}
use Rattle.pg_store.specs.declared.sets.Sets.{Sets}
use Rattle.pg_value_core.specs.declared.value.Value.{Value}

abbrev Indexes : Type 0
Indexes = Vec PropertyIndex Global

pub tied : (l : ℕ) → is_at (nat_cmp l) l ≡ true
tied l = ap is_eq (tied_itself nat_cmp_total l)

pub same_key : (l q : ℕ) → is_at (nat_cmp l) q ≡ true → l ≡ q
same_key l q h = map.nat_cmp-IsAntisymmetric l q ((Equal-is (nat_cmp l q)).0 h)

module _ (old new : Sets) (id : ℕ) where
  -- an id comes under a label
  module _ (l : ℕ) (all : new.all ≡ old.all) (indexes : new.indexes ≡ old.indexes) where
    abbrev Put : Type 0
    Put = (q : ℕ) → ids_at nat_cmp new.labels q ≡ cond (is_at (nat_cmp l) q) (map.insert (ids_at nat_cmp old.labels l) id tt) (ids_at nat_cmp old.labels q)

    abbrev Same : Type 0
    Same = (q : ℕ) → ids_at nat_cmp new.labels q ≡ ids_at nat_cmp old.labels q

    put_grows : Put → Grows (has_in old) (has_in new)
    put_grows put every i h = ap (λ (ids : Ids). has_id ids i) all ∙ h
    put_grows put (with_value q k v) i h = ap (λ (xs : Indexes). all_find xs.items q k v i) indexes ∙ h
    put_grows put (with_label q) i h = ap (λ (ids : Ids). has_id ids i) (put q) ∙ by_test (is_at (nat_cmp l) q) refl
      where
        by_test : (b : Bool) → is_at (nat_cmp l) q ≡ b → has_id (cond b (map.insert (ids_at nat_cmp old.labels l) id tt) (ids_at nat_cmp old.labels q)) i ≡ true
        by_test true is = still_some (ids_at nat_cmp old.labels l) id tt i (ap (λ k. has_id (ids_at nat_cmp old.labels k) i) (same_key l q is) ∙ h)
        by_test false is = h

    pub label_grows : {V E : Type 0} (r : Result V E) → OnOk r Put → OnErr r Same → Grows (has_in old) (has_in new)
    label_grows (Ok v) put same k i h = put_grows put k i h
    label_grows (Err e) put same every i h = ap (λ (ids : Ids). has_id ids i) all ∙ h
    label_grows (Err e) put same (with_value q k v) i h = ap (λ (xs : Indexes). all_find xs.items q k v i) indexes ∙ h
    label_grows (Err e) put same (with_label q) i h = ap (λ (ids : Ids). has_id ids i) (same q) ∙ h

    pub label_there : {V E : Type 0} (r : Result V E) → OnOk r Put → OnOk r (has_in new (with_label l) id ≡ true)
    label_there (Ok v) put =
        ap (λ (ids : Ids). has_id ids id) (put l)
        ∙ ap (λ b. has_id (cond b (map.insert (ids_at nat_cmp old.labels l) id tt) (ids_at nat_cmp old.labels l)) id) (tied l)
        ∙ has_inserted (ids_at nat_cmp old.labels l) id
    label_there (Err e) put = tt

  -- an id comes to all nodes
  module _ (labels : new.labels ≡ old.labels) (indexes : new.indexes ≡ old.indexes) where
    pub all_grows : {V E : Type 0} (r : Result V E) → OnOk r (new.all ≡ map.insert old.all id tt) → OnErr r (new.all ≡ old.all) → Grows (has_in old) (has_in new)
    all_grows r put same (with_label q) i h = ap (λ (x : _). has_id (ids_at nat_cmp x q) i) labels ∙ h
    all_grows r put same (with_value q k v) i h = ap (λ (xs : Indexes). all_find xs.items q k v i) indexes ∙ h
    all_grows (Ok v) put same every i h = ap (λ (ids : Ids). has_id ids i) put ∙ still_some old.all id tt i h
    all_grows (Err e) put same every i h = ap (λ (ids : Ids). has_id ids i) same ∙ h

    pub all_there : {V E : Type 0} (r : Result V E) → OnOk r (new.all ≡ map.insert old.all id tt) → OnOk r (has_in new every id ≡ true)
    all_there (Ok v) put = ap (λ (ids : Ids). has_id ids id) put ∙ has_inserted old.all id
    all_there (Err e) put = tt

    pub all_loses : new.all ≡ map.remove old.all id → (k : Key) (i : ℕ) → has_in old k i ≡ true → has_in new k i ≡ false → (k ≡ every) × (i ≡ id)
    all_loses gone (with_value q k v) i was now = absurd (cc (was, now, ap (λ (xs : Indexes). all_find xs.items q k v i) indexes))
    all_loses gone (with_label q) i was now = absurd (cc (was, now, ap (λ (x : _). has_id (ids_at nat_cmp x q) i) labels))
    all_loses gone every i was now = elim (cases_eq i id) [
      | inl same ↦ (refl, same)
      | inr ne ↦ let other = has_removed_other old.all id i ne in let is = ap (λ (ids : Ids). has_id ids i) gone in absurd (cc)
    ]

  pub label_loses : (l : ℕ) → new.all ≡ old.all → new.indexes ≡ old.indexes → ((q : ℕ) → ids_at nat_cmp new.labels q ≡ cond (is_at (nat_cmp l) q) (map.remove (ids_at nat_cmp old.labels l) id) (ids_at nat_cmp old.labels q))
      → (k : Key) (i : ℕ) → has_in old k i ≡ true → has_in new k i ≡ false → (k ≡ with_label l) × (i ≡ id)
  label_loses l all indexes gone (with_value q k v) i was now = absurd (cc (was, now, ap (λ (xs : Indexes). all_find xs.items q k v i) indexes))
  label_loses l all indexes gone every i was now = absurd (cc (was, now, ap (λ (ids : Ids). has_id ids i) all))
  label_loses l all indexes gone (with_label q) i was now = by_test (is_at (nat_cmp l) q) refl (sym (ap (λ (ids : Ids). has_id ids i) (gone q)) ∙ now)
    where
      by_test : (b : Bool) → is_at (nat_cmp l) q ≡ b → has_id (cond b (map.remove (ids_at nat_cmp old.labels l) id) (ids_at nat_cmp old.labels q)) i ≡ false → (with_label q ≡ with_label l) × (i ≡ id)
      by_test false is now = absurd (cc (was, now))
      by_test true is now = elim (cases_eq i id) [
        | inl same ↦ (ap with_label (sym (same_key l q is)), same)
        | inr ne ↦ let other = has_removed_other (ids_at nat_cmp old.labels l) id i ne in let here = ap (λ k. has_id (ids_at nat_cmp old.labels k) i) (same_key l q is) in absurd (cc)
      ]

-- one label more is covered
same_label : (x m : ℕ) → (x == m) ≡ true → x ≡ m
same_label x m h = grind (arith, nat_tests)

pub labels_on : (a b : Has) (id x : ℕ) (items more : List ℕ) → Grows a b → b (with_label x) id ≡ true
    → ((m : ℕ) → list_any (λ n. n == m) items ≡ true → list_any (λ n. n == m) (x ∷ more) ≡ false → a (with_label m) id ≡ true)
    → (m : ℕ) → list_any (λ n. n == m) items ≡ true → list_any (λ n. n == m) more ≡ false → b (with_label m) id ≡ true
labels_on a b id x items more grows here before m among none = by_test (x == m) refl
  where
    by_test : (t : Bool) → (x == m) ≡ t → b (with_label m) id ≡ true
    by_test true is = subst (λ k. b (with_label k) id ≡ true) (same_label x m is) here
    by_test false is = grows (with_label m) id (before m among (ap (λ t. t || list_any (λ n. n == m) more) is ∙ none))

-- only indexes gain ids
pub values_grow : (old new : Sets) → new.all ≡ old.all → new.labels ≡ old.labels
    → ((label key : ℕ) (v : Value) (i : ℕ) → all_find old.indexes.items label key v i ≡ true → all_find new.indexes.items label key v i ≡ true) → Grows (has_in old) (has_in new)
values_grow old new all labels grows every i h = ap (λ (ids : Ids). has_id ids i) all ∙ h
values_grow old new all labels grows (with_label l) i h = ap (λ (x : _). has_id (ids_at nat_cmp x l) i) labels ∙ h
values_grow old new all labels grows (with_value l k v) i h = grows l k v i h

-- sets that stay
pub same_grow : (old new : Sets) → new.all ≡ old.all → new.labels ≡ old.labels → new.indexes ≡ old.indexes → Grows (has_in old) (has_in new)
same_grow old new all labels indexes = values_grow old new all labels (λ label key v i h. ap (λ (xs : Indexes). all_find xs.items label key v i) indexes ∙ h)

-- ---- an id that leaves

-- the same key finds the same nodes, and so does one whose value is seen alike
pub alike_when : (k q : Key) → k ≡ q → FindAlike k q
alike_when k q is = λ n. ap (λ x. belongs x n) is

pub valued_alike : (l k label key : ℕ) (v value : Value) → l ≡ label → k ≡ key → view v ≡ view value → FindAlike (with_value l k v) (with_value label key value)
valued_alike l k label key v value is by same = λ n.
    ap (λ x. is_found_by x k v n) is ∙ ap (λ x. is_found_by label x v n) by
    ∙ ap (λ (x : meaning.Value). has_number (Some label) n && option_map_or (λ w. is_true (eq3 w x)) (map.get n.properties key) false) same

-- only indexes lose an id
pub values_lose : (old new : Sets) (label key : ℕ) (value : Value) (id : ℕ) → new.all ≡ old.all → new.labels ≡ old.labels
    → ((l k : ℕ) (v : Value) (i : ℕ) → all_find old.indexes.items l k v i ≡ true → all_find new.indexes.items l k v i ≡ false → (l ≡ label) × (k ≡ key) × (view v ≡ view value) × (i ≡ id))
    → (q : Key) (i : ℕ) → has_in old q i ≡ true → has_in new q i ≡ false → FindAlike q (with_value label key value) × (i ≡ id)
values_lose old new label key value id all labels lost every i was now = absurd (cc (was, now, ap (λ (ids : Ids). has_id ids i) all))
values_lose old new label key value id all labels lost (with_label l) i was now = absurd (cc (was, now, ap (λ (x : _). has_id (ids_at nat_cmp x l) i) labels))
values_lose old new label key value id all labels lost (with_value l k v) i was now =
    let gone = lost l k v i was now in
    (valued_alike l k label key v value gone.0 gone.1 gone.2, gone.3)
