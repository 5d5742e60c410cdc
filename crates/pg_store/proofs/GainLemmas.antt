-- Sets to which ids come with notes, or from which an id goes.
use Rattle.std.proofs.Common.{◌≡◌, ◌≢◌, ◌==◌, ℕ, zero, suc, Bool, true, false, not, cond, filter, List, [], ◌∷◌, length, get_or, Result, Ok, Err, OnOk, OnErr, inl, inr, arith, refl, sym, ap, ◌∙◌}
use Rattle.std.specs.Prelude.{◌&&◌, ◌||◌, ◌<◌}
use Rattle.std.proofs.lemmas.Bool.{cases_eq}
use Rattle.std.proofs.lemmas.Bool.Decides.{nat_tests}
use Rattle.std.specs.BTreeMap.{is_at}
use Rattle.std.specs.FinMap as map
use Rattle.std.specs.List.{list_any, remove}
use Rattle.std.specs.Ordering.{nat_cmp}
use Rattle.pg_graph.proofs.Removed.{has_inserted_other, has_removed, has_removed_other}
use Rattle.pg_graph.specs.Records.{with_label as label_put}
use Rattle.pg_graph.specs.Removed.{Ids, has_id}
use Rattle.pg_graph.specs.declared.records.NodeRecord.{NodeRecord}
use Rattle.pg_index.specs.Index.{ids_at}
use Rattle.pg_index.specs.Properties.{finds, has_pair, is_for, is_found_by, pairs_of, some_finds}
use Rattle.pg_index.specs.declared.properties.PropertyIndex.{PropertyIndex}
use Rattle.pg_store.proofs.Edited.{any_with}
use Rattle.pg_store.proofs.NoteLemmas.{and_left, and_right, equal_number, or_either, or_left, or_on, or_right}
use Rattle.pg_store.proofs.SetLemmas.{same_key as one_label, tied}
use Rattle.pg_store.specs.Covers.{Key, every, with_label, with_value, belongs}
use Rattle.pg_store.specs.Noted.{Gains, StayNoted, is_in, is_noted, same_key}
use Rattle.pg_store.specs.declared.sets.Sets.{Sets}
use Rattle.pg_value_core.specs.declared.value.Value.{Value}

pub gains_none : (sets : Sets) → Gains sets sets
gains_none sets = record { come = λ k i h. or_left (is_in sets k i) (is_noted sets.stale_ids.items k i) h; stay = λ k i h. h; pairs = refl }

pub gains_then : (a b c : Sets) → Gains a b → Gains b c → Gains a c
gains_then a b c p q = record {
  come = λ k i h.
      or_either (is_in b k i) (is_noted c.stale_ids.items k i) (is_in a k i || is_noted c.stale_ids.items k i)
      (λ g. or_on (is_in a k i) (is_noted b.stale_ids.items k i) (is_in a k i) (is_noted c.stale_ids.items k i) (λ e. e) (q.stay k i) (p.come k i g))
      (or_right (is_in a k i) (is_noted c.stale_ids.items k i))
      (q.come k i h);
  stay = λ k i h. q.stay k i (p.stay k i h);
  pairs = q.pairs ∙ p.pairs;
}

-- sets alike
abbrev pub Alike : (old new : Sets) → Type 0
Alike old new = (new.all ≡ old.all) × (new.labels ≡ old.labels) × (new.indexes ≡ old.indexes)

pub alike_in : (old new : Sets) → Alike old new → (k : Key) (i : ℕ) → is_in new k i ≡ is_in old k i
alike_in old new alike every i = ap (λ (ids : Ids). has_id ids i) alike.0
alike_in old new alike (with_label l) i = ap (λ x. has_id (ids_at nat_cmp x l) i) alike.1
alike_in old new alike (with_value l k v) i = ap (λ (xs : _). some_finds xs.items l k v i) alike.2

-- only notes come
pub gains_notes : (old new : Sets) → Alike old new → StayNoted old.stale_ids.items new.stale_ids.items → Gains old new
gains_notes old new alike stay = record {
  come = λ k i h. or_left (is_in old k i) (is_noted new.stale_ids.items k i) (sym (alike_in old new alike k i) ∙ h);
  stay = stay;
  pairs = ap (λ (xs : _). pairs_of xs.items) alike.2;
}

module _ (old new : Sets) (id : ℕ) (stay : StayNoted old.stale_ids.items new.stale_ids.items) (indexes : new.indexes ≡ old.indexes) where
  here_or_there : (k : Key) (i : ℕ) (was now : Bool) → (i ≢ id → now ≡ true → was ≡ true) → is_noted new.stale_ids.items k id ≡ true → now ≡ true → (was || is_noted new.stale_ids.items k i) ≡ true
  here_or_there k i was now other noted h = elim (cases_eq i id) [
    | inl same ↦ or_right was (is_noted new.stale_ids.items k i) (ap (is_noted new.stale_ids.items k) same ∙ noted)
    | inr ne ↦ or_left was (is_noted new.stale_ids.items k i) (other ne h)
  ]

  -- an id comes under a label
  module _ (l : ℕ) (all : new.all ≡ old.all) where
    abbrev Put : Type 0
    Put = (q : ℕ) → ids_at nat_cmp new.labels q ≡ cond (is_at (nat_cmp l) q) (map.insert (ids_at nat_cmp old.labels l) id tt) (ids_at nat_cmp old.labels q)

    abbrev Same : Type 0
    Same = (q : ℕ) → ids_at nat_cmp new.labels q ≡ ids_at nat_cmp old.labels q

    label_comes : {V E : Type 0} (r : Result V E) → OnOk r Put → OnErr r Same → is_noted new.stale_ids.items (with_label l) id ≡ true → (k : Key) (i : ℕ) → is_in new k i ≡ true → (is_in old k i || is_noted new.stale_ids.items k i) ≡ true
    label_comes r put same noted every i h = or_left (has_id old.all i) (is_noted new.stale_ids.items every i) (ap (λ (ids : Ids). has_id ids i) (sym all) ∙ h)
    label_comes r put same noted (with_value q k v) i h = or_left (some_finds old.indexes.items q k v i) (is_noted new.stale_ids.items (with_value q k v) i) (ap (λ (xs : _). some_finds xs.items q k v i) (sym indexes) ∙ h)
    label_comes (Err e) put same noted (with_label q) i h = or_left (has_id (ids_at nat_cmp old.labels q) i) (is_noted new.stale_ids.items (with_label q) i) (ap (λ (ids : Ids). has_id ids i) (sym (same q)) ∙ h)
    label_comes (Ok x) put same noted (with_label q) i h = by_test (is_at (nat_cmp l) q) refl (sym (ap (λ (ids : Ids). has_id ids i) (put q)) ∙ h)
      where
        by_test : (b : Bool) → is_at (nat_cmp l) q ≡ b → has_id (cond b (map.insert (ids_at nat_cmp old.labels l) id tt) (ids_at nat_cmp old.labels q)) i ≡ true → (is_in old (with_label q) i || is_noted new.stale_ids.items (with_label q) i) ≡ true
        by_test false is h = or_left (has_id (ids_at nat_cmp old.labels q) i) (is_noted new.stale_ids.items (with_label q) i) h
        by_test true is h =
            here_or_there (with_label q) i (has_id (ids_at nat_cmp old.labels q) i) (has_id (map.insert (ids_at nat_cmp old.labels l) id tt) i)
            (λ ne g. ap (λ m. has_id (ids_at nat_cmp old.labels m) i) (sym (one_label l q is)) ∙ sym (has_inserted_other (ids_at nat_cmp old.labels l) id i ne) ∙ g)
            (ap (λ m. is_noted new.stale_ids.items (with_label m) id) (sym (one_label l q is)) ∙ noted) h

    pub label_gains : {V E : Type 0} (r : Result V E) → OnOk r Put → OnErr r Same → is_noted new.stale_ids.items (with_label l) id ≡ true → Gains old new
    label_gains r put same noted = record { come = label_comes r put same noted; stay = stay; pairs = ap (λ (xs : _). pairs_of xs.items) indexes }

  -- an id comes to all nodes
  module _ (labels : new.labels ≡ old.labels) where
    all_comes : {V E : Type 0} (r : Result V E) → OnOk r (new.all ≡ map.insert old.all id tt) → OnErr r (new.all ≡ old.all) → is_noted new.stale_ids.items every id ≡ true → (k : Key) (i : ℕ) → is_in new k i ≡ true → (is_in old k i || is_noted new.stale_ids.items k i) ≡ true
    all_comes r put same noted (with_label q) i h = or_left (has_id (ids_at nat_cmp old.labels q) i) (is_noted new.stale_ids.items (with_label q) i) (ap (λ x. has_id (ids_at nat_cmp x q) i) (sym labels) ∙ h)
    all_comes r put same noted (with_value q k v) i h = or_left (some_finds old.indexes.items q k v i) (is_noted new.stale_ids.items (with_value q k v) i) (ap (λ (xs : _). some_finds xs.items q k v i) (sym indexes) ∙ h)
    all_comes (Err e) put same noted every i h = or_left (has_id old.all i) (is_noted new.stale_ids.items every i) (ap (λ (ids : Ids). has_id ids i) (sym same) ∙ h)
    all_comes (Ok x) put same noted every i h =
        here_or_there every i (has_id old.all i) (has_id (map.insert old.all id tt) i) (λ ne g. sym (has_inserted_other old.all id i ne) ∙ g) noted (ap (λ (ids : Ids). has_id ids i) (sym put) ∙ h)

    pub all_gains : {V E : Type 0} (r : Result V E) → OnOk r (new.all ≡ map.insert old.all id tt) → OnErr r (new.all ≡ old.all) → is_noted new.stale_ids.items every id ≡ true → Gains old new
    all_gains r put same noted = record { come = all_comes r put same noted; stay = stay; pairs = ap (λ (xs : _). pairs_of xs.items) indexes }

-- where an index finds an id, there is one
pub some_pair : (xs : List PropertyIndex) (l k : ℕ) (v : Value) (i : ℕ) → some_finds xs l k v i ≡ true → has_pair (l, k) (pairs_of xs) ≡ true
some_pair [] l k v i h = h
some_pair (x ∷ xs) l k v i h =
    or_on (is_for x l k && finds x v i) (some_finds xs l k v i) (is_for x l k) (has_pair (l, k) (pairs_of xs)) (and_left (is_for x l k) (finds x v i)) (some_pair xs l k v i) h

-- only indexes gain an id
pub values_gain : (old new : Sets) (n : NodeRecord) (id : ℕ) → new.all ≡ old.all → new.labels ≡ old.labels → StayNoted old.stale_ids.items new.stale_ids.items → pairs_of new.indexes.items ≡ pairs_of old.indexes.items
    → ((l k : ℕ) (v : Value) (i : ℕ) → some_finds new.indexes.items l k v i ≡ true → (some_finds old.indexes.items l k v i || (is_found_by l k v n && i == id)) ≡ true)
    → ((l k : ℕ) (v : Value) → has_pair (l, k) (pairs_of old.indexes.items) ≡ true → is_found_by l k v n ≡ true → (some_finds old.indexes.items l k v id || is_noted new.stale_ids.items (with_value l k v) id) ≡ true)
    → Gains old new
values_gain old new n id all labels stay pairs come arrive = record { come = each; stay = stay; pairs = pairs }
  where
    number_is : (a b : ℕ) → (a == b) ≡ true → a ≡ b
    number_is a b h = grind (arith, nat_tests)

    each : (k : Key) (i : ℕ) → is_in new k i ≡ true → (is_in old k i || is_noted new.stale_ids.items k i) ≡ true
    each every i h = or_left (has_id old.all i) (is_noted new.stale_ids.items every i) (ap (λ (ids : Ids). has_id ids i) (sym all) ∙ h)
    each (with_label q) i h = or_left (has_id (ids_at nat_cmp old.labels q) i) (is_noted new.stale_ids.items (with_label q) i) (ap (λ x. has_id (ids_at nat_cmp x q) i) (sym labels) ∙ h)
    each (with_value l k v) i h =
        or_either (some_finds old.indexes.items l k v i) (is_found_by l k v n && i == id) (some_finds old.indexes.items l k v i || is_noted new.stale_ids.items (with_value l k v) i)
        (or_left (some_finds old.indexes.items l k v i) (is_noted new.stale_ids.items (with_value l k v) i))
        (λ found.
        let same : i ≡ id = number_is i id (and_right (is_found_by l k v n) (i == id) found) in
        ap (λ j. some_finds old.indexes.items l k v j || is_noted new.stale_ids.items (with_value l k v) j) same
        ∙ arrive l k v (ap (has_pair (l, k)) (sym pairs) ∙ some_pair new.indexes.items l k v i h) (and_left (is_found_by l k v n) (i == id) found))
        (come l k v i h)

-- ---- an id goes

less_itself : (a b : Bool) → b ≡ false → a ≡ (a && not b)
less_itself true false h = refl
less_itself false b h = refl
less_itself true true h = absurd cc

less_all : (a b : Bool) → b ≡ true → false ≡ (a && not b)
less_all true true h = refl
less_all false b h = refl
less_all true false h = absurd cc

other_number : (m n : ℕ) → n ≢ m → (m == n) ≡ false
other_number m n ne = by_test (m == n) refl
  where
    number_is : (a b : ℕ) → (a == b) ≡ true → b ≡ a
    number_is a b h = grind (arith, nat_tests)

    by_test : (b : Bool) → (m == n) ≡ b → b ≡ false
    by_test false e = refl
    by_test true e = absurd (ne (number_is m n e))

removed_is : (ids : Ids) (id i : ℕ) (b : Bool) → b ≡ true → has_id (map.remove ids id) i ≡ (has_id ids i && not (b && id == i))
removed_is ids id i false is = absurd cc
removed_is ids id i true is = elim (cases_eq i id) [
  | inl same ↦ ap (has_id (map.remove ids id)) same ∙ has_removed ids id ∙ less_all (has_id ids i) (id == i) (equal_number id i (sym same))
  | inr ne ↦ has_removed_other ids id i ne ∙ less_itself (has_id ids i) (id == i) (other_number id i ne)
]

module _ (old new : Sets) (id : ℕ) (indexes : new.indexes ≡ old.indexes) where
  pub all_left : new.all ≡ map.remove old.all id → new.labels ≡ old.labels → (k : Key) (i : ℕ) → is_in new k i ≡ (is_in old k i && not (same_key every k && id == i))
  all_left gone labels every i = ap (λ (ids : Ids). has_id ids i) gone ∙ removed_is old.all id i true refl
  all_left gone labels (with_label q) i = ap (λ x. has_id (ids_at nat_cmp x q) i) labels ∙ less_itself (has_id (ids_at nat_cmp old.labels q) i) false refl
  all_left gone labels (with_value l k v) i = ap (λ (xs : _). some_finds xs.items l k v i) indexes ∙ less_itself (some_finds old.indexes.items l k v i) false refl

  pub label_left : (l : ℕ) → new.all ≡ old.all → ((q : ℕ) → ids_at nat_cmp new.labels q ≡ cond (is_at (nat_cmp l) q) (map.remove (ids_at nat_cmp old.labels l) id) (ids_at nat_cmp old.labels q))
      → (k : Key) (i : ℕ) → is_in new k i ≡ (is_in old k i && not (same_key (with_label l) k && id == i))
  label_left l all gone every i = ap (λ (ids : Ids). has_id ids i) all ∙ less_itself (has_id old.all i) false refl
  label_left l all gone (with_value m k v) i = ap (λ (xs : _). some_finds xs.items m k v i) indexes ∙ less_itself (some_finds old.indexes.items m k v i) false refl
  label_left l all gone (with_label q) i = ap (λ (ids : Ids). has_id ids i) (gone q) ∙ by_test (is_at (nat_cmp l) q) refl
    where
      apart : (l q : ℕ) → is_at (nat_cmp l) q ≡ false → (l == q) ≡ false
      apart l q is = by_number (l == q) refl
        where
          number_is : (a b : ℕ) → (a == b) ≡ true → a ≡ b
          number_is a b h = grind (arith, nat_tests)

          by_number : (b : Bool) → (l == q) ≡ b → b ≡ false
          by_number false e = refl
          by_number true e = let here = ap (is_at (nat_cmp l)) (sym (number_is l q e)) ∙ tied l in absurd (cc (here, is))

      by_test : (b : Bool) → is_at (nat_cmp l) q ≡ b → has_id (cond b (map.remove (ids_at nat_cmp old.labels l) id) (ids_at nat_cmp old.labels q)) i ≡ (has_id (ids_at nat_cmp old.labels q) i && not (l == q && id == i))
      by_test true is =
          removed_is (ids_at nat_cmp old.labels l) id i (l == q) (equal_number l q (one_label l q is))
          ∙ ap (λ m. has_id (ids_at nat_cmp old.labels m) i && not (l == q && id == i)) (one_label l q is)
      by_test false is = less_itself (has_id (ids_at nat_cmp old.labels q) i) (l == q && id == i) (ap (λ b. b && id == i) (apart l q is))

pub values_left : (old new : Sets) (l k : ℕ) (value : Value) (id : ℕ) → new.all ≡ old.all → new.labels ≡ old.labels
    → ((m q : ℕ) (v : Value) (i : ℕ) → some_finds new.indexes.items m q v i ≡ (some_finds old.indexes.items m q v i && not (same_key (with_value l k value) (with_value m q v) && id == i)))
    → (key : Key) (i : ℕ) → is_in new key i ≡ (is_in old key i && not (same_key (with_value l k value) key && id == i))
values_left old new l k value id all labels gone every i = ap (λ (ids : Ids). has_id ids i) all ∙ less_itself (has_id old.all i) false refl
values_left old new l k value id all labels gone (with_label q) i = ap (λ x. has_id (ids_at nat_cmp x q) i) labels ∙ less_itself (has_id (ids_at nat_cmp old.labels q) i) false refl
values_left old new l k value id all labels gone (with_value m q v) i = gone m q v i

-- ---- fewer indexes

pub fewer_finds : (xs : List PropertyIndex) (at l k : ℕ) (v : Value) (i : ℕ) → some_finds (remove xs at) l k v i ≡ true → some_finds xs l k v i ≡ true
fewer_finds [] zero l k v i h = h
fewer_finds [] (suc at) l k v i h = h
fewer_finds (x ∷ xs) zero l k v i h = or_right (is_for x l k && finds x v i) (some_finds xs l k v i) h
fewer_finds (x ∷ xs) (suc at) l k v i h =
    or_on (is_for x l k && finds x v i) (some_finds (remove xs at) l k v i) (is_for x l k && finds x v i) (some_finds xs l k v i) (λ g. g) (fewer_finds xs at l k v i) h

abbrev pub is_other : (label key : ℕ) → ℕ × ℕ → Bool
is_other label key p = not (p.0 == label && p.1 == key)

pub other_pairs : (label key : ℕ) (xs : List PropertyIndex) (at : ℕ) (d : PropertyIndex) → at < length xs → is_for (get_or xs at d) label key ≡ true
    → filter (is_other label key) (pairs_of (remove xs at)) ≡ filter (is_other label key) (pairs_of xs)
other_pairs label key [] at d within for = absurd (omega (arith, within))
other_pairs label key (x ∷ xs) zero d within for = sym (ap (λ b. cond (not b) ((x.label, x.key) ∷ filter (is_other label key) (pairs_of xs)) (filter (is_other label key) (pairs_of xs))) for)
other_pairs label key (x ∷ xs) (suc at) d within for =
    ap (λ ps. cond (is_other label key (x.label, x.key)) ((x.label, x.key) ∷ ps) ps) (other_pairs label key xs at d (omega (arith, within)) for)

pub all_others : (label key : ℕ) (ps : List (ℕ × ℕ)) → has_pair (label, key) ps ≡ false → ps ≡ filter (is_other label key) ps
all_others label key [] none = refl
all_others label key (p ∷ ps) none = by_test (p.0 == label && p.1 == key) refl none (all_others label key ps)
  where
    by_test : (b : Bool) → (p.0 == label && p.1 == key) ≡ b → (b || has_pair (label, key) ps) ≡ false → (has_pair (label, key) ps ≡ false → ps ≡ filter (is_other label key) ps) → p ∷ ps ≡ cond (not b) (p ∷ filter (is_other label key) ps) (filter (is_other label key) ps)
    by_test true is none rest = absurd cc
    by_test false is none rest = ap (λ qs. p ∷ qs) (rest none)

-- ---- a node with one label more

pub more_belongs : (n m : NodeRecord) (l : ℕ) → m.labels ≡ label_put n.labels l → m.properties ≡ n.properties → (k : Key) → belongs k n ≡ true → belongs k m ≡ true
more_belongs n m l more same every h = refl
more_belongs n m l more same (with_label q) h = ap (list_any (λ x. x == q)) more ∙ any_with (λ x. x == q) l n.labels ∙ or_right (l == q) (list_any (λ x. x == q) n.labels) h
more_belongs n m l more same (with_value q k v) h =
    ap (λ (ls : List ℕ). is_found_by q k v (record m { labels = ls })) more ∙ ap (λ ps. is_found_by q k v (record m { labels = label_put n.labels l; properties = ps })) same
    ∙ both (list_any (λ x. x == q) n.labels) (list_any (λ x. x == q) (label_put n.labels l)) _ (λ g. any_with (λ x. x == q) l n.labels ∙ or_right (l == q) (list_any (λ x. x == q) n.labels) g) h
  where
    both : (a b c : Bool) → (a ≡ true → b ≡ true) → (a && c) ≡ true → (b && c) ≡ true
    both true b c f h = ap (λ x. x && c) (f refl) ∙ h
    both false b c f h = absurd cc
