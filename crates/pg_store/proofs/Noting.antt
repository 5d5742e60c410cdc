-- What is in a set and does not belong there stays noted, through each change and back.
use Rattle.std.proofs.Common.{◌≡◌, ◌≢◌, ◌==◌, ℕ, Bool, true, false, not, List, [], ◌∷◌, ◌++◌, Option, Some, None, inl, inr, slice_index_or, refl, sym, ap, subst, ◌∙◌}
use Rattle.std.specs.Prelude.{◌&&◌, ◌||◌}
use Rattle.std.proofs.lemmas.Bool.{cases_eq}
use Rattle.std.proofs.lemmas.List.Folds.{list_any-append}
use Rattle.std.specs.FinMap as map
use Rattle.std.specs.FinMap.{FinMap}
use Rattle.std.specs.Option.{option_map_or}
use Rattle.std.specs.Ordering.{nat_cmp}
use Rattle.pg_graph.proofs.Maps.{get_inserted, get_inserted_other, get_removed_other}
use Rattle.pg_graph.proofs.Removed.{is_kept, without_none}
use Rattle.pg_graph.specs.Removed.{Ids}
use Rattle.pg_graph.specs.declared.records.NodeRecord.{NodeRecord}
use Rattle.pg_index.proofs.PropertyLemmas.{same_value}
use Rattle.pg_index.specs.Properties.{all_find, finds, has_pair, is_for, is_found_by, is_one_value, pairs_of, some_finds}
use Rattle.pg_index.specs.declared.properties.PropertyIndex.{PropertyIndex}
use Rattle.pg_store.proofs.CoverLemmas.{Has}
use Rattle.pg_store.proofs.GainLemmas.{some_pair}
use Rattle.pg_store.proofs.JournalLemmas.{undone_last}
use Rattle.pg_store.proofs.NoteLemmas.{and_both, and_left, and_right, found_alike, or_either, or_left, or_on, or_right, same_number}
use Rattle.pg_store.specs.Covers.{Key, every, with_label, with_value, Covers, belongs, has_in}
use Rattle.pg_store.specs.Journal.{State, live, undo_one, undone}
use Rattle.pg_store.specs.Noted.{AreExact, AreNoted, HasNoted, NoneKeptIsEmpty, StayNoted, has_set, is_in, is_noted, is_there, same_key}
use Rattle.pg_store.specs.declared.journal.Entry.{Entry}
use Rattle.pg_store.specs.declared.sets.Sets.{Sets}
use Rattle.pg_store.specs.declared.wanted.Place.{Place}
use Rattle.pg_store.specs.Wanted.{place_key}
use Rattle.pg_value_core.specs.declared.value.Value.{Value}

abbrev pub StaleIds : Type 0
StaleIds = List (Place × ℕ)

-- ---- the journal

module _ (has : Has) (stale_ids : StaleIds) where
  pub noted_now : (es : List Entry) (s : State) → HasNoted has stale_ids es s → AreNoted has stale_ids s
  noted_now [] s h = h
  noted_now (e ∷ es) s h = noted_now es s h.1

  noted_last : (es : List Entry) (e : Entry) (s : State) → HasNoted has stale_ids es (undo_one e s) → AreNoted has stale_ids s → HasNoted has stale_ids (es ++ e ∷ []) s
  noted_last [] e s h now = (h, now)
  noted_last (x ∷ es) e s h now = (subst (λ (t : State). AreNoted has stale_ids (undo_one x t)) (sym (undone_last es e s)) h.0, noted_last es e s h.1 now)

  noted_pop : (es : List Entry) (e : Entry) (s : State) → HasNoted has stale_ids (es ++ e ∷ []) s → HasNoted has stale_ids es (undo_one e s)
  noted_pop [] e s h = h.0
  noted_pop (x ∷ es) e s h = (subst (λ (t : State). AreNoted has stale_ids (undo_one x t)) (undone_last es e s) h.0, noted_pop es e s h.1)

  pub noted_pushed : (es es' : List Entry) (e : Entry) (s s' : State) → es' ≡ es ++ e ∷ [] → undo_one e s' ≡ s → HasNoted has stale_ids es s → AreNoted has stale_ids s' → HasNoted has stale_ids es' s'
  noted_pushed es es' e s s' is back all now = subst (λ xs. HasNoted has stale_ids xs s') (sym is) (noted_last es e s' (subst (HasNoted has stale_ids es) (sym back) all) now)

  pub noted_popped : (es es' : List Entry) (e : Entry) (s : State) → es' ≡ es ++ e ∷ [] → HasNoted has stale_ids es' s → HasNoted has stale_ids es (undo_one e s)
  noted_popped es es' e s is all = noted_pop es e s (subst (λ xs. HasNoted has stale_ids xs s) is all)

-- ---- ids come with notes

module _ (a b : Has) (old new : StaleIds) (come : (k : Key) (i : ℕ) → b k i ≡ true → (a k i || is_noted new k i) ≡ true) (stay : StayNoted old new) where
  pub noted_still : (s : State) → AreNoted a old s → AreNoted b new s
  noted_still s was k i h =
      or_either (a k i) (is_noted new k i) (is_there s k i || is_noted new k i)
      (λ g. or_on (is_there s k i) (is_noted old k i) (is_there s k i) (is_noted new k i) (λ e. e) (stay k i) (was k i g))
      (or_right (is_there s k i) (is_noted new k i)) (come k i h)

  pub all_noted_still : (es : List Entry) (s : State) → HasNoted a old es s → HasNoted b new es s
  all_noted_still [] s h = noted_still s h
  all_noted_still (e ∷ es) s h = (noted_still (undone (e ∷ es) s) h.0, all_noted_still es s h.1)

  -- a node comes or is changed, or goes: of what it leaves, each is noted
  module _ (s s' : State) (id : ℕ) (was : AreNoted a old s) where
    other_there : ((i : ℕ) → i ≢ id → map.get (live s').nodes i ≡ map.get (live s).nodes i) → ((k : Key) → a k id ≡ true → is_there s k id ≡ true → (is_there s' k id || is_noted new k id) ≡ true) → AreNoted b new s'
    other_there others mine k i h =
        or_either (a k i) (is_noted new k i) (is_there s' k i || is_noted new k i) here (or_right (is_there s' k i) (is_noted new k i)) (come k i h)
      where
        by_id : a k i ≡ true → is_there s k i ≡ true → (is_there s' k i || is_noted new k i) ≡ true
        by_id g there = elim (cases_eq i id) [
          | inl same ↦ ap (λ j. is_there s' k j || is_noted new k j) same ∙ mine k (ap (a k) (sym same) ∙ g) (ap (is_there s k) (sym same) ∙ there)
          | inr ne ↦ or_left (is_there s' k i) (is_noted new k i) (ap (λ o. option_map_or (belongs k) o false) (others i ne) ∙ there)
        ]

        here : a k i ≡ true → (is_there s' k i || is_noted new k i) ≡ true
        here g = or_either (is_there s k i) (is_noted old k i) (is_there s' k i || is_noted new k i) (by_id g) (λ e. or_right (is_there s' k i) (is_noted new k i) (stay k i e)) (was k i g)

    pub noted_with : (n : NodeRecord) → (live s').nodes ≡ map.insert (live s).nodes id n → ((k : Key) → a k id ≡ true → is_there s k id ≡ true → (belongs k n || is_noted new k id) ≡ true) → AreNoted b new s'
    noted_with n is mine =
        other_there (λ i ne. ap (λ (m : FinMap nat_cmp NodeRecord). map.get m i) is ∙ get_inserted_other (live s).nodes id n i ne)
        (λ k g there. ap (λ o. option_map_or (belongs k) o false || is_noted new k id) (ap (λ (m : FinMap nat_cmp NodeRecord). map.get m id) is ∙ get_inserted (live s).nodes id n) ∙ mine k g there)

    pub noted_without : (live s').nodes ≡ map.remove (live s).nodes id → ((k : Key) → a k id ≡ true → is_there s k id ≡ true → is_noted new k id ≡ true) → AreNoted b new s'
    noted_without is mine =
        other_there (λ i ne. ap (λ (m : FinMap nat_cmp NodeRecord). map.get m i) is ∙ get_removed_other (live s).nodes id i ne)
        (λ k g there. or_right (is_there s' k id) (is_noted new k id) (mine k g there))

-- the nodes that are there stay
pub noted_alike : (has : Has) (stale_ids : StaleIds) (s s' : State) → (live s').nodes ≡ (live s).nodes → AreNoted has stale_ids s → AreNoted has stale_ids s'
noted_alike has stale_ids s s' is was k i h = ap (λ (m : FinMap nat_cmp NodeRecord). option_map_or (belongs k) (map.get m i) false || is_noted stale_ids k i) is ∙ was k i h

-- ---- a node that is there

pub absent_there : (s : State) (k : Key) (id : ℕ) → map.get (live s).nodes id ≡ None → is_there s k id ≡ true → ⊥
absent_there s k id none h = let absent = ap (λ o. option_map_or (belongs k) o false) none in absurd (cc (absent, h))

pub there_is : (s : State) (k : Key) (id : ℕ) (n : NodeRecord) → map.get (live s).nodes id ≡ Some n → is_there s k id ≡ belongs k n
there_is s k id n at = ap (λ o. option_map_or (belongs k) o false) at

held_there : (s : State) (k : Key) (id : ℕ) (o : Option NodeRecord) → map.get (live s).nodes id ≡ o → option_map_or (belongs k) o false ≡ true → (n : NodeRecord) × (map.get s.content.nodes id ≡ Some n) × (belongs k n ≡ true)
held_there s k id None is h = absurd cc
held_there s k id (Some n) is h = (n, (is_kept s.content.nodes s.gone_nodes id n is).1, h)

pub there_belongs : (s : State) (k : Key) (id : ℕ) (n : NodeRecord) → map.get s.content.nodes id ≡ Some n → is_there s k id ≡ true → belongs k n ≡ true
there_belongs s k id n at h =
    let there = held_there s k id (map.get (live s).nodes id) refl h in
    let same : Some there.0 ≡ Some n = sym there.1 ∙ at in
    ap (λ o. option_map_or (belongs k) o false) (sym same) ∙ there.2

-- where nothing is gone, what the tables hold is there
pub none_gone_there : (s : State) → s.gone_nodes ≡ map.empty → (live s).nodes ≡ s.content.nodes
none_gone_there s none = ap (λ (ids : Ids). (live (record s { gone_nodes = ids })).nodes) none ∙ without_none s.content.nodes

-- ---- keys that stand for one set

pub one_set : (a b : Key) (n : NodeRecord) → same_key a b ≡ true → belongs a n ≡ belongs b n
one_set every every n h = refl
one_set every (with_label l) n h = absurd cc
one_set every (with_value l k v) n h = absurd cc
one_set (with_label l) every n h = absurd cc
one_set (with_label l) (with_label m) n h = ap (λ q. belongs (with_label q) n) (same_number l m h)
one_set (with_label l) (with_value m k v) n h = absurd cc
one_set (with_value l k v) every n h = absurd cc
one_set (with_value l k v) (with_label m) n h = absurd cc
one_set (with_value l k v) (with_value m q w) n h =
    let both = and_left (l == m && k == q) (is_one_value v w) h in
    ap (λ x. is_found_by x k v n) (same_number l m (and_left (l == m) (k == q) both))
    ∙ ap (λ x. is_found_by m x v n) (same_number k q (and_right (l == m) (k == q) both))
    ∙ found_alike m q v w n (same_value v w (and_right (l == m && k == q) (is_one_value v w) h))

-- ---- one note less

module _ (s : State) (old left : StaleIds) (place : Place) (id : ℕ) (is : old ≡ left ++ (place, id) ∷ []) where
  was_noted : (k : Key) (i : ℕ) → is_noted old k i ≡ true → (is_noted left k i || (same_key (place_key place) k && id == i)) ≡ true
  was_noted k i h =
      or_on (is_noted left k i) (is_noted ((place, id) ∷ []) k i) (is_noted left k i) (same_key (place_key place) k && id == i) (λ e. e) (λ e. alone (same_key (place_key place) k && id == i) e)
      (sym (ap (λ ns. is_noted ns k i) is ∙ list_any-append (λ n. same_key (place_key n.0) k && n.1 == i) left ((place, id) ∷ [])) ∙ h)
    where
      alone : (b : Bool) → (b || false) ≡ true → b ≡ true
      alone true e = refl
      alone false e = e

  -- of an id that went
  pub noted_gone : (a b : Has) → ((k : Key) (i : ℕ) → b k i ≡ (a k i && not (same_key (place_key place) k && id == i))) → AreNoted a old s → AreNoted b left s
  noted_gone a b gone was k i h =
      let both = sym (gone k i) ∙ h in
      or_on (is_there s k i) (is_noted old k i) (is_there s k i) (is_noted left k i) (λ e. e)
      (λ e. other (is_noted left k i) (same_key (place_key place) k && id == i) (was_noted k i e) (and_right (a k i) (not (same_key (place_key place) k && id == i)) both))
      (was k i (and_left (a k i) (not (same_key (place_key place) k && id == i)) both))
    where
      other : (p q : Bool) → (p || q) ≡ true → not q ≡ true → p ≡ true
      other true q h e = refl
      other false true h e = absurd cc
      other false false h e = h

  -- of an id that belongs
  pub noted_kept : (a : Has) → is_there s (place_key place) id ≡ true → AreNoted a old s → AreNoted a left s
  noted_kept a there was k i h =
      or_either (is_there s k i) (is_noted old k i) (is_there s k i || is_noted left k i) (or_left (is_there s k i) (is_noted left k i))
      (λ e.
      or_either (is_noted left k i) (same_key (place_key place) k && id == i) (is_there s k i || is_noted left k i) (or_right (is_there s k i) (is_noted left k i))
      (λ m. or_left (is_there s k i) (is_noted left k i)
      (alike (map.get (live s).nodes i) (and_left (same_key (place_key place) k) (id == i) m)
      (ap (is_there s (place_key place)) (sym (same_number id i (and_right (same_key (place_key place) k) (id == i) m))) ∙ there)))
      (was_noted k i e))
      (was k i h)
    where
      alike : (o : Option NodeRecord) → same_key (place_key place) k ≡ true → option_map_or (belongs (place_key place)) o false ≡ true → option_map_or (belongs k) o false ≡ true
      alike None same h = h
      alike (Some n) same h = sym (one_set (place_key place) k n same) ∙ h

-- so it is of all sets, by their type
pub none_kept_is_empty : (sets : Sets) → NoneKeptIsEmpty sets
none_kept_is_empty sets = (sets.labels.none_is_empty, λ k d h. (slice_index_or sets.indexes.items k d).ids.none_is_empty)

-- ---- nothing noted: each set is exact

pub some_find : (xs : List PropertyIndex) (l k : ℕ) (v : Value) (i : ℕ) → all_find xs l k v i ≡ true → has_pair (l, k) (pairs_of xs) ≡ true → some_finds xs l k v i ≡ true
some_find [] l k v i all pair = absurd cc
some_find (x ∷ xs) l k v i all pair = one (is_for x l k) (finds x v i) (all_find xs l k v i) (has_pair (l, k) (pairs_of xs)) (some_finds xs l k v i) (some_find xs l k v i) all pair
  where
    one : (f g r p q : Bool) → (r ≡ true → p ≡ true → q ≡ true) → ((not f || g) && r) ≡ true → (f || p) ≡ true → ((f && g) || q) ≡ true
    one true true r p q rest all pair = refl
    one true false r p q rest all pair = absurd cc
    one false g r p q rest all pair = rest all pair

covers_in : (sets : Sets) (k : Key) (i : ℕ) → has_in sets k i ≡ true → has_set sets k ≡ true → is_in sets k i ≡ true
covers_in sets every i h there = h
covers_in sets (with_label l) i h there = h
covers_in sets (with_value l k v) i h there = some_find sets.indexes.items l k v i h there

in_set : (sets : Sets) (k : Key) (i : ℕ) → is_in sets k i ≡ true → has_set sets k ≡ true
in_set sets every i h = refl
in_set sets (with_label l) i h = refl
in_set sets (with_value l k v) i h = some_pair sets.indexes.items l k v i h

pub exact_when : (sets : Sets) (s : State) → sets.stale_ids.items ≡ [] → Covers (has_in sets) s → AreNoted (is_in sets) sets.stale_ids.items s → AreExact sets s
exact_when sets s none covers noted = record {
  none = none;
  exact = λ k i. both (is_in sets k i) (has_set sets k) (is_there s k i)
      (λ h. and_both (has_set sets k) (is_there s k i) (in_set sets k i h) (nothing (is_there s k i) (is_noted sets.stale_ids.items k i) (noted k i h) (ap (λ ns. is_noted ns k i) none)))
      (λ there here. let n = held_there s k i (map.get (live s).nodes i) refl here in covers_in sets k i (covers k i n.0 n.1 n.2) there);
}
  where
    nothing : (a b : Bool) → (a || b) ≡ true → b ≡ false → a ≡ true
    nothing true b h e = refl
    nothing false b h e = absurd (cc (h, e))

    both : (a p q : Bool) → (a ≡ true → (p && q) ≡ true) → (p ≡ true → q ≡ true → a ≡ true) → a ≡ (p && q)
    both true p q f g = sym (f refl)
    both false true true f g = g refl refl
    both false true false f g = refl
    both false false q f g = refl
