-- What a contract sees of a slab, through the changes of its slots.
use Rattle.std.proofs.Common.{◌≡◌, ◌≢◌, ℕ, zero, suc, ◌+◌, ◌<◌, List, [], ◌∷◌, ◌++◌, map, length, get_or, set, Option, Some, None, is_some, IsSome, cond, count_by, slice_get, refl, sym, ap, ◌∙◌, arith}
use Rattle.std.proofs.lemmas.List.{get_or-set_same, get_or-set_other, get_or_past, get_or_push, get_or-map, map-set, map_push}
use Rattle.std.proofs.lemmas.List.Sums.{sum_by-set, sum_by_push, sum_by-cons}
use Rattle.std.proofs.lemmas.Option.{slice_get_within, get_or_from_slice_get}
use Rattle.pg_pool.specs.Slab.{Slab, get, ContainsKey, IsFree, Updates, SameValues}

module _ {V : Type 0} where
  -- a write of one slot changes what that key finds, and no other
  pub updated : (old new : Slab V) (key : ℕ) (slot : Option V) → key < length old.slots → new.slots ≡ set old.slots key slot → Updates old new key slot
  updated old new key slot within written = record {
    changed = rw written (get_or-set_same old.slots key slot None within);
    others = λ other differs. rw written (get_or-set_other old.slots key other slot None differs);
  }

  appended_other : (xs : List (Option V)) (slot : Option V) (other : ℕ) → other ≢ length xs → get_or (xs ++ slot ∷ []) other None ≡ get_or xs other None
  appended_other [] slot zero differs = absurd (differs refl)
  appended_other [] slot (suc other) differs = refl
  appended_other (x ∷ xs) slot zero differs = refl
  appended_other (x ∷ xs) slot (suc other) differs = appended_other xs slot other (λ e. differs (ap suc e))

  pub appended : (old new : Slab V) (slot : Option V) → new.slots ≡ old.slots ++ slot ∷ [] → Updates old new (length old.slots) slot
  appended old new slot written = record {
    changed = rw written (get_or_push old.slots slot None (length old.slots) refl);
    others = λ other differs. rw written (appended_other old.slots slot other differs);
  }

  -- a key with a value has a slot
  pub has_slot : (s : Slab V) (key : ℕ) → ContainsKey s key → key < length s.slots
  has_slot s key present = grind (arith, get_or_past)

  pub counted : (xs : List (Option V)) (key : ℕ) (slot : Option V) → key < length xs → count_by is_some (set xs key slot) + cond (is_some (get_or xs key None)) 1 0 ≡ count_by is_some xs + cond (is_some slot) 1 0
  counted xs key slot within = sum_by-set (λ o. cond (is_some o) 1 0) xs key slot None within

  pub one_more : (xs : List (Option V)) (v : V) → count_by is_some (xs ++ Some v ∷ []) ≡ count_by is_some xs + 1
  one_more xs v = sum_by_push (λ o. cond (is_some o) 1 0) xs (Some v)

  pub none_left : (xs : List (Option V)) → count_by is_some xs ≡ 0 → (key : ℕ) → get_or xs key None ≡ None
  none_left [] none key = refl
  none_left (None ∷ xs) none zero = refl
  none_left (None ∷ xs) none (suc key) = none_left xs (omega (arith, none, sum_by-cons (λ o. cond (is_some o) 1 0) None xs)) key
  none_left (Some v ∷ xs) none key = absurd (omega (arith, none, sum_by-cons (λ o. cond (is_some o) 1 0) (Some v) xs))

  pub still_updated : (old new last : Slab V) (key : ℕ) (slot : Option V) → Updates old new key slot → SameValues new last → Updates old last key slot
  still_updated old new last key slot up same = record { changed = same.at key ∙ up.changed; others = λ k ne. same.at k ∙ up.others k ne }

module _ {V : Type 0} (old reserved new : Slab V) (key : ℕ) where
  -- room that was made changes no slot
  pub was_vacant : reserved.slots ≡ old.slots → IsFree reserved key → get old key ≡ None
  was_vacant same free = ap (λ xs. get_or xs key None) (sym same) ∙ free.vacant

  pub after_reserve : (slot : Option V) → reserved.slots ≡ old.slots → Updates reserved new key slot → Updates old new key slot
  after_reserve slot same up = record { changed = up.changed; others = λ k ne. up.others k ne ∙ ap (λ xs. get_or xs k None) same }

module _ {V S : Type 0} (held : S → Option V) where
  pub value_was : (items : List S) (key : ℕ) (slot : S) → slice_get items key ≡ Some slot → get_or (map held items) key None ≡ held slot
  value_was items key slot e = get_or-map held items key slot None (slice_get_within items key slot e) ∙ ap held (get_or_from_slice_get items key slot slot e)

  -- what is written is read as its value
  pub written : (items items' : List S) (key : ℕ) (slot : S) (v : Option V) → held slot ≡ v → items' ≡ set items key slot → map held items' ≡ set (map held items) key v
  written items items' key slot v is e = ap (map held) e ∙ map-set held items key slot ∙ ap (set (map held items) key) is

  pub pushed : (items items' : List S) (slot : S) (v : Option V) → held slot ≡ v → items' ≡ items ++ slot ∷ [] → map held items' ≡ map held items ++ v ∷ []
  pushed items items' slot v is e = ap (map held) e ∙ map_push held items slot ∙ ap (λ o. map held items ++ o ∷ []) is

module _ {V : Type 0} where
  none_weighs : (o : Option V) → o ≡ None → cond {A = ℕ} (is_some o) 1 0 ≡ 0
  none_weighs None e = refl
  none_weighs (Some v) e = absurd (cc)

  some_weighs : (o : Option V) → IsSome o → cond {A = ℕ} (is_some o) 1 0 ≡ 1
  some_weighs None e = absurd (cc)
  some_weighs (Some v) e = refl

  -- how many values there are after a write
  module _ (xs ys : List (Option V)) (key n : ℕ) (within : key < length xs) (counts : n ≡ count_by is_some xs) where
    pub swapped : (v : V) → ys ≡ set xs key (Some v) → IsSome (get_or xs key None) → n ≡ count_by is_some ys
    swapped v e some = omega (arith, counts, ap (count_by is_some) e, counted xs key (Some v) within, some_weighs (get_or xs key None) some)

    pub filled : (v : V) → ys ≡ set xs key (Some v) → get_or xs key None ≡ None → n + 1 ≡ count_by is_some ys
    filled v e none = omega (arith, counts, ap (count_by is_some) e, counted xs key (Some v) within, none_weighs (get_or xs key None) none)

    pub vacated : ys ≡ set xs key None → IsSome (get_or xs key None) → n ≡ count_by is_some ys + 1
    vacated e some = omega (arith, counts, ap (count_by is_some) e, counted xs key None within, some_weighs (get_or xs key None) some)
