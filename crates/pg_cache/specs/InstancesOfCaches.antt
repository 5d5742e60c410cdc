-- Small caches and what look-ups make of them: what is kept, in which order, and what is counted.
use Rattle.std.specs.Prelude.{◌≡◌, ℕ, ◌-◌, ◌^◌, true, false, List, [], ◌∷◌, Some, None, codes}
use Rattle.pg_cache.specs.Cache.{Key, Cache, CacheSeen, IsLookUp, after_hit, after_miss, with_plan, kept, one_more, cache_seen, has_key, seen_after_hit, seen_after_miss, with_key}
use Rattle.pg_plan.specs.declared.plan.Plan.{Plan}

-- a text without indexes, the same with one, and with one of another key, and another text
abbrev pub plain : Key
plain = (codes "RETURN 1", [])

abbrev pub indexed : Key
indexed = (codes "RETURN 1", (codes "P", codes "k") ∷ [])

abbrev pub by_another_key : Key
by_another_key = (codes "RETURN 1", (codes "P", codes "j") ∷ [])

abbrev pub other : Key
other = (codes "x", [])

abbrev pub room_for_two : List (Key × Plan) → (hits misses : ℕ) → Cache
room_for_two entries hits misses = record { entries = entries; capacity = 2; hits = hits; misses = misses }

abbrev pub seen : List Key → (hits misses : ℕ) → CacheSeen
seen keys hits misses = record { capacity = 2; keys = keys; hits = hits; misses = misses }

-- a text is kept for each list of indexes; what is used goes first, and what is put into a full cache drops the last
abbrev pub InstancesOfPlansKept : Type 0
InstancesOfPlansKept =
    (p q r : Plan) →
    (kept (room_for_two ((plain, p) ∷ (indexed, q) ∷ []) 0 0) indexed ≡ Some q)
    × (kept (room_for_two ((plain, p) ∷ []) 0 0) indexed ≡ None)
    × (after_hit (room_for_two ((plain, p) ∷ (indexed, q) ∷ []) 3 4) indexed ≡ room_for_two ((indexed, q) ∷ (plain, p) ∷ []) 4 4)
    × (after_miss (room_for_two ((plain, p) ∷ []) 3 4) ≡ room_for_two ((plain, p) ∷ []) 3 5)
    × (with_plan (room_for_two ((plain, p) ∷ (indexed, q) ∷ []) 0 0) other r ≡ room_for_two ((other, r) ∷ (plain, p) ∷ []) 0 0)
    × (cache_seen (room_for_two ((plain, p) ∷ (indexed, q) ∷ []) 3 4) ≡ seen (plain ∷ indexed ∷ []) 3 4)

-- the same of what is seen; counts stay at their greatest
abbrev pub InstancesOfKeysKept : Type 0
InstancesOfKeysKept =
    (has_key (seen (plain ∷ indexed ∷ []) 0 0) indexed ≡ true)
    × (has_key (seen (plain ∷ []) 0 0) indexed ≡ false)
    × (has_key (seen (by_another_key ∷ []) 0 0) indexed ≡ false)
    × (seen_after_hit (seen (plain ∷ indexed ∷ []) 3 4) indexed ≡ seen (indexed ∷ plain ∷ []) 4 4)
    × (seen_after_miss (seen (plain ∷ []) 3 4) ≡ seen (plain ∷ []) 3 5)
    × (with_key (seen (plain ∷ indexed ∷ []) 0 0) other ≡ seen (other ∷ plain ∷ []) 0 0)
    × (one_more 7 ≡ 8)
    × (one_more (2 ^ 64 - 1) ≡ 2 ^ 64 - 1)

-- a text that reads may be kept or not, one that doesn't is not kept, and each look-up is counted
abbrev pub InstancesOfLookUps : Type 0
InstancesOfLookUps =
    IsLookUp (seen [] 0 0) (seen (plain ∷ []) 0 1) plain
    × IsLookUp (seen [] 0 0) (seen [] 0 1) plain
    × IsLookUp (seen (plain ∷ []) 0 1) (seen (plain ∷ []) 1 1) plain
    × (IsLookUp (seen [] 0 0) (seen (other ∷ []) 0 1) other → ⊥)
    × (IsLookUp (seen [] 0 0) (seen [] 0 0) plain → ⊥)
    × (IsLookUp (seen (plain ∷ []) 0 1) (seen (plain ∷ []) 0 2) plain → ⊥)
