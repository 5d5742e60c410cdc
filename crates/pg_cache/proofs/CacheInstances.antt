-- The instances of caches.
use Rattle.std.proofs.Common.{◌≡◌, ◌⊎◌, true, false, [], ◌∷◌, arith, length, refl, sym, ap, inl, inr}
use Rattle.pg_cache.specs.Cache.{CacheSeen, IsLookUp}
use Rattle.pg_cache.specs.InstancesOfCaches.{InstancesOfPlansKept, InstancesOfKeysKept, InstancesOfLookUps, plain, other, seen}
use Rattle.pg_meaning.proofs.Computing.{texts}

pub instances_of_plans_kept : InstancesOfPlansKept
instances_of_plans_kept p q r = (refl, refl, refl, refl, refl, refl)

pub instances_of_keys_kept : InstancesOfKeysKept
instances_of_keys_kept = (refl, refl, refl, refl, refl, refl, refl, refl)

never : false ≡ true → ⊥
never e = cc

unread : IsLookUp (seen [] 0 0) (seen (other ∷ []) 0 1) other → ⊥
unfolding texts
unread l = by (l.miss refl)
  where
    by : {A : Type 0} → (seen (other ∷ []) 0 1 ≡ seen [] 0 1) ⊎ ((false ≡ true) × A) → ⊥
    by (inl e) = absurd (omega (arith, ap (λ (c : CacheSeen). length c.keys) e))
    by (inr p) = never p.0

uncounted : IsLookUp (seen [] 0 0) (seen [] 0 0) plain → ⊥
uncounted l = by (l.miss refl)
  where
    by : {A : Type 0} → (seen [] 0 0 ≡ seen [] 0 1) ⊎ (A × (seen [] 0 0 ≡ seen (plain ∷ []) 0 1)) → ⊥
    by (inl e) = absurd (omega (arith, ap (λ (c : CacheSeen). c.misses) e))
    by (inr p) = absurd (omega (arith, ap (λ (c : CacheSeen). c.misses) p.1))

hit_as_miss : IsLookUp (seen (plain ∷ []) 0 1) (seen (plain ∷ []) 0 2) plain → ⊥
hit_as_miss l = absurd (omega (arith, ap (λ (c : CacheSeen). c.misses) (l.hit refl)))

pub instances_of_look_ups : InstancesOfLookUps
unfolding texts
instances_of_look_ups = (
  record { hit = λ there. absurd (never there); miss = λ gone. inr (refl, refl) },
  record { hit = λ there. absurd (never there); miss = λ gone. inl refl },
  record { hit = λ there. refl; miss = λ gone. absurd (never (sym gone)) },
  unread,
  uncounted,
  hit_as_miss,
)
