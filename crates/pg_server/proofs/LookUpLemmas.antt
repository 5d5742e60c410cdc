-- What a request does to the cache of plans.
use Rattle.std.proofs.Common.{◌≡◌, ℕ, Bool, true, false, List, Option, Some, None, refl, ap, inl, inr}
use Rattle.pg_cache.specs.Cache.{CacheSeen, IsLookUp, Key, has_key}
use Rattle.pg_json.specs.Refusals.{refusal_text}
use Rattle.pg_meaning.specs.declared.fault.Fault.TheVariants.{OutOfMemory}
use Rattle.pg_tenant.specs.LookUps.{LooksUp}

-- ---- how many plans the cache holds at most

module _ (old new : CacheSeen) where
  by_look_up : (key : Key) → IsLookUp old new key → (b : Bool) → has_key old key ≡ b → new.capacity ≡ old.capacity
  by_look_up key h true is = ap (λ (c : CacheSeen). c.capacity) (h.hit is)
  by_look_up key h false is =
      elim (h.miss is) as (λ _. new.capacity ≡ old.capacity) [
        | inl w ↦ ap (λ (c : CacheSeen). c.capacity) w
        | inr w ↦ ap (λ (c : CacheSeen). c.capacity) w.1
      ]

  pub capacity_kept : (key : Option Key) (reply : List ℕ) → LooksUp key reply old new → new.capacity ≡ old.capacity
  capacity_kept None reply h = ap (λ (c : CacheSeen). c.capacity) h
  capacity_kept (Some key) reply (inl h) = by_look_up key h (has_key old key) refl
  capacity_kept (Some key) reply (inr h) = ap (λ (c : CacheSeen). c.capacity) h.1

-- where there was no memory, the cache stays
pub nothing_looked_up : (key : Option Key) (reply : List ℕ) (cache : CacheSeen) → reply ≡ refusal_text OutOfMemory → LooksUp key reply cache cache
nothing_looked_up None reply cache is = refl
nothing_looked_up (Some key) reply cache is = inr (is, refl)
