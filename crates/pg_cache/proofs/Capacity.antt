-- No look-up changes how many plans the cache holds at most.
use Rattle.std.proofs.Common.{◌≡◌, Option, Some, None, Result, Ok, Err, ap, inl, inr}
use Rattle.std.specs.declared.alloc.Global.{Global}
use Rattle.std.specs.declared.rc.Rc.{Rc}
use Rattle.pg_cache.specs.Cache.{Key, Cache, kept, IsHit, IsMiss}
use Rattle.pg_meaning.specs.declared.fault.Fault.{Fault}
use Rattle.pg_plan.specs.declared.plan.Plan.{Plan}

module _ (old new : Cache) (key : Key) where
  after_a_miss : (answer : Result (Rc Plan Global) Fault) → IsMiss old new key answer → new.capacity ≡ old.capacity
  after_a_miss (Ok p) (inl h) = ap (λ (c : Cache). c.capacity) h
  after_a_miss (Ok p) (inr h) = ap (λ (c : Cache). c.capacity) h
  after_a_miss (Err e) h = ap (λ (c : Cache). c.capacity) h

  by_kept : (found : Option Plan) (answer : Result (Rc Plan Global) Fault) → kept old key ≡ found → ((plan : Plan) → kept old key ≡ Some plan → IsHit old new key plan answer)
      → (kept old key ≡ None → IsMiss old new key answer) → new.capacity ≡ old.capacity
  by_kept None answer is hit miss = after_a_miss answer (miss is)
  by_kept (Some plan) answer is hit miss = ap (λ (c : Cache). c.capacity) (hit plan is).left
