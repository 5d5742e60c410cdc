-- A cache of plans: texts and indexes with their plans, the last used first, and how many look-ups found theirs.
use Rattle.std.specs.Prelude.{◌≡◌, ℕ, ◌+◌, ◌-◌, ◌^◌, min, Bool, true, false, cond, ◌&&◌, ◌⊎◌, List, [], ◌∷◌, map, take, Option, Result, IsOk, MatchResult, Vec, String, string_bytes}
use Rattle.std.specs.Cmp.Lexicographic.{pointwise}
use Rattle.std.specs.List.{AllByRecursion, list_any}
use Rattle.std.specs.Map.{lookup}
use Rattle.std.specs.Str.{bytes_eq}
use Rattle.std.specs.declared.alloc.Global.{Global}
use Rattle.std.specs.declared.rc.Rc.{Rc}
use Rattle.lru.specs.LruCache.{promoted}
use Rattle.pg_plan.specs.Catalogue.{catalogue_view}
use Rattle.pg_meaning.specs.Plans.{Catalogue}
use Rattle.pg_meaning.specs.declared.fault.Fault.{Fault}
use Rattle.pg_meaning.specs.declared.fault.Fault.TheVariants.{OutOfMemory}
use Rattle.pg_meaning.specs.Texts.{text_checked}
use Rattle.pg_plan.specs.Plans.{IsPlanOfText}
use Rattle.pg_plan.specs.declared.plan.Plan.{Plan}
use Rattle.pg_cache.specs.declared.key.Key as kept_key

-- a query text, and the indexes that its plan is for
abbrev pub Key : Type 0
Key = List ℕ × Catalogue

abbrev pub same_index : List ℕ × List ℕ → List ℕ × List ℕ → Bool
same_index i j = bytes_eq i.0 j.0 && bytes_eq i.1 j.1

abbrev pub same_key : Key → Key → Bool
same_key k l = bytes_eq k.0 l.0 && pointwise same_index k.1 l.1

pub record Cache : Type 0 where
  pub entries : List (Key × Plan)
  pub capacity : ℕ
  pub hits : ℕ
  pub misses : ℕ

-- a text and a list of indexes as the program has them
abbrev pub cache_key : String Global → Rc (Vec (String Global × String Global) Global) Global → Key
cache_key text catalogue = (string_bytes text, catalogue_view catalogue.value.items)

abbrev pub key_view : kept_key.Key → Key
key_view k = cache_key k.text k.catalogue

abbrev pub entry_view : kept_key.Key × Rc Plan Global → Key × Plan
entry_view e = (key_view e.0, e.1.value)

-- each plan is that of its text and its indexes
abbrev pub ArePlanned : List (Key × Plan) → Type 0
ArePlanned entries = AllByRecursion (λ e. IsPlanOfText e.0.0 e.0.1 e.1) entries

abbrev pub empty_cache : (capacity : ℕ) → Cache
empty_cache capacity = record { entries = []; capacity = capacity; hits = 0; misses = 0 }

abbrev pub kept : Cache → Key → Option Plan
kept c key = lookup (same_key key) c.entries

-- a count stays at the greatest number of 64 bits
abbrev pub one_more : ℕ → ℕ
one_more n = min (n + 1) (2 ^ 64 - 1)

-- the key's entry goes first
abbrev pub after_hit : Cache → Key → Cache
after_hit c key = record c { entries = promoted (same_key key) c.entries; hits = one_more c.hits }

abbrev pub after_miss : Cache → Cache
after_miss c = record c { misses = one_more c.misses }

-- a new entry goes first, and a full cache drops its last
abbrev pub with_plan : Cache → Key → Plan → Cache
with_plan c key plan = record c { entries = (key, plan) ∷ take (c.capacity - 1) c.entries }

-- it is put there, or no memory was found for that
abbrev pub MayKeep : (old new : Cache) → Key → Plan → Type 0
MayKeep old new key plan = (new ≡ with_plan old key plan) ⊎ (new ≡ old)

-- the kept plan is answered
pub record IsHit (old new : Cache) (key : Key) (plan : Plan) (answer : Result (Rc Plan Global) Fault) : Type 0 where
  pub left : new ≡ after_hit old key
  pub answered : MatchResult answer (λ p. p.value ≡ plan) (λ e. e ≡ OutOfMemory)

-- only the plan of a text without a fault is put there
abbrev pub IsMiss : (old new : Cache) → Key → Result (Rc Plan Global) Fault → Type 0
IsMiss old new key answer =
    MatchResult answer (λ p. MayKeep (after_miss old) new key p.value) (λ e. new ≡ after_miss old)

-- ---- the cache as plain data, without its plans

pub record CacheSeen : Type 0 where
  pub capacity : ℕ
  pub keys : List Key
  pub hits : ℕ
  pub misses : ℕ

abbrev pub cache_seen : Cache → CacheSeen
cache_seen c = record { capacity = c.capacity; keys = map (λ e. e.0) c.entries; hits = c.hits; misses = c.misses }

abbrev pub has_key : CacheSeen → Key → Bool
has_key c key = list_any (same_key key) c.keys

abbrev pub without_key : Key → List Key → List Key
without_key key [] = []
without_key key (k ∷ ks) = cond (same_key key k) ks (k ∷ without_key key ks)

abbrev pub seen_after_hit : CacheSeen → Key → CacheSeen
seen_after_hit c key = record c { keys = key ∷ without_key key c.keys; hits = one_more c.hits }

abbrev pub seen_after_miss : CacheSeen → CacheSeen
seen_after_miss c = record c { misses = one_more c.misses }

abbrev pub with_key : CacheSeen → Key → CacheSeen
with_key c key = record c { keys = key ∷ take (c.capacity - 1) c.keys }

-- a key that is there goes first; another one is put there only where its text reads and has no fault
pub record IsLookUp (old new : CacheSeen) (key : Key) : Type 0 where
  pub hit : has_key old key ≡ true → new ≡ seen_after_hit old key
  pub miss : has_key old key ≡ false → (new ≡ seen_after_miss old) ⊎ (IsOk (text_checked key.0) × (new ≡ with_key (seen_after_miss old) key))
