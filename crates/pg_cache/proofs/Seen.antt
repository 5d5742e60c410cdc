-- What a look-up does to the keys and the counts.
use Rattle.std.proofs.Common.{◌≡◌, ◌-◌, true, false, cond, ◌||◌, List, [], ◌∷◌, map, Option, Some, None, is_some, Result, Ok, Err, IfOk, refl, sym, ap, ◌∙◌, inl, inr, ◌⊎◌, Global, true≢false}
use Rattle.std.specs.List.{list_any, take-map}
use Rattle.std.specs.Map.{lookup, lookup_entry, remove_entry}
use Rattle.std.specs.Option.{option_map_or}
use Rattle.std.specs.Result.{IsOk, is_ok}
use Rattle.std.specs.declared.rc.Rc.{Rc}
use Rattle.lru.specs.LruCache.{promoted}
use Rattle.pg_cache.specs.Keys.{same_key_is}
use Rattle.pg_cache.specs.Cache.{Key, Cache, CacheSeen, same_key, kept, one_more, after_hit, IsHit, IsMiss, cache_seen, without_key, seen_after_miss, with_key, IsLookUp}
use Rattle.pg_meaning.specs.Texts.{text_checked}
use Rattle.pg_meaning.specs.declared.fault.Fault.{Fault}
use Rattle.pg_plan.specs.Plans.{IsPlanOfText}
use Rattle.pg_plan.specs.declared.plan.Plan.{Plan}

abbrev keys_in : List (Key × Plan) → List Key
keys_in es = map (λ e. e.0) es

abbrev with_keys : Cache → List Key → CacheSeen
with_keys c keys = record { capacity = c.capacity; keys = keys; hits = one_more c.hits; misses = c.misses }

module _ (key : Key) where
  is_kept : (es : List (Key × Plan)) → list_any (same_key key) (keys_in es) ≡ is_some (lookup (same_key key) es)
  is_kept [] = refl
  is_kept (e ∷ es) =
      elim (same_key key e.0) as (λ b. (b || list_any (same_key key) (keys_in es)) ≡ is_some (cond b (Some e.1) (lookup (same_key key) es)))
      [ true ↦ refl | false ↦ is_kept es ]

  entry_kept : (es : List (Key × Plan)) → is_some (lookup_entry (same_key key) es) ≡ is_some (lookup (same_key key) es)
  entry_kept [] = refl
  entry_kept (e ∷ es) =
      elim (same_key key e.0) as (λ b. is_some (cond b (Some e) (lookup_entry (same_key key) es)) ≡ is_some (cond b (Some e.1) (lookup (same_key key) es)))
      [ true ↦ refl | false ↦ entry_kept es ]

  left_out : (es : List (Key × Plan)) → keys_in (remove_entry (same_key key) es) ≡ without_key key (keys_in es)
  left_out [] = refl
  left_out (e ∷ es) =
      elim (same_key key e.0) as (λ b. keys_in (cond b es (e ∷ remove_entry (same_key key) es)) ≡ cond b (keys_in es) (e.0 ∷ without_key key (keys_in es)))
      [ true ↦ refl | false ↦ ap (λ ks. e.0 ∷ ks) (left_out es) ]

  its_key : (es : List (Key × Plan)) (e : Key × Plan) → lookup_entry (same_key key) es ≡ Some e → e.0 ≡ key
  its_key [] e h = absurd cc
  its_key (f ∷ es) e h =
      (elim (same_key key f.0) as (λ b. same_key key f.0 ≡ b → cond b (Some f) (lookup_entry (same_key key) es) ≡ Some e → e.0 ≡ key) [
        | true ↦ λ same is. ap (λ o. option_map_or (λ g. g.0) o key) (sym is) ∙ sym (same_key_is key f.0 same)
        | false ↦ λ other is. its_key es e is
      ]) refl h

  first : (es : List (Key × Plan)) (o : Option (Key × Plan)) → lookup_entry (same_key key) es ≡ o → is_some o ≡ true
      → keys_in (option_map_or (λ e. e ∷ remove_entry (same_key key) es) o es) ≡ key ∷ without_key key (keys_in es)
  first es None h some = absurd (true≢false (sym some))
  first es (Some e) h some = ap (λ k. k ∷ keys_in (remove_entry (same_key key) es)) (its_key es e h) ∙ ap (λ ks. key ∷ ks) (left_out es)

  goes_first : (es : List (Key × Plan)) → is_some (lookup (same_key key) es) ≡ true → keys_in (promoted (same_key key) es) ≡ key ∷ without_key key (keys_in es)
  goes_first es some = first es (lookup_entry (same_key key) es) refl (entry_kept es ∙ some)

module _ (old new : Cache) (key : Key) where
  a_hit : (plan : Plan) → kept old key ≡ Some plan → new ≡ after_hit old key → IsLookUp (cache_seen old) (cache_seen new) key
  a_hit plan is left =
      let some : is_some (kept old key) ≡ true = ap is_some is in
      record {
        hit = λ has. ap cache_seen left ∙ ap (with_keys old) (goes_first key old.entries some);
        miss = λ none. absurd (true≢false (sym some ∙ sym (is_kept key old.entries) ∙ none));
      }

  text_is_good : (plan : Plan) → IsPlanOfText key.0 key.1 plan → IsOk (text_checked key.0)
  text_is_good plan h = ap is_ok h.is

  missed : (answer : Result (Rc Plan Global) Fault) → IfOk answer (λ p. IsPlanOfText key.0 key.1 p.value) → IsMiss old new key answer
      → (cache_seen new ≡ seen_after_miss (cache_seen old)) ⊎ (IsOk (text_checked key.0) × (cache_seen new ≡ with_key (seen_after_miss (cache_seen old)) key))
  missed (Ok p) good (inl h) =
      inr (text_is_good p.value good, ap cache_seen h ∙ ap (λ ks. let s : CacheSeen = record { capacity = old.capacity; keys = key ∷ ks; hits = old.hits; misses = one_more old.misses } in s) (sym (take-map (λ (e : Key × Plan). e.0) (old.capacity - 1) old.entries)))
  missed (Ok p) good (inr h) = inl (ap cache_seen h)
  missed (Err e) good h = inl (ap cache_seen h)

  by_kept : (found : Option Plan) (answer : Result (Rc Plan Global) Fault) → kept old key ≡ found → IfOk answer (λ p. IsPlanOfText key.0 key.1 p.value)
      → ((plan : Plan) → kept old key ≡ Some plan → IsHit old new key plan answer) → (kept old key ≡ None → IsMiss old new key answer) → IsLookUp (cache_seen old) (cache_seen new) key
  by_kept (Some plan) answer is good hit miss = a_hit plan is (hit plan is).left
  by_kept None answer is good hit miss =
      record {
        hit = λ has. absurd (true≢false (sym has ∙ is_kept key old.entries ∙ ap is_some is));
        miss = λ none. missed answer good (miss is);
      }

  -- what `plan_for` promises says what becomes of the cache as it is seen without its plans
  pub look_up_is_seen : (answer : Result (Rc Plan Global) Fault) → IfOk answer (λ p. IsPlanOfText key.0 key.1 p.value)
      → ((plan : Plan) → kept old key ≡ Some plan → IsHit old new key plan answer) → (kept old key ≡ None → IsMiss old new key answer) → IsLookUp (cache_seen old) (cache_seen new) key
  look_up_is_seen answer good hit miss = by_kept (kept old key) answer refl good hit miss
