-- What a look-up leaves.
use Rattle.std.proofs.Common.{◌≡◌, ℕ, ◌-◌, Bool, true, false, cond, List, [], ◌∷◌, map, take, Some, None, Result, Ok, Err, refl, sym, ap, ◌∙◌, subst, inl, inr, ◌⊎◌, MatchResult, IfOk, Global}
use Rattle.std.specs.Map.{lookup, lookup_entry, remove_entry}
use Rattle.std.specs.Option.{option_map, option_map_or}
use Rattle.std.specs.Result.{OnOk, OnErr}
use Rattle.std.specs.declared.rc.Rc.{Rc}
use Rattle.lru.specs.LruCache.{LruCache, lru_cache, promoted, put_entries}
use Rattle.pg_cache.specs.Cache.{Cache, key_view, entry_view, same_key, ArePlanned, kept, one_more, after_hit, with_plan, MayKeep, IsHit}
use Rattle.pg_cache.specs.declared.key.Key as kept_key
use Rattle.pg_cache.proofs.Entries.{Pair, is_key, lookup-view, promoted-view, put-view}
use Rattle.pg_cache.specs.Keys.{key_eq, keys_alike}
use Rattle.pg_cache.proofs.Planned.{planned_under, promoted_are_planned, put_are_planned}
use Rattle.pg_meaning.specs.declared.fault.Fault.{Fault}
use Rattle.pg_meaning.specs.declared.fault.Fault.TheVariants.{OutOfMemory}
use Rattle.pg_plan.specs.Plans.{IsPlanOfText}
use Rattle.pg_plan.specs.declared.plan.Plan.{Plan}

abbrev pub Plans : Type 0
Plans = LruCache kept_key.Key (Rc Plan Global)

abbrev pub seen : Plans → (hits misses : ℕ) → Cache
seen plans hits misses = record { entries = map entry_view plans.entries; capacity = plans.cap; hits = hits; misses = misses }

abbrev pub found_in : Plans → kept_key.Key → Plans
found_in plans key = lru_cache (promoted (key_eq key) plans.entries) plans.cap

none_there : (test : kept_key.Key → Bool) (es : List Pair) → lookup test es ≡ None → lookup_entry test es ≡ None
none_there test [] h = refl
none_there test (e ∷ es) h =
    (elim (test e.0) as (λ b. cond b (Some e.1) (lookup test es) ≡ None → cond b (Some e) (lookup_entry test es) ≡ None)
    [ true ↦ λ k. absurd cc | false ↦ λ k. none_there test es k ]) h

if_ok : {X : Type 0} (P Q : X → Type 0) (E : Fault → Type 0) (r : Result X Fault) → ((x : X) → P x → Q x) → MatchResult r P E → IfOk r Q
if_ok P Q E (Ok x) on h = on x h
if_ok P Q E (Err e) on h = tt

pub either_way : {X Y : Type 0} (r : Result X Y) (A B : Type 0) → OnOk r A → OnErr r B → A ⊎ B
either_way (Ok x) A B a b = inl a
either_way (Err e) A B a b = inr b

-- the program's test of a key, as the definitions'
tests : (key : kept_key.Key) → key_eq key ≡ is_key (key_view key)
tests key = ap (λ eq. eq key) keys_alike

lookups : (key : kept_key.Key) (es : List Pair) → lookup (same_key (key_view key)) (map entry_view es) ≡ option_map (λ p. p.value) (lookup (key_eq key) es)
lookups key es = lookup-view (key_view key) es ∙ ap (λ test. option_map (λ p. p.value) (lookup test es)) (sym (tests key))

promotions : (key : kept_key.Key) (es : List Pair) → map entry_view (promoted (key_eq key) es) ≡ promoted (same_key (key_view key)) (map entry_view es)
promotions key es = ap (λ test. map entry_view (promoted test es)) (tests key) ∙ promoted-view (key_view key) es

-- ---- the entry in front

-- one that passes is found, and moves nothing
found_first : (test : kept_key.Key → Bool) (es : List Pair) (found : Rc Plan Global) → Some found ≡ lookup test (take 1 es) → (Some found ≡ lookup test es) × (es ≡ promoted test es)
found_first test [] found h = absurd cc
found_first test (e ∷ es) found h =
    (elim (test e.0) as (λ b. Some found ≡ cond b (Some e.1) None
    → (Some found ≡ cond b (Some e.1) (lookup test es))
    × (e ∷ es ≡ option_map_or (λ f. f ∷ cond b es (e ∷ remove_entry test es)) (cond b (Some e) (lookup_entry test es)) (e ∷ es)))
    [ true ↦ λ is. (is, refl) | false ↦ λ is. absurd cc ]) h

module _ (plans : Plans) (key : kept_key.Key) (found : Rc Plan Global) (first : Some found ≡ lookup (key_eq key) (take 1 plans.entries)) where
  pub first_is_found : Some found ≡ lookup (key_eq key) plans.entries
  first_is_found = (found_first (key_eq key) plans.entries found first).0

  pub first_stays : plans ≡ found_in plans key
  first_stays = ap (λ es. lru_cache es plans.cap) (found_first (key_eq key) plans.entries found first).1

-- ---- a hit

module _ (old : Cache) (plans : Plans) (hits misses : ℕ) (key : kept_key.Key) (same : old ≡ seen plans hits misses) where
  kept_is : kept old (key_view key) ≡ option_map (λ p. p.value) (lookup (key_eq key) plans.entries)
  kept_is = ap (λ (c : Cache). kept c (key_view key)) same ∙ lookups key plans.entries

  left : (after : Plans) → after ≡ found_in plans key → seen after (one_more hits) misses ≡ after_hit old (key_view key)
  left after h =
      ap (λ (a : Plans). seen a (one_more hits) misses) h
      ∙ ap (λ es. let c : Cache = record { entries = es; capacity = plans.cap; hits = one_more hits; misses = misses } in c) (promotions key plans.entries)
      ∙ ap (λ (c : Cache). after_hit c (key_view key)) (sym same)

  pub is_hit : (after : Plans) (more : ℕ) (plan : Plan) (found : Rc Plan Global) (answer : Result (Rc Plan Global) Fault)
      → after ≡ found_in plans key → more ≡ one_more hits → Some found ≡ lookup (key_eq key) plans.entries
      → MatchResult answer (λ p. p.value ≡ found.value) (λ e. e ≡ OutOfMemory) → kept old (key_view key) ≡ Some plan → IsHit old (seen after more misses) (key_view key) plan answer
  is_hit after more plan found answer h count is answered k =
      let same_plan : found.value ≡ plan = (let some : Some found.value ≡ Some plan = ap (option_map (λ p. p.value)) is ∙ sym kept_is ∙ k in cc) in
      record {
        left = ap (λ n. seen after n misses) count ∙ left after h;
        answered = subst (λ (v : Plan). MatchResult answer (λ p. p.value ≡ v) (λ e. e ≡ OutOfMemory)) same_plan answered;
      }

  pub no_miss : (found : Rc Plan Global) → Some found ≡ lookup (key_eq key) plans.entries → kept old (key_view key) ≡ None → ⊥
  no_miss found is k = let none : Some found.value ≡ None = ap (option_map (λ p. p.value)) is ∙ sym kept_is ∙ k in cc

  pub no_hit : None ≡ lookup (key_eq key) plans.entries → kept old (key_view key) ≡ None
  no_hit is = kept_is ∙ ap (option_map (λ p. p.value)) (sym is)

  pub not_kept : (plan : Plan) → None ≡ lookup (key_eq key) plans.entries → kept old (key_view key) ≡ Some plan → ⊥
  not_kept plan is k = let some : Some plan ≡ None = sym k ∙ no_hit is in cc

  pub stays : (after : Plans) → None ≡ lookup (key_eq key) plans.entries → after ≡ found_in plans key → seen after hits misses ≡ old
  stays after is h =
      ap (λ (a : Plans). seen a hits misses) h
      ∙ ap (λ o. let es : List Pair = option_map_or (λ e. e ∷ remove_entry (key_eq key) plans.entries) o plans.entries in seen (lru_cache es plans.cap) hits misses) (none_there (key_eq key) plans.entries (sym is))
      ∙ sym same

  pub hit_is_planned : (found : Rc Plan Global) (answer : Result (Rc Plan Global) Fault) → ArePlanned (map entry_view plans.entries) → Some found ≡ lookup (key_eq key) plans.entries
      → MatchResult answer (λ p. p.value ≡ found.value) (λ e. e ≡ OutOfMemory) → IfOk answer (λ p. IsPlanOfText (key_view key).0 (key_view key).1 p.value)
  hit_is_planned found answer all is =
      let planned = planned_under (key_view key) (map entry_view plans.entries) found.value all (lookups key plans.entries ∙ ap (option_map (λ p. p.value)) (sym is)) in
      if_ok _ _ _ answer (λ p same_plan. subst (λ (v : Plan). IsPlanOfText (key_view key).0 (key_view key).1 v) (sym same_plan) planned)

  pub hit_leaves_planned : (after : Plans) → ArePlanned (map entry_view plans.entries) → after ≡ found_in plans key → ArePlanned (map entry_view after.entries)
  hit_leaves_planned after all h =
      subst (λ (a : Plans). ArePlanned (map entry_view a.entries)) (sym h)
      (subst ArePlanned (sym (promotions key plans.entries)) (promoted_are_planned (key_view key) (map entry_view plans.entries) all))

-- ---- a miss

module _ (old : Cache) (plans : Plans) (hits misses : ℕ) (key : kept_key.Key) (same : old ≡ seen plans hits misses) (absent : kept old (key_view key) ≡ None) where
  not_there : lookup (same_key (key_view key)) (map entry_view plans.entries) ≡ None
  not_there = ap (λ (c : Cache). kept c (key_view key)) (sym same) ∙ absent

  put_seen : (plan : Rc Plan Global) → map entry_view (put_entries key_eq plans key plan) ≡ (key_view key, plan.value) ∷ take (plans.cap - 1) (map entry_view plans.entries)
  put_seen plan = ap (λ eq. map entry_view (put_entries eq plans key plan)) keys_alike ∙ put-view plans key plan not_there

  put : (plan : Rc Plan Global) (after : Plans) → after ≡ lru_cache (put_entries key_eq plans key plan) plans.cap → seen after hits misses ≡ with_plan old (key_view key) plan.value
  put plan after h =
      ap (λ (a : Plans). seen a hits misses) h
      ∙ ap (λ es. let c : Cache = record { entries = es; capacity = plans.cap; hits = hits; misses = misses } in c) (put_seen plan)
      ∙ ap (λ (c : Cache). with_plan c (key_view key) plan.value) (sym same)

  pub put_or_not : (plan shared : Rc Plan Global) (after : Plans) → plan.value ≡ shared.value → (after ≡ lru_cache (put_entries key_eq plans key plan) plans.cap) ⊎ (after ≡ plans) → MayKeep old (seen after hits misses) (key_view key) shared.value
  put_or_not plan shared after is (inl h) = inl (put plan after h ∙ ap (with_plan old (key_view key)) is)
  put_or_not plan shared after is (inr h) = inr (ap (λ (a : Plans). seen a hits misses) h ∙ sym same)

  pub put_leaves_planned : (plan : Rc Plan Global) (after : Plans) → IsPlanOfText (key_view key).0 (key_view key).1 plan.value → ArePlanned (map entry_view plans.entries)
      → (after ≡ lru_cache (put_entries key_eq plans key plan) plans.cap) ⊎ (after ≡ plans) → ArePlanned (map entry_view after.entries)
  put_leaves_planned plan after is all (inr h) = subst (λ (a : Plans). ArePlanned (map entry_view a.entries)) (sym h) all
  put_leaves_planned plan after is all (inl h) =
      subst (λ (a : Plans). ArePlanned (map entry_view a.entries)) (sym h)
      (subst ArePlanned (sym (put_seen plan)) (put_are_planned (key_view key) plan.value (plans.cap - 1) (map entry_view plans.entries) is all))
