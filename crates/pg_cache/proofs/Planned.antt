-- Each kept plan stays the plan of its key.
use Rattle.std.proofs.Common.{◌≡◌, ℕ, zero, suc, true, false, cond, List, [], ◌∷◌, take, Option, Some, None, refl, sym, ap, subst}
use Rattle.std.specs.Map.{lookup, lookup_entry, remove_entry}
use Rattle.std.specs.Option.{option_map_or}
use Rattle.lru.specs.LruCache.{promoted}
use Rattle.pg_cache.specs.Keys.{same_key_is}
use Rattle.pg_cache.specs.Cache.{Key, same_key, ArePlanned}
use Rattle.pg_plan.specs.Plans.{IsPlanOfText}
use Rattle.pg_plan.specs.declared.plan.Plan.{Plan}

abbrev Entry : Type 0
Entry = Key × Plan

inside : {X : Type 0} (x y : X) → Some x ≡ Some y → x ≡ y
inside x y h = ap (λ o. option_map_or (λ z. z) o x) h

module _ (key : Key) where
  pub planned_under : (es : List Entry) (plan : Plan) → ArePlanned es → lookup (same_key key) es ≡ Some plan → IsPlanOfText key.0 key.1 plan
  planned_under [] plan all h = absurd cc
  planned_under (e ∷ es) plan all h =
      (elim (same_key key e.0) as (λ b. same_key key e.0 ≡ b → cond b (Some e.1) (lookup (same_key key) es) ≡ Some plan → IsPlanOfText key.0 key.1 plan) [
        | true ↦ λ same is.
            let keys : e.0 ≡ key = sym (same_key_is key e.0 same) in
            let plans = inside e.1 plan is in
            subst (λ (k : Key). IsPlanOfText k.0 k.1 plan) keys (subst (λ p. IsPlanOfText e.0.0 e.0.1 p) plans all.0)
        | false ↦ λ other is. planned_under es plan all.1 is
      ]) refl h

  removed : (es : List Entry) → ArePlanned es → ArePlanned (remove_entry (same_key key) es)
  removed [] all = tt
  removed (e ∷ es) all = elim (same_key key e.0) as (λ b. ArePlanned (cond b es (e ∷ remove_entry (same_key key) es))) [ true ↦ all.1 | false ↦ (all.0, removed es all.1) ]

  found : (es : List Entry) (e : Entry) → ArePlanned es → lookup_entry (same_key key) es ≡ Some e → IsPlanOfText e.0.0 e.0.1 e.1
  found [] e all h = absurd cc
  found (f ∷ es) e all h =
      (elim (same_key key f.0) as (λ b. cond b (Some f) (lookup_entry (same_key key) es) ≡ Some e → IsPlanOfText e.0.0 e.0.1 e.1) [
        | true ↦ λ is. subst (λ (g : Entry). IsPlanOfText g.0.0 g.0.1 g.1) (inside f e is) all.0
        | false ↦ λ is. found es e all.1 is
      ]) h

  first : (es : List Entry) (o : Option Entry) → lookup_entry (same_key key) es ≡ o → ArePlanned es → ArePlanned (option_map_or (λ e. e ∷ remove_entry (same_key key) es) o es)
  first es None h all = all
  first es (Some e) h all = (found es e all h, removed es all)

  pub promoted_are_planned : (es : List Entry) → ArePlanned es → ArePlanned (promoted (same_key key) es)
  promoted_are_planned es all = first es (lookup_entry (same_key key) es) refl all

taken : (n : ℕ) (es : List Entry) → ArePlanned es → ArePlanned (take n es)
taken zero es all = tt
taken (suc n) [] all = tt
taken (suc n) (e ∷ es) all = (all.0, taken n es all.1)

pub put_are_planned : (key : Key) (plan : Plan) (n : ℕ) (es : List Entry) → IsPlanOfText key.0 key.1 plan → ArePlanned es → ArePlanned ((key, plan) ∷ take n es)
put_are_planned key plan n es is all = (is, taken n es all)
