-- What the kept pairs are seen as, under the calls of the map that keeps them.
use Rattle.std.proofs.Common.{◌≡◌, ◌-◌, Bool, true, false, cond, List, [], ◌∷◌, map, take, Option, Some, None, refl, sym, ap, ◌∙◌, Global}
use Rattle.std.specs.List.{take-map}
use Rattle.std.specs.Map.{lookup, lookup_entry, remove_entry}
use Rattle.std.specs.Option.{option_map, option_map_or}
use Rattle.std.specs.declared.rc.Rc.{Rc}
use Rattle.lru.specs.LruCache.{LruCache, promoted, put_entries}
use Rattle.pg_cache.specs.Cache.{Key, entry_view, key_view, same_key}
use Rattle.pg_cache.specs.declared.key.Key as kept_key
use Rattle.pg_plan.specs.declared.plan.Plan.{Plan}

abbrev pub Pair : Type 0
Pair = kept_key.Key × Rc Plan Global

abbrev pub is_key : Key → kept_key.Key → Bool
is_key key k = same_key key (key_view k)

module _ (key : Key) where
  pub lookup-view : (es : List Pair) → lookup (same_key key) (map entry_view es) ≡ option_map (λ p. p.value) (lookup (is_key key) es)
  lookup-view [] = refl
  lookup-view (e ∷ es) =
      elim (is_key key e.0) as (λ b. cond b (Some e.1.value) (lookup (same_key key) (map entry_view es)) ≡ option_map (λ p. p.value) (cond b (Some e.1) (lookup (is_key key) es)))
      [ true ↦ refl | false ↦ lookup-view es ]

  pub lookup_entry-view : (es : List Pair) → lookup_entry (same_key key) (map entry_view es) ≡ option_map entry_view (lookup_entry (is_key key) es)
  lookup_entry-view [] = refl
  lookup_entry-view (e ∷ es) =
      elim (is_key key e.0) as (λ b. cond b (Some (entry_view e)) (lookup_entry (same_key key) (map entry_view es)) ≡ option_map entry_view (cond b (Some e) (lookup_entry (is_key key) es)))
      [ true ↦ refl | false ↦ lookup_entry-view es ]

  remove_entry-view : (es : List Pair) → map entry_view (remove_entry (is_key key) es) ≡ remove_entry (same_key key) (map entry_view es)
  remove_entry-view [] = refl
  remove_entry-view (e ∷ es) =
      elim (is_key key e.0) as (λ b. map entry_view (cond b es (e ∷ remove_entry (is_key key) es)) ≡ cond b (map entry_view es) (entry_view e ∷ remove_entry (same_key key) (map entry_view es)))
      [ true ↦ refl | false ↦ ap (λ xs. entry_view e ∷ xs) (remove_entry-view es) ]

  first : (es : List Pair) (found : Option Pair)
      → map entry_view (option_map_or (λ e. e ∷ remove_entry (is_key key) es) found es)
      ≡ option_map_or (λ e. e ∷ remove_entry (same_key key) (map entry_view es)) (option_map entry_view found) (map entry_view es)
  first es None = refl
  first es (Some e) = ap (λ xs. entry_view e ∷ xs) (remove_entry-view es)

  pub promoted-view : (es : List Pair) → map entry_view (promoted (is_key key) es) ≡ promoted (same_key key) (map entry_view es)
  promoted-view es =
      first es (lookup_entry (is_key key) es)
      ∙ ap (λ o. option_map_or (λ e. e ∷ remove_entry (same_key key) (map entry_view es)) o (map entry_view es)) (sym (lookup_entry-view es))

  no_entry : (es : List Pair) → lookup (same_key key) (map entry_view es) ≡ None → lookup_entry (is_key key) es ≡ None
  no_entry [] h = refl
  no_entry (e ∷ es) h =
      (elim (is_key key e.0) as (λ b. cond b (Some e.1.value) (lookup (same_key key) (map entry_view es)) ≡ None → cond b (Some e) (lookup_entry (is_key key) es) ≡ None)
      [ true ↦ λ k. absurd cc | false ↦ λ k. no_entry es k ]) h

-- a pair whose key isn't there goes first
pub put-view : (c : LruCache kept_key.Key (Rc Plan Global)) (key : kept_key.Key) (plan : Rc Plan Global) → lookup (same_key (key_view key)) (map entry_view c.entries) ≡ None
    → map entry_view (put_entries (λ k. is_key (key_view k)) c key plan) ≡ (key_view key, plan.value) ∷ take (c.cap - 1) (map entry_view c.entries)
put-view c key plan h =
    ap (λ o. map entry_view (option_map_or (λ e. (e.0, plan) ∷ remove_entry (is_key (key_view key)) c.entries) o ((key, plan) ∷ take (c.cap - 1) c.entries))) (no_entry (key_view key) c.entries h)
    ∙ ap (λ es. (key_view key, plan.value) ∷ es) (sym (take-map entry_view (c.cap - 1) c.entries))
