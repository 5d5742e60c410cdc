-- Rising lists of ids, read as sets.
use Rattle.std.proofs.Common.{◌≡◌, ◌==◌, ◌<◌, ℕ, Bool, true, false, cond, List, [], ◌∷◌, ◌++◌, ◌||◌, Option, Some, None, map as map_list, arith, refl, sym, ap, subst, ◌∙◌}
use Rattle.std.proofs.lemmas.Bool.Decides.{nat_tests}
use Rattle.std.proofs.lemmas.List.{append-nil}
use Rattle.std.specs.Option.{is_some}
use Rattle.std.specs.List.{AllByRecursion}
use Rattle.std.specs.List.Sorted.{IsStrictlySortedBy}
use Rattle.std.specs.Map.{keys_of}
use Rattle.std.specs.Ordering.{nat_cmp, eq_by_cmp, match_ordering}
use Rattle.std.specs.declared.cmp.Ordering.{Ordering}
use Rattle.std.specs.declared.cmp.Ordering.TheVariants.{Less, Equal, Greater}
use Rattle.std.specs.Cmp.{nat_cmp_total}
use Rattle.std.specs.FinMap as map
use Rattle.std.specs.FinMap.{get-insert, get-remove, get-empty}
use Rattle.pg_graph.specs.IdRuns.{entry_of, set_of}
use Rattle.pg_graph.specs.IdSets.{ids_of, IsHeld}
use Rattle.pg_graph.specs.declared.id_set.IdStorage.{IdStorage}
use Rattle.pg_graph.specs.declared.id_set.IdStorage.TheVariants as held
use Rattle.pg_graph.specs.Links.{with_id, without_id}
use Rattle.pg_graph.specs.Sorted.{Rises}
use Rattle.pg_graph.proofs.Maps.{same_numbered, keys_of_entries}
use Rattle.pg_graph.proofs.SortedLists.{below, level, equal, itself}
use Rattle.pg_graph.proofs.RunLists.{has, above_has_none, front_below, has_back, without_back}

same_test : (q k : ℕ) → eq_by_cmp nat_cmp q k ≡ (k == q)
same_test q k = grind (arith, nat_tests)

-- what a set has at an id that is in it, or isn't
abbrev pub here : Bool → Option (Unit {0})
here true = Some tt
here false = None

-- what the set of a list has at an id
pub at_id : (xs : List ℕ) (q : ℕ) → map.get (set_of xs) q ≡ here (has q xs)
at_id [] q = get-empty nat_cmp q
at_id (x ∷ xs) q = get-insert nat_cmp_total (set_of xs) x tt q ∙ by_test (x == q) (has q xs) _ _ (same_test q x) (at_id xs q)
  where
    by_test : (a b t : Bool) (o : Option (Unit {0})) → t ≡ a → o ≡ here b → cond t (Some tt) o ≡ here (a || b)
    by_test true b t o e f = rw e refl
    by_test false b t o e f = rw e f

pub contains_is : (xs : List ℕ) (q : ℕ) → map.contains_key (set_of xs) q ≡ has q xs
contains_is xs q = ap is_some (at_id xs q) ∙ by_test (has q xs)
  where
    by_test : (b : Bool) → is_some (here b) ≡ b
    by_test true = refl
    by_test false = refl

again : (b c : Bool) → (b || c) ≡ (b || (b || c))
again true c = refl
again false c = refl

swapped : (a b c : Bool) → (a || (b || c)) ≡ (b || (a || c))
swapped true true c = refl
swapped true false c = refl
swapped false true c = refl
swapped false false c = refl

has_put : (id : ℕ) (xs : List ℕ) (q : ℕ) → has q (with_id id xs) ≡ ((id == q) || has q xs)
has_put id [] q = refl
has_put id (x ∷ xs) q = by_order (nat_cmp id x) refl (has_put id xs q)
  where
    by_order : (o : Ordering) → nat_cmp id x ≡ o → has q (with_id id xs) ≡ ((id == q) || has q xs) → has q (match_ordering o (id ∷ x ∷ xs) (id ∷ xs) (x ∷ with_id id xs)) ≡ ((id == q) || ((x == q) || has q xs))
    by_order Less is rest = refl
    by_order Equal is rest = again (id == q) (has q xs) ∙ ap (λ n. (id == q) || ((n == q) || has q xs)) (equal id x is)
    by_order Greater is rest = ap (λ b. (x == q) || b) rest ∙ swapped (x == q) (id == q) (has q xs)

-- a list with one more id stands for the set with it
pub insert_is : (id : ℕ) (xs : List ℕ) → set_of (with_id id xs) ≡ map.insert (set_of xs) id tt
insert_is id xs = same_numbered _ _ (λ q. at_id (with_id id xs) q ∙ ap here (has_put id xs q) ∙ sym (at_id (id ∷ xs) q))

has_without : (id : ℕ) (xs : List ℕ) (q : ℕ) → Rises (λ n. n) xs → has q (without_id id xs) ≡ cond (id == q) false (has q xs)
has_without id [] q rise = by_test (id == q)
  where
    by_test : (b : Bool) → false ≡ cond b false false
    by_test true = refl
    by_test false = refl
has_without id (x ∷ xs) q rise = by_test (x == id) refl (id == q) refl (has_without id xs q rise.1)
  where
    one : (a b : ℕ) → (a == b) ≡ true → a ≡ b
    one a b e = grind (arith, nat_tests)

    by_test : (a : Bool) → (x == id) ≡ a → (b : Bool) → (id == q) ≡ b → has q (without_id id xs) ≡ cond (id == q) false (has q xs)
        → has q (cond a xs (x ∷ without_id id xs)) ≡ cond b false ((x == q) || has q xs)
    by_test true at true is rest = above_has_none q xs (subst (λ n. AllByRecursion (λ m. n < m) xs) (one x id at ∙ one id q is) rise.0)
    by_test true at false is rest = sym (ap (λ b. b || has q xs) (ap (λ n. n == q) (one x id at) ∙ is))
    by_test false at true is rest = ap (λ b. b || has q (without_id id xs)) (ap (λ n. x == n) (sym (one id q is)) ∙ at) ∙ rest ∙ ap (λ b. cond b false (has q xs)) is
    by_test false at false is rest = ap (λ b. (x == q) || b) (rest ∙ ap (λ b. cond b false (has q xs)) is)

-- a rising list without an id stands for the set without it
pub remove_is : (id : ℕ) (xs : List ℕ) → Rises (λ n. n) xs → set_of (without_id id xs) ≡ map.remove (set_of xs) id
remove_is id xs rise = same_numbered _ _ (λ q.
    at_id (without_id id xs) q ∙ ap here (has_without id xs q rise) ∙ by_test (id == q) (has q xs)
    ∙ sym (get-remove nat_cmp_total (set_of xs) id q ∙ ap (λ b. cond b None (map.get (set_of xs) q)) (same_test q id) ∙ ap (cond (id == q) None) (at_id xs q)))
  where
    by_test : (a b : Bool) → here (cond a false b) ≡ cond a None (here b)
    by_test true b = refl
    by_test false b = refl

keys_back : (xs : List ℕ) → keys_of (map_list entry_of xs) ≡ xs
keys_back [] = refl
keys_back (x ∷ xs) = ap (λ ys. x ∷ ys) (keys_back xs)

sorted : (xs : List ℕ) → Rises (λ n. n) xs → IsStrictlySortedBy nat_cmp xs
unfolding IsStrictlySortedBy
sorted [] rise = tt
sorted (x ∷ xs) rise = (each xs rise.0, sorted xs rise.1)
  where
    each : (ys : List ℕ) → AllByRecursion (λ y. x < y) ys → AllByRecursion (λ y. nat_cmp x y ≡ Less) ys
    each [] all = tt
    each (y ∷ ys) all = (below x y all.0, each ys all.1)

-- the ids of a set are those of its rising list
pub keys_is : (xs : List ℕ) → Rises (λ n. n) xs → map.keys (set_of xs) ≡ xs
keys_is xs rise = keys_of_entries (map_list entry_of xs) (subst (IsStrictlySortedBy nat_cmp) (sym (keys_back xs)) (sorted xs rise)) ∙ keys_back xs

-- the empty set has no list but the empty one
pub no_ids : (xs : List ℕ) → Rises (λ n. n) xs → set_of xs ≡ map.empty → xs ≡ []
no_ids xs rise is = sym (keys_is xs rise) ∙ ap (λ m. map.keys m) is ∙ keys_is [] tt

module _ (id : ℕ) (xs : List ℕ) (rise : Rises (λ n. n) (xs ++ id ∷ [])) where
  -- the last id is in the set
  pub last_is_in : map.get (set_of (xs ++ id ∷ [])) id ≡ Some tt
  last_is_in =
      at_id (xs ++ id ∷ []) id ∙ ap here (has_back id xs (id ∷ []) (front_below id xs [] rise) ∙ ap (λ b. b || false) (itself id id refl))

  -- what stands before the last id is the set without it
  pub last_is_out : set_of xs ≡ map.remove (set_of (xs ++ id ∷ [])) id
  last_is_out =
      ap set_of (sym (without_back id xs (id ∷ []) (front_below id xs [] rise) ∙ ap (λ b. xs ++ cond b [] (id ∷ [])) (itself id id refl) ∙ append-nil xs))
      ∙ remove_is id (xs ++ id ∷ []) rise

-- ---- one id alone

pub one_again : (a id : ℕ) → a ≡ id → with_id id (a ∷ []) ≡ a ∷ []
one_again a id e = rw (level id a (sym e)) (ap (λ n. n ∷ []) (sym e))

pub one_out : (a id : ℕ) → a ≡ id → without_id id (a ∷ []) ≡ []
one_out a id e = rw (itself a id e) refl

pub apart : (a b : ℕ) → (a ≡ b → ⊥) → (a == b) ≡ false
apart a b ne = grind (arith, nat_tests)

pub one_stays : (a id : ℕ) → (a ≡ id → ⊥) → without_id id (a ∷ []) ≡ a ∷ []
one_stays a id ne = ap (λ b. cond b [] (a ∷ [])) (apart a id ne)

pub held_rises : (h : IdStorage) → IsHeld h → Rises (λ n. n) (ids_of h)
held_rises held.Nothing is = tt
held_rises (held.One id) is = (tt, tt)
held_rises (held.More runs) is = is.rise
