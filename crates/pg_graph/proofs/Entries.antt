-- Entries in a rising list, seen as a finite map of what their values stand for.
use Rattle.std.proofs.Common.{◌≡◌, ◌==◌, ◌<◌, ℕ, zero, suc, Bool, true, false, not, cond, T, List, [], ◌∷◌, map, filter, length, slice_index_or, Some, None, Ordering, Less, Equal, Greater, arith, refl, sym, ap, subst, ◌∙◌}
use Rattle.std.proofs.lemmas.Bool.Decides.{nat_tests}
use Rattle.std.specs.Cmp.{nat_cmp_total, eq_by_cmp_equiv}
use Rattle.std.specs.FinMap as fin
use Rattle.std.specs.FinMap.{FinMap, find, is_sorted}
use Rattle.std.specs.FinMap.Entries.{by_order, below_all, is_sorted-put, is_sorted-where_key, find-where_key, same_entries}
use Rattle.std.specs.List.{AllByRecursion, HoldsAt}
use Rattle.std.specs.List.Sorted.{IsPartitionPoint}
use Rattle.std.specs.Ordering.{nat_cmp, match_ordering, eq_by_cmp, is_eq, is_lt}
use Rattle.std.specs.Prelude.{◌&&◌, Option}
use Rattle.pg_graph.proofs.SortedLists.{less, greater, equal, below, level}
use Rattle.pg_graph.specs.Sorted.{Rises, with_element, without}

both : (a b : Bool) → T a → T b → T (a && b)
both true b p q = q
both false b p q = p

turned : {A : Type 0} (b : Bool) (o : Option A) → cond b None o ≡ cond (not b) o None
turned true o = refl
turned false o = refl

-- the entries of a map without a key
pub entries_removed : {X : Type 0} (m : FinMap nat_cmp X) (k : ℕ) → fin.entries (fin.remove m k) ≡ filter (λ e. not (eq_by_cmp nat_cmp k e.0)) (fin.entries m)
entries_removed m k =
    let test : ℕ → Bool = λ x. not (eq_by_cmp nat_cmp k x) in
    same_entries nat_cmp nat_cmp_total fin.nat_cmp-IsAntisymmetric _ _ (fin.entries_sorted _) (is_sorted-where_key nat_cmp test (fin.entries m) (fin.entries_sorted m))
    (λ q.
    sym (fin.get-entries (fin.remove m k) q) ∙ fin.get-remove nat_cmp_total m k q
    ∙ ap (λ b. cond b None (fin.get m q)) ((eq_by_cmp_equiv nat_cmp_total).symm q k)
    ∙ turned (eq_by_cmp nat_cmp k q) (fin.get m q)
    ∙ ap (λ o. cond (test q) o None) (fin.get-entries m q)
    ∙ sym (find-where_key nat_cmp test q (λ x t. ap test (sym (fin.nat_cmp-IsAntisymmetric q x t))) (fin.entries m)))

differs : (x k : ℕ) → (x == k) ≡ false → eq_by_cmp nat_cmp k x ≡ false
differs x k h = grind (arith, nat_tests)

agrees : (x k : ℕ) → (x == k) ≡ true → eq_by_cmp nat_cmp k x ≡ true
agrees x k h = grind (arith, nat_tests)

same : (x k : ℕ) → (x == k) ≡ true → k ≡ x
same x k h = grind (arith, nat_tests)

past : (k x : ℕ) → k < x → eq_by_cmp nat_cmp k x ≡ false
past k x h = grind (arith, nat_tests)

module _ {V W : Type 0} (f : V → W) where
  abbrev pub seen : List (ℕ × V) → List (ℕ × W)
  seen es = map (λ e. (e.0, f e.1)) es

  below_seen : (k : ℕ) (es : List (ℕ × V)) → AllByRecursion (λ e. k < e.0) es → T (below_all nat_cmp k (seen es))
  below_seen k [] all = tt
  below_seen k (e ∷ es) all = both _ _ (subst (λ o. T (is_lt o)) (sym (below k e.0 all.0)) tt) (below_seen k es all.1)

  pub sorted_seen : (es : List (ℕ × V)) → Rises (λ e. e.0) es → T (is_sorted nat_cmp (seen es))
  sorted_seen [] rises = tt
  sorted_seen (e ∷ es) rises = both _ _ (below_seen e.0 es rises.0) (sorted_seen es rises.1)

  pub put_seen : (k : ℕ) (v : V) (es : List (ℕ × V)) → seen (with_element (λ e. e.0) (k, v) es) ≡ fin.put nat_cmp k (f v) (seen es)
  put_seen k v [] = refl
  put_seen k v (e ∷ es) = chosen (nat_cmp k e.0) refl (put_seen k v es)
    where
      chosen : (o : Ordering) → nat_cmp k e.0 ≡ o → seen (with_element (λ e. e.0) (k, v) es) ≡ fin.put nat_cmp k (f v) (seen es)
          → seen (match_ordering o ((k, v) ∷ e ∷ es) ((k, v) ∷ es) (e ∷ with_element (λ e. e.0) (k, v) es)) ≡ by_order o ((k, f v) ∷ (e.0, f e.1) ∷ seen es) ((e.0, f v) ∷ seen es) ((e.0, f e.1) ∷ fin.put nat_cmp k (f v) (seen es))
      chosen Less is rest = refl
      chosen Equal is rest = ap (λ n. (n, f v) ∷ seen es) (equal _ _ is)
      chosen Greater is rest = ap (λ r. (e.0, f e.1) ∷ r) rest

  all_pass : (k : ℕ) (es : List (ℕ × V)) → AllByRecursion (λ e. k < e.0) es → filter (λ e. not (eq_by_cmp nat_cmp k e.0)) (seen es) ≡ seen es
  all_pass k [] all = refl
  all_pass k (e ∷ es) all =
      let rest = filter (λ e. not (eq_by_cmp nat_cmp k e.0)) (seen es) in
      ap (λ b. cond (not b) ((e.0, f e.1) ∷ rest) rest) (past k e.0 all.0) ∙ ap (λ r. (e.0, f e.1) ∷ r) (all_pass k es all.1)

  pub without_seen : (k : ℕ) (es : List (ℕ × V)) → Rises (λ e. e.0) es → seen (without (λ e. e.0) k es) ≡ filter (λ e. not (eq_by_cmp nat_cmp k e.0)) (seen es)
  without_seen k [] rises = refl
  without_seen k (e ∷ es) rises =
      let rest = filter (λ e. not (eq_by_cmp nat_cmp k e.0)) (seen es) in
      elim (e.0 == k) as (λ b. (e.0 == k) ≡ b → seen (cond b es (e ∷ without (λ e. e.0) k es)) ≡ filter (λ e. not (eq_by_cmp nat_cmp k e.0)) (seen (e ∷ es))) [
        | true ↦ λ is.
            sym (ap (λ b. cond (not b) ((e.0, f e.1) ∷ rest) rest) (agrees e.0 k is)
            ∙ all_pass k es (subst (λ n. AllByRecursion (λ e. n < e.0) es) (sym (same e.0 k is)) rises.0))
        | false ↦ λ is.
            ap (λ r. (e.0, f e.1) ∷ r) (without_seen k es rises.1)
            ∙ sym (ap (λ b. cond (not b) ((e.0, f e.1) ∷ rest) rest) (differs e.0 k is))
      ] refl

  pub all_seen : (P : ℕ × W → Type 0) (es : List (ℕ × V)) → AllByRecursion (λ e. P (e.0, f e.1)) es → AllByRecursion P (seen es)
  all_seen P [] all = tt
  all_seen P (e ∷ es) all = (all.0, all_seen P es all.1)

  pub all_unseen : (P : ℕ × W → Type 0) (es : List (ℕ × V)) → AllByRecursion P (seen es) → AllByRecursion (λ e. P (e.0, f e.1)) es
  all_unseen P [] all = tt
  all_unseen P (e ∷ es) all = (all.0, all_unseen P es all.1)

  rises_seen : (es : List (ℕ × V)) → Rises (λ e. e.0) es → Rises (λ e. e.0) (seen es)
  rises_seen [] rises = tt
  rises_seen (e ∷ es) rises = (all_seen (λ x. e.0 < x.0) es rises.0, rises_seen es rises.1)

  rises_unseen : (es : List (ℕ × V)) → Rises (λ e. e.0) (seen es) → Rises (λ e. e.0) es
  rises_unseen [] rises = tt
  rises_unseen (e ∷ es) rises = (all_unseen (λ x. e.0 < x.0) es rises.0, rises_unseen es rises.1)

  -- what is seen of entries says whether they rise, and whether each value passes
  pub rises_alike : (es fs : List (ℕ × V)) → seen es ≡ seen fs → Rises (λ e. e.0) es → Rises (λ e. e.0) fs
  rises_alike es fs alike rises = rises_unseen fs (subst (λ (s : List (ℕ × W)). Rises (λ e. e.0) s) alike (rises_seen es rises))

  pub all_alike : (P : ℕ × W → Type 0) (es fs : List (ℕ × V)) → seen es ≡ seen fs → AllByRecursion (λ e. P (e.0, f e.1)) es → AllByRecursion (λ e. P (e.0, f e.1)) fs
  all_alike P es fs alike all = all_unseen P fs (subst (AllByRecursion P) alike (all_seen P es all))

  -- the map of rising entries
  abbrev pub map_of : List (ℕ × V) → FinMap nat_cmp W
  map_of es = fin.from_sorted (seen es)

  pub map_of_none : map_of [] ≡ fin.empty
  map_of_none = fin.empty_of_len (map_of []) (fin.len-entries (map_of []) ∙ ap length (fin.entries-from_sorted nat_cmp [] tt))

  pub entries_of_map : (es : List (ℕ × V)) → Rises (λ e. e.0) es → seen es ≡ fin.entries (map_of es)
  entries_of_map es rises = sym (fin.entries-from_sorted nat_cmp (seen es) (sorted_seen es rises))

  pub map_put : (k : ℕ) (v : V) (es : List (ℕ × V)) → Rises (λ e. e.0) es → map_of (with_element (λ e. e.0) (k, v) es) ≡ fin.insert (map_of es) k (f v)
  map_put k v es rises =
      let sorted = sorted_seen es rises in
      ap fin.from_sorted (put_seen k v es)
      ∙ fin.same_entries_map _ _ (fin.entries-from_sorted nat_cmp _ (is_sorted-put nat_cmp nat_cmp_total k (f v) (seen es) sorted)
      ∙ ap (fin.put nat_cmp k (f v)) (entries_of_map es rises) ∙ sym (fin.entries-insert nat_cmp_total (map_of es) k (f v)))

  pub map_without : (k : ℕ) (es : List (ℕ × V)) → Rises (λ e. e.0) es → map_of (without (λ e. e.0) k es) ≡ fin.remove (map_of es) k
  map_without k es rises =
      let test : ℕ → Bool = λ x. not (eq_by_cmp nat_cmp k x) in
      ap fin.from_sorted (without_seen k es rises)
      ∙ fin.same_entries_map _ _ (fin.entries-from_sorted nat_cmp _ (is_sorted-where_key nat_cmp test (seen es) (sorted_seen es rises))
      ∙ ap (filter (λ e. test e.0)) (entries_of_map es rises) ∙ sym (entries_removed (map_of es) k))

  find_at : (k : ℕ) (es : List (ℕ × V)) (i : ℕ) (d : ℕ × V) → Rises (λ e. e.0) es → i < length es → HoldsAt (λ e. nat_cmp e.0 k ≡ Equal) es i → find nat_cmp k (seen es) ≡ Some (f (slice_index_or es i d).1)
  find_at k [] i d rises inside at = absurd (omega arith)
  find_at k (e ∷ es) zero d rises inside at = ap (λ o. cond (is_eq o) (Some (f e.1)) (find nat_cmp k (seen es))) (level k e.0 (sym (equal _ _ (at e))))
  find_at k (e ∷ es) (suc i) d rises inside at =
      let other : eq_by_cmp nat_cmp k e.0 ≡ false = apart e.0 k (subst (λ n. e.0 < n) (equal _ _ (at d)) (at_all es i rises.0 (omega arith))) in
      ap (λ b. cond b (Some (f e.1)) (find nat_cmp k (seen es))) other ∙ find_at k es i d rises.1 (omega arith) at
    where
      apart : (x k : ℕ) → x < k → eq_by_cmp nat_cmp k x ≡ false
      apart x k h = grind (arith, nat_tests)

      at_all : (es : List (ℕ × V)) (i : ℕ) → AllByRecursion (λ x. e.0 < x.0) es → i < length es → e.0 < (slice_index_or es i d).0
      at_all [] i all h = absurd (omega arith)
      at_all (x ∷ es) zero all h = all.0
      at_all (x ∷ es) (suc i) all h = at_all es i all.1 (omega arith)

  find_none : (k : ℕ) (es : List (ℕ × V)) (i : ℕ) → IsPartitionPoint (λ e. nat_cmp e.0 k ≡ Less) (λ e. nat_cmp e.0 k ≡ Greater) es i → find nat_cmp k (seen es) ≡ None
  find_none k [] i at = refl
  find_none k (e ∷ es) zero at =
      ap (λ b. cond b (Some (f e.1)) (find nat_cmp k (seen es))) (past k e.0 (greater _ _ (at.1 0 e (omega arith) (omega arith))))
      ∙ find_none k es zero (λ j d l h. absurd (omega arith), λ j d l h. at.1 (suc j) d (omega arith) (omega arith))
  find_none k (e ∷ es) (suc i) at =
      ap (λ b. cond b (Some (f e.1)) (find nat_cmp k (seen es))) (before k e.0 (less _ _ (at.0 0 e (omega arith) (omega arith))))
      ∙ find_none k es i (λ j d l h. at.0 (suc j) d (omega arith) (omega arith), λ j d l h. at.1 (suc j) d (omega arith) (omega arith))
    where
      before : (k x : ℕ) → x < k → eq_by_cmp nat_cmp k x ≡ false
      before k x h = grind (arith, nat_tests)

  -- an entry's key is none of those behind it
  pub none_below : (k n : ℕ) (es : List (ℕ × V)) → eq_by_cmp nat_cmp k n ≡ true → AllByRecursion (λ e. n < e.0) es → find nat_cmp k (seen es) ≡ None
  none_below k n [] is all = refl
  none_below k n (e ∷ es) is all = ap (λ b. cond b (Some (f e.1)) (find nat_cmp k (seen es))) (past_equal k n e.0 is all.0) ∙ none_below k n es is all.1
    where
      past_equal : (k n x : ℕ) → eq_by_cmp nat_cmp k n ≡ true → n < x → eq_by_cmp nat_cmp k x ≡ false
      past_equal k n x is h = grind (arith, nat_tests)

  pub get_found : (k : ℕ) (es : List (ℕ × V)) (i : ℕ) (d : ℕ × V) → Rises (λ e. e.0) es → i < length es → HoldsAt (λ e. nat_cmp e.0 k ≡ Equal) es i → fin.get (map_of es) k ≡ Some (f (slice_index_or es i d).1)
  get_found k es i d rises inside at = fin.get-from_sorted nat_cmp (seen es) k (sorted_seen es rises) ∙ find_at k es i d rises inside at

  pub get_missing : (k : ℕ) (es : List (ℕ × V)) (i : ℕ) → Rises (λ e. e.0) es → IsPartitionPoint (λ e. nat_cmp e.0 k ≡ Less) (λ e. nat_cmp e.0 k ≡ Greater) es i → fin.get (map_of es) k ≡ None
  get_missing k es i rises at = fin.get-from_sorted nat_cmp (seen es) k (sorted_seen es rises) ∙ find_none k es i at
