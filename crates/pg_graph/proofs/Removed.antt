-- Finite maps without the ids of a set.
use Rattle.std.proofs.Common.{◌≡◌, ◌≢◌, ◌+◌, ◌-◌, ℕ, Bool, true, false, not, cond, List, [], ◌∷◌, map as map_list, filter, length, Option, Some, None, IsSome, is_some, inl, inr, arith, refl, sym, ap, subst, ◌∙◌}
use Rattle.std.proofs.lemmas.Bool.{cases_eq}
use Rattle.std.specs.Cmp.{nat_cmp_total}
use Rattle.std.specs.FinMap as map
use Rattle.std.specs.FinMap.{FinMap}
use Rattle.std.specs.FinMap.Entries.{is_sorted-where_key, find-where_key, same_entries}
use Rattle.std.specs.List.{AllByRecursion}
use Rattle.std.specs.Ordering.{nat_cmp}
use Rattle.pg_graph.proofs.Ids.{ids_in}
use Rattle.pg_graph.proofs.Maps.{same_numbered, get_inserted, get_inserted_other, get_removed, get_removed_other}
use Rattle.pg_graph.proofs.Refined.{all_entries}
use Rattle.pg_graph.specs.Content.{ids_where}
use Rattle.pg_graph.specs.Removed.{Ids, has_id, without_ids, live_ids}

turned : {A : Type 0} (b : Bool) (o : Option A) → cond (not b) o None ≡ cond b None o
turned true o = refl
turned false o = refl

pub has_inserted : (ids : Ids) (k : ℕ) → has_id (map.insert ids k tt) k ≡ true
has_inserted ids k = ap is_some (get_inserted ids k tt)

pub has_inserted_other : (ids : Ids) (k q : ℕ) → q ≢ k → has_id (map.insert ids k tt) q ≡ has_id ids q
has_inserted_other ids k q ne = ap is_some (get_inserted_other ids k tt q ne)

pub has_removed : (ids : Ids) (k : ℕ) → has_id (map.remove ids k) k ≡ false
has_removed ids k = ap is_some (get_removed ids k)

pub has_removed_other : (ids : Ids) (k q : ℕ) → q ≢ k → has_id (map.remove ids k) q ≡ has_id ids q
has_removed_other ids k q ne = ap is_some (get_removed_other ids k q ne)

pub has_none : (q : ℕ) → has_id map.empty q ≡ false
has_none q = ap is_some (map.get-empty {X = Unit {0}} nat_cmp q)

module _ {X : Type 0} where
  pub get_without : (m : FinMap nat_cmp X) (ids : Ids) (q : ℕ) → map.get (without_ids m ids) q ≡ cond (has_id ids q) None (map.get m q)
  get_without m ids q =
      map.get-retain_keys m (λ x. not (has_id ids x)) q (λ x t. ap (λ n. not (has_id ids n)) (sym (map.nat_cmp-IsAntisymmetric q x t)))
      ∙ turned (has_id ids q) (map.get m q)

  pub get_kept : (m : FinMap nat_cmp X) (ids : Ids) (q : ℕ) → has_id ids q ≡ false → map.get (without_ids m ids) q ≡ map.get m q
  get_kept m ids q h = get_without m ids q ∙ ap (λ b. cond b None (map.get m q)) h

  pub get_gone : (m : FinMap nat_cmp X) (ids : Ids) (q : ℕ) → has_id ids q ≡ true → map.get (without_ids m ids) q ≡ None
  get_gone m ids q h = get_without m ids q ∙ ap (λ b. cond b None (map.get m q)) h

  found : (b : Bool) (o : Option X) (a : X) → cond b None o ≡ Some a → (b ≡ false) × (o ≡ Some a)
  found true o a h = absurd (cc)
  found false o a h = (refl, h)

  -- what is there without the ids is none of them
  pub is_kept : (m : FinMap nat_cmp X) (ids : Ids) (q : ℕ) (a : X) → map.get (without_ids m ids) q ≡ Some a → (has_id ids q ≡ false) × (map.get m q ≡ Some a)
  is_kept m ids q a h = found (has_id ids q) (map.get m q) a (sym (get_without m ids q) ∙ h)

  some_found : (b : Bool) (o : Option X) → IsSome (cond b None o) → (b ≡ false) × IsSome o
  some_found true o h = absurd (cc)
  some_found false o h = (refl, h)

  pub is_live : (m : FinMap nat_cmp X) (ids : Ids) (q : ℕ) → IsSome (map.get (without_ids m ids) q) → (has_id ids q ≡ false) × IsSome (map.get m q)
  is_live m ids q h = some_found (has_id ids q) (map.get m q) (subst IsSome (get_without m ids q) h)

  pub without_none : (m : FinMap nat_cmp X) → without_ids m map.empty ≡ m
  without_none m = same_numbered _ _ (λ q. get_kept m map.empty q (has_none q))

  -- a new value under an id that is none of them
  pub without_inserted : (m : FinMap nat_cmp X) (ids : Ids) (k : ℕ) (v : X) → has_id ids k ≡ false → without_ids (map.insert m k v) ids ≡ map.insert (without_ids m ids) k v
  without_inserted m ids k v h = same_numbered _ _ (λ q. elim (cases_eq q k) [
    | inl same ↦ subst (λ n. map.get (without_ids (map.insert m k v) ids) n ≡ map.get (map.insert (without_ids m ids) k v) n) (sym same)
        (get_kept (map.insert m k v) ids k h ∙ get_inserted m k v ∙ sym (get_inserted (without_ids m ids) k v))
    | inr ne ↦
        get_without (map.insert m k v) ids q ∙ ap (cond (has_id ids q) None) (get_inserted_other m k v q ne)
        ∙ sym (get_inserted_other (without_ids m ids) k v q ne ∙ get_without m ids q)
  ])

  -- one id more in the set
  pub without_more : (m : FinMap nat_cmp X) (ids : Ids) (k : ℕ) → without_ids m (map.insert ids k tt) ≡ map.remove (without_ids m ids) k
  without_more m ids k = same_numbered _ _ (λ q. elim (cases_eq q k) [
    | inl same ↦ subst (λ n. map.get (without_ids m (map.insert ids k tt)) n ≡ map.get (map.remove (without_ids m ids) k) n) (sym same)
        (get_gone m (map.insert ids k tt) k (has_inserted ids k) ∙ sym (get_removed (without_ids m ids) k))
    | inr ne ↦
        get_without m (map.insert ids k tt) q ∙ ap (λ b. cond b None (map.get m q)) (has_inserted_other ids k q ne)
        ∙ sym (get_removed_other (without_ids m ids) k q ne ∙ get_without m ids q)
  ])

  -- an id of the set leaves the map and the set
  pub without_both : (m : FinMap nat_cmp X) (ids : Ids) (k : ℕ) → has_id ids k ≡ true → without_ids (map.remove m k) (map.remove ids k) ≡ without_ids m ids
  without_both m ids k h = same_numbered _ _ (λ q. elim (cases_eq q k) [
    | inl same ↦ subst (λ n. map.get (without_ids (map.remove m k) (map.remove ids k)) n ≡ map.get (without_ids m ids) n) (sym same)
        (get_kept (map.remove m k) (map.remove ids k) k (has_removed ids k) ∙ get_removed m k ∙ sym (get_gone m ids k h))
    | inr ne ↦
        get_without (map.remove m k) (map.remove ids k) q
        ∙ (λ i. cond (has_removed_other ids k q ne i) None (get_removed_other m k q ne i))
        ∙ sym (get_without m ids q)
  ])

  entries_without : (m : FinMap nat_cmp X) (ids : Ids) → map.entries (without_ids m ids) ≡ filter (λ e. not (has_id ids e.0)) (map.entries m)
  entries_without m ids =
      let test : ℕ → Bool = λ x. not (has_id ids x) in
      same_entries nat_cmp nat_cmp_total map.nat_cmp-IsAntisymmetric _ _ (map.entries_sorted _) (is_sorted-where_key nat_cmp test (map.entries m) (map.entries_sorted m))
      (λ q.
      sym (map.get-entries (without_ids m ids) q) ∙ get_without m ids q
      ∙ sym (turned (has_id ids q) (map.get m q))
      ∙ ap (λ o. cond (test q) o None) (map.get-entries m q)
      ∙ sym (find-where_key nat_cmp test q (λ x t. ap test (sym (map.nat_cmp-IsAntisymmetric q x t))) (map.entries m)))

  abbrev kept_in : Ids → List (ℕ × X) → List (ℕ × X)
  kept_in ids es = filter (λ e. not (has_id ids e.0)) es

  live_in : (p : X → Bool) (ids : Ids) (es : List (ℕ × X)) → ids_in p (kept_in ids es) ≡ live_ids ids (ids_in p es)
  live_in p ids [] = refl
  live_in p ids (e ∷ es) = by_tests (p e.1) (not (has_id ids e.0)) refl refl (live_in p ids es)
    where
      by_tests : (b c : Bool) → p e.1 ≡ b → not (has_id ids e.0) ≡ c → ids_in p (kept_in ids es) ≡ live_ids ids (ids_in p es)
          → ids_in p (cond (not (has_id ids e.0)) (e ∷ kept_in ids es) (kept_in ids es))
          ≡ live_ids ids (map_list {B = ℕ} (λ (e : ℕ × X). e.0) (cond (p e.1) (e ∷ filter (λ e. p e.1) es) (filter (λ e. p e.1) es)))
      by_tests true true passes kept later =
          ap (λ t. ids_in p (cond t (e ∷ kept_in ids es) (kept_in ids es))) kept
          ∙ ap (λ t. map_list {B = ℕ} (λ (e : ℕ × X). e.0) (cond t (e ∷ filter (λ e. p e.1) (kept_in ids es)) (filter (λ e. p e.1) (kept_in ids es)))) passes
          ∙ ap (λ ns. e.0 ∷ ns) later
          ∙ sym (ap (λ t. live_ids ids (map_list {B = ℕ} (λ (e : ℕ × X). e.0) (cond t (e ∷ filter (λ e. p e.1) es) (filter (λ e. p e.1) es)))) passes
          ∙ ap (λ t. cond t (e.0 ∷ live_ids ids (ids_in p es)) (live_ids ids (ids_in p es))) kept)
      by_tests true false passes gone later =
          ap (λ t. ids_in p (cond t (e ∷ kept_in ids es) (kept_in ids es))) gone
          ∙ later
          ∙ sym (ap (λ t. live_ids ids (map_list {B = ℕ} (λ (e : ℕ × X). e.0) (cond t (e ∷ filter (λ e. p e.1) es) (filter (λ e. p e.1) es)))) passes
          ∙ ap (λ t. cond t (e.0 ∷ live_ids ids (ids_in p es)) (live_ids ids (ids_in p es))) gone)
      by_tests false true fails kept later =
          ap (λ t. ids_in p (cond t (e ∷ kept_in ids es) (kept_in ids es))) kept
          ∙ ap (λ t. map_list {B = ℕ} (λ (e : ℕ × X). e.0) (cond t (e ∷ filter (λ e. p e.1) (kept_in ids es)) (filter (λ e. p e.1) (kept_in ids es)))) fails
          ∙ later
          ∙ sym (ap (λ t. live_ids ids (map_list {B = ℕ} (λ (e : ℕ × X). e.0) (cond t (e ∷ filter (λ e. p e.1) es) (filter (λ e. p e.1) es)))) fails)
      by_tests false false fails gone later =
          ap (λ t. ids_in p (cond t (e ∷ kept_in ids es) (kept_in ids es))) gone
          ∙ later
          ∙ sym (ap (λ t. live_ids ids (map_list {B = ℕ} (λ (e : ℕ × X). e.0) (cond t (e ∷ filter (λ e. p e.1) es) (filter (λ e. p e.1) es)))) fails)

  -- the ids of what passes a test and is none of the set
  pub ids_live : (p : X → Bool) (m : FinMap nat_cmp X) (ids : Ids) → ids_where p (without_ids m ids) ≡ live_ids ids (ids_where p m)
  ids_live p m ids = ap (λ es. ids_in p es) (entries_without m ids) ∙ live_in p ids (map.entries m)

  -- how many there are after one leaves, and after one comes
  pub one_less : (m : FinMap nat_cmp X) (k : ℕ) → IsSome (map.get m k) → length (map.entries (map.remove m k)) ≡ length (map.entries m) - 1
  one_less m k there = sym (map.len-entries (map.remove m k)) ∙ map.len-remove nat_cmp_total m k ∙ ap (λ b. cond b (map.len m - 1) (map.len m)) there ∙ ap (λ n. n - 1) (map.len-entries m)

  pub one_more : (m : FinMap nat_cmp X) (k : ℕ) (v : X) → map.get m k ≡ None → length (map.entries (map.insert m k v)) ≡ length (map.entries m) + 1
  one_more m k v absent =
      sym (map.len-entries (map.insert m k v)) ∙ map.len-insert nat_cmp_total m k v ∙ ap (λ o. cond (is_some o) (map.len m) (map.len m + 1)) absent ∙ ap (λ n. n + 1) (map.len-entries m)

  pub as_many : (m : FinMap nat_cmp X) (k : ℕ) (v : X) → IsSome (map.get m k) → length (map.entries (map.insert m k v)) ≡ length (map.entries m)
  as_many m k v there =
      sym (map.len-entries (map.insert m k v)) ∙ map.len-insert nat_cmp_total m k v ∙ ap (λ b. cond b (map.len m) (map.len m + 1)) there ∙ map.len-entries m

  pub some_there : (m : FinMap nat_cmp X) (k : ℕ) → IsSome (map.get m k) → (n : ℕ) × (length (map.entries m) ≡ n + 1)
  some_there m k there = by_case (map.entries m) refl
    where
      by_case : (es : List (ℕ × X)) → map.entries m ≡ es → (n : ℕ) × (length es ≡ n + 1)
      by_case [] is = let none : map.get m k ≡ None = map.get-entries m k ∙ ap (map.find nat_cmp k) is in absurd (cc (subst IsSome none there))
      by_case (e ∷ es) is = (length es, omega arith)

-- who is there stays, when another comes
pub still_some : {X : Type 0} (m : FinMap nat_cmp X) (k : ℕ) (v : X) (q : ℕ) → IsSome (map.get m q) → IsSome (map.get (map.insert m k v) q)
still_some m k v q h = elim (cases_eq q k) [
  | inl same ↦ subst (λ n. IsSome (map.get (map.insert m k v) n)) (sym same) (subst IsSome (sym (get_inserted m k v)) refl)
  | inr ne ↦ subst IsSome (sym (get_inserted_other m k v q ne)) h
]

pub still_some_without : {X : Type 0} (m : FinMap nat_cmp X) (k q : ℕ) → q ≢ k → IsSome (map.get m q) → IsSome (map.get (map.remove m k) q)
still_some_without m k q ne h = subst IsSome (sym (get_removed_other m k q ne)) h

-- no entry passes
pub none_where : {X : Type 0} (p : X → Bool) (m : FinMap nat_cmp X) → ((k : ℕ) (a : X) → map.get m k ≡ Some a → p a ≡ false) → ids_where p m ≡ []
none_where {X} p m h = each (map.entries m) (all_entries (λ k a. p a ≡ false) m h)
  where
    each : (es : List (ℕ × X)) → AllByRecursion (λ e. p e.1 ≡ false) es → ids_in p es ≡ []
    each [] all = refl
    each (e ∷ es) all = ap (λ b. map_list {B = ℕ} (λ (e : ℕ × X). e.0) (cond b (e ∷ filter (λ e. p e.1) es) (filter (λ e. p e.1) es))) all.0 ∙ each es all.1
