-- What a change of one of several rising lists makes of all their numbers.
use Rattle.std.proofs.Common.{◌≡◌, ◌==◌, ◌<◌, ◌≤◌, ◌-◌, ℕ, zero, suc, Bool, true, false, cond, List, [], ◌∷◌, ◌++◌, ◌||◌, length, take, drop, slice_set, slice_index_or, slice_get, Some, Err, Ordering, Less, Equal, Greater, arith, refl, sym, ap, subst, append_assoc, ◌∙◌}
use Rattle.std.proofs.lemmas.Bool.Decides.{nat_tests}
use Rattle.std.proofs.lemmas.List.{append-nil}
use Rattle.std.proofs.lemmas.List.Folds.{list_any-append}
use Rattle.std.proofs.lemmas.Option.{get_or_from_slice_get}
use Rattle.std.specs.List.{AllByRecursion, HoldsAt, insert, remove, list_any}
use Rattle.std.specs.List.Sorted.{IsPartitionPoint}
use Rattle.std.specs.Ordering.{nat_cmp, match_ordering}
use Rattle.pg_graph.specs.IdRuns.{first_of, flattened, AreRuns, IsRunOf}
use Rattle.pg_graph.specs.Links.{with_id, without_id}
use Rattle.pg_graph.specs.Sorted.{Rises, IsPlace}
use Rattle.pg_graph.proofs.SortedLists.{below, above, less, greater, equal, other, other_above, put_rises, without_rises}

-- ---- lists in two parts

all_front : {A : Type 0} (P : A → Type 0) (xs ys : List A) → AllByRecursion P (xs ++ ys) → AllByRecursion P xs
all_front P [] ys all = tt
all_front P (x ∷ xs) ys all = (all.0, all_front P xs ys all.1)

all_back : {A : Type 0} (P : A → Type 0) (xs ys : List A) → AllByRecursion P (xs ++ ys) → AllByRecursion P ys
all_back P [] ys all = all
all_back P (x ∷ xs) ys all = all_back P xs ys all.1

all_both : {A : Type 0} (P : A → Type 0) (xs ys : List A) → AllByRecursion P xs → AllByRecursion P ys → AllByRecursion P (xs ++ ys)
all_both P [] ys all others = others
all_both P (x ∷ xs) ys all others = (all.0, all_both P xs ys all.1 others)

all_to : {A : Type 0} (P Q : A → Type 0) (xs : List A) → ((x : A) → P x → Q x) → AllByRecursion P xs → AllByRecursion Q xs
all_to P Q [] to all = tt
all_to P Q (x ∷ xs) to all = (to x all.0, all_to P Q xs to all.1)

pub front_rises : (xs ys : List ℕ) → Rises (λ n. n) (xs ++ ys) → Rises (λ n. n) xs
front_rises [] ys rise = tt
front_rises (x ∷ xs) ys rise = (all_front (λ n. x < n) xs ys rise.0, front_rises xs ys rise.1)

pub back_rises : (xs ys : List ℕ) → Rises (λ n. n) (xs ++ ys) → Rises (λ n. n) ys
back_rises [] ys rise = rise
back_rises (x ∷ xs) ys rise = back_rises xs ys rise.1

-- each of the front is below a number of the back
pub front_below : (y : ℕ) (xs ys : List ℕ) → Rises (λ n. n) (xs ++ y ∷ ys) → AllByRecursion (λ n. n < y) xs
front_below y [] ys rise = tt
front_below y (x ∷ xs) ys rise = ((all_back (λ n. x < n) xs (y ∷ ys) rise.0).0, front_below y xs ys rise.1)

put_front : (id : ℕ) (xs ys : List ℕ) → AllByRecursion (λ n. id < n) ys → with_id id (xs ++ ys) ≡ with_id id xs ++ ys
put_front id [] [] all = refl
put_front id [] (y ∷ ys) all = rw (below id y all.0) refl
put_front id (x ∷ xs) ys all = by_order (nat_cmp id x) (put_front id xs ys all)
  where
    by_order : (o : Ordering) → with_id id (xs ++ ys) ≡ with_id id xs ++ ys → match_ordering o (id ∷ x ∷ xs ++ ys) (id ∷ xs ++ ys) (x ∷ with_id id (xs ++ ys)) ≡ match_ordering o (id ∷ x ∷ xs) (id ∷ xs) (x ∷ with_id id xs) ++ ys
    by_order Less rest = refl
    by_order Equal rest = refl
    by_order Greater rest = ap (λ zs. x ∷ zs) rest

put_back : (id : ℕ) (xs ys : List ℕ) → AllByRecursion (λ n. n < id) xs → with_id id (xs ++ ys) ≡ xs ++ with_id id ys
put_back id [] ys all = refl
put_back id (x ∷ xs) ys all = rw (above id x all.0) (ap (λ zs. x ∷ zs) (put_back id xs ys all.1))

without_front : (id : ℕ) (xs ys : List ℕ) → AllByRecursion (λ n. id < n) ys → without_id id (xs ++ ys) ≡ without_id id xs ++ ys
without_front id [] ys all = past ys all
  where
    past : (ys : List ℕ) → AllByRecursion (λ n. id < n) ys → without_id id ys ≡ ys
    past [] all = refl
    past (y ∷ ys) all = rw (other_above y id all.0) (ap (λ zs. y ∷ zs) (past ys all.1))
without_front id (x ∷ xs) ys all = by_test (x == id) (without_front id xs ys all)
  where
    by_test : (b : Bool) → without_id id (xs ++ ys) ≡ without_id id xs ++ ys → cond b (xs ++ ys) (x ∷ without_id id (xs ++ ys)) ≡ cond b xs (x ∷ without_id id xs) ++ ys
    by_test true rest = refl
    by_test false rest = ap (λ zs. x ∷ zs) rest

pub without_back : (id : ℕ) (xs ys : List ℕ) → AllByRecursion (λ n. n < id) xs → without_id id (xs ++ ys) ≡ xs ++ without_id id ys
without_back id [] ys all = refl
without_back id (x ∷ xs) ys all = rw (other x id all.0) (ap (λ zs. x ∷ zs) (without_back id xs ys all.1))

-- whether an id is in a list
abbrev pub has : ℕ → List ℕ → Bool
has id xs = list_any (λ n. n == id) xs

pub above_has_none : (id : ℕ) (ys : List ℕ) → AllByRecursion (λ n. id < n) ys → has id ys ≡ false
above_has_none id [] all = refl
above_has_none id (y ∷ ys) all = rw (other_above y id all.0) (above_has_none id ys all.1)

has_front : (id : ℕ) (xs ys : List ℕ) → AllByRecursion (λ n. id < n) ys → has id (xs ++ ys) ≡ has id xs
has_front id [] ys all = above_has_none id ys all
has_front id (x ∷ xs) ys all = ap (λ b. (x == id) || b) (has_front id xs ys all)

pub has_back : (id : ℕ) (xs ys : List ℕ) → AllByRecursion (λ n. n < id) xs → has id (xs ++ ys) ≡ has id ys
has_back id [] ys all = refl
has_back id (x ∷ xs) ys all = rw (other x id all.0) (has_back id xs ys all.1)

-- ---- the run of an id

pub any_default : {A : Type 0} (xs : List A) (i : ℕ) (d e : A) → i < length xs → slice_index_or xs i d ≡ slice_index_or xs i e
any_default [] i d e h = absurd (omega arith)
any_default (x ∷ xs) zero d e h = refl
any_default (x ∷ xs) (suc i) d e h = any_default xs i d e (omega arith)

pub inside : (id : ℕ) (rs : List (List ℕ)) (i : ℕ) → IsRunOf id rs i → i < length rs
inside id [] i is = absurd is
inside id (r ∷ rs) zero is = omega arith
inside id (r ∷ rs) (suc i) is = let h : i < length rs = inside id rs i is.1 in omega arith

pub put_in_run : (id : ℕ) (rs : List (List ℕ)) (i : ℕ) (d : List ℕ) → IsRunOf id rs i → flattened (slice_set rs i (with_id id (slice_index_or rs i d))) ≡ with_id id (flattened rs)
put_in_run id [] i d is = absurd is
put_in_run id (r ∷ rs) zero d is = sym (put_front id r (flattened rs) is)
put_in_run id (r ∷ rs) (suc i) d is = ap (λ zs. r ++ zs) (put_in_run id rs i d is.1) ∙ sym (put_back id r (flattened rs) is.0)

pub out_of_run : (id : ℕ) (rs : List (List ℕ)) (i : ℕ) (d : List ℕ) → IsRunOf id rs i → flattened (slice_set rs i (without_id id (slice_index_or rs i d))) ≡ without_id id (flattened rs)
out_of_run id [] i d is = absurd is
out_of_run id (r ∷ rs) zero d is = sym (without_front id r (flattened rs) is)
out_of_run id (r ∷ rs) (suc i) d is = ap (λ zs. r ++ zs) (out_of_run id rs i d is.1) ∙ sym (without_back id r (flattened rs) is.0)

pub has_in_run : (id : ℕ) (rs : List (List ℕ)) (i : ℕ) (d : List ℕ) → IsRunOf id rs i → has id (slice_index_or rs i d) ≡ has id (flattened rs)
has_in_run id [] i d is = absurd is
has_in_run id (r ∷ rs) zero d is = sym (has_front id r (flattened rs) is)
has_in_run id (r ∷ rs) (suc i) d is = has_in_run id rs i d is.1 ∙ sym (has_back id r (flattened rs) is.0)

pub run_rises : (rs : List (List ℕ)) (i : ℕ) (d : List ℕ) → Rises (λ n. n) (flattened rs) → i < length rs → Rises (λ n. n) (slice_index_or rs i d)
run_rises [] i d rise h = absurd (omega arith)
run_rises (r ∷ rs) zero d rise h = front_rises r (flattened rs) rise
run_rises (r ∷ rs) (suc i) d rise h = run_rises rs i d (back_rises r (flattened rs) rise) (omega arith)

-- ---- runs of which one is changed

pub filled_set : (rs : List (List ℕ)) (i : ℕ) (r : List ℕ) → 0 < length r → AllByRecursion (λ r. 0 < length r) rs → AllByRecursion (λ r. 0 < length r) (slice_set rs i r)
filled_set [] i r h all = tt
filled_set (s ∷ rs) zero r h all = (h, all.1)
filled_set (s ∷ rs) (suc i) r h all = (all.0, filled_set rs i r h all.1)

pub put_fills : (id : ℕ) (xs : List ℕ) → 0 < length (with_id id xs)
put_fills id [] = omega arith
put_fills id (x ∷ xs) = by_order (nat_cmp id x)
  where
    by_order : (o : Ordering) → 0 < length (match_ordering o (id ∷ x ∷ xs) (id ∷ xs) (x ∷ with_id id xs))
    by_order Less = omega arith
    by_order Equal = omega arith
    by_order Greater = omega arith

pub put_keeps : (id : ℕ) (rs : List (List ℕ)) (i : ℕ) (d : List ℕ) → IsRunOf id rs i → AreRuns rs → AreRuns (slice_set rs i (with_id id (slice_index_or rs i d)))
put_keeps id rs i d is runs = record {
  rise = subst (λ xs. Rises (λ n. n) xs) (sym (put_in_run id rs i d is)) (put_rises (λ n. n) id (flattened rs) runs.rise);
  filled = filled_set rs i _ (put_fills id (slice_index_or rs i d)) runs.filled;
}

pub out_keeps : (id : ℕ) (rs : List (List ℕ)) (i : ℕ) (d : List ℕ) → IsRunOf id rs i → 0 < length (without_id id (slice_index_or rs i d)) → AreRuns rs → AreRuns (slice_set rs i (without_id id (slice_index_or rs i d)))
out_keeps id rs i d is h runs = record {
  rise = subst (λ xs. Rises (λ n. n) xs) (sym (out_of_run id rs i d is)) (without_rises (λ n. n) id (flattened rs) runs.rise);
  filled = filled_set rs i _ h runs.filled;
}

nothing_of : {A : Type 0} (xs : List A) → length xs ≡ 0 → xs ≡ []
nothing_of [] e = refl
nothing_of (x ∷ xs) e = absurd (omega arith)

-- where there are no ids, there are no runs
pub no_runs : (rs : List (List ℕ)) → AreRuns rs → flattened rs ≡ [] → length rs ≡ 0
no_runs [] runs none = refl
no_runs ([] ∷ rs) runs none = absurd (let e = runs.filled.0 in omega arith)
no_runs ((x ∷ xs) ∷ rs) runs none = absurd cc

-- an empty run is taken out
pub joined_removed : (rs : List (List ℕ)) (i : ℕ) (r : List ℕ) → i < length rs → length r ≡ 0 → flattened (remove (slice_set rs i r) i) ≡ flattened (slice_set rs i r)
joined_removed [] i r h e = absurd (omega arith)
joined_removed (s ∷ rs) zero r h e = ap (λ q. q ++ flattened rs) (sym (nothing_of r e))
joined_removed (s ∷ rs) (suc i) r h e = ap (λ zs. s ++ zs) (joined_removed rs i r (omega arith) e)

pub filled_removed : (rs : List (List ℕ)) (i : ℕ) (r : List ℕ) → AllByRecursion (λ r. 0 < length r) rs → AllByRecursion (λ r. 0 < length r) (remove (slice_set rs i r) i)
filled_removed [] zero r all = tt
filled_removed [] (suc i) r all = tt
filled_removed (s ∷ rs) zero r all = all.1
filled_removed (s ∷ rs) (suc i) r all = (all.0, filled_removed rs i r all.1)

pub removed_keeps : (id : ℕ) (rs : List (List ℕ)) (i : ℕ) (d : List ℕ) → IsRunOf id rs i → length (without_id id (slice_index_or rs i d)) ≡ 0 → AreRuns rs → AreRuns (remove (slice_set rs i (without_id id (slice_index_or rs i d))) i)
removed_keeps id rs i d is h runs = record {
  rise = subst (λ xs. Rises (λ n. n) xs) (sym (joined_removed rs i _ (inside id rs i is) h ∙ out_of_run id rs i d is)) (without_rises (λ n. n) id (flattened rs) runs.rise);
  filled = filled_removed rs i _ runs.filled;
}

-- a run is split
take_and_drop : {A : Type 0} (n : ℕ) (xs : List A) → take n xs ++ drop n xs ≡ xs
take_and_drop zero xs = refl
take_and_drop (suc n) [] = refl
take_and_drop (suc n) (x ∷ xs) = ap (λ ys. x ∷ ys) (take_and_drop n xs)

pub joined_split : (rs : List (List ℕ)) (i n : ℕ) (d : List ℕ) → i < length rs → flattened (slice_set (insert rs (suc i) (drop n (slice_index_or rs i d))) i (take n (slice_index_or rs i d))) ≡ flattened rs
joined_split [] i n d h = absurd (omega arith)
joined_split (r ∷ rs) zero n d h = sym (append_assoc (take n r) (drop n r) (flattened rs)) ∙ ap (λ xs. xs ++ flattened rs) (take_and_drop n r)
joined_split (r ∷ rs) (suc i) n d h = ap (λ xs. r ++ xs) (joined_split rs i n d (omega arith))

pub filled_split : (rs : List (List ℕ)) (i : ℕ) (a b : List ℕ) → i < length rs → 0 < length a → 0 < length b → AllByRecursion (λ r. 0 < length r) rs → AllByRecursion (λ r. 0 < length r) (slice_set (insert rs (suc i) b) i a)
filled_split [] i a b h p q all = absurd (omega arith)
filled_split (r ∷ rs) zero a b h p q all = (p, (q, all.1))
filled_split (r ∷ rs) (suc i) a b h p q all = (all.0, filled_split rs i a b (omega arith) p q all.1)

-- ---- where the run of an id is found

first_at : (P : ℕ → Type 0) (rs : List (List ℕ)) (i : ℕ) (d : List ℕ) → AllByRecursion (λ r. 0 < length r) rs → i < length rs → AllByRecursion P (flattened rs) → P (first_of (slice_index_or rs i d))
first_at P [] i d filled h all = absurd (omega arith)
first_at P ([] ∷ rs) i d filled h all = absurd (omega (arith, filled.0))
first_at P ((x ∷ xs) ∷ rs) zero d filled h all = all.0
first_at P ((x ∷ xs) ∷ rs) (suc i) d filled h all = first_at P rs i d filled.1 (omega arith) (all_back P (x ∷ xs) (flattened rs) all)

-- all are above a number that is below the first
pub all_above : (id : ℕ) (rs : List (List ℕ)) → AreRuns rs → ((d : List ℕ) → 0 < length rs → id < first_of (slice_index_or rs 0 d)) → AllByRecursion (λ n. id < n) (flattened rs)
all_above id [] runs h = tt
all_above id ([] ∷ rs) runs h = absurd (let e = runs.filled.0 in omega arith)
all_above id ((x ∷ xs) ∷ rs) runs h =
    let first : id < x = h [] (omega arith) in
    (first, all_to (λ n. x < n) (λ n. id < n) (xs ++ flattened rs) (λ n after. omega arith) runs.rise.0)

-- all of the first run are below what the first of a later one is
front_under : (r : List ℕ) (rs : List (List ℕ)) (i : ℕ) (d : List ℕ) → AreRuns (r ∷ rs) → i < length rs → AllByRecursion (λ n. n < first_of (slice_index_or rs i d)) r
front_under r rs i d runs h = each r runs.rise
  where
    each : (xs : List ℕ) → Rises (λ n. n) (xs ++ flattened rs) → AllByRecursion (λ n. n < first_of (slice_index_or rs i d)) xs
    each [] rise = tt
    each (x ∷ xs) rise = (first_at (λ n. x < n) rs i d runs.filled.1 h (all_back (λ n. x < n) xs (flattened rs) rise.0), each xs rise.1)

pub others_are : (r : List ℕ) (rs : List (List ℕ)) → AreRuns (r ∷ rs) → AreRuns rs
others_are r rs runs = record { rise = back_rises r (flattened rs) runs.rise; filled = runs.filled.1 }

-- the last run whose first id isn't above this one, or the first run
pub is_run_of : (id : ℕ) (rs : List (List ℕ)) (i : ℕ) → AreRuns rs → i < length rs
    → ((d : List ℕ) → 0 < i → first_of (slice_index_or rs i d) ≤ id)
    → ((d : List ℕ) → suc i < length rs → id < first_of (slice_index_or rs (suc i) d))
    → IsRunOf id rs i
is_run_of id [] i runs h reached past = absurd (omega arith)
is_run_of id (r ∷ rs) zero runs h reached past = all_above id rs (others_are r rs runs) (λ d more. past d (omega arith))
is_run_of id (r ∷ rs) (suc i) runs h reached past =
    let first : first_of (slice_index_or rs i []) ≤ id = reached [] (omega arith) in (
      all_to (λ n. n < first_of (slice_index_or rs i [])) (λ n. n < id) r (λ n under. omega arith) (front_under r rs i [] runs (omega arith)),
      is_run_of id rs i (others_are r rs runs) (omega arith) (λ d more. reached d (omega arith)) (λ d more. past d (omega arith)),
    )

-- the first ids of runs rise
pub firsts_rise : (rs : List (List ℕ)) → AreRuns rs → Rises first_of rs
firsts_rise [] runs = tt
firsts_rise (r ∷ rs) runs = (each r rs runs.rise runs.filled, firsts_rise rs (others_are r rs runs))
  where
    later : (x : ℕ) (rs : List (List ℕ)) → AllByRecursion (λ n. x < n) (flattened rs) → AllByRecursion (λ r. 0 < length r) rs → AllByRecursion (λ s. x < first_of s) rs
    later x [] all filled = tt
    later x ([] ∷ rs) all filled = absurd (let e = filled.0 in omega arith)
    later x ((y ∷ ys) ∷ rs) all filled = (all.0, later x rs (all_back (λ n. x < n) (y ∷ ys) (flattened rs) all) filled.1)

    each : (r : List ℕ) (rs : List (List ℕ)) → Rises (λ n. n) (flattened (r ∷ rs)) → AllByRecursion (λ r. 0 < length r) (r ∷ rs) → AllByRecursion (λ s. first_of r < first_of s) rs
    each [] rs rise filled = absurd (let e = filled.0 in omega arith)
    each (x ∷ xs) rs rise filled = later x rs (all_back (λ n. x < n) xs (flattened rs) rise.0) filled.1

pub of_equal : (id : ℕ) (rs : List (List ℕ)) (i : ℕ) → AreRuns rs → i < length rs → HoldsAt (λ r. nat_cmp (first_of r) id ≡ Equal) rs i → IsRunOf id rs i
of_equal id rs i runs h at =
    is_run_of id rs i runs h (λ d more. let e : first_of (slice_index_or rs i d) ≡ id = equal _ _ (at d) in omega arith)
    (λ d more. let e : first_of (slice_index_or rs i d) ≡ id = equal _ _ (at d) in
    let rise : first_of (slice_index_or rs i d) < first_of (slice_index_or rs (suc i) d) = next rs i d (firsts_rise rs runs) more in omega arith)
  where
    next : (rs : List (List ℕ)) (i : ℕ) (d : List ℕ) → Rises first_of rs → suc i < length rs → first_of (slice_index_or rs i d) < first_of (slice_index_or rs (suc i) d)
    next [] i d rise h = absurd (omega arith)
    next (r ∷ []) i d rise h = absurd (omega arith)
    next (r ∷ s ∷ rs) zero d rise h = rise.0.0
    next (r ∷ s ∷ rs) (suc i) d rise h = next (s ∷ rs) i d rise.1 (omega arith)

pub of_place : (id : ℕ) (rs : List (List ℕ)) (i k : ℕ) → AreRuns rs → 0 < length rs → k ≤ length rs → IsPartitionPoint (λ r. nat_cmp (first_of r) id ≡ Less) (λ r. nat_cmp (first_of r) id ≡ Greater) rs k → (0 < k → suc i ≡ k) → (k ≡ 0 → i ≡ 0) → IsRunOf id rs i
of_place id rs i k runs some inside at near none =
    by_place k i inside at near none
  where
    by_place : (k i : ℕ) → k ≤ length rs → IsPartitionPoint (λ r. nat_cmp (first_of r) id ≡ Less) (λ r. nat_cmp (first_of r) id ≡ Greater) rs k → (0 < k → suc i ≡ k) → (k ≡ 0 → i ≡ 0) → IsRunOf id rs i
    by_place zero i inside at near none =
        let e : i ≡ 0 = none refl in
        is_run_of id rs i runs (omega arith) (λ d more. absurd (omega arith)) (λ d more. greater _ _ (at.1 (suc i) d (omega arith) (omega arith)))
    by_place (suc k) i inside at near none =
        let e : suc i ≡ suc k = near (omega arith) in
        is_run_of id rs i runs (omega arith)
        (λ d more. let h : first_of (slice_index_or rs i d) < id = less _ _ (at.0 i d (omega arith) (omega arith)) in omega arith)
        (λ d more. greater _ _ (at.1 (suc i) d (omega arith) (omega arith)))

-- ---- the end of all runs

pub past_all : (id : ℕ) (xs : List ℕ) → AllByRecursion (λ n. n < id) xs → with_id id xs ≡ xs ++ id ∷ []
past_all id [] all = refl
past_all id (x ∷ xs) all = rw (above id x all.0) (ap (λ zs. x ∷ zs) (past_all id xs all.1))

all_under : (xs : List ℕ) (k last id : ℕ) → Rises (λ n. n) xs → suc k ≡ length xs → slice_index_or xs k last ≡ last → last < id → AllByRecursion (λ n. n < id) xs
all_under [] k last id rise h is under = tt
all_under (x ∷ []) zero last id rise h is under = (let e : x ≡ last = is in omega arith, tt)
all_under (x ∷ []) (suc k) last id rise h is under = absurd (omega arith)
all_under (x ∷ y ∷ ys) zero last id rise h is under = absurd (omega arith)
all_under (x ∷ y ∷ ys) (suc k) last id rise h is under =
    let rest = all_under (y ∷ ys) k last id rise.1 (omega arith) is under in
    let e : x < y = rise.0.0 in
    let f : y < id = rest.0 in
    (omega arith, rest)

-- an id above the last one belongs to the end
pub past_last : (xs : List ℕ) (last id : ℕ) → Rises (λ n. n) xs → 0 < length xs → slice_index_or xs (length xs - 1) last ≡ last → last < id → IsPlace (λ n. n) id xs (Err (length xs))
past_last xs last id rise h is under =
    (omega arith, (λ k d low high. below _ _ (at_all xs k d (all_under xs (length xs - 1) last id rise (omega arith) is under) high), λ k d low high. absurd (omega arith)))
  where
    at_all : (xs : List ℕ) (k : ℕ) (d : ℕ) → AllByRecursion (λ n. n < id) xs → k < length xs → slice_index_or xs k d < id
    at_all [] k d all h = absurd (omega arith)
    at_all (x ∷ xs) zero d all h = all.0
    at_all (x ∷ xs) (suc k) d all h = at_all xs k d all.1 (omega arith)

-- ---- the same, by the run that is changed

pub run_put : (id : ℕ) (rs : List (List ℕ)) (i : ℕ) (was now : List ℕ) → IsRunOf id rs i → was ≡ slice_index_or rs i was → now ≡ with_id id was → flattened (slice_set rs i now) ≡ with_id id (flattened rs)
run_put id rs i was now is at e = ap (λ r. flattened (slice_set rs i r)) (e ∙ ap (with_id id) at) ∙ put_in_run id rs i was is

pub runs_put : (id : ℕ) (rs : List (List ℕ)) (i : ℕ) (was now : List ℕ) → IsRunOf id rs i → was ≡ slice_index_or rs i was → now ≡ with_id id was → AreRuns rs → AreRuns (slice_set rs i now)
runs_put id rs i was now is at e runs = subst (λ r. AreRuns (slice_set rs i r)) (sym (e ∙ ap (with_id id) at)) (put_keeps id rs i was is runs)

pub run_out : (id : ℕ) (rs : List (List ℕ)) (i : ℕ) (was now : List ℕ) → IsRunOf id rs i → was ≡ slice_index_or rs i was → now ≡ without_id id was → flattened (slice_set rs i now) ≡ without_id id (flattened rs)
run_out id rs i was now is at e = ap (λ r. flattened (slice_set rs i r)) (e ∙ ap (without_id id) at) ∙ out_of_run id rs i was is

pub runs_out : (id : ℕ) (rs : List (List ℕ)) (i : ℕ) (was now : List ℕ) → IsRunOf id rs i → was ≡ slice_index_or rs i was → now ≡ without_id id was → 0 < length now → AreRuns rs → AreRuns (slice_set rs i now)
runs_out id rs i was now is at e some runs =
    let f : now ≡ without_id id (slice_index_or rs i was) = e ∙ ap (without_id id) at in
    subst (λ r. AreRuns (slice_set rs i r)) (sym f) (out_keeps id rs i was is (subst (λ r. 0 < length r) f some) runs)

pub runs_fewer : (id : ℕ) (rs : List (List ℕ)) (i : ℕ) (was now : List ℕ) → IsRunOf id rs i → was ≡ slice_index_or rs i was → now ≡ without_id id was → length now ≡ 0 → AreRuns rs → AreRuns (remove (slice_set rs i now) i)
runs_fewer id rs i was now is at e none runs =
    let f : now ≡ without_id id (slice_index_or rs i was) = e ∙ ap (without_id id) at in
    subst (λ r. AreRuns (remove (slice_set rs i r) i)) (sym f) (removed_keeps id rs i was is (subst (λ r. length r ≡ 0) f none) runs)

pub run_in_rises : (rs : List (List ℕ)) (i : ℕ) (was : List ℕ) → AreRuns rs → i < length rs → was ≡ slice_index_or rs i was → Rises (λ n. n) was
run_in_rises rs i was runs h at = subst (Rises (λ n. n)) (sym at) (run_rises rs i was runs.rise h)

pub run_has : (id : ℕ) (rs : List (List ℕ)) (i : ℕ) (was : List ℕ) → IsRunOf id rs i → was ≡ slice_index_or rs i was → has id was ≡ has id (flattened rs)
run_has id rs i was is at = ap (has id) at ∙ has_in_run id rs i was is

pub run_found : (id : ℕ) (rs ss : List (List ℕ)) (i : ℕ) → ss ≡ rs → IsRunOf id ss i → IsRunOf id rs i
run_found id rs ss i e is = subst (λ qs. IsRunOf id qs i) e is

-- ---- a run that is put in or split

pub run_kept : (rs : List (List ℕ)) (i : ℕ) (was now : List ℕ) → i < length rs → was ≡ slice_index_or rs i was → now ≡ was → slice_set rs i now ≡ rs
run_kept [] i was now h at e = absurd (omega arith)
run_kept (r ∷ rs) zero was now h at e = ap (λ q. q ∷ rs) (e ∙ at)
run_kept (r ∷ rs) (suc i) was now h at e = ap (λ qs. r ∷ qs) (run_kept rs i was now (omega arith) at e)

after_insert : (rs : List (List ℕ)) (i : ℕ) (r d : List ℕ) → i < length rs → slice_index_or (insert rs (suc i) r) i d ≡ slice_index_or rs i d
after_insert [] i r d h = absurd (omega arith)
after_insert (s ∷ rs) zero r d h = refl
after_insert (s ∷ rs) (suc i) r d h = after_insert rs i r d (omega arith)

take_some : (n : ℕ) (xs : List ℕ) → 0 < n → 0 < length xs → 0 < length (take n xs)
take_some zero xs p h = absurd (omega arith)
take_some (suc n) [] p h = absurd (omega arith)
take_some (suc n) (x ∷ xs) p h = omega arith

drop_some : (n : ℕ) (xs : List ℕ) → n < length xs → 0 < length (drop n xs)
drop_some zero xs h = h
drop_some (suc n) [] h = absurd (omega arith)
drop_some (suc n) (x ∷ xs) h = drop_some n xs (omega arith)

module _ (rs new : List (List ℕ)) (i j n : ℕ) (was rest found now : List ℕ) (h : i < length rs) (next : j ≡ suc i)
    (at : was ≡ slice_index_or rs i was) (tail : rest ≡ drop n was) (put : new ≡ insert rs j rest)
    (there : found ≡ slice_index_or new i found) (front : now ≡ take n found) where
  split_is : slice_set new i now ≡ slice_set (insert rs (suc i) (drop n (slice_index_or rs i was))) i (take n (slice_index_or rs i was))
  split_is =
      let new_is : new ≡ insert rs (suc i) (drop n (slice_index_or rs i was)) = put ∙ ap (λ k. insert rs k rest) next ∙ ap (insert rs (suc i)) (tail ∙ ap (drop n) at) in
      let found_is : found ≡ slice_index_or rs i was =
      there ∙ ap (λ q. slice_index_or q i found) new_is ∙ after_insert rs i (drop n (slice_index_or rs i was)) found h ∙ any_default rs i found was h in
      ap (λ q. slice_set q i now) new_is ∙ ap (slice_set (insert rs (suc i) (drop n (slice_index_or rs i was))) i) (front ∙ ap (take n) found_is)

  pub run_split : flattened (slice_set new i now) ≡ flattened rs
  run_split = ap flattened split_is ∙ joined_split rs i n was h

  pub runs_split : 0 < n → n < length was → AreRuns rs → AreRuns (slice_set new i now)
  runs_split some more runs = record {
    rise = subst (Rises (λ n. n)) (sym run_split) runs.rise;
    filled = subst (AllByRecursion (λ r. 0 < length r)) (sym split_is)
        (filled_split rs i _ _ h (take_some n _ some (subst (λ r. 0 < length r) at (omega arith))) (drop_some n _ (subst (λ r. n < length r) at more)) runs.filled);
  }

-- ---- the last id is taken out

module _ (id : ℕ) (rs : List (List ℕ)) (i : ℕ) (was now : List ℕ) (last : suc i ≡ length rs) (at : was ≡ slice_index_or rs i was) (end : was ≡ now ++ id ∷ []) where
  pub run_popped : flattened rs ≡ flattened (slice_set rs i now) ++ id ∷ []
  run_popped = each rs i last at
    where
      each : (rs : List (List ℕ)) (i : ℕ) → suc i ≡ length rs → was ≡ slice_index_or rs i was → flattened rs ≡ flattened (slice_set rs i now) ++ id ∷ []
      each [] i last at = absurd (omega arith)
      each (r ∷ []) zero last at = append-nil r ∙ sym at ∙ end ∙ ap (λ q. q ++ id ∷ []) (sym (append-nil now))
      each (r ∷ s ∷ rs) zero last at = absurd (omega arith)
      each (r ∷ rs) (suc i) last at = ap (λ q. r ++ q) (each rs i (omega arith) at) ∙ sym (append_assoc r (flattened (slice_set rs i now)) (id ∷ []))

  pub runs_popped : AreRuns rs → 0 < length now → AreRuns (slice_set rs i now)
  runs_popped runs some = record {
    rise = front_rises (flattened (slice_set rs i now)) (id ∷ []) (subst (Rises (λ n. n)) run_popped runs.rise);
    filled = filled_set rs i now some runs.filled;
  }

  pub run_emptied : length now ≡ 0 → flattened (take i (slice_set rs i now)) ≡ flattened (slice_set rs i now)
  run_emptied none = each rs i last
    where
      each : (rs : List (List ℕ)) (i : ℕ) → suc i ≡ length rs → flattened (take i (slice_set rs i now)) ≡ flattened (slice_set rs i now)
      each [] i last = absurd (omega arith)
      each (r ∷ []) zero last = ap (λ q. q ++ []) (sym (nothing_of now none))
      each (r ∷ s ∷ rs) zero last = absurd (omega arith)
      each (r ∷ rs) (suc i) last = ap (λ q. r ++ q) (each rs i (omega arith))

  filled_front : (rs : List (List ℕ)) (i : ℕ) → AllByRecursion (λ r. 0 < length r) rs → AllByRecursion (λ r. 0 < length r) (take i (slice_set rs i now))
  filled_front [] zero all = tt
  filled_front [] (suc i) all = tt
  filled_front (r ∷ rs) zero all = tt
  filled_front (r ∷ rs) (suc i) all = (all.0, filled_front rs i all.1)

  pub runs_emptied : AreRuns rs → length now ≡ 0 → AreRuns (take i (slice_set rs i now))
  runs_emptied runs none = record {
    rise = subst (Rises (λ n. n)) (sym (run_emptied none)) (front_rises (flattened (slice_set rs i now)) (id ∷ []) (subst (Rises (λ n. n)) run_popped runs.rise));
    filled = filled_front rs i runs.filled;
  }

pub run_at_has_some : (rs : List (List ℕ)) (i : ℕ) (was : List ℕ) → AreRuns rs → i < length rs → was ≡ slice_index_or rs i was → 0 < length was
run_at_has_some rs i was runs h at = subst (λ r. 0 < length r) (sym at) (each rs i runs.filled h)
  where
    each : (rs : List (List ℕ)) (i : ℕ) → AllByRecursion (λ r. 0 < length r) rs → i < length rs → 0 < length (slice_index_or rs i was)
    each [] i filled h = absurd (omega arith)
    each (r ∷ rs) zero filled h = filled.0
    each (r ∷ rs) (suc i) filled h = each rs i filled.1 (omega arith)

pub set_at : (rs : List (List ℕ)) (i : ℕ) (r d : List ℕ) → i < length rs → slice_index_or (slice_set rs i r) i d ≡ r
set_at [] i r d h = absurd (omega arith)
set_at (s ∷ rs) zero r d h = refl
set_at (s ∷ rs) (suc i) r d h = set_at rs i r d (omega arith)

pub inside_set : (rs : List (List ℕ)) (i k : ℕ) (r : List ℕ) → k < length rs → k < length (slice_set rs i r)
inside_set [] i k r h = absurd (omega arith)
inside_set (s ∷ rs) zero k r h = omega (arith, h)
inside_set (s ∷ rs) (suc i) zero r h = omega arith
inside_set (s ∷ rs) (suc i) (suc k) r h = let f = inside_set rs i k r (omega arith) in omega (arith, f)

pub some_of : (n : ℕ) → (n ≡ 0 → ⊥) → 0 < n
some_of zero ne = absurd (ne refl)
some_of (suc n) ne = omega arith

pub last_there : (xs : List ℕ) (last : ℕ) → slice_get xs (length xs - 1) ≡ Some last → (0 < length xs) × (slice_index_or xs (length xs - 1) last ≡ last)
last_there [] last is = absurd cc
last_there (x ∷ xs) last is = (omega arith, get_or_from_slice_get (x ∷ xs) (length (x ∷ xs) - 1) last last is)

-- ---- two runs that are joined

pub joined_pair : (rs : List (List ℕ)) (i : ℕ) (c d : List ℕ) → suc i < length rs → flattened (remove (slice_set rs i (slice_index_or rs i c ++ slice_index_or rs (suc i) d)) (suc i)) ≡ flattened rs
joined_pair [] i c d h = absurd (omega arith)
joined_pair (r ∷ []) i c d h = absurd (omega arith)
joined_pair (r ∷ s ∷ rs) zero c d h = append_assoc r s (flattened rs)
joined_pair (r ∷ s ∷ rs) (suc i) c d h = ap (λ q. r ++ q) (joined_pair (s ∷ rs) i c d (omega arith))

filled_pair : (rs : List (List ℕ)) (i : ℕ) (both : List ℕ) → 0 < length both → AllByRecursion (λ r. 0 < length r) rs → AllByRecursion (λ r. 0 < length r) (remove (slice_set rs i both) (suc i))
filled_pair [] i both some all = tt
filled_pair (r ∷ []) zero both some all = (some, tt)
filled_pair (r ∷ []) (suc i) both some all = (all.0, tt)
filled_pair (r ∷ s ∷ rs) zero both some all = (some, all.1.1)
filled_pair (r ∷ s ∷ rs) (suc i) both some all = (all.0, filled_pair (s ∷ rs) i both some all.1)

some_front : (xs ys : List ℕ) → 0 < length xs → 0 < length (xs ++ ys)
some_front [] ys h = absurd (omega arith)
some_front (x ∷ xs) ys h = omega arith

module _ (rs : List (List ℕ)) (i j : ℕ) (first second both : List ℕ) (next : j ≡ suc i) (more : suc i < length rs)
    (at : first ≡ slice_index_or rs i first) (after : second ≡ slice_index_or rs j second) (is : both ≡ first ++ second) where
  both_is : both ≡ slice_index_or rs i first ++ slice_index_or rs (suc i) second
  both_is = is ∙ ap (λ q. q ++ second) at ∙ ap (λ q. slice_index_or rs i first ++ q) (after ∙ ap (λ k. slice_index_or rs k second) next)

  pub pair_joined : flattened (remove (slice_set rs i both) j) ≡ flattened rs
  pair_joined = ap (λ k. flattened (remove (slice_set rs i both) k)) next ∙ ap (λ q. flattened (remove (slice_set rs i q) (suc i))) both_is ∙ joined_pair rs i first second more

  pub pair_runs : AreRuns rs → AreRuns (remove (slice_set rs i both) j)
  pair_runs runs = record {
    rise = subst (Rises (λ n. n)) (sym pair_joined) runs.rise;
    filled = subst (λ k. AllByRecursion (λ r. 0 < length r) (remove (slice_set rs i both) k)) (sym next)
        (filled_pair rs i both (subst (λ q. 0 < length q) (sym is) (some_front first second (run_at_has_some rs i first runs (omega arith) at))) runs.filled);
  }

-- ---- an id that is found where it is guessed

pub found_at : (id : ℕ) (xs : List ℕ) (i : ℕ) (d : ℕ) → i < length xs → slice_index_or xs i d ≡ id → has id xs ≡ true
found_at id [] i d h is = absurd (omega arith)
found_at id (x ∷ xs) zero d h is = rw (same x id is) refl
  where
    same : (x id : ℕ) → x ≡ id → (x == id) ≡ true
    same x id e = grind (arith, nat_tests, e)
found_at id (x ∷ xs) (suc i) d h is = or_true (x == id) (has id xs) (found_at id xs i d (omega arith) is)
  where
    or_true : (a b : Bool) → b ≡ true → (a || b) ≡ true
    or_true true b h = refl
    or_true false b h = h

pub found_in_run : (id : ℕ) (rs : List (List ℕ)) (i : ℕ) (was : List ℕ) → i < length rs → was ≡ slice_index_or rs i was → has id was ≡ true → has id (flattened rs) ≡ true
found_in_run id [] i was h at found = absurd (omega arith)
found_in_run id (r ∷ rs) zero was h at found = list_any-append (λ n. n == id) r (flattened rs) ∙ ap (λ b. b || has id (flattened rs)) (ap (has id) (sym at) ∙ found)
found_in_run id (r ∷ rs) (suc i) was h at found = list_any-append (λ n. n == id) r (flattened rs) ∙ back (has id r) (has id (flattened rs)) (found_in_run id rs i was (omega arith) at found)
  where
    back : (a b : Bool) → b ≡ true → (a || b) ≡ true
    back true b h = refl
    back false b h = h
