-- Keys with their places, as the program and the definitions have them.
use Rattle.std.proofs.Common.{◌≡◌, ℕ, zero, suc, ◌+◌, List, [], ◌∷◌, ◌++◌, map, take, length, slice_get, Some, Result, Bor, refl, sym, ap, subst, ◌∙◌, arith}
use Rattle.std.proofs.Math.Seq.{take-length}
use Rattle.std.proofs.lemmas.List.Sorted.{ranks_by}
use Rattle.std.proofs.lemmas.Result.{IfOk-weaker}
use Rattle.std.specs.Cmp.{IsStrictWeakOrder}
use Rattle.std.specs.Global.{Vec}
use Rattle.std.specs.Result.{IfOk}
use Rattle.std.specs.List.Sorted.{IsSortedBy, IsStableBy}
use Rattle.pg_meaning.specs.Value.{Value as Datum}
use Rattle.pg_value_core.specs.View.{view}
use Rattle.pg_value_core.specs.declared.value.Value.{Value}
use Rattle.pg_rows.specs.Sorts.{directions_of, numbered, picked, sorted_by, keyed_below, entry_of, entries_view}
use Rattle.pg_rows.specs.declared.sort_by.SortBy.{SortBy}
use Rattle.pg_rows.proofs.Orders.{key_order_total}
use Rattle.pg_rows.proofs.Stable.{stable_is, sorted_map}

pub length_numbered : (n : ℕ) (ks : List (List Datum)) → length (numbered n ks) ≡ length ks
length_numbered n [] = refl
length_numbered n (k ∷ ks) = ap suc (length_numbered (suc n) ks)

pub entry_order : (sorts : List SortBy) → IsStrictWeakOrder (λ a b. keyed_below (directions_of sorts) (entry_of sorts a) (entry_of sorts b))
entry_order sorts = ranks_by (key_order_total (directions_of sorts)) (λ (e : Bor (List Value) × ℕ). picked sorts (map view e.0.now))

-- one more of them
pub numbered_more : (n i : ℕ) (ks : List (List Datum)) (k : List Datum) → slice_get ks i ≡ Some k → take (i + 1) (numbered n ks) ≡ take i (numbered n ks) ++ (k, n + i) ∷ []
numbered_more n i [] k h = absurd (let no : ⊥ = cc in no)
numbered_more n zero (x ∷ ks) k h =
    let e : x ≡ k = cc in
    let m : n ≡ n + 0 = omega arith in
    (λ i. (e i, m i) ∷ [])
numbered_more n (suc i) (x ∷ ks) k h =
    let m : suc n + i ≡ n + suc i = omega arith in
    let t : suc i + 1 ≡ suc (i + 1) = omega arith in
    ap (λ c. take c ((x, n) ∷ numbered (suc n) ks)) t
    ∙ ap (λ zs. (x, n) ∷ zs) (numbered_more (suc n) i ks k h)
    ∙ ap (λ c. (x, n) ∷ (take i (numbered (suc n) ks) ++ (k, c) ∷ [])) m

pub all_numbered : (ks : List (List Datum)) (i : ℕ) → i ≡ length ks → take i (numbered 0 ks) ≡ numbered 0 ks
all_numbered ks i h = ap (λ c. take c (numbered 0 ks)) (h ∙ sym (length_numbered 0 ks)) ∙ take-length (numbered 0 ks)

-- entries sorted by a stable sort, seen as keys with places
pub entries_sorted : (sorts : List SortBy) (xs ys : List (Bor (List Value) × ℕ)) → IsSortedBy (λ a b. keyed_below (directions_of sorts) (entry_of sorts a) (entry_of sorts b)) ys → IsStableBy (λ a b. keyed_below (directions_of sorts) (entry_of sorts a) (entry_of sorts b)) xs ys
    → entries_view sorts ys ≡ sorted_by (keyed_below (directions_of sorts)) (entries_view sorts xs)
entries_sorted sorts xs ys up stable = ap (entries_view sorts) (stable_is (entry_order sorts) xs ys up stable) ∙ sym (sorted_map (entry_of sorts) (keyed_below (directions_of sorts)) xs)

pub places_in : (sorts : List SortBy) (es : List (Bor (List Value) × ℕ)) → map (λ e. e.1) es ≡ map (λ k. k.1) (entries_view sorts es)
places_in sorts [] = refl
places_in sorts (e ∷ es) = ap (λ zs. e.1 ∷ zs) (places_in sorts es)

-- what is known of a list holds for a result that is the list
pub known_of : {X E : Type 0} (r : Result (Vec X) E) (P : List X → Type 0) (xs : List X) → P xs → IfOk r (λ v. v.items ≡ xs) → IfOk r (λ v. P v.items)
known_of r P xs known is = IfOk-weaker r (λ v. v.items ≡ xs) (λ v. P v.items) (λ v e. subst P (sym e) known) is
