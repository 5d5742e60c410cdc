-- Rows moved from places that are apart.
use Rattle.std.proofs.Common.{◌≡◌, ◌≢◌, ℕ, zero, suc, ◌<◌, ◌≤◌, Bool, true, false, cond, List, [], ◌∷◌, ◌++◌, map, get_or, replicate, refl, sym, ap, ◌∙◌, arith}
use Rattle.std.proofs.Math.ListN.{set}
use Rattle.std.specs.List.{list_any}
use Rattle.pg_meaning.specs.Projections.{same_values}
use Rattle.pg_meaning.specs.Value.{Value as Datum, null}
use Rattle.pg_rows.proofs.Orders.{below_order}
use Rattle.pg_rows.proofs.Stable.{Every, every_insert}
use Rattle.pg_rows.specs.Laws.{MovesKeepRows, FirstPlacesAreApart, SortedPlacesAreApart}
use Rattle.pg_rows.specs.Sorts.{numbered, insert_by, sorted_by, keyed_below}
use Rattle.pg_rows.specs.Tables.{NoneIs, AreApart, moved_rows, rows_at_places, first_places}

get_other : {X : Type 0} (xs : List X) (p q : ℕ) (z d : X) → p ≢ q → get_or (set xs p z) q d ≡ get_or xs q d
get_other [] p q z d n = refl
get_other (x ∷ xs) zero zero z d n = absurd (n refl)
get_other (x ∷ xs) zero (suc q) z d n = refl
get_other (x ∷ xs) (suc p) zero z d n = refl
get_other (x ∷ xs) (suc p) (suc q) z d n = get_other xs p q z d (λ e. n (ap suc e))

others_stay : (rows : List (List Datum)) (p : ℕ) (z : List Datum) (ps : List ℕ) → NoneIs p ps → rows_at_places (set rows p z) ps ≡ rows_at_places rows ps
others_stay rows p z [] a = refl
others_stay rows p z (q ∷ qs) a = λ i. get_other rows p q z [] a.0 i ∷ others_stay rows p z qs a.1 i

keep : (width : ℕ) (rows : List (List Datum)) (ps : List ℕ) → AreApart ps → moved_rows width rows ps ≡ rows_at_places rows ps
keep width rows [] a = refl
keep width rows (p ∷ ps) a = ap (λ rs. get_or rows p [] ∷ rs) (keep width (set rows p (replicate width null)) ps a.1 ∙ others_stay rows p (replicate width null) ps a.0)

pub moves_keep : MovesKeepRows
moves_keep width rows ps b a = keep width rows ps a

abbrev AllFrom : ℕ → List ℕ → Type 0
AllFrom n ps = Every (λ p. n ≤ p) ps

from_more : (n : ℕ) (ps : List ℕ) → AllFrom (suc n) ps → AllFrom n ps
from_more n [] a = tt
from_more n (p ∷ ps) a = (let e = a.0 in omega arith, from_more n ps a.1)

none_from : (n : ℕ) (ps : List ℕ) → AllFrom (suc n) ps → NoneIs n ps
none_from n [] a = tt
none_from n (p ∷ ps) a = (λ e. let l = a.0 in omega (arith, e), none_from n ps a.1)

firsts_from : (seen rs : List (List Datum)) (n : ℕ) → AllFrom n (first_places seen n rs)
firsts_from seen [] n = tt
firsts_from seen (r ∷ rs) n = by (list_any (same_values r) seen) (firsts_from seen rs (suc n)) (firsts_from (seen ++ r ∷ []) rs (suc n))
  where
    by : (b : Bool) → AllFrom (suc n) (first_places seen (suc n) rs) → AllFrom (suc n) (first_places (seen ++ r ∷ []) (suc n) rs) → AllFrom n (cond b (first_places seen (suc n) rs) (n ∷ first_places (seen ++ r ∷ []) (suc n) rs))
    by true p q = from_more n (first_places seen (suc n) rs) p
    by false p q = (omega arith, from_more n (first_places (seen ++ r ∷ []) (suc n) rs) q)

apart_from : (seen rs : List (List Datum)) (n : ℕ) → AreApart (first_places seen n rs)
apart_from seen [] n = tt
apart_from seen (r ∷ rs) n = by (list_any (same_values r) seen) (apart_from seen rs (suc n)) (apart_from (seen ++ r ∷ []) rs (suc n))
  where
    by : (b : Bool) → AreApart (first_places seen (suc n) rs) → AreApart (first_places (seen ++ r ∷ []) (suc n) rs) → AreApart (cond b (first_places seen (suc n) rs) (n ∷ first_places (seen ++ r ∷ []) (suc n) rs))
    by true p q = p
    by false p q = (none_from n (first_places (seen ++ r ∷ []) (suc n) rs) (firsts_from (seen ++ r ∷ []) rs (suc n)), q)

pub firsts_apart : FirstPlacesAreApart
firsts_apart rows = apart_from [] rows 0

abbrev Placed : Type 0
Placed = List Datum × ℕ

abbrev Apart : List Placed → Type 0
Apart [] = Unit {0}
Apart (k ∷ ks) = Every (λ j. k.1 ≢ j.1) ks × Apart ks

module _ (ds : List Bool) where
  apart_insert : (x : Placed) (ys : List Placed) → Every (λ j. x.1 ≢ j.1) ys → Apart ys → Apart (insert_by (keyed_below ds) x ys)
  apart_insert x [] e a = (tt, tt)
  apart_insert x (y ∷ ys) e a = by (keyed_below ds y x) (apart_insert x ys e.1 a.1) (every_insert (below_order ds) (λ j. y.1 ≢ j.1) x ys (λ q. e.0 (sym q)) a.0)
    where
      by : (b : Bool) → Apart (insert_by (keyed_below ds) x ys) → Every (λ j. y.1 ≢ j.1) (insert_by (keyed_below ds) x ys) → Apart (cond b (y ∷ insert_by (keyed_below ds) x ys) (x ∷ y ∷ ys))
      by true p q = (q, p)
      by false p q = (e, a)

  every_sort : (P : Placed → Type 0) (xs : List Placed) → Every P xs → Every P (sorted_by (keyed_below ds) xs)
  every_sort P [] a = tt
  every_sort P (x ∷ xs) a = every_insert (below_order ds) P x (sorted_by (keyed_below ds) xs) a.0 (every_sort P xs a.1)

  apart_sort : (xs : List Placed) → Apart xs → Apart (sorted_by (keyed_below ds) xs)
  apart_sort [] a = tt
  apart_sort (x ∷ xs) a = apart_insert x (sorted_by (keyed_below ds) xs) (every_sort (λ j. x.1 ≢ j.1) xs a.0) (apart_sort xs a.1)

later : (m n : ℕ) (ks : List (List Datum)) → m < n → Every (λ j. m ≢ j.1) (numbered n ks)
later m n [] h = tt
later m n (k ∷ ks) h = (λ e. omega (arith, e, h), later m (suc n) ks (omega arith))

numbered_apart : (n : ℕ) (ks : List (List Datum)) → Apart (numbered n ks)
numbered_apart n [] = tt
numbered_apart n (k ∷ ks) = (later n (suc n) ks (omega arith), numbered_apart (suc n) ks)

places_apart : (ks : List Placed) → Apart ks → AreApart (map (λ k. k.1) ks)
places_apart [] a = tt
places_apart (k ∷ ks) a = (none ks a.0, places_apart ks a.1)
  where
    none : (js : List Placed) → Every (λ j. k.1 ≢ j.1) js → NoneIs k.1 (map (λ k. k.1) js)
    none [] e = tt
    none (j ∷ js) e = (e.0, none js e.1)

pub sorted_apart : SortedPlacesAreApart
sorted_apart ds ks = places_apart (sorted_by (keyed_below ds) (numbered 0 ks)) (apart_sort ds (numbered 0 ks) (numbered_apart 0 ks))
