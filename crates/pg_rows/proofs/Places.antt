-- The places that are told are those of rows.
use Rattle.std.proofs.Common.{ℕ, suc, ◌+◌, ◌<◌, ◌≤◌, Bool, true, false, cond, List, [], ◌∷◌, ◌++◌, map, length, arith}
use Rattle.std.specs.List.{list_any}
use Rattle.std.specs.Cmp.{IsStrictWeakOrder}
use Rattle.pg_meaning.specs.Projections.{same_values}
use Rattle.pg_meaning.specs.Value.{Value as Datum}
use Rattle.pg_rows.proofs.Orders.{below_order}
use Rattle.pg_rows.proofs.Stable.{Every, every_insert}
use Rattle.pg_rows.specs.Sorts.{numbered, sorted_by, sorted_places, keyed_below}
use Rattle.pg_rows.specs.Tables.{EachBelow, first_places}

pub firsts_below : (m : ℕ) (seen rs : List (List Datum)) (n : ℕ) → n + length rs ≤ m → EachBelow m (first_places seen n rs)
firsts_below m seen [] n h = tt
firsts_below m seen (r ∷ rs) n h = by (list_any (same_values r) seen) (firsts_below m seen rs (suc n) (omega arith)) (firsts_below m (seen ++ r ∷ []) rs (suc n) (omega arith))
  where
    by : (b : Bool) → EachBelow m (first_places seen (suc n) rs) → EachBelow m (first_places (seen ++ r ∷ []) (suc n) rs) → EachBelow m (cond b (first_places seen (suc n) rs) (n ∷ first_places (seen ++ r ∷ []) (suc n) rs))
    by true p q = p
    by false p q = (let e : n < m = omega arith in e, q)

every_sorted : {X : Type 0} {lt : X → X → Bool} (o : IsStrictWeakOrder lt) (P : X → Type 0) (xs : List X) → Every P xs → Every P (sorted_by lt xs)
every_sorted o P [] a = tt
every_sorted {lt = lt} o P (x ∷ xs) a = every_insert o P x (sorted_by lt xs) a.0 (every_sorted o P xs a.1)

numbered_below : (m n : ℕ) (ks : List (List Datum)) → n + length ks ≤ m → Every (λ k. k.1 < m) (numbered n ks)
numbered_below m n [] h = tt
numbered_below m n (k ∷ ks) h = (omega arith, numbered_below m (suc n) ks (omega arith))

each_below : (m : ℕ) (es : List (List Datum × ℕ)) → Every (λ k. k.1 < m) es → EachBelow m (map (λ k. k.1) es)
each_below m [] a = tt
each_below m (e ∷ es) a = (a.0, each_below m es a.1)

pub sorted_below : (ds : List Bool) (ks : List (List Datum)) → EachBelow (length ks) (sorted_places ds ks)
sorted_below ds ks = each_below (length ks) (sorted_by (keyed_below ds) (numbered 0 ks)) (every_sorted (below_order ds) (λ k. k.1 < length ks) (numbered 0 ks) (numbered_below (length ks) 0 ks (omega arith)))
