-- Which rows are the first of equivalent ones, as the program goes over them.
use Rattle.std.proofs.Common.{◌≡◌, ℕ, zero, suc, ◌+◌, ◌||◌, Bool, true, false, not, cond, List, [], ◌∷◌, ◌++◌, map, length, drop, slice_get, Some, Bor, refl, sym, ap, ◌∙◌, arith}
use Rattle.std.specs.Cmp.Lexicographic.{pointwise}
use Rattle.std.specs.List.{list_any}
use Rattle.std.specs.Ordering.{on, eq_by_cmp}
use Rattle.indexmap.specs.IndexSet.{insert_key}
use Rattle.pg_meaning.specs.Order.{value_order}
use Rattle.pg_meaning.specs.Projections.{same_values}
use Rattle.pg_meaning.specs.Value.{Value as Datum}
use Rattle.pg_value_core.specs.View.{view}
use Rattle.pg_value_core.specs.declared.value.Value.{Value}
use Rattle.pg_rows.proofs.Grouped.{same_as}
use Rattle.pg_rows.proofs.Tabled.{map_append}
use Rattle.pg_rows.specs.Tables.{first_places}

abbrev pub seen_of : List (Bor (List Value)) → List (List Datum)
seen_of ks = map (λ r. map view r.now) ks

abbrev pub same_row : Bor (List Value) → Bor (List Value) → Bool
same_row a b = pointwise (on view (eq_by_cmp value_order)) a.now b.now

any_seen : (key : Bor (List Value)) (ks : List (Bor (List Value))) → list_any (same_row key) ks ≡ list_any (same_values (map view key.now)) (seen_of ks)
any_seen key [] = refl
any_seen key (k ∷ ks) = λ i. same_as key.now k.now i || any_seen key ks i

drop_get : {X : Type 0} (rs : List X) (i : ℕ) (r : X) → slice_get rs i ≡ Some r → drop i rs ≡ r ∷ drop (i + 1) rs
drop_get [] i r h = absurd (let no : ⊥ = cc in no)
drop_get (x ∷ rs) zero r h = let e : x ≡ r = cc in ap (λ y. y ∷ rs) e
drop_get (x ∷ rs) (suc i) r h = drop_get rs i r h ∙ ap (λ c. r ∷ drop c (x ∷ rs)) (let e : suc (i + 1) ≡ suc i + 1 = omega arith in e)

step : (seen rs : List (List Datum)) (at : ℕ) (r : List Datum) → slice_get rs at ≡ Some r
    → first_places seen at (drop at rs) ≡ cond (list_any (same_values r) seen) (first_places seen (at + 1) (drop (at + 1) rs)) (at ∷ first_places (seen ++ r ∷ []) (at + 1) (drop (at + 1) rs))
step seen rs at r h =
    ap (first_places seen at) (drop_get rs at r h)
    ∙ ap (λ c. cond (list_any (same_values r) seen) (first_places seen c (drop (at + 1) rs)) (at ∷ first_places (seen ++ r ∷ []) c (drop (at + 1) rs))) (let e : suc at ≡ at + 1 = omega arith in e)

append_one : {X : Type 0} (xs : List X) (y : X) (ys : List X) → (xs ++ y ∷ []) ++ ys ≡ xs ++ y ∷ ys
append_one [] y ys = refl
append_one (x ∷ xs) y ys = ap (λ zs. x ∷ zs) (append_one xs y ys)

module _ (rs : List (List Datum)) (at : ℕ) (ps : List ℕ) (key : Bor (List Value)) (ks : List (Bor (List Value))) (here : slice_get rs at ≡ Some (map view key.now)) where
  pub new_row : list_any (same_row key) ks ≡ false → (ps ++ at ∷ []) ++ first_places (seen_of (insert_key same_row ks key)) (at + 1) (drop (at + 1) rs) ≡ ps ++ first_places (seen_of ks) at (drop at rs)
  new_row h =
      ap (λ b. (ps ++ at ∷ []) ++ first_places (seen_of (cond b ks (ks ++ key ∷ []))) (at + 1) (drop (at + 1) rs)) h
      ∙ append_one ps at (first_places (seen_of (ks ++ key ∷ [])) (at + 1) (drop (at + 1) rs))
      ∙ ap (λ seen. ps ++ at ∷ first_places seen (at + 1) (drop (at + 1) rs)) (map_append (λ (r : Bor (List Value)). map view r.now) ks (key ∷ []))
      ∙ ap (λ b. ps ++ cond b (first_places (seen_of ks) (at + 1) (drop (at + 1) rs)) (at ∷ first_places (seen_of ks ++ map view key.now ∷ []) (at + 1) (drop (at + 1) rs))) (sym h ∙ any_seen key ks)
      ∙ ap (λ fs. ps ++ fs) (sym (step (seen_of ks) rs at (map view key.now) here))

  pub seen_row : list_any (same_row key) ks ≡ true → ps ++ first_places (seen_of (insert_key same_row ks key)) (at + 1) (drop (at + 1) rs) ≡ ps ++ first_places (seen_of ks) at (drop at rs)
  seen_row h =
      ap (λ b. ps ++ first_places (seen_of (cond b ks (ks ++ key ∷ []))) (at + 1) (drop (at + 1) rs)) h
      ∙ ap (λ b. ps ++ cond b (first_places (seen_of ks) (at + 1) (drop (at + 1) rs)) (at ∷ first_places (seen_of ks ++ map view key.now ∷ []) (at + 1) (drop (at + 1) rs))) (sym h ∙ any_seen key ks)
      ∙ ap (λ fs. ps ++ fs) (sym (step (seen_of ks) rs at (map view key.now) here))

pub fresh : (b x : Bool) → x ≡ not b → x ≡ true → b ≡ false
fresh true x p q = sym q ∙ p
fresh false x p q = refl

pub known : (b x : Bool) → x ≡ not b → x ≡ false → b ≡ true
known true x p q = refl
known false x p q = sym q ∙ p

nothing_left : {X : Type 0} (k : ℕ) (xs : List X) → k ≡ length xs → drop k xs ≡ []
nothing_left zero [] h = refl
nothing_left (suc k) [] h = refl
nothing_left zero (x ∷ xs) h = absurd (omega (arith, h))
nothing_left (suc k) (x ∷ xs) h = nothing_left k xs (omega arith)

no_more : (ps : List ℕ) → ps ≡ ps ++ []
no_more [] = refl
no_more (p ∷ ps) = ap (λ us. p ∷ us) (no_more ps)

pub ended : (rs : List (List Datum)) (at : ℕ) (ps : List ℕ) (seen : List (List Datum)) → at ≡ length rs → ps ≡ ps ++ first_places seen at (drop at rs)
ended rs at ps seen h = no_more ps ∙ ap (λ us. ps ++ first_places seen at us) (sym (nothing_left at rs h))
