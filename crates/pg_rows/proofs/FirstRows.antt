-- DISTINCT by the places of rows.
use Rattle.std.proofs.Common.{◌≡◌, ℕ, zero, suc, ◌||◌, Bool, true, false, cond, List, [], ◌∷◌, ◌++◌, map, drop, slice_get, Some, refl, sym, ap, ◌∙◌}
use Rattle.std.specs.List.{list_any}
use Rattle.std.specs.Prelude.{option_to_list}
use Rattle.pg_meaning.specs.Projections.{Projected, firsts, same_values}
use Rattle.pg_meaning.specs.Rows.{values_in}
use Rattle.pg_meaning.specs.Value.{Value}
use Rattle.pg_rows.specs.Laws.{items_at, FirstsAreAtPlaces}
use Rattle.pg_rows.specs.Tables.{first_places}

abbrev shown : Projected → List Value
shown p = values_in p.columns

any_last : (p : List Value → Bool) (vs : List (List Value)) (v : List Value) → list_any p (vs ++ v ∷ []) ≡ p v || list_any p vs
any_last p [] v = refl
any_last p (u ∷ us) v = ap (λ b. p u || b) (any_last p us v) ∙ turn (p u) (p v) (list_any p us)
  where
    turn : (a b c : Bool) → a || (b || c) ≡ b || (a || c)
    turn true true c = refl
    turn true false c = refl
    turn false true c = refl
    turn false false c = refl

get_first : {X : Type 0} (n : ℕ) (xs : List X) (x : X) (ys : List X) → drop n xs ≡ x ∷ ys → slice_get xs n ≡ Some x
get_first zero [] x ys h = absurd (let no : ⊥ = cc in no)
get_first (suc n) [] x ys h = absurd (let no : ⊥ = cc in no)
get_first zero (z ∷ zs) x ys h = let e : z ≡ x = cc in ap Some e
get_first (suc n) (z ∷ zs) x ys h = get_first n zs x ys h

drop_next : {X : Type 0} (n : ℕ) (xs : List X) (x : X) (ys : List X) → drop n xs ≡ x ∷ ys → drop (suc n) xs ≡ ys
drop_next zero [] x ys h = absurd (let no : ⊥ = cc in no)
drop_next (suc n) [] x ys h = absurd (let no : ⊥ = cc in no)
drop_next zero (z ∷ zs) x ys h = cc
drop_next (suc n) (z ∷ zs) x ys h = drop_next n zs x ys h

one_row : (seen : List (List Value)) (p : Projected) (ps : List Projected) (b : Bool) → list_any (same_values (shown p)) seen ≡ b → firsts seen (p ∷ ps) ≡ cond b (firsts seen ps) (p ∷ firsts (shown p ∷ seen) ps)
one_row seen p ps true h = rw (h, firsts) refl
one_row seen p ps false h = rw (h, firsts) refl

at_places : (whole ps : List Projected) (n : ℕ) (seen met : List (List Value)) → drop n whole ≡ ps → ((r : List Value) → list_any (same_values r) seen ≡ list_any (same_values r) met)
    → firsts seen ps ≡ items_at whole (first_places met n (map shown ps))
at_places whole [] n seen met h same = refl
at_places whole (p ∷ ps) n seen met h same =
    one_row seen p ps (list_any (same_values (shown p)) met) (same (shown p))
    ∙ by (list_any (same_values (shown p)) met)
    (at_places whole ps (suc n) seen met (drop_next n whole p ps h) same)
    (at_places whole ps (suc n) (shown p ∷ seen) (met ++ shown p ∷ []) (drop_next n whole p ps h) (λ r. ap (λ b. same_values r (shown p) || b) (same r) ∙ sym (any_last (same_values r) met (shown p))))
  where
    by : (b : Bool) → firsts seen ps ≡ items_at whole (first_places met (suc n) (map shown ps)) → firsts (shown p ∷ seen) ps ≡ items_at whole (first_places (met ++ shown p ∷ []) (suc n) (map shown ps))
        → cond b (firsts seen ps) (p ∷ firsts (shown p ∷ seen) ps) ≡ items_at whole (cond b (first_places met (suc n) (map shown ps)) (n ∷ first_places (met ++ shown p ∷ []) (suc n) (map shown ps)))
    by true e f = e
    by false e f = λ i. option_to_list (sym (get_first n whole p ps h) i) ++ f i

pub firsts_at_places : FirstsAreAtPlaces
firsts_at_places ps = at_places ps ps 0 [] [] refl (λ r. refl)
