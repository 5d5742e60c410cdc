-- One item more of two lists that are compared, and one entry more of two maps.
use Rattle.std.proofs.Common.{◌≡◌, ℕ, ◌+◌, ◌<◌, ◌≤◌, Bool, true, false, not, List, [], ◌∷◌, length, drop, get_or, refl, sym, ◌∙◌, ap, String, Global}
use Rattle.std.specs.String.{string_eq}
use Rattle.std.proofs.lemmas.List.{drop_more, drop_all}
use Rattle.pg_meaning.specs.Equality.{eq3, items_eq3, entries_eq3, is_in3}
use Rattle.pg_meaning.specs.Logic.{and3, or3, tri_of}
use Rattle.pg_meaning.specs.declared.logic.Tri.{Tri}
use Rattle.pg_meaning.specs.declared.logic.Tri.TheVariants.{True, False, Null}
use Rattle.pg_value_core.specs.View.{view, values_view, entries_view}
use Rattle.pg_value_core.specs.declared.value.Value.{Value}
use Rattle.pg_value.proofs.Tables.{and_true, and_false, and_associative, or_associative}

-- the first item of what is left
left_from : (xs : List Value) (i : ℕ) (x : Value) → i < length xs → x ≡ get_or xs i x → drop i xs ≡ x ∷ drop (i + 1) xs
left_from xs i x inside e = drop_more xs i x inside ∙ ap (λ v. v ∷ drop (i + 1) xs) (sym e)

pub items_step : (all joined : Tri) (xs others rest : List Value) (i : ℕ) (x y : Value) → i < length xs → x ≡ get_or xs i x → others ≡ y ∷ rest
    → joined ≡ and3 all (eq3 (view x) (view y))
    → and3 joined (items_eq3 (values_view (drop (i + 1) xs)) (values_view rest)) ≡ and3 all (items_eq3 (values_view (drop i xs)) (values_view others))
items_step all joined xs others rest i x y inside e o j =
    rw (j, left_from xs i x inside e, o) (and_associative all (eq3 (view x) (view y)) _)

with_false : (t : Tri) → and3 t False ≡ False
with_false True = refl
with_false False = refl
with_false Null = refl

with_true : (t : Tri) → and3 t True ≡ t
with_true True = refl
with_true False = refl
with_true Null = refl

pub items_begun : (xs ys others : List Value) → others ≡ ys → and3 True (items_eq3 (values_view xs) (values_view others)) ≡ items_eq3 (values_view xs) (values_view ys)
items_begun xs ys others o = and_true (items_eq3 (values_view xs) (values_view others)) ∙ ap (λ zs. items_eq3 (values_view xs) (values_view zs)) o

-- the second list is at its end before the first one
pub items_over : (all : Tri) (xs others : List Value) (i : ℕ) (x : Value) → i < length xs → x ≡ get_or xs i x → others ≡ []
    → False ≡ and3 all (items_eq3 (values_view (drop i xs)) (values_view others))
items_over all xs others i x inside e o =
    sym (ap (λ ys. and3 all (items_eq3 (values_view (drop i xs)) (values_view ys))) o ∙ ap (λ ys. and3 all (items_eq3 (values_view ys) (values_view []))) (left_from xs i x inside e) ∙ with_false all)

-- the first list is at its end before the second one
pub items_left : (all : Tri) (xs others rest : List Value) (i : ℕ) (y : Value) → length xs ≤ i → others ≡ y ∷ rest
    → False ≡ and3 all (items_eq3 (values_view (drop i xs)) (values_view others))
items_left all xs others rest i y outside o =
    sym (ap (λ ys. and3 all (items_eq3 (values_view (drop i xs)) (values_view ys))) o ∙ ap (λ ys. and3 all (items_eq3 (values_view ys) (values_view (y ∷ rest)))) (drop_all i xs outside) ∙ with_false all)

pub items_done : (all : Tri) (xs others : List Value) (i : ℕ) → length xs ≤ i → others ≡ [] → all ≡ and3 all (items_eq3 (values_view (drop i xs)) (values_view others))
items_done all xs others i outside o =
    sym (ap (λ ys. and3 all (items_eq3 (values_view (drop i xs)) (values_view ys))) o ∙ ap (λ ys. and3 all (items_eq3 (values_view ys) (values_view []))) (drop_all i xs outside) ∙ with_true all)

same_key : (b : Bool) (t : Tri) → not b ≡ false → and3 (tri_of b) t ≡ t
same_key true t h = and_true t
same_key false t h = absurd (cc)

other_key : (b : Bool) (all t : Tri) → not b ≡ true → False ≡ and3 all (and3 (tri_of b) t)
other_key false all t h = sym (ap (and3 all) (and_false t) ∙ with_false all)
other_key true all t h = absurd (cc)

-- one entry more of two maps, under the same key
pub entries_step : (all joined : Tri) (key other : String Global) (x y : Value) (lefts rights es fs : List (String Global × Value))
    → lefts ≡ (key, x) ∷ es → rights ≡ (other, y) ∷ fs → not (string_eq key other) ≡ false → joined ≡ and3 all (eq3 (view x) (view y))
    → and3 joined (entries_eq3 (entries_view es) (entries_view fs)) ≡ and3 all (entries_eq3 (entries_view lefts) (entries_view rights))
entries_step all joined key other x y lefts rights es fs p q h j =
    rw (j, p, q) (and_associative all (eq3 (view x) (view y)) _ ∙ ap (and3 all) (sym (same_key (string_eq key other) _ h)))

-- entries under different keys
pub entries_differ : (all : Tri) (key other : String Global) (x y : Value) (lefts rights es fs : List (String Global × Value))
    → lefts ≡ (key, x) ∷ es → rights ≡ (other, y) ∷ fs → not (string_eq key other) ≡ true
    → False ≡ and3 all (entries_eq3 (entries_view lefts) (entries_view rights))
entries_differ all key other x y lefts rights es fs p q h = rw (p, q) (other_key (string_eq key other) all _ h)

module _ (all : Tri) where
  abbrev of_entries : List (String Global × Value) → List (String Global × Value) → Tri
  of_entries es fs = and3 all (entries_eq3 (entries_view es) (entries_view fs))

  -- the second map is at its end before the first one
  pub entries_over : (key : String Global) (x : Value) (lefts rights es : List (String Global × Value)) → lefts ≡ (key, x) ∷ es → rights ≡ [] → False ≡ and3 all (entries_eq3 (entries_view lefts) (entries_view rights))
  entries_over key x lefts rights es p q = sym (ap (λ fs. of_entries fs rights) p ∙ ap (of_entries ((key, x) ∷ es)) q ∙ with_false all)

  -- the first map is at its end before the second one
  pub entries_left : (other : String Global) (y : Value) (lefts rights fs : List (String Global × Value)) → lefts ≡ [] → rights ≡ (other, y) ∷ fs → False ≡ and3 all (entries_eq3 (entries_view lefts) (entries_view rights))
  entries_left other y lefts rights fs p q = sym (ap (λ es. of_entries es rights) p ∙ ap (of_entries []) q ∙ with_false all)

  pub entries_done : (lefts rights : List (String Global × Value)) → lefts ≡ [] → rights ≡ [] → all ≡ and3 all (entries_eq3 (entries_view lefts) (entries_view rights))
  entries_done lefts rights p q = sym (ap (λ es. of_entries es rights) p ∙ ap (of_entries []) q ∙ with_true all)

pub entries_begun : (es fs lefts rights : List (String Global × Value)) → lefts ≡ es → rights ≡ fs → and3 True (entries_eq3 (entries_view lefts) (entries_view rights)) ≡ entries_eq3 (entries_view es) (entries_view fs)
entries_begun es fs lefts rights p q = ap (λ ls. of_entries True ls rights) p ∙ ap (of_entries True es) q ∙ and_true (entries_eq3 (entries_view es) (entries_view fs))

-- a value is in what is left where it is equal to the next item, or in the items after that
pub is_in_step : (any joined : Tri) (v : Value) (xs : List Value) (i : ℕ) (x : Value) → i < length xs → x ≡ get_or xs i x → joined ≡ or3 any (eq3 (view v) (view x))
    → or3 joined (is_in3 (view v) (values_view (drop (i + 1) xs))) ≡ or3 any (is_in3 (view v) (values_view (drop i xs)))
is_in_step any joined v xs i x inside e j = rw (j, left_from xs i x inside e) (or_associative any (eq3 (view v) (view x)) _)

or_none : (t : Tri) → or3 t False ≡ t
or_none True = refl
or_none False = refl
or_none Null = refl

pub is_in_done : (any : Tri) (v : Value) (xs : List Value) (i : ℕ) → length xs ≤ i → any ≡ or3 any (is_in3 (view v) (values_view (drop i xs)))
is_in_done any v xs i outside = sym (ap (λ ys. or3 any (is_in3 (view v) (values_view ys))) (drop_all i xs outside) ∙ or_none any)
