-- Names that rise in byte order.
use Rattle.std.proofs.Common.{◌≡◌, ◌≢◌, ℕ, zero, suc, ◌+◌, ◌-◌, ◌<◌, ◌≤◌, Bool, true, false, List, [], ◌∷◌, ◌++◌, map, length, Option, Some, None, Less, Equal, Greater, refl, sym, ap, ◌∙◌, subst, arith, ltb}
use Rattle.std.proofs.lemmas.Bool.{ltb-true, ltb-false}
use Rattle.std.proofs.lemmas.Cmp.{lists_total, nat_cmp_total}
use Rattle.std.proofs.lemmas.List.{length-append, length-map, take-append-drop, take-append-le}
use Rattle.std.proofs.lemmas.Map.Text.{is_eq-slice_cmp}
use Rattle.std.proofs.Math.Seq.{take-length}
use Rattle.std.specs.Bool.{Decides}
use Rattle.std.specs.Cmp.{IsTotalOrder}
use Rattle.std.specs.List.{position_from, AllByRecursion}
use Rattle.std.specs.List.Sorted.{IsNonDecreasingBy, IsPartitionPoint, IsStrictlySortedBy}
use Rattle.std.specs.Ordering.{is_eq, is_lt, ordering_index, ordering_reverse}
use Rattle.std.specs.Prelude.{String, string_bytes, cond, take, drop, bytes_eq, slice_get, slice_index_or, unwrap_or}
use Rattle.std.specs.declared.alloc.Global.{Global}
use Rattle.std.specs.declared.cmp.Ordering.{Ordering}
use Rattle.pg_meaning.specs.Order.{text_order}
use Rattle.pg_rows.specs.Rising.{FirstRise, IsLastBelow}
use Rattle.pg_rows.proofs.NamedRows.{is_named}

total : IsTotalOrder text_order
total = lists_total nat_cmp_total

pub none_rise : FirstRise 0 []
unfolding IsStrictlySortedBy
none_rise = (omega arith, tt, λ h. refl)

-- ---- the place of a name

same : (name x : List ℕ) → text_order x name ≡ Equal → bytes_eq name x ≡ true
same name x e = sym (is_eq-slice_cmp name x) ∙ ap is_eq (total.antisymm name x ∙ ap ordering_reverse e)

above : (name x : List ℕ) → text_order x name ≡ Less → bytes_eq name x ≡ false
above name x e = sym (is_eq-slice_cmp name x) ∙ ap is_eq (total.antisymm name x ∙ ap ordering_reverse e)

-- what is below a text that is the name is another one
below_same : (name x y : List ℕ) → text_order x y ≡ Less → text_order y name ≡ Equal → text_order x name ≡ Less
below_same name x y e same_name = total.antisymm x name ∙ ap ordering_reverse (sym (total.congr y name x same_name) ∙ total.antisymm y x ∙ ap ordering_reverse e)

before : (name x y : List ℕ) → text_order x y ≡ Less → text_order y name ≡ Equal → bytes_eq name x ≡ false
before name x y e same_name = above name x (below_same name x y e same_name)

each : (P : List ℕ → Type 0) (held : List (String Global)) (i : ℕ) (d : String Global) → AllByRecursion P (map string_bytes held) → i < length held → P (string_bytes (slice_index_or held i d))
each P [] i d h within = absurd (omega arith)
each P (x ∷ xs) zero d h within = h.0
each P (x ∷ xs) (suc i) d h within = let less : i < length xs = omega arith in each P xs i d h.1 less

abbrev IsAt : (name : List ℕ) → List (String Global) → ℕ → Type 0
IsAt name held i = (d : String Global) → text_order (string_bytes (slice_index_or held i d)) name ≡ Equal

pub first_among : (name : List ℕ) (held : List (String Global)) (i from : ℕ) → IsStrictlySortedBy text_order (map string_bytes held) → i < length held → IsAt name held i
    → position_from (is_named name) from held ≡ Some (from + i)
unfolding IsStrictlySortedBy
first_among name [] i from h within at = absurd (omega arith)
first_among name (x ∷ xs) zero from h within at =
    let end : from ≡ from + 0 = omega arith in
    ap (λ b. cond b (Some from) (position_from (is_named name) (from + 1) xs)) (same name (string_bytes x) (at x)) ∙ ap Some end
first_among name (x ∷ xs) (suc i) from h within at =
    let less : i < length xs = omega arith in
    let end : from + 1 + i ≡ from + suc i = omega arith in
    let lower : text_order (string_bytes x) (string_bytes (slice_index_or xs i x)) ≡ Less = each (λ y. text_order (string_bytes x) y ≡ Less) xs i x h.0 less in
    ap (λ b. cond b (Some from) (position_from (is_named name) (from + 1) xs)) (before name (string_bytes x) (string_bytes (slice_index_or xs i x)) lower (at x))
    ∙ first_among name xs i (from + 1) h.1 less at
    ∙ ap Some end

at_most_two : (o : Ordering) → ordering_index o ≤ 2
at_most_two Less = omega arith
at_most_two Equal = omega arith
at_most_two Greater = omega arith

-- what an order of texts says of one name rises along texts that rise
rises_by : (name x y : List ℕ) (o : Ordering) → text_order x y ≡ Less → text_order y name ≡ o → ordering_index (text_order x name) ≤ ordering_index o
rises_by name x y Less e is = subst (λ p. ordering_index p ≤ 0) (sym (total.trans x y name e is)) (omega arith)
rises_by name x y Equal e is = subst (λ p. ordering_index p ≤ 1) (sym (below_same name x y e is)) (omega arith)
rises_by name x y Greater e is = at_most_two (text_order x name)

pub order_rises : (name : List ℕ) (held : List (String Global)) → IsStrictlySortedBy text_order (map string_bytes held) → IsNonDecreasingBy (λ s. ordering_index (text_order (string_bytes s) name)) held
unfolding IsStrictlySortedBy
order_rises name [] h i j d le within = absurd (omega (arith, within))
order_rises name (x ∷ xs) h zero zero d le within = omega arith
order_rises name (x ∷ xs) h zero (suc j) d le within =
    let less : j < length xs = omega arith in
    rises_by name (string_bytes x) (string_bytes (slice_index_or xs j d)) (text_order (string_bytes (slice_index_or xs j d)) name) (each (λ y. text_order (string_bytes x) y ≡ Less) xs j d h.0 less) refl
order_rises name (x ∷ xs) h (suc i) zero d le within = absurd (omega (arith, le))
order_rises name (x ∷ xs) h (suc i) (suc j) d le within =
    let less : i ≤ j = omega arith in
    let later : j < length xs = omega arith in
    order_rises name xs h.1 i j d less later

abbrev IsNotAt : (name : List ℕ) → List (String Global) → ℕ → Type 0
IsNotAt name held i = (d : String Global) → bytes_eq name (string_bytes (slice_index_or held i d)) ≡ false

absent_from : (name : List ℕ) (held : List (String Global)) (from : ℕ) → ((i : ℕ) → i < length held → IsNotAt name held i) → position_from (is_named name) from held ≡ None
absent_from name [] from h = refl
absent_from name (x ∷ xs) from h =
    let first : 0 < length (x ∷ xs) = omega arith in
    ap (λ b. cond b (Some from) (position_from (is_named name) (from + 1) xs)) (h 0 first x)
    ∙ absent_from name xs (from + 1) (λ i within d. let next : suc i < length (x ∷ xs) = omega arith in h (suc i) next d)

below_or_above : (name x : List ℕ) (o : Ordering) → text_order x name ≡ o → o ≢ Equal → bytes_eq name x ≡ false
below_or_above name x Less e other = above name x e
below_or_above name x Equal e other = absurd (other refl)
below_or_above name x Greater e other = sym (is_eq-slice_cmp name x) ∙ ap is_eq (total.antisymm name x ∙ ap ordering_reverse e)

-- a name that parts texts into those below it and those above it is none of them
module _ (name : List ℕ) (held : List (String Global)) (at : ℕ) (parted : IsPartitionPoint (λ s. text_order (string_bytes s) name ≡ Less) (λ s. text_order (string_bytes s) name ≡ Greater) held at) where
  is_another : (b : Bool) (i : ℕ) → ltb i at ≡ b → i < length held → IsNotAt name held i
  is_another true i e within d =
      let less : i < at = ltb-true i at e in
      below_or_above name (string_bytes (slice_index_or held i d)) Less (parted.0 i d (omega arith) less) (λ same. cc same)
  is_another false i e within d =
      let more : at ≤ i = ltb-false i at e in
      below_or_above name (string_bytes (slice_index_or held i d)) Greater (parted.1 i d more within) (λ same. cc same)

  pub absent_among : (from : ℕ) → position_from (is_named name) from held ≡ None
  absent_among from = absent_from name held from (λ i within. is_another (ltb i at) i refl within)

-- what is found among the first is found among all
chosen : (b : Bool) (i j : ℕ) (o p : Option ℕ) → cond b (Some i) o ≡ Some j → (o ≡ Some j → p ≡ Some j) → cond b (Some i) p ≡ Some j
chosen true i j o p e more = e
chosen false i j o p e more = more e

pub found_before : (t : List ℕ → Bool) (xs ys : List (List ℕ)) (from i : ℕ) → position_from t from xs ≡ Some i → position_from t from (xs ++ ys) ≡ Some i
found_before t [] ys from i e = absurd (cc e)
found_before t (x ∷ xs) ys from i e = chosen (t x) from i (position_from t (from + 1) xs) (position_from t (from + 1) (xs ++ ys)) e (found_before t xs ys (from + 1) i)

pub found_first : (t : List ℕ → Bool) (names : List (List ℕ)) (n i : ℕ) → position_from t 0 (take n names) ≡ Some i → position_from t 0 names ≡ Some i
found_first t names n i e = ap (position_from t 0) (sym (take-append-drop n names)) ∙ found_before t (take n names) (drop n names) 0 i e

-- ---- one name more

all_more : (x y : List ℕ) (xs : List (List ℕ)) → AllByRecursion (λ v. text_order x v ≡ Less) xs → text_order x y ≡ Less → AllByRecursion (λ v. text_order x v ≡ Less) (xs ++ y ∷ [])
all_more x y [] h e = (e, tt)
all_more x y (v ∷ vs) h e = (h.0, all_more x y vs h.1 e)

-- the first of names that rise is below what the last is below
first_below : (name x : List ℕ) (xs : List (List ℕ)) → IsStrictlySortedBy text_order (x ∷ xs) → IsLastBelow name (x ∷ xs) → text_order x name ≡ Less
unfolding IsStrictlySortedBy
first_below name x [] h last = last 0 x (omega arith)
first_below name x (y ∷ ys) h last =
    let later : IsLastBelow name (y ∷ ys) = λ k d e. let next : suc k + 1 ≡ length (x ∷ y ∷ ys) = omega arith in last (suc k) d next in
    total.trans x y name h.0.0 (first_below name y ys h.1 later)

pub one_more_rises : (name : List ℕ) (xs : List (List ℕ)) → IsStrictlySortedBy text_order xs → IsLastBelow name xs → IsStrictlySortedBy text_order (xs ++ name ∷ [])
unfolding IsStrictlySortedBy
one_more_rises name [] h last = (tt, tt)
one_more_rises name (x ∷ xs) h last =
    let later : IsLastBelow name xs = λ k d e. let next : suc k + 1 ≡ length (x ∷ xs) = omega arith in last (suc k) d next in
    (all_more x name xs h.0 (first_below name x xs h last), one_more_rises name xs h.1 later)

pub all_rise : (names : List (List ℕ)) → FirstRise (length names) names → IsStrictlySortedBy text_order names
all_rise names h = subst (IsStrictlySortedBy text_order) (take-length names) h.1

pub more_rise : (name : List ℕ) (names : List (List ℕ)) → IsStrictlySortedBy text_order names → IsLastBelow name names → FirstRise (length (names ++ name ∷ [])) (names ++ name ∷ [])
more_rise name names h last =
    (omega arith, subst (IsStrictlySortedBy text_order) (sym (take-length (names ++ name ∷ []))) (one_more_rises name names h last), λ all. refl)

all_below : (x name : List ℕ) (xs : List (List ℕ)) → AllByRecursion (λ v. text_order x v ≡ Less) (xs ++ name ∷ []) → AllByRecursion (λ v. text_order x v ≡ Less) xs × text_order x name ≡ Less
all_below x name [] h = (tt, h.0)
all_below x name (v ∷ vs) h = let more = all_below x name vs h.1 in ((h.0, more.0), more.1)

last_below : (x name : List ℕ) (xs : List (List ℕ)) → text_order x name ≡ Less → IsLastBelow name xs → IsLastBelow name (x ∷ xs)
last_below x name [] e last zero d long = e
last_below x name (y ∷ ys) e last zero d long = absurd (omega (arith, long))
last_below x name xs e last (suc k) d long = let less : k + 1 ≡ length xs = omega (arith, long) in last k d less

-- names that rise rise without the last, and it is above the one before it
one_less_rises : (name : List ℕ) (xs : List (List ℕ)) → IsStrictlySortedBy text_order (xs ++ name ∷ []) → IsStrictlySortedBy text_order xs × IsLastBelow name xs
unfolding IsStrictlySortedBy
one_less_rises name [] h = (tt, λ k d long. absurd (omega (arith, long)))
one_less_rises name (x ∷ xs) h =
    let below = all_below x name xs h.0 in
    let more = one_less_rises name xs h.1 in
    ((below.0, more.0), last_below x name xs below.1 more.1)

pub still_rise : (name : List ℕ) (n : ℕ) (names : List (List ℕ)) → FirstRise n names → (IsStrictlySortedBy text_order names → IsLastBelow name names → ⊥) → FirstRise n (names ++ name ∷ [])
still_rise name n names h turned =
    let first : n ≤ length names = h.0 in
    let more : length (names ++ name ∷ []) ≡ length names + 1 = length-append names (name ∷ []) in
    let within : n ≤ length (names ++ name ∷ []) = omega arith in
    (within, subst (IsStrictlySortedBy text_order) (sym (take-append-le n names (name ∷ []) h.0)) h.1, λ all. let less = one_less_rises name names all in absurd (turned less.0 less.1))

-- ---- the last name

got : (held : List (String Global)) (i : ℕ) (s : String Global) (d : List ℕ) → Some s ≡ slice_get held i → slice_index_or (map string_bytes held) i d ≡ string_bytes s
got [] i s d e = absurd (cc e)
got (x ∷ xs) zero s d e = ap (λ o. string_bytes (unwrap_or o x)) (sym e)
got (x ∷ xs) (suc i) s d e = got xs i s d e

is_less : (o : Ordering) → is_lt o ≡ true → o ≡ Less
is_less Less e = refl
is_less Equal e = absurd (cc e)
is_less Greater e = absurd (cc e)

last_is : (held : List (String Global)) (s : String Global) (k : ℕ) (d : List ℕ) → Some s ≡ slice_get held (length held - 1) → k + 1 ≡ length (map string_bytes held) → slice_index_or (map string_bytes held) k d ≡ string_bytes s
last_is held s k d e long =
    let many : length (map string_bytes held) ≡ length held = length-map held string_bytes in
    let place : length held - 1 ≡ k = omega (arith, many, long) in
    got held k s d (subst (λ i. Some s ≡ slice_get held i) place e)

some_last : (held : List (String Global)) (s : String Global) → Some s ≡ slice_get held (length held - 1) → length held - 1 + 1 ≡ length held
some_last [] s e = absurd (cc e)
some_last (x ∷ xs) s e = omega arith

-- whether the last name is below this one tells whether the last of all is
pub last_tells : (name : List ℕ) (held : List (String Global)) (names : List (List ℕ)) (s : String Global) → map string_bytes held ≡ names → Some s ≡ slice_get held (length held - 1)
    → Decides (is_lt (text_order (string_bytes s) name)) (IsLastBelow name names)
last_tells name held names s view e =
    let many : length (map string_bytes held) ≡ length held = length-map held string_bytes in
    let place : length held - 1 + 1 ≡ length (map string_bytes held) = some_last held s e ∙ sym many in
    let told : Decides (is_lt (text_order (string_bytes s) name)) (IsLastBelow name (map string_bytes held)) = (
      λ less k d long. ap (λ x. text_order x name) (last_is held s k d e long) ∙ is_less (text_order (string_bytes s) name) less,
      λ below. ap is_lt (sym (ap (λ x. text_order x name) (last_is held s (length held - 1) [] e place)) ∙ below (length held - 1) [] place),
    ) in
    subst (λ ns. Decides (is_lt (text_order (string_bytes s) name)) (IsLastBelow name ns)) view told

-- the first names that rise, with one more behind them
pub rising_with : (b : Bool) (name : List ℕ) (names : List (List ℕ)) (n : ℕ) → FirstRise n names → Decides b (IsStrictlySortedBy text_order names × IsLastBelow name names)
    → FirstRise (cond b (length (names ++ name ∷ [])) n) (names ++ name ∷ [])
rising_with true name names n h told = let both = told.0 refl in more_rise name names both.0 both.1
rising_with false name names n h told = still_rise name n names h (λ rise below. cc (told.1 (rise, below)))
