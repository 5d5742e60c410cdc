-- Names that are the first of their name.
use Rattle.std.proofs.Common.{◌≡◌, ℕ, zero, suc, ◌+◌, ◌<◌, ◌≤◌, Bool, true, false, List, [], ◌∷◌, ◌++◌, length, Option, Some, None, refl, sym, ap, ◌∙◌, subst, arith, ltb}
use Rattle.std.proofs.lemmas.Bool.{ltb-true, ltb-false}
use Rattle.std.proofs.lemmas.List.{length-append}
use Rattle.std.proofs.lemmas.Slice.Eq.{bytes_eq-Decides}
use Rattle.std.specs.List.{position_from}
use Rattle.std.specs.Prelude.{cond, position, bytes_eq, slice_get}
use Rattle.pg_rows.proofs.NamedRows.{first_place}
use Rattle.pg_rows.proofs.Rising.{found_before}
use Rattle.pg_rows.specs.Named.{AreFirsts}

pub no_firsts : AreFirsts 0 []
no_firsts = (omega arith, λ i x less got. absurd (omega (arith, less)))

got_first : (xs ys : List (List ℕ)) (i : ℕ) → i < length xs → slice_get (xs ++ ys) i ≡ slice_get xs i
got_first [] ys i h = absurd (omega arith)
got_first (x ∷ xs) ys zero h = refl
got_first (x ∷ xs) ys (suc i) h = let less : i < length xs = omega arith in got_first xs ys i less

got_last : (xs : List (List ℕ)) (y : List ℕ) → slice_get (xs ++ y ∷ []) (length xs) ≡ Some y
got_last [] y = refl
got_last (x ∷ xs) y = got_last xs y

later : (b : Bool) (i j : ℕ) (o p : Option ℕ) → cond b (Some i) o ≡ None → (o ≡ None → p ≡ Some j) → cond b (Some i) p ≡ Some j
later true i j o p e more = absurd (cc e)
later false i j o p e more = more e

found_last : (t : List ℕ → Bool) (xs : List (List ℕ)) (y : List ℕ) (from : ℕ) → position_from t from xs ≡ None → t y ≡ true → position_from t from (xs ++ y ∷ []) ≡ Some (from + length xs)
found_last t [] y from e is =
    let end : from ≡ from + 0 = omega arith in
    ap (λ b. cond b (Some from) (position_from t (from + 1) [])) is ∙ ap Some end
found_last t (x ∷ xs) y from e is =
    let end : from + 1 + length xs ≡ from + length (x ∷ xs) = omega arith in
    later (t x) from (from + length (x ∷ xs)) (position_from t (from + 1) xs) (position_from t (from + 1) (xs ++ y ∷ [])) e
    (λ none. found_last t xs y (from + 1) none is ∙ ap Some end)

still_at : (x name : List ℕ) (names : List (List ℕ)) (i : ℕ) → position (bytes_eq x) names ≡ Some i → position (bytes_eq x) (names ++ name ∷ []) ≡ Some i
still_at x name names i e =
    first_place x (names ++ name ∷ []) ∙ found_before (bytes_eq x) names (name ∷ []) 0 i (sym (first_place x names) ∙ e)

more_at : (name : List ℕ) (names : List (List ℕ)) (n i : ℕ) (x : List ℕ) → AreFirsts n names → i < n → slice_get (names ++ name ∷ []) i ≡ Some x → position (bytes_eq x) (names ++ name ∷ []) ≡ Some i
more_at name names n i x h less got =
    let most : n ≤ length names = h.0 in
    let within : i < length names = omega (arith, less, most) in
    still_at x name names i (h.1 i x less (sym (got_first names (name ∷ []) i within) ∙ got))

more_firsts : (name : List ℕ) (names : List (List ℕ)) (n : ℕ) → AreFirsts n names → AreFirsts n (names ++ name ∷ [])
more_firsts name names n h =
    let most : n ≤ length names = h.0 in
    let long : length (names ++ name ∷ []) ≡ length names + 1 = length-append names (name ∷ []) in
    (omega (arith, most, long), λ i x less got. more_at name names n i x h less got)

module _ (name : List ℕ) (names : List (List ℕ)) (h : AreFirsts (length names) names) (new : position (bytes_eq name) names ≡ None) where
  last_at : (x : List ℕ) → slice_get (names ++ name ∷ []) (length names) ≡ Some x → position (bytes_eq x) (names ++ name ∷ []) ≡ Some (length names)
  last_at x got =
      let same : name ≡ x = cc (sym (got_last names name) ∙ got) in
      let start : 0 + length names ≡ length names = omega arith in
      let is : bytes_eq name name ≡ true = (bytes_eq-Decides name name).1 refl in
      let found : position (bytes_eq name) (names ++ name ∷ []) ≡ Some (length names) =
      first_place name (names ++ name ∷ []) ∙ found_last (bytes_eq name) names name 0 (sym (first_place name names) ∙ new) is ∙ ap Some start in
      subst (λ y. position (bytes_eq y) (names ++ name ∷ []) ≡ Some (length names)) same found

  either : (b : Bool) (i : ℕ) (x : List ℕ) → ltb i (length names) ≡ b → i < length names + 1 → slice_get (names ++ name ∷ []) i ≡ Some x → position (bytes_eq x) (names ++ name ∷ []) ≡ Some i
  either true i x e less got = more_at name names (length names) i x h (ltb-true i (length names) e) got
  either false i x e less got =
      let past : length names ≤ i = ltb-false i (length names) e in
      let last : length names ≡ i = omega (arith, past, less) in
      subst (λ j. position (bytes_eq x) (names ++ name ∷ []) ≡ Some j) last (last_at x (subst (λ j. slice_get (names ++ name ∷ []) j ≡ Some x) (sym last) got))

  one_more_first : AreFirsts (length (names ++ name ∷ [])) (names ++ name ∷ [])
  one_more_first =
      let long : length (names ++ name ∷ []) ≡ length names + 1 = length-append names (name ∷ []) in
      (omega arith, λ i x less got. either (ltb i (length names)) i x refl (omega (arith, less, long)) got)

-- the first names with one more behind them
pub firsts_with : (b : Bool) (name : List ℕ) (names : List (List ℕ)) (n : ℕ) → AreFirsts n names → (b ≡ true → AreFirsts (length names) names) → (b ≡ true → position (bytes_eq name) names ≡ None)
    → AreFirsts (cond b (length (names ++ name ∷ [])) n) (names ++ name ∷ [])
firsts_with true name names n h all new = one_more_first name names (all refl) (new refl)
firsts_with false name names n h all new = more_firsts name names n h

-- a name that stands at one of them is found there
pub first_is : (name x : List ℕ) (names : List (List ℕ)) (n i : ℕ) → AreFirsts n names → i < n → slice_get names i ≡ Some x → bytes_eq name x ≡ true → position (bytes_eq name) names ≡ Some i
first_is name x names n i h less got same =
    let is : name ≡ x = (bytes_eq-Decides name x).0 same in
    subst (λ y. position (bytes_eq y) names ≡ Some i) (sym is) (h.1 i x less got)
