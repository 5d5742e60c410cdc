-- Values moved out of a list, row by row.
use Rattle.std.proofs.Common.{◌≡◌, ℕ, zero, suc, ◌+◌, ◌*◌, ◌<◌, ◌≤◌, List, [], ◌∷◌, ◌++◌, map, length, take, drop, get_or, replicate, refl, sym, ap, ◌∙◌, arith}
use Rattle.std.proofs.Math.ListN.{set}
use Rattle.std.proofs.Math.Seq.{take-append_seam, drop-append_seam}
use Rattle.std.proofs.lemmas.List.{take-append-le, drop-append-le, drop-take, take-map, drop-map}
use Rattle.pg_meaning.specs.Value.{Value as Datum, null}
use Rattle.pg_value_core.specs.View.{view, view_step}
use Rattle.pg_value_core.specs.declared.value.Value.{Value}
use Rattle.pg_value_core.specs.declared.value.Value.TheFolds.{fold-roll-Value}
use Rattle.pg_value_core.specs.declared.value.Value.TheOpen.{Value-F}
use Rattle.pg_value_core.specs.declared.value.Value.TheVariants.{Null}
use Rattle.pg_value_core.specs.declared.value.Value.TheViews.{rolls-Null}
use Rattle.pg_rows.proofs.Tabled.{one_more, more_rows, drop_drop, take_take, row_within, rows_push, map_append}
use Rattle.pg_rows.specs.Tables.{rows_of, EachBelow, moved_rows}

module _ {X : Type 0} where
  pub get_behind : (ps : List X) (x : X) (cs : List X) (d : X) → get_or (ps ++ x ∷ cs) (length ps) d ≡ x
  get_behind [] x cs d = refl
  get_behind (p ∷ ps) x cs d = get_behind ps x cs d

  pub set_behind : (ps : List X) (x z : X) (cs : List X) → set (ps ++ x ∷ cs) (length ps) z ≡ ps ++ z ∷ cs
  set_behind [] x z cs = refl
  set_behind (p ∷ ps) x z cs = ap (λ us. p ∷ us) (set_behind ps x z cs)

  pub drop_at : (i : ℕ) (xs : List X) (d : X) → i < length xs → drop i xs ≡ get_or xs i d ∷ drop (i + 1) xs
  drop_at i [] d h = absurd (omega (arith, h))
  drop_at zero (x ∷ xs) d h = refl
  drop_at (suc i) (x ∷ xs) d h = drop_at i xs d (omega arith) ∙ ap (λ c. get_or xs i d ∷ drop c (x ∷ xs)) (let e : suc (i + 1) ≡ suc i + 1 = omega arith in e)

  append_append : (us vs ws : List X) → us ++ (vs ++ ws) ≡ (us ++ vs) ++ ws
  append_append [] vs ws = refl
  append_append (u ∷ us) vs ws = ap (λ xs. u ∷ xs) (append_append us vs ws)

  pub more_nulls : (o : ℕ) (z : X) (cs : List X) → replicate o z ++ z ∷ cs ≡ replicate (o + 1) z ++ cs
  more_nulls zero z cs = refl
  more_nulls (suc o) z cs = ap (λ us. z ∷ us) (more_nulls o z cs) ∙ ap (λ c. replicate c z ++ cs) (let e : suc (o + 1) ≡ suc o + 1 = omega arith in e)

  pub length_nulls : (o : ℕ) (z : X) → length (replicate o z) ≡ o
  length_nulls zero z = refl
  length_nulls (suc o) z = ap suc (length_nulls o z)

  length_joined : (us vs : List X) → length (us ++ vs) ≡ length us + length vs
  length_joined [] vs = omega arith
  length_joined (u ∷ us) vs = ap suc (length_joined us vs) ∙ omega arith

  length_taken : (i : ℕ) (xs : List X) → i ≤ length xs → length (take i xs) ≡ i
  length_taken zero xs h = refl
  length_taken (suc i) [] h = absurd (omega (arith, h))
  length_taken (suc i) (x ∷ xs) h = ap suc (length_taken i xs (omega arith))

  module _ (old vs : List X) (start o : ℕ) (z : X) (within : start + o < length old) (is : vs ≡ take start old ++ (replicate o z ++ drop (start + o) old)) where
    pos : length (take start old ++ replicate o z) ≡ start + o
    pos = length_joined (take start old) (replicate o z) ∙ (let a = length_taken start old (omega arith) in let b = length_nulls o z in omega arith)

    shape : (d : X) → vs ≡ (take start old ++ replicate o z) ++ get_or old (start + o) d ∷ drop (start + o + 1) old
    shape d = is ∙ append_append (take start old) (replicate o z) (drop (start + o) old) ∙ ap (λ us. (take start old ++ replicate o z) ++ us) (drop_at (start + o) old d within)

    pub got_is : (d : X) → get_or vs (start + o) d ≡ get_or old (start + o) d
    got_is d = (λ i. get_or (shape d i) (sym pos i) d) ∙ get_behind (take start old ++ replicate o z) (get_or old (start + o) d) (drop (start + o + 1) old) d

    pub set_is : (d : X) → set vs (start + o) z ≡ take start old ++ (replicate (o + 1) z ++ drop (start + (o + 1)) old)
    set_is d =
        (λ i. set (shape d i) (sym pos i) z)
        ∙ set_behind (take start old ++ replicate o z) (get_or old (start + o) d) z (drop (start + o + 1) old)
        ∙ sym (append_append (take start old) (replicate o z) (z ∷ drop (start + o + 1) old))
        ∙ ap (λ us. take start old ++ us) (more_nulls o z (drop (start + o + 1) old))
        ∙ ap (λ c. take start old ++ (replicate (o + 1) z ++ drop c old)) (let e : start + o + 1 ≡ start + (o + 1) = omega arith in e)

  -- one row at its place
  pub rows_at : (w n i : ℕ) (vs : List X) → i < n → get_or (rows_of w n vs) i [] ≡ take w (drop (i * w) vs)
  rows_at w zero i vs p = absurd (omega (arith, p))
  rows_at w (suc n) zero vs p = ap (λ k. take w (drop k vs)) (let e : 0 ≡ 0 * w = omega arith in e)
  rows_at w (suc n) (suc i) vs p = rows_at w n i (drop w vs) (omega arith) ∙ ap (take w) (drop_drop w (i * w) vs ∙ ap (λ k. drop k vs) (sym (more_rows i w)))

  take_at : (i : ℕ) (xs : List X) (d : X) → i < length xs → take (i + 1) xs ≡ take i xs ++ get_or xs i d ∷ []
  take_at i [] d h = absurd (omega (arith, h))
  take_at zero (x ∷ xs) d h = refl
  take_at (suc i) (x ∷ xs) d h = ap (λ c. take c (x ∷ xs)) (let e : suc i + 1 ≡ suc (i + 1) = omega arith in e) ∙ ap (λ us. x ∷ us) (take_at i xs d (omega arith))

  get_dropped : (s o : ℕ) (xs : List X) (d : X) → get_or (drop s xs) o d ≡ get_or xs (s + o) d
  get_dropped zero o xs d = ap (λ c. get_or xs c d) (let e : o ≡ 0 + o = omega arith in e)
  get_dropped (suc s) o [] d = nothing o ∙ sym (nothing (suc s + o))
    where
      nothing : (k : ℕ) → get_or {A = X} [] k d ≡ d
      nothing zero = refl
      nothing (suc k) = refl
  get_dropped (suc s) o (x ∷ xs) d = get_dropped s o xs d ∙ ap (λ c. get_or (x ∷ xs) c d) (let e : suc (s + o) ≡ suc s + o = omega arith in e)

  length_dropped : (s : ℕ) (xs : List X) → s ≤ length xs → length (drop s xs) + s ≡ length xs
  length_dropped zero xs h = omega arith
  length_dropped (suc s) [] h = absurd (omega (arith, h))
  length_dropped (suc s) (x ∷ xs) h = let e = length_dropped s xs (omega arith) in omega arith

  pub moved_more : (old ms : List X) (start o : ℕ) (v d : X) → start + o < length old → v ≡ get_or old (start + o) d → (ms ++ take o (drop start old)) ++ v ∷ [] ≡ ms ++ take (o + 1) (drop start old)
  moved_more old ms start o v d h e =
      let long = length_dropped start old (omega arith) in
      sym (append_append ms (take o (drop start old)) (v ∷ []))
      ∙ ap (λ x. ms ++ (take o (drop start old) ++ x ∷ [])) (e ∙ sym (get_dropped start o old d))
      ∙ ap (λ us. ms ++ us) (sym (take_at o (drop start old) d (omega arith)))

  -- a row replaced at its place
  pub rows_set : (w n p : ℕ) (vs us : List X) → p < n → length vs ≡ n * w → length us ≡ w → rows_of w n (take (p * w) vs ++ (us ++ drop (p * w + w) vs)) ≡ set (rows_of w n vs) p us
  rows_set w zero p vs us h l r = absurd (omega (arith, h))
  rows_set w (suc n) zero vs us h l r =
      let none : 0 * w ≡ 0 = omega arith in
      let first : 0 * w + w ≡ w = omega arith in
      (λ i. rows_of w (suc n) (take (none i) vs ++ (us ++ drop (first i) vs)))
      ∙ (λ i. take (sym r i) (us ++ drop w vs) ∷ rows_of w n (drop (sym r i) (us ++ drop w vs)))
      ∙ (λ i. take-append_seam us (drop w vs) i ∷ rows_of w n (drop-append_seam us (drop w vs) i))
  rows_set w (suc n) (suc p) vs us h l r =
      let long : w + p * w + w ≤ length vs = omega (arith, more_rows n w, row_within p n w (omega arith)) in
      let cut : length (take (w + p * w) vs) ≡ w + p * w = length_taken (w + p * w) vs (omega arith) in
      let fits : w ≤ length (take (w + p * w) vs) = omega arith in
      let rest : length (drop w vs) ≡ n * w = let e = length_dropped w vs (omega arith) in omega (arith, more_rows n w) in
      let later : w + p * w + w ≡ w + (p * w + w) = omega arith in
      (λ i. rows_of w (suc n) (take (more_rows p w i) vs ++ (us ++ drop (more_rows p w i + w) vs)))
      ∙ (λ i. take-append-le w (take (w + p * w) vs) (us ++ drop (w + p * w + w) vs) fits i ∷ rows_of w n (drop-append-le w (take (w + p * w) vs) (us ++ drop (w + p * w + w) vs) fits i))
      ∙ (λ i. take_take w (p * w) vs i ∷ rows_of w n (drop-take w (p * w) vs i ++ (us ++ (ap (λ c. drop c vs) later ∙ sym (drop_drop w (p * w + w) vs)) i)))
      ∙ ap (λ rs. take w vs ∷ rs) (rows_set w n p (drop w vs) us (omega arith) rest r)

append_one : {X : Type 0} (xs : List X) (y : X) (ys : List X) → (xs ++ y ∷ []) ++ ys ≡ xs ++ y ∷ ys
append_one [] y ys = refl
append_one (x ∷ xs) y ys = ap (λ zs. x ∷ zs) (append_one xs y ys)

pub below_at : (n : ℕ) (ps : List ℕ) (i : ℕ) → EachBelow n ps → i < length ps → get_or ps i 0 < n
below_at n [] i a h = absurd (omega (arith, h))
below_at n (p ∷ ps) zero a h = a.0
below_at n (p ∷ ps) (suc i) a h = below_at n ps i a.1 (omega arith)

-- one more row
pub pick_step : (w n i : ℕ) (vs ms : List Datum) (ps : List ℕ) → get_or ps i 0 < n → i < length ps → length vs ≡ n * w → length ms ≡ i * w
    → rows_of w (i + 1) (ms ++ take w (drop (get_or ps i 0 * w) vs)) ++ moved_rows w (rows_of w n (take (get_or ps i 0 * w) vs ++ (replicate w null ++ drop (get_or ps i 0 * w + w) vs))) (drop (i + 1) ps)
    ≡ rows_of w i ms ++ moved_rows w (rows_of w n vs) (drop i ps)
pick_step w n i vs ms ps below h l m =
    let p : ℕ = get_or ps i 0 in
    let long : p * w + w ≤ length vs = omega (arith, row_within p n w below) in
    let cut : length (take w (drop (p * w) vs)) ≡ w = length_taken w (drop (p * w) vs) (let e = length_dropped (p * w) vs (omega arith) in omega arith) in
    let next : i + 1 ≡ suc i = omega arith in
    (λ j. rows_of w (next j) (ms ++ take w (drop (p * w) vs)) ++ moved_rows w (rows_set w n p vs (replicate w null) below l (length_nulls w null) j) (drop (i + 1) ps))
    ∙ ap (λ rs. rs ++ moved_rows w (set (rows_of w n vs) p (replicate w null)) (drop (i + 1) ps)) (rows_push w i ms (take w (drop (p * w) vs)) m cut)
    ∙ append_one (rows_of w i ms) (take w (drop (p * w) vs)) (moved_rows w (set (rows_of w n vs) p (replicate w null)) (drop (i + 1) ps))
    ∙ ap (λ r. rows_of w i ms ++ r ∷ moved_rows w (set (rows_of w n vs) p (replicate w null)) (drop (i + 1) ps)) (sym (rows_at w n p vs below))
    ∙ ap (λ qs. rows_of w i ms ++ moved_rows w (rows_of w n vs) qs) (sym (drop_at i ps 0 h))

seen_null : view Null ≡ null
seen_null = ap view (sym rolls-Null) ∙ fold-roll-Value Datum view_step Value-F.Null

seen_nulls : (w : ℕ) → map view (replicate w Null) ≡ replicate w null
seen_nulls zero = refl
seen_nulls (suc w) = λ i. seen_null i ∷ seen_nulls w i

pub seen_left : (s t w : ℕ) (vs : List Value) → map view (take s vs ++ (replicate w Null ++ drop t vs)) ≡ take s (map view vs) ++ (replicate w null ++ drop t (map view vs))
seen_left s t w vs =
    map_append view (take s vs) (replicate w Null ++ drop t vs)
    ∙ ap (λ us. map view (take s vs) ++ us) (map_append view (replicate w Null) (drop t vs))
    ∙ (λ i. sym (take-map view s vs) i ++ (seen_nulls w i ++ sym (drop-map view t vs) i))

pub seen_moved : (s w : ℕ) (ms vs : List Value) → map view (ms ++ take w (drop s vs)) ≡ map view ms ++ take w (drop s (map view vs))
seen_moved s w ms vs = map_append view ms (take w (drop s vs)) ∙ ap (λ us. map view ms ++ us) (sym (take-map view w (drop s vs)) ∙ ap (take w) (sym (drop-map view s vs)))

pub length_more : (w i p : ℕ) (vs ms : List Value) → p * w + w ≤ length vs → length ms ≡ i * w → length (ms ++ take w (drop (p * w) vs)) ≡ (i + 1) * w
length_more w i p vs ms long m =
    let cut : length (take w (drop (p * w) vs)) ≡ w = length_taken w (drop (p * w) vs) (let e = length_dropped (p * w) vs (omega arith) in omega arith) in
    length_joined ms (take w (drop (p * w) vs)) ∙ omega (arith, one_more i w)
