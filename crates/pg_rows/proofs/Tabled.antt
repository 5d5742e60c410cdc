-- Rows cut out of a list of values.
use Rattle.std.proofs.Common.{◌≡◌, ℕ, zero, suc, ◌+◌, ◌*◌, ◌-◌, ◌<◌, ◌≤◌, List, [], ◌∷◌, ◌++◌, map, length, take, drop, slice_get, Some, refl, sym, ap, ◌∙◌, arith}
use Rattle.std.proofs.lemmas.List.{take-append-le, drop-append-le, drop-take, length-drop}
use Rattle.std.proofs.Math.Nat.{mul-le-mul_right}
use Rattle.std.proofs.Math.Seq.{take-length}
use Rattle.pg_rows.specs.Tables.{rows_of}

pub one_more : (n w : ℕ) → (n + 1) * w ≡ w + n * w
one_more n w = omega arith

pub more_rows : (n w : ℕ) → suc n * w ≡ w + n * w
more_rows n w = omega arith

module _ {X : Type 0} where
  pub length_rows : (w n : ℕ) (vs : List X) → length (rows_of w n vs) ≡ n
  length_rows w zero vs = refl
  length_rows w (suc n) vs = ap suc (length_rows w n (drop w vs))

  pub one_column : (vs : List X) → rows_of 1 (length vs) vs ≡ map (λ v. v ∷ []) vs
  one_column [] = refl
  one_column (v ∷ vs) = ap (λ rs. (v ∷ []) ∷ rs) (one_column vs)

  pub no_values : (vs : List X) → length vs ≡ 0 → vs ≡ []
  no_values [] h = refl
  no_values (v ∷ vs) h = absurd (omega (arith, h))

  pub rows_push : (w n : ℕ) (vs row : List X) → length vs ≡ n * w → length row ≡ w → rows_of w (suc n) (vs ++ row) ≡ rows_of w n vs ++ row ∷ []
  rows_push w zero vs row h r =
      let e = no_values vs (omega (arith, h)) in
      ap (λ us. take w (us ++ row) ∷ []) e ∙ ap (λ k. take k row ∷ []) (sym r) ∙ ap (λ us. us ∷ []) (take-length row)
  rows_push w (suc n) vs row h r =
      let fits : w ≤ length vs = omega (arith, more_rows n w) in
      let rest : length (drop w vs) ≡ n * w = length-drop w vs ∙ omega (arith, more_rows n w) in
      (λ i. take-append-le w vs row fits i ∷ rows_of w (suc n) (drop-append-le w vs row fits i)) ∙ ap (λ rs. take w vs ∷ rs) (rows_push w n (drop w vs) row rest r)

  none_left : (k : ℕ) → [] ≡ drop {A = X} k []
  none_left zero = refl
  none_left (suc k) = refl

  pub drop_drop : (a b : ℕ) (vs : List X) → drop b (drop a vs) ≡ drop (a + b) vs
  drop_drop zero b vs = ap (λ k. drop k vs) (let e : b ≡ 0 + b = omega arith in e)
  drop_drop (suc a) b [] = sym (none_left b) ∙ none_left (suc a + b)
  drop_drop (suc a) b (v ∷ vs) = drop_drop a b vs ∙ ap (λ k. drop k (v ∷ vs)) (let e : suc (a + b) ≡ suc a + b = omega arith in e)

  pub take_take : (a b : ℕ) (vs : List X) → take a (take (a + b) vs) ≡ take a vs
  take_take zero b vs = refl
  take_take (suc a) b [] = ap (λ k. take (suc a) (take k [])) (let e : suc a + b ≡ suc (a + b) = omega arith in e)
  take_take (suc a) b (v ∷ vs) = ap (λ k. take (suc a) (take k (v ∷ vs))) (let e : suc a + b ≡ suc (a + b) = omega arith in e) ∙ ap (λ us. v ∷ us) (take_take a b vs)

  pub rows_get : (w n i : ℕ) (vs : List X) → i < n → slice_get (rows_of w n vs) i ≡ Some (take w (drop (i * w) vs))
  rows_get w zero i vs p = absurd (omega (arith, p))
  rows_get w (suc n) zero vs p = ap (λ k. Some (take w (drop k vs))) (let e : 0 ≡ 0 * w = omega arith in e)
  rows_get w (suc n) (suc i) vs p =
      rows_get w n i (drop w vs) (omega arith) ∙ ap (λ us. Some (take w us)) (drop_drop w (i * w) vs ∙ ap (λ k. drop k vs) (sym (more_rows i w)))

  pub rows_take : (w n k : ℕ) (vs : List X) → k ≤ n → rows_of w k (take (k * w) vs) ≡ take k (rows_of w n vs)
  rows_take w n zero vs p = refl
  rows_take w zero (suc k) vs p = absurd (omega (arith, p))
  rows_take w (suc n) (suc k) vs p =
      ap (λ m. rows_of w (suc k) (take m vs)) (more_rows k w)
      ∙ (λ i. take_take w (k * w) vs i ∷ rows_of w k (drop-take w (k * w) vs i))
      ∙ ap (λ rs. take w vs ∷ rs) (rows_take w n k (drop w vs) (omega arith))

  pub rows_drop : (w n k : ℕ) (vs : List X) → k ≤ n → rows_of w (n - k) (drop (k * w) vs) ≡ drop k (rows_of w n vs)
  rows_drop w n zero vs p = (λ i. rows_of w (less i) (drop (none i) vs))
    where
      less : n - 0 ≡ n
      less = omega arith

      none : 0 * w ≡ 0
      none = omega arith
  rows_drop w zero (suc k) vs p = absurd (omega (arith, p))
  rows_drop w (suc n) (suc k) vs p =
      (λ i. rows_of w (less i) (drop (more_rows k w i) vs))
      ∙ ap (rows_of w (n - k)) (sym (drop_drop w (k * w) vs))
      ∙ rows_drop w n k (drop w vs) (omega arith)
    where
      less : suc n - suc k ≡ n - k
      less = omega arith

  pub rows_append : (w n m : ℕ) (vs us : List X) → length vs ≡ n * w → rows_of w (n + m) (vs ++ us) ≡ rows_of w n vs ++ rows_of w m us
  rows_append w zero m vs us h = (λ i. rows_of w (none i) (no_values vs (let e : length vs ≡ 0 = omega (arith, h) in e) i ++ us))
    where
      none : 0 + m ≡ m
      none = omega arith
  rows_append w (suc n) m vs us h =
      let fits : w ≤ length vs = omega (arith, more_rows n w) in
      let rest : length (drop w vs) ≡ n * w = length-drop w vs ∙ omega (arith, more_rows n w) in
      let one : suc n + m ≡ suc (n + m) = omega arith in
      ap (λ k. rows_of w k (vs ++ us)) one
      ∙ (λ i. take-append-le w vs us fits i ∷ rows_of w (n + m) (drop-append-le w vs us fits i))
      ∙ ap (λ rs. take w vs ∷ rs) (rows_append w n m (drop w vs) us rest)

  pub all_taken : (k : ℕ) (vs : List X) → length vs ≤ k → vs ≡ take k vs
  all_taken zero [] h = refl
  all_taken (suc k) [] h = refl
  all_taken zero (v ∷ vs) h = absurd (omega (arith, h))
  all_taken (suc k) (v ∷ vs) h = ap (λ us. v ∷ us) (all_taken k vs (omega arith))

pub row_within : (i n w : ℕ) → i < n → i * w + w ≤ n * w
row_within i n w p = omega (arith, one_more i w, mul-le-mul_right {m = i + 1} {n = n} w (omega arith))

pub map_append : {X Y : Type 0} (f : X → Y) (xs ys : List X) → map f (xs ++ ys) ≡ map f xs ++ map f ys
map_append f [] ys = refl
map_append f (x ∷ xs) ys = ap (λ zs. f x ∷ zs) (map_append f xs ys)

pub spread : (n m w : ℕ) → (n + m) * w ≡ n * w + m * w
spread zero m w = let e : 0 + m ≡ m = omega arith in let f : 0 * w ≡ 0 = omega arith in ap (λ k. k * w) e ∙ (let g : m * w ≡ 0 * w + m * w = omega arith in g)
spread (suc n) m w = let e : suc n + m ≡ suc (n + m) = omega arith in ap (λ k. k * w) e ∙ (let h = spread n m w in omega (arith, more_rows (n + m) w, more_rows n w))
