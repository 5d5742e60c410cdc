-- The first of a sorted list, as items come one after the other.
use Rattle.std.proofs.Common.{◌≡◌, ℕ, zero, suc, ◌-◌, ◌||◌, not, Bool, true, false, cond, List, [], ◌∷◌, ◌++◌, length, map, take, slice_get, Option, Some, None, refl, sym, ap, subst, ◌∙◌, true≢false, arith}
use Rattle.std.specs.Cmp.{IsStrictWeakOrder}
use Rattle.std.specs.List.{list_any}
use Rattle.std.specs.Option.{option_map}
use Rattle.std.specs.Ordering.{is_lt}
use Rattle.pg_meaning.specs.Value.{Value}
use Rattle.pg_rows.proofs.Apart.{sorted_apart}
use Rattle.pg_rows.proofs.Orders.{below_order}
use Rattle.pg_rows.proofs.Places.{sorted_below}
use Rattle.pg_rows.proofs.Stable.{Every, Rises, itself, sorted_rises}
use Rattle.pg_rows.specs.Laws.{LeastPlacesAreApart}
use Rattle.pg_rows.specs.LeastKeys.{Bounds, is_behind, least_of}
use Rattle.pg_rows.specs.Sorts.{insert_by, sorted_by, key_order, keyed_below, numbered, sorted_places, least_places}
use Rattle.pg_rows.specs.Tables.{AreApart, EachBelow, NoneIs}

module _ {X : Type 0} where
  every_less : (P : X → Type 0) (m : ℕ) (xs : List X) → Every P (take (suc m) xs) → Every P (take m xs)
  every_less P zero xs a = tt
  every_less P (suc m) [] a = tt
  every_less P (suc m) (x ∷ xs) a = (a.0, every_less P m xs a.1)

  length_less : (m : ℕ) (xs : List X) → length (take (suc m) xs) ≡ suc m → length (take m xs) ≡ m
  length_less zero xs h = refl
  length_less (suc m) [] h = absurd (omega (arith, h))
  length_less (suc m) (x ∷ xs) h = ap suc (length_less m xs (omega (arith, h)))

  take_less : (m : ℕ) (xs : List X) → take m (take (suc m) xs) ≡ take m xs
  take_less zero xs = refl
  take_less (suc m) [] = refl
  take_less (suc m) (x ∷ xs) = ap (λ ys. x ∷ ys) (take_less m xs)

  take_again : (m : ℕ) (xs : List X) → take m (take m xs) ≡ take m xs
  take_again zero xs = refl
  take_again (suc m) [] = refl
  take_again (suc m) (x ∷ xs) = ap (λ ys. x ∷ ys) (take_again m xs)

  pub none_is : (p : X → Bool) (xs : List X) → list_any p xs ≡ false → Every (λ x. p x ≡ false) xs
  none_is p [] h = tt
  none_is p (x ∷ xs) h = by (p x) refl (none_is p xs)
    where
      by : (b : Bool) → p x ≡ b → (list_any p xs ≡ false → Every (λ x. p x ≡ false) xs) → Every (λ x. p x ≡ false) (x ∷ xs)
      by true e more = absurd (true≢false (sym (ap (λ b. b || list_any p xs) e) ∙ h))
      by false e more = (e, more (sym (ap (λ b. b || list_any p xs) e) ∙ h))

  pub none_any : (p : X → Bool) (xs : List X) → Every (λ x. p x ≡ false) xs → list_any p xs ≡ false
  none_any p [] a = refl
  none_any p (x ∷ xs) a = ap (λ b. b || list_any p xs) a.0 ∙ none_any p xs a.1

  every_is : (P Q : X → Type 0) (xs : List X) → ((x : X) → P x → Q x) → Every P xs → Every Q xs
  every_is P Q [] f a = tt
  every_is P Q (x ∷ xs) f a = (f x a.0, every_is P Q xs f a.1)

module _ {X : Type 0} (lt : X → X → Bool) where
  -- before the first that is above it
  abbrev pub insert_late : X → List X → List X
  insert_late x [] = x ∷ []
  insert_late x (y ∷ ys) = cond (lt x y) (x ∷ y ∷ ys) (y ∷ insert_late x ys)

  -- what comes behind the first m changes nothing of them
  firsts_late : (m : ℕ) (x : X) (ys : List X) → take m (insert_late x ys) ≡ take m (insert_late x (take m ys))
  firsts_late zero x ys = refl
  firsts_late (suc m) x [] = refl
  firsts_late (suc m) x (y ∷ ys) = by (lt x y) (firsts_late m x ys)
    where
      short : (n : ℕ) → take n (y ∷ ys) ≡ take n (y ∷ take n ys)
      short zero = refl
      short (suc n) = ap (λ zs. y ∷ zs) (sym (take_less n ys))

      by : (b : Bool) → take m (insert_late x ys) ≡ take m (insert_late x (take m ys)) → take (suc m) (cond b (x ∷ y ∷ ys) (y ∷ insert_late x ys)) ≡ take (suc m) (cond b (x ∷ y ∷ take m ys) (y ∷ insert_late x (take m ys)))
      by true more = ap (λ zs. x ∷ zs) (short m)
      by false more = ap (λ zs. y ∷ zs) more

  every_late : (P : X → Type 0) (m : ℕ) (x : X) (ys : List X) → P x → Every P (take m ys) → Every P (take m (insert_late x ys))
  every_late P zero x ys p a = tt
  every_late P (suc zero) x [] p a = (p, tt)
  every_late P (suc (suc m)) x [] p a = (p, tt)
  every_late P (suc m) x (y ∷ ys) p a = by (lt x y) (every_late P m x ys p a.1)
    where
      by : (b : Bool) → Every P (take m (insert_late x ys)) → Every P (take (suc m) (cond b (x ∷ y ∷ ys) (y ∷ insert_late x ys)))
      by true more = (p, every_less P m (y ∷ ys) a)
      by false more = (a.0, more)

  length_late : (m : ℕ) (x : X) (ys : List X) → length (take m ys) ≡ m → length (take m (insert_late x ys)) ≡ m
  length_late zero x ys h = refl
  length_late (suc m) x [] h = absurd (omega (arith, h))
  length_late (suc m) x (y ∷ ys) h = by (lt x y) (length_late m x ys (omega (arith, h)))
    where
      by : (b : Bool) → length (take m (insert_late x ys)) ≡ m → length (take (suc m) (cond b (x ∷ y ∷ ys) (y ∷ insert_late x ys))) ≡ suc m
      by true more = ap suc (length_less m (y ∷ ys) h)
      by false more = ap suc more

  -- what is above none of the first m comes behind them
  late_behind : (m : ℕ) (x : X) (ys : List X) → length (take m ys) ≡ m → Every (λ y. lt x y ≡ false) (take m ys) → take m (insert_late x ys) ≡ take m ys
  late_behind zero x ys h a = refl
  late_behind (suc m) x [] h a = absurd (omega (arith, h))
  late_behind (suc m) x (y ∷ ys) h a = ap (λ b. take (suc m) (cond b (x ∷ y ∷ ys) (y ∷ insert_late x ys))) a.0 ∙ ap (λ zs. y ∷ zs) (late_behind m x ys (omega (arith, h)) a.1)

module _ {X : Type 0} {lt : X → X → Bool} (o : IsStrictWeakOrder lt) where
  below_both : (x y z : X) → lt x y ≡ true → lt y z ≡ true → lt x z ≡ true
  below_both x y z p q = by (lt x z) refl
    where
      by : (b : Bool) → lt x z ≡ b → lt x z ≡ true
      by true e = e
      by false e = absurd (true≢false (sym p ∙ o.chain x z y e (o.one_way y z q)))

  turn : (x y : X) (zs : List X) → insert_by lt y (insert_late lt x zs) ≡ insert_late lt x (insert_by lt y zs)
  turn x y [] = by (lt x y)
    where
      by : (b : Bool) → cond b (x ∷ y ∷ []) (y ∷ x ∷ []) ≡ cond b (x ∷ y ∷ []) (y ∷ x ∷ [])
      by true = refl
      by false = refl
  turn x y (z ∷ zs) = by (lt x z) (lt z y) refl refl (turn x y zs)
    where
      inserts : (b : Bool) → lt z y ≡ b → insert_by lt y (z ∷ zs) ≡ cond b (z ∷ insert_by lt y zs) (y ∷ z ∷ zs)
      inserts b e = ap (λ c. cond c (z ∷ insert_by lt y zs) (y ∷ z ∷ zs)) e

      lates : (b : Bool) (ws : List X) → lt x z ≡ b → insert_late lt x (z ∷ ws) ≡ cond b (x ∷ z ∷ ws) (z ∷ insert_late lt x ws)
      lates b ws e = ap (λ c. cond c (x ∷ z ∷ ws) (z ∷ insert_late lt x ws)) e

      same : (b : Bool) → cond b (x ∷ y ∷ z ∷ zs) (y ∷ x ∷ z ∷ zs) ≡ cond b (x ∷ y ∷ z ∷ zs) (y ∷ x ∷ z ∷ zs)
      same b = refl

      by : (b c : Bool) → lt x z ≡ b → lt z y ≡ c → insert_by lt y (insert_late lt x zs) ≡ insert_late lt x (insert_by lt y zs) → insert_by lt y (insert_late lt x (z ∷ zs)) ≡ insert_late lt x (insert_by lt y (z ∷ zs))
      by true true p q more =
          ap (insert_by lt y) (lates true zs p)
          ∙ ap (λ d. cond d (x ∷ insert_by lt y (z ∷ zs)) (y ∷ x ∷ z ∷ zs)) (below_both x z y p q)
          ∙ ap (λ ws. x ∷ ws) (inserts true q)
          ∙ sym (ap (insert_late lt x) (inserts true q) ∙ lates true (insert_by lt y zs) p)
      by false true p q more =
          ap (insert_by lt y) (lates false zs p)
          ∙ ap (λ d. cond d (z ∷ insert_by lt y (insert_late lt x zs)) (y ∷ z ∷ insert_late lt x zs)) q
          ∙ ap (λ ws. z ∷ ws) more
          ∙ sym (ap (insert_late lt x) (inserts true q) ∙ lates false (insert_by lt y zs) p)
      by true false p q more =
          ap (insert_by lt y) (lates true zs p)
          ∙ ap (λ ws. cond (lt x y) (x ∷ ws) (y ∷ x ∷ z ∷ zs)) (inserts false q)
          ∙ sym (ap (insert_late lt x) (inserts false q) ∙ ap (λ ws. cond (lt x y) (x ∷ y ∷ z ∷ zs) (y ∷ ws)) (lates true zs p))
      by false false p q more =
          ap (insert_by lt y) (lates false zs p)
          ∙ ap (λ d. cond d (z ∷ insert_by lt y (insert_late lt x zs)) (y ∷ z ∷ insert_late lt x zs)) q
          ∙ sym (ap (insert_late lt x) (inserts false q) ∙ ap (λ d. cond d (x ∷ y ∷ z ∷ zs) (y ∷ insert_late lt x (z ∷ zs))) (o.chain x z y p q) ∙ ap (λ ws. y ∷ ws) (lates false zs p))

  -- the last of a list comes behind those that tie with it
  sorted_last : (xs : List X) (x : X) → sorted_by lt (xs ++ x ∷ []) ≡ insert_late lt x (sorted_by lt xs)
  sorted_last [] x = refl
  sorted_last (y ∷ ys) x = ap (insert_by lt y) (sorted_last ys x) ∙ turn x y (sorted_by lt ys)

  -- one more
  pub one_later : (m : ℕ) (xs ys : List X) (x : X) → take m (sorted_by lt xs) ≡ take m (sorted_by lt ys) → take m (sorted_by lt (xs ++ x ∷ [])) ≡ take m (sorted_by lt (ys ++ x ∷ []))
  one_later m xs ys x h =
      ap (take m) (sorted_last xs x)
      ∙ firsts_late lt m x (sorted_by lt xs)
      ∙ ap (λ zs. take m (insert_late lt x zs)) h
      ∙ sym (ap (take m) (sorted_last ys x) ∙ firsts_late lt m x (sorted_by lt ys))

  -- one that comes behind the first m
  pub one_behind : (m : ℕ) (xs : List X) (x : X) → length (take m (sorted_by lt xs)) ≡ m → Every (λ y. lt x y ≡ false) (take m (sorted_by lt xs)) → take m (sorted_by lt xs) ≡ take m (sorted_by lt (xs ++ x ∷ []))
  one_behind m xs x h a = sym (ap (take m) (sorted_last xs x) ∙ late_behind lt m x (sorted_by lt xs) h a)

  pub one_each : (P : X → Type 0) (m : ℕ) (xs : List X) (x : X) → P x → Every P (take m (sorted_by lt xs)) → Every P (take m (sorted_by lt (xs ++ x ∷ [])))
  one_each P m xs x p a = subst (λ ys. Every P (take m ys)) (sym (sorted_last xs x)) (every_late lt P m x (sorted_by lt xs) p a)

  pub one_long : (m : ℕ) (xs : List X) (x : X) → length (take m (sorted_by lt xs)) ≡ m → length (take m (sorted_by lt (xs ++ x ∷ []))) ≡ m
  one_long m xs x h = ap (λ zs. length (take m zs)) (sorted_last xs x) ∙ length_late lt m x (sorted_by lt xs) h

  sorted_again : (xs : List X) → Rises lt xs → sorted_by lt xs ≡ xs
  sorted_again [] r = refl
  sorted_again (x ∷ xs) r = ap (insert_by lt x) (sorted_again xs r.1) ∙ first xs r.0
    where
      first : (ys : List X) → Every (λ w. lt w x ≡ false) ys → insert_by lt x ys ≡ x ∷ ys
      first [] a = refl
      first (y ∷ ys) a = ap (λ b. cond b (y ∷ insert_by lt x ys) (x ∷ y ∷ ys)) a.0

  every_take : (P : X → Type 0) (m : ℕ) (xs : List X) → Every P xs → Every P (take m xs)
  every_take P zero xs a = tt
  every_take P (suc m) [] a = tt
  every_take P (suc m) (x ∷ xs) a = (a.0, every_take P m xs a.1)

  take_rises : (m : ℕ) (xs : List X) → Rises lt xs → Rises lt (take m xs)
  take_rises zero xs r = tt
  take_rises (suc m) [] r = tt
  take_rises (suc m) (x ∷ xs) r = (every_take (λ w. lt w x ≡ false) m xs r.0, take_rises m xs r.1)

  pub firsts_rise : (m : ℕ) (xs : List X) → Rises lt (take m (sorted_by lt xs))
  firsts_rise m xs = take_rises m (sorted_by lt xs) (sorted_rises o xs)

  -- the first of them alone have the same first
  pub firsts_again : (m : ℕ) (xs : List X) → take m (sorted_by lt (take m (sorted_by lt xs))) ≡ take m (sorted_by lt xs)
  firsts_again m xs = ap (take m) (sorted_again (take m (sorted_by lt xs)) (firsts_rise m xs)) ∙ take_again m (sorted_by lt xs)

abbrev pub Placed : Type 0
Placed = List Value × ℕ

module _ (ds : List Bool) (m : ℕ) where
  abbrev lt : Placed → Placed → Bool
  lt = keyed_below ds

  not_is : (b c : Bool) → not b ≡ c → b ≡ not c
  not_is true c h = ap not h
  not_is false c h = ap not h

  each_above : (keyed : List Placed) (x : Placed) (b : List Value) → is_lt (key_order ds x.0 b) ≡ false → Bounds m ds (Some b) (least_of m ds keyed) → Every (λ y. lt x y ≡ false) (least_of m ds keyed)
  each_above keyed x b e h =
      every_is (λ k. is_lt (key_order ds b k.0) ≡ false) (λ y. lt x y ≡ false) (least_of m ds keyed) (λ y p. (below_order {X = ℕ} ds).chain x (b, 0) y e p)
      (none_is (λ k. is_lt (key_order ds b k.0)) (least_of m ds keyed) h.1)

  -- a key behind the bound changes nothing
  pub none_wanted : (keyed : List Placed) (x : Placed) (bound : Option (List Value)) → is_behind ds x.0 bound ≡ true → Bounds m ds bound (least_of m ds keyed) → least_of m ds keyed ≡ least_of m ds (keyed ++ x ∷ [])
  none_wanted keyed x None e h = absurd (true≢false (sym e))
  none_wanted keyed x (Some b) e h = one_behind (below_order {X = ℕ} ds) m keyed x h.0 (each_above keyed x b (not_is (is_lt (key_order ds x.0 b)) true e) h)

  pub bound_stays : (keyed more : List Placed) (bound : Option (List Value)) → least_of m ds keyed ≡ least_of m ds more → Bounds m ds bound (least_of m ds keyed) → Bounds m ds bound (least_of m ds more)
  bound_stays keyed more bound e h = subst (Bounds m ds bound) e h

  within_bounds : (keyed : List Placed) (x : Placed) (bound : Option (List Value)) → is_behind ds x.0 bound ≡ false → Bounds m ds bound (least_of m ds keyed) → Bounds m ds bound (least_of m ds (keyed ++ x ∷ []))
  within_bounds keyed x None e h = tt
  within_bounds keyed x (Some b) e h = (
    one_long (below_order {X = ℕ} ds) m keyed x h.0,
    none_any (λ k. is_lt (key_order ds b k.0)) (least_of m ds (keyed ++ x ∷ []))
        (one_each (below_order {X = ℕ} ds) (λ k. is_lt (key_order ds b k.0) ≡ false) m keyed x
        ((below_order {X = ℕ} ds).one_way x (b, 0) (not_is (is_lt (key_order ds x.0 b)) false e))
        (none_is (λ k. is_lt (key_order ds b k.0)) (least_of m ds keyed) h.1)),
  )

  pub still_bounds : (keyed : List Placed) (x : Placed) (bound : Option (List Value)) → Bounds m ds bound (least_of m ds keyed) → Bounds m ds bound (least_of m ds (keyed ++ x ∷ []))
  still_bounds keyed x bound h = by (is_behind ds x.0 bound) refl
    where
      by : (b : Bool) → is_behind ds x.0 bound ≡ b → Bounds m ds bound (least_of m ds (keyed ++ x ∷ []))
      by true e = bound_stays keyed (keyed ++ x ∷ []) bound (none_wanted keyed x bound e h) h
      by false e = within_bounds keyed x bound e h

  every_get : (P : Placed → Type 0) (xs : List Placed) (i : ℕ) (x : Placed) → slice_get xs i ≡ Some x → Every P xs → P x
  every_get P [] i x h a = absurd (let no : ⊥ = cc in no)
  every_get P (y ∷ ys) zero x h a = let e : y ≡ x = cc in subst P e a.0
  every_get P (y ∷ ys) (suc i) x h a = every_get P ys i x h a.1

  last_above : (xs : List Placed) (b : Placed) → Rises lt xs → slice_get xs (length xs - 1) ≡ Some b → Every (λ y. lt b y ≡ false) xs
  last_above [] b r h = tt
  last_above (x ∷ []) b r h = let e : x ≡ b = cc in (subst (λ c. lt c x ≡ false) e (itself (below_order {X = ℕ} ds) x), tt)
  last_above (x ∷ y ∷ ys) b r h =
      let n : suc (suc (length ys)) - 1 ≡ suc (length ys) = omega arith in
      let k : length ys ≡ suc (length ys) - 1 = omega arith in
      let there : slice_get (y ∷ ys) (suc (length ys) - 1) ≡ Some b = sym (ap (slice_get (y ∷ ys)) k) ∙ sym (ap (slice_get (x ∷ y ∷ ys)) n) ∙ h in
      (every_get (λ w. lt w x ≡ false) (y ∷ ys) (suc (length ys) - 1) b there r.0, last_above (y ∷ ys) b r.1 there)

  -- the last of as many as are wanted is a bound
  bounded : (xs : List Placed) → Rises lt xs → length xs ≡ m → (found : Option Placed) → slice_get xs (length xs - 1) ≡ found → Bounds m ds (option_map (λ k. k.0) found) xs
  bounded xs r n None h = tt
  bounded xs r n (Some b) h = (n, none_any (λ k. is_lt (key_order ds b.0 k.0)) xs (last_above xs b r h))

  pub bound_found : (es keyed : List Placed) (bound : Option (List Value)) → es ≡ least_of m ds keyed → length es ≡ m → bound ≡ option_map (λ k. k.0) (slice_get es (length es - 1)) → Bounds m ds bound (least_of m ds keyed)
  bound_found es keyed bound e n b =
      subst (λ o. Bounds m ds o (least_of m ds keyed)) (sym (b ∙ ap (λ ks. option_map (λ k. k.0) (slice_get ks (length ks - 1))) e))
      (bounded (least_of m ds keyed) (firsts_rise (below_order {X = ℕ} ds) m keyed) (ap length (sym e) ∙ n) (slice_get (least_of m ds keyed) (length (least_of m ds keyed) - 1)) refl)

pub map_take : {X Y : Type 0} (f : X → Y) (m : ℕ) (xs : List X) → map f (take m xs) ≡ take m (map f xs)
map_take f zero xs = refl
map_take f (suc m) [] = refl
map_take f (suc m) (x ∷ xs) = ap (λ ys. f x ∷ ys) (map_take f m xs)

-- the places of them
pub places_least : (m : ℕ) (ds : List Bool) (ks : List (List Value)) → map (λ k. k.1) (least_of m ds (numbered 0 ks)) ≡ least_places m ds ks
places_least m ds ks = map_take (λ k. k.1) m (sorted_by (keyed_below ds) (numbered 0 ks))

below_take : (n m : ℕ) (ps : List ℕ) → EachBelow n ps → EachBelow n (take m ps)
below_take n zero ps b = tt
below_take n (suc m) [] b = tt
below_take n (suc m) (p ∷ ps) b = (b.0, below_take n m ps b.1)

pub least_below : (m : ℕ) (ds : List Bool) (ks : List (List Value)) → EachBelow (length ks) (least_places m ds ks)
least_below m ds ks = below_take (length ks) m (sorted_places ds ks) (sorted_below ds ks)

none_take : (p m : ℕ) (ps : List ℕ) → NoneIs p ps → NoneIs p (take m ps)
none_take p zero ps a = tt
none_take p (suc m) [] a = tt
none_take p (suc m) (q ∷ qs) a = (a.0, none_take p m qs a.1)

apart_take : (m : ℕ) (ps : List ℕ) → AreApart ps → AreApart (take m ps)
apart_take zero ps a = tt
apart_take (suc m) [] a = tt
apart_take (suc m) (p ∷ ps) a = (none_take p m ps a.0, apart_take m ps a.1)

pub least_apart : LeastPlacesAreApart
least_apart m ds ks = apart_take m (sorted_places ds ks) (sorted_apart ds ks)
