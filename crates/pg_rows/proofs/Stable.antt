-- A sort that is stable is the only one: that by insertion.
use Rattle.std.proofs.Common.{◌≡◌, ℕ, suc, ◌<◌, ◌≤◌, ◌&&◌, Bool, true, false, not, cond, List, [], ◌∷◌, map, length, get_or, filter, refl, sym, ap, ◌∙◌, true≢false, arith}
use Rattle.std.specs.Cmp.{IsStrictWeakOrder}
use Rattle.std.specs.List.Sorted.{IsSortedBy, IsStableBy, ties}
use Rattle.std.proofs.lemmas.List.Sorted.{sorted_far}
use Rattle.pg_rows.specs.Sorts.{insert_by, sorted_by}

abbrev pub Every : {X : Type 0} → (X → Type 0) → List X → Type 0
Every P [] = Unit {0}
Every P (x ∷ xs) = P x × Every P xs

module _ {X : Type 0} (lt : X → X → Bool) where
  abbrev pub Rises : List X → Type 0
  Rises [] = Unit {0}
  Rises (x ∷ xs) = Every (λ w. lt w x ≡ false) xs × Rises xs

module _ {X : Type 0} {lt : X → X → Bool} (o : IsStrictWeakOrder lt) where
  pub itself : (x : X) → lt x x ≡ false
  itself x = by (lt x x) refl
    where
      by : (b : Bool) → lt x x ≡ b → lt x x ≡ false
      by true e = o.one_way x x e
      by false e = e

  tied : (x y : X) → lt x y ≡ false → lt y x ≡ false → ties lt x y ≡ true
  tied x y p q = λ i. not (p i) && not (q i)

  first_tie : (a b : Bool) → not a && not b ≡ true → a ≡ false
  first_tie true b h = sym h
  first_tie false b h = refl

  second_tie : (a b : Bool) → not a && not b ≡ true → b ≡ false
  second_tie true b h = absurd (true≢false (sym h))
  second_tie false true h = sym h
  second_tie false false h = refl

  kept : (p : X → Bool) (x : X) (xs : List X) → p x ≡ true → filter p (x ∷ xs) ≡ x ∷ filter p xs
  kept p x xs e = ap (λ b. cond b (x ∷ filter p xs) (filter p xs)) e

  left_out : (p : X → Bool) (x : X) (xs : List X) → p x ≡ false → filter p (x ∷ xs) ≡ filter p xs
  left_out p x xs e = ap (λ b. cond b (x ∷ filter p xs) (filter p xs)) e

  -- what ties with a member of ws isn't below what is least in ws
  least : (y z : X) (ws : List X) → Every (λ w. lt w z ≡ false) ws → (v : X) (vs : List X) → filter (ties lt y) ws ≡ v ∷ vs → lt y z ≡ false
  least y z [] a v vs h = absurd (let no : ⊥ = cc in no)
  least y z (w ∷ ws) a v vs h = by (ties lt y w) refl (λ q. least y z ws a.1 v vs q)
    where
      by : (b : Bool) → ties lt y w ≡ b → (filter (ties lt y) ws ≡ v ∷ vs → lt y z ≡ false) → lt y z ≡ false
      by true e more = o.chain y w z (first_tie (lt y w) (lt w y) e) a.0
      by false e more = more (sym (left_out (ties lt y) w ws e) ∙ h)

  pub one_stable : (ys zs : List X) → Rises lt ys → Rises lt zs → ((x : X) → filter (ties lt x) ys ≡ filter (ties lt x) zs) → ys ≡ zs
  one_stable [] [] r s h = refl
  one_stable [] (z ∷ zs) r s h = absurd (let e = h z ∙ kept (ties lt z) z zs (tied z z (itself z) (itself z)) in let no : ⊥ = cc in no)
  one_stable (y ∷ ys) [] r s h = absurd (let e = sym (h y) ∙ kept (ties lt y) y ys (tied y y (itself y) (itself y)) in let no : ⊥ = cc in no)
  one_stable (y ∷ ys) (z ∷ zs) r s h = both (λ f. one_stable ys zs r.1 s.1 f)
    where
      low : lt y z ≡ false
      low = least y z (z ∷ zs) (itself z, s.0) y (filter (ties lt y) ys) (sym (h y) ∙ kept (ties lt y) y ys (tied y y (itself y) (itself y)))

      high : lt z y ≡ false
      high = least z y (y ∷ ys) (itself y, r.0) z (filter (ties lt z) zs) (h z ∙ kept (ties lt z) z zs (tied z z (itself z) (itself z)))

      same : y ≡ z
      same = let e = sym (kept (ties lt y) y ys (tied y y (itself y) (itself y))) ∙ h y ∙ kept (ties lt y) z zs (tied y z low high) in cc

      rest : (x : X) → filter (ties lt x) ys ≡ filter (ties lt x) zs
      rest x = by (ties lt x y) refl
        where
          by : (b : Bool) → ties lt x y ≡ b → filter (ties lt x) ys ≡ filter (ties lt x) zs
          by true e = let q = sym (kept (ties lt x) y ys e) ∙ h x ∙ kept (ties lt x) z zs (sym (ap (ties lt x) same) ∙ e) in cc
          by false e = sym (left_out (ties lt x) y ys e) ∙ h x ∙ left_out (ties lt x) z zs (sym (ap (ties lt x) same) ∙ e)

      both : (((x : X) → filter (ties lt x) ys ≡ filter (ties lt x) zs) → ys ≡ zs) → y ∷ ys ≡ z ∷ zs
      both more = λ i. same i ∷ more rest i

  pub every_insert : (P : X → Type 0) (x : X) (ys : List X) → P x → Every P ys → Every P (insert_by lt x ys)
  every_insert P x [] p a = (p, tt)
  every_insert P x (y ∷ ys) p a = by (lt y x) (every_insert P x ys p a.1)
    where
      by : (b : Bool) → Every P (insert_by lt x ys) → Every P (cond b (y ∷ insert_by lt x ys) (x ∷ y ∷ ys))
      by true more = (a.0, more)
      by false more = (p, a)

  every_above : (x y : X) (ys : List X) → lt y x ≡ false → Every (λ w. lt w y ≡ false) ys → Every (λ w. lt w x ≡ false) ys
  every_above x y [] e a = tt
  every_above x y (w ∷ ws) e a = (o.chain w y x a.0 e, every_above x y ws e a.1)

  insert_rises : (x : X) (ys : List X) → Rises lt ys → Rises lt (insert_by lt x ys)
  insert_rises x [] r = (tt, tt)
  insert_rises x (y ∷ ys) r = by (lt y x) refl (insert_rises x ys r.1)
    where
      by : (b : Bool) → lt y x ≡ b → Rises lt (insert_by lt x ys) → Rises lt (cond b (y ∷ insert_by lt x ys) (x ∷ y ∷ ys))
      by true e more = (every_insert (λ w. lt w y ≡ false) x ys (o.one_way y x e) r.0, more)
      by false e more = ((e, every_above x y ys e r.0), r)

  pub sorted_rises : (xs : List X) → Rises lt (sorted_by lt xs)
  sorted_rises [] = tt
  sorted_rises (x ∷ xs) = insert_rises x (sorted_by lt xs) (sorted_rises xs)

  insert_stable : (v x : X) (ys : List X) → filter (ties lt v) (insert_by lt x ys) ≡ filter (ties lt v) (x ∷ ys)
  insert_stable v x [] = refl
  insert_stable v x (y ∷ ys) = by (lt y x) refl (insert_stable v x ys)
    where
      turn : (a b : Bool) (fs : List X) → (a ≡ true → b ≡ true → ⊥) → cond b (y ∷ cond a (x ∷ fs) fs) (cond a (x ∷ fs) fs) ≡ cond a (x ∷ cond b (y ∷ fs) fs) (cond b (y ∷ fs) fs)
      turn true true fs never = absurd (never refl refl)
      turn true false fs never = refl
      turn false true fs never = refl
      turn false false fs never = refl

      by : (b : Bool) → lt y x ≡ b → filter (ties lt v) (insert_by lt x ys) ≡ filter (ties lt v) (x ∷ ys) → filter (ties lt v) (cond b (y ∷ insert_by lt x ys) (x ∷ y ∷ ys)) ≡ filter (ties lt v) (x ∷ y ∷ ys)
      by true e more =
          ap (λ fs. cond (ties lt v y) (y ∷ fs) fs) more
          ∙ turn (ties lt v x) (ties lt v y) (filter (ties lt v) ys) (λ p q. true≢false (sym e ∙ o.chain y v x (second_tie (lt v y) (lt y v) q) (first_tie (lt v x) (lt x v) p)))
      by false e more = refl

  pub sorted_stable : (v : X) (xs : List X) → filter (ties lt v) (sorted_by lt xs) ≡ filter (ties lt v) xs
  sorted_stable v [] = refl
  sorted_stable v (x ∷ xs) = insert_stable v x (sorted_by lt xs) ∙ ap (λ fs. cond (ties lt v x) (x ∷ fs) fs) (sorted_stable v xs)

  every_at : (P : X → Type 0) (d : X) (xs : List X) → ((j : ℕ) → j < length xs → P (get_or xs j d)) → Every P xs
  every_at P d [] h = tt
  every_at P d (x ∷ xs) h = (h 0 (omega arith), every_at P d xs (λ j p. h (suc j) (omega arith)))

  rises_far : (xs : List X) → ((i j : ℕ) (d : X) → i ≤ j → j < length xs → lt (get_or xs j d) (get_or xs i d) ≡ false) → Rises lt xs
  rises_far [] h = tt
  rises_far (x ∷ xs) h = (every_at (λ w. lt w x ≡ false) x xs (λ j p. h 0 (suc j) x (omega arith) (omega arith)), rises_far xs (λ i j d p q. h (suc i) (suc j) d (omega arith) (omega arith)))

  -- what a stable sort gives
  pub stable_is : (xs ys : List X) → IsSortedBy lt ys → IsStableBy lt xs ys → ys ≡ sorted_by lt xs
  stable_is xs ys up stable = one_stable ys (sorted_by lt xs) (rises_far ys (sorted_far lt o ys up)) (sorted_rises xs) (λ x. stable x ∙ sym (sorted_stable x xs))

module _ {X Y : Type 0} (f : X → Y) (lt : Y → Y → Bool) where
  insert_map : (x : X) (xs : List X) → insert_by lt (f x) (map f xs) ≡ map f (insert_by (λ a b. lt (f a) (f b)) x xs)
  insert_map x [] = refl
  insert_map x (y ∷ ys) = by (lt (f y) (f x)) (insert_map x ys)
    where
      by : (b : Bool) → insert_by lt (f x) (map f ys) ≡ map f (insert_by (λ a b. lt (f a) (f b)) x ys) → cond b (f y ∷ insert_by lt (f x) (map f ys)) (f x ∷ f y ∷ map f ys) ≡ map f (cond b (y ∷ insert_by (λ a b. lt (f a) (f b)) x ys) (x ∷ y ∷ ys))
      by true more = ap (λ zs. f y ∷ zs) more
      by false more = refl

  pub sorted_map : (xs : List X) → sorted_by lt (map f xs) ≡ map f (sorted_by (λ a b. lt (f a) (f b)) xs)
  sorted_map [] = refl
  sorted_map (x ∷ xs) = ap (insert_by lt (f x)) (sorted_map xs) ∙ insert_map x (sorted_by (λ a b. lt (f a) (f b)) xs)
