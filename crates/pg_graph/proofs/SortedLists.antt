-- What a binary search of a rising list finds, and what an edit at that place makes of the list.
use Rattle.std.proofs.Common.{◌≡◌, ◌==◌, ◌<◌, ◌≤◌, ℕ, zero, suc, Bool, true, false, cond, List, [], ◌∷◌, ◌++◌, ◌||◌, length, take, slice_set, slice_index_or, Result, Ok, Err, is_ok, Ordering, Less, Equal, Greater, arith, refl, sym, ap, subst, ◌∙◌}
use Rattle.std.proofs.lemmas.Bool.Decides.{nat_tests}
use Rattle.std.proofs.lemmas.Grind.{common_steps}
use Rattle.std.proofs.lemmas.List.{append-nil, drop_all}
use Rattle.std.specs.List.{AllByRecursion, HoldsAt, insert, remove, refill, list_any}
use Rattle.std.specs.List.Sorted.{IsNonDecreasingBy, IsPartitionPoint, IsSearchInRange, IsBinarySearchResult}
use Rattle.std.specs.Ordering.{nat_cmp, match_ordering, ordering_index}
use Rattle.pg_graph.specs.Sorted.{Rises, with_element, without, IsPlace}

pub below : (a b : ℕ) → a < b → nat_cmp a b ≡ Less
below a b h = grind (arith, nat_tests)

pub above : (a b : ℕ) → b < a → nat_cmp a b ≡ Greater
above a b h = grind (arith, nat_tests)

pub level : (a b : ℕ) → a ≡ b → nat_cmp a b ≡ Equal
level a b h = grind (arith, nat_tests)

pub less : (a b : ℕ) → nat_cmp a b ≡ Less → a < b
less a b h = grind (arith, nat_tests)

pub greater : (a b : ℕ) → nat_cmp a b ≡ Greater → b < a
greater a b h = grind (arith, nat_tests)

pub equal : (a b : ℕ) → nat_cmp a b ≡ Equal → a ≡ b
equal a b h = grind (arith, nat_tests)

pub itself : (a b : ℕ) → a ≡ b → (a == b) ≡ true
itself a b h = grind (arith, nat_tests)

pub other : (a b : ℕ) → a < b → (a == b) ≡ false
other a b h = grind (arith, nat_tests)

pub other_above : (a b : ℕ) → b < a → (a == b) ≡ false
other_above a b h = grind (arith, nat_tests)

index_rises : (a b k : ℕ) → a < b → ordering_index (nat_cmp a k) ≤ ordering_index (nat_cmp b k)
index_rises a b k h = grind (arith, nat_tests)

take_past : {A : Type 0} (n : ℕ) (xs : List A) → length xs ≤ n → take n xs ≡ xs
take_past n xs h = grind (arith, common_steps)

-- a list of the same length in the place of another
pub refilled : {A : Type 0} (xs ys : List A) → length ys ≡ length xs → refill (length xs) xs ys ≡ ys
refilled xs ys same =
    ap (λ zs. take (length xs) (ys ++ zs)) (drop_all (length ys) xs (omega arith))
    ∙ ap (take (length xs)) (append-nil ys) ∙ take_past (length xs) ys (omega arith)

module _ {A : Type 0} (number : A → ℕ) where
  at_all : (P : A → Type 0) (xs : List A) (i : ℕ) (d : A) → AllByRecursion P xs → i < length xs → P (slice_index_or xs i d)
  at_all P [] i d all h = absurd (omega arith)
  at_all P (x ∷ xs) zero d all h = all.0
  at_all P (x ∷ xs) (suc i) d all h = at_all P xs i d all.1 (omega arith)

  pub searchable : (k : ℕ) (xs : List A) → Rises number xs → IsNonDecreasingBy (λ y. ordering_index (nat_cmp (number y) k)) xs
  searchable k [] rises i j d order inside = absurd (omega arith)
  searchable k (x ∷ xs) rises zero zero d order inside = omega arith
  searchable k (x ∷ xs) rises zero (suc j) d order inside = index_rises _ _ k (at_all (λ y. number x < number y) xs j d rises.0 (omega arith))
  searchable k (x ∷ xs) rises (suc i) zero d order inside = absurd (omega arith)
  searchable k (x ∷ xs) rises (suc i) (suc j) d order inside = searchable k xs rises.1 i j d (omega arith) (omega arith)

  pub placed : (k : ℕ) (xs : List A) (found : Result ℕ ℕ) → Rises number xs → IsSearchInRange found (length xs) → IsBinarySearchResult (λ y. nat_cmp (number y) k) xs found → IsPlace number k xs found
  placed k xs (Ok i) rises inside at = (inside, at)
  placed k xs (Err i) rises inside at = (inside, at (searchable k xs rises))

  pub put_found : (a : A) (xs : List A) (i : ℕ) → Rises number xs → i < length xs → HoldsAt (λ y. nat_cmp (number y) (number a) ≡ Equal) xs i → with_element number a xs ≡ slice_set xs i a
  put_found a [] i rises inside at = absurd (omega arith)
  put_found a (x ∷ xs) zero rises inside at = rw (level (number a) (number x) (sym (equal _ _ (at x)))) refl
  put_found a (x ∷ xs) (suc i) rises inside at =
      let past : number x < number a = subst (λ n. number x < n) (equal _ _ (at x)) (at_all (λ y. number x < number y) xs i x rises.0 (omega arith)) in
      rw (above (number a) (number x) past) (ap (λ ys. x ∷ ys) (put_found a xs i rises.1 (omega arith) at))

  pub put_missing : (a : A) (xs : List A) (i : ℕ) → i ≤ length xs → IsPartitionPoint (λ y. nat_cmp (number y) (number a) ≡ Less) (λ y. nat_cmp (number y) (number a) ≡ Greater) xs i → with_element number a xs ≡ insert xs i a
  put_missing a [] zero inside at = refl
  put_missing a [] (suc i) inside at = absurd (omega arith)
  put_missing a (x ∷ xs) zero inside at = rw (below (number a) (number x) (greater _ _ (at.1 0 x (omega arith) (omega arith)))) refl
  put_missing a (x ∷ xs) (suc i) inside at =
      rw (above (number a) (number x) (less _ _ (at.0 0 x (omega arith) (omega arith))))
      (ap (λ ys. x ∷ ys) (put_missing a xs i (omega arith) (λ k d l h. at.0 (suc k) d (omega arith) (omega arith), λ k d l h. at.1 (suc k) d (omega arith) (omega arith))))

  pub without_found : (k : ℕ) (xs : List A) (i : ℕ) → Rises number xs → i < length xs → HoldsAt (λ y. nat_cmp (number y) k ≡ Equal) xs i → without number k xs ≡ remove xs i
  without_found k [] i rises inside at = absurd (omega arith)
  without_found k (x ∷ xs) zero rises inside at = rw (itself (number x) k (equal _ _ (at x))) refl
  without_found k (x ∷ xs) (suc i) rises inside at =
      let past : number x < k = subst (λ n. number x < n) (equal _ _ (at x)) (at_all (λ y. number x < number y) xs i x rises.0 (omega arith)) in
      rw (other (number x) k past) (ap (λ ys. x ∷ ys) (without_found k xs i rises.1 (omega arith) at))

  pub without_missing : (k : ℕ) (xs : List A) (i : ℕ) → IsPartitionPoint (λ y. nat_cmp (number y) k ≡ Less) (λ y. nat_cmp (number y) k ≡ Greater) xs i → without number k xs ≡ xs
  without_missing k [] i at = refl
  without_missing k (x ∷ xs) zero at =
      rw (other_above (number x) k (greater _ _ (at.1 0 x (omega arith) (omega arith))))
      (ap (λ ys. x ∷ ys) (without_missing k xs zero (λ j d l h. absurd (omega arith), λ j d l h. at.1 (suc j) d (omega arith) (omega arith))))
  without_missing k (x ∷ xs) (suc i) at =
      rw (other (number x) k (less _ _ (at.0 0 x (omega arith) (omega arith))))
      (ap (λ ys. x ∷ ys) (without_missing k xs i (λ j d l h. at.0 (suc j) d (omega arith) (omega arith), λ j d l h. at.1 (suc j) d (omega arith) (omega arith))))

  above_all : (m n : ℕ) (xs : List A) → m < n → AllByRecursion (λ y. n < number y) xs → AllByRecursion (λ y. m < number y) xs
  above_all m n [] h all = tt
  above_all m n (x ∷ xs) h all = (omega arith, above_all m n xs h all.1)

  pub all_put : (P : A → Type 0) (a : A) (xs : List A) → P a → AllByRecursion P xs → AllByRecursion P (with_element number a xs)
  all_put P a [] h all = (h, tt)
  all_put P a (x ∷ xs) h all = by_order (nat_cmp (number a) (number x)) (all_put P a xs h all.1)
    where
      by_order : (o : Ordering) → AllByRecursion P (with_element number a xs) → AllByRecursion P (match_ordering o (a ∷ x ∷ xs) (a ∷ xs) (x ∷ with_element number a xs))
      by_order Less rest = (h, all)
      by_order Equal rest = (h, all.1)
      by_order Greater rest = (all.0, rest)

  pub put_rises : (a : A) (xs : List A) → Rises number xs → Rises number (with_element number a xs)
  put_rises a [] rises = (tt, tt)
  put_rises a (x ∷ xs) rises = by_order (nat_cmp (number a) (number x)) refl (put_rises a xs rises.1)
    where
      by_order : (o : Ordering) → nat_cmp (number a) (number x) ≡ o → Rises number (with_element number a xs) → Rises number (match_ordering o (a ∷ x ∷ xs) (a ∷ xs) (x ∷ with_element number a xs))
      by_order Less is rest = ((less _ _ is, above_all _ _ xs (less _ _ is) rises.0), rises)
      by_order Equal is rest = (subst (λ n. AllByRecursion (λ y. n < number y) xs) (sym (equal _ _ is)) rises.0, rises.1)
      by_order Greater is rest = (all_put (λ y. number x < number y) a xs (greater _ _ is) rises.0, rest)

  pub all_without : (P : A → Type 0) (k : ℕ) (xs : List A) → AllByRecursion P xs → AllByRecursion P (without number k xs)
  all_without P k [] all = tt
  all_without P k (x ∷ xs) all = by_test (number x == k) (all_without P k xs all.1)
    where
      by_test : (b : Bool) → AllByRecursion P (without number k xs) → AllByRecursion P (cond b xs (x ∷ without number k xs))
      by_test true rest = all.1
      by_test false rest = (all.0, rest)

  pub without_rises : (k : ℕ) (xs : List A) → Rises number xs → Rises number (without number k xs)
  without_rises k [] rises = tt
  without_rises k (x ∷ xs) rises = by_test (number x == k) (without_rises k xs rises.1)
    where
      by_test : (b : Bool) → Rises number (without number k xs) → Rises number (cond b xs (x ∷ without number k xs))
      by_test true rest = rises.1
      by_test false rest = (all_without (λ y. number x < number y) k xs rises.0, rest)

  pub any_found : (k : ℕ) (xs : List A) (i : ℕ) → i < length xs → HoldsAt (λ y. nat_cmp (number y) k ≡ Equal) xs i → list_any (λ x. number x == k) xs ≡ true
  any_found k [] i inside at = absurd (omega arith)
  any_found k (x ∷ xs) zero inside at = ap (λ b. b || list_any (λ y. number y == k) xs) (itself (number x) k (equal _ _ (at x)))
  any_found k (x ∷ xs) (suc i) inside at = either (number x == k) _ (any_found k xs i (omega arith) at)
    where
      either : (a b : Bool) → b ≡ true → (a || b) ≡ true
      either true b h = refl
      either false b h = h

  pub any_missing : (k : ℕ) (xs : List A) (i : ℕ) → IsPartitionPoint (λ y. nat_cmp (number y) k ≡ Less) (λ y. nat_cmp (number y) k ≡ Greater) xs i → list_any (λ x. number x == k) xs ≡ false
  any_missing k [] i at = refl
  any_missing k (x ∷ xs) zero at =
      ap (λ b. b || list_any (λ y. number y == k) xs) (other_above (number x) k (greater _ _ (at.1 0 x (omega arith) (omega arith))))
      ∙ any_missing k xs zero (λ j d l h. absurd (omega arith), λ j d l h. at.1 (suc j) d (omega arith) (omega arith))
  any_missing k (x ∷ xs) (suc i) at =
      ap (λ b. b || list_any (λ y. number y == k) xs) (other (number x) k (less _ _ (at.0 0 x (omega arith) (omega arith))))
      ∙ any_missing k xs i (λ j d l h. at.0 (suc j) d (omega arith) (omega arith), λ j d l h. at.1 (suc j) d (omega arith) (omega arith))

  -- whether the list has the item, by where it stands or belongs
  pub any_placed : (k : ℕ) (xs : List A) (found : Result ℕ ℕ) → IsPlace number k xs found → is_ok found ≡ list_any (λ x. number x == k) xs
  any_placed k xs (Ok i) at = sym (any_found k xs i at.0 at.1)
  any_placed k xs (Err i) at = sym (any_missing k xs i at.1)

-- a number that is there, put again
pub put_itself : (a : ℕ) (xs : List ℕ) (i : ℕ) → Rises (λ n. n) xs → i < length xs → HoldsAt (λ y. nat_cmp y a ≡ Equal) xs i → with_element (λ n. n) a xs ≡ xs
put_itself a [] i rises inside at = absurd (omega arith)
put_itself a (x ∷ xs) zero rises inside at = rw (level a x (sym (equal _ _ (at x)))) (ap (λ n. n ∷ xs) (sym (equal x a (at x))))
put_itself a (x ∷ xs) (suc i) rises inside at =
    let past : x < a = subst (λ n. x < n) (equal _ _ (at x)) (at_all (λ n. n) (λ y. x < y) xs i x rises.0 (omega arith)) in
    rw (above a x past) (ap (λ ys. x ∷ ys) (put_itself a xs i rises.1 (omega arith) at))
