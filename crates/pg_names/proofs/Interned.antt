-- Names by their texts: where a text is found, and what stays when one is added.
use Rattle.std.proofs.Common.{◌≡◌, ℕ, zero, suc, ◌+◌, ◌||◌, Bool, true, false, not, cond, nat_lt, List, [], ◌∷◌, ◌++◌, map, length, take, slice_get, Option, Some, None, arith, refl, sym, ap, subst, ◌∙◌}
use Rattle.std.proofs.lemmas.Bool.Decides.{nat_tests}
use Rattle.std.proofs.lemmas.List.{length-map}
use Rattle.std.proofs.lemmas.Slice.Eq.{bytes_eq-Decides}
use Rattle.std.specs.List.{position, position_or_len, list_any, IsDistinct, AllByRecursion}
use Rattle.std.specs.Option.{option_map}
use Rattle.std.specs.Str.{bytes_eq}
use Rattle.pg_names.specs.Names.{AreDistinct, with_name, KeepsNames, AreNumbered, NamesAreTakenBack}

module _ {A B : Type 0} (f : A → B) where
  position_or_len_map : (p : B → Bool) (xs : List A) → position_or_len p (map f xs) ≡ position_or_len (λ x. p (f x)) xs
  position_or_len_map p [] = refl
  position_or_len_map p (x ∷ xs) = ap (λ n. cond (not (p (f x))) (1 + n) 0) (position_or_len_map p xs)

  pub position_map : (p : B → Bool) (xs : List A) → position p (map f xs) ≡ position (λ x. p (f x)) xs
  position_map p xs =
      ap (λ n. cond (nat_lt n (length (map f xs))) (Some n) None) (position_or_len_map p xs)
      ∙ ap (λ n. cond (nat_lt (position_or_len (λ x. p (f x)) xs) n) (Some (position_or_len (λ x. p (f x)) xs)) None) (length-map xs f)

  pub list_any_map : (p : B → Bool) (xs : List A) → list_any p (map f xs) ≡ list_any (λ x. p (f x)) xs
  list_any_map p [] = refl
  list_any_map p (x ∷ xs) = ap (λ b. p (f x) || b) (list_any_map p xs)

  pub distinct_map : (e : B → B → Bool) (xs : List A) → IsDistinct (λ x y. e (f x) (f y)) xs → IsDistinct e (map f xs)
  unfolding IsDistinct
  distinct_map e [] h = tt
  distinct_map e (x ∷ xs) h = (apart xs h.0, distinct_map e xs h.1)
    where
      apart : (ys : List A) → AllByRecursion (λ y. e (f x) (f y) ≡ false) ys → AllByRecursion (λ y. e (f x) y ≡ false) (map f ys)
      apart [] h = tt
      apart (y ∷ ys) h = (h.0, apart ys h.1)

  pub map_append : (xs ys : List A) → map f (xs ++ ys) ≡ map f xs ++ map f ys
  map_append [] ys = refl
  map_append (x ∷ xs) ys = ap (λ zs. f x ∷ zs) (map_append xs ys)

one_more : (n : ℕ) → 1 + n ≡ suc n
one_more n = omega arith

pub same_bytes : (xs ys : List ℕ) → bytes_eq xs ys ≡ true → xs ≡ ys
same_bytes xs ys h = (bytes_eq-Decides xs ys).0 h

pub equal_bytes : (xs ys : List ℕ) → xs ≡ ys → bytes_eq xs ys ≡ true
equal_bytes xs ys h = (bytes_eq-Decides xs ys).1 h

stepped : (b : Bool) (r n : ℕ) → b ≡ false → cond (nat_lt (cond (not b) (1 + r) 0) (suc n)) (Some (cond (not b) (1 + r) 0)) None ≡ option_map suc (cond (nat_lt r n) (Some r) None)
stepped true r n h = cc
stepped false r n h =
    rw one_more (elim (nat_lt r n) as (λ t. nat_lt r n ≡ t → cond (nat_lt (suc r) (suc n)) (Some (suc r)) None ≡ option_map suc (cond t (Some r) None)) [
      | true ↦ λ e. ap (λ t. cond t (Some (suc r)) None) (let less : nat_lt (suc r) (suc n) ≡ true = grind (arith, nat_tests) in less)
      | false ↦ λ e. ap (λ t. cond t (Some (suc r)) None) (let more : nat_lt (suc r) (suc n) ≡ false = grind (arith, nat_tests) in more)
    ] refl)

first_here : (b : Bool) (r n : ℕ) → b ≡ true → cond (nat_lt (cond (not b) (1 + r) 0) (suc n)) (Some (cond (not b) (1 + r) 0)) None ≡ Some 0
first_here true r n h = ap (λ t. cond t (Some 0) None) (let less : nat_lt 0 (suc n) ≡ true = grind (arith, nat_tests) in less)
first_here false r n h = cc

module _ {X : Type 0} (p : X → Bool) where
  pub position_here : (x : X) (xs : List X) → p x ≡ true → position p (x ∷ xs) ≡ Some 0
  position_here x xs h = first_here (p x) (position_or_len p xs) (length xs) h

  pub position_later : (x : X) (xs : List X) → p x ≡ false → position p (x ∷ xs) ≡ option_map suc (position p xs)
  position_later x xs h = stepped (p x) (position_or_len p xs) (length xs) h

  later : (P : ℕ → Type 0) (n : ℕ) (o : Option ℕ) → option_map suc o ≡ Some n → ((m : ℕ) → o ≡ Some m → P (suc m)) → P n
  later P n None e h = cc
  later P n (Some m) e h = subst P (let same : suc m ≡ n = cc in same) (h m refl)

  -- what stands at the place that is found
  pub found_at : (xs : List X) (n : ℕ) → position p xs ≡ Some n → (x : X) × (slice_get xs n ≡ Some x) × (p x ≡ true)
  found_at [] n h = cc
  found_at (x ∷ xs) n h =
      elim (p x) as (λ b. p x ≡ b → (y : X) × (slice_get (x ∷ xs) n ≡ Some y) × (p y ≡ true)) [
        | true ↦ λ is. (x, ap (slice_get (x ∷ xs)) (let first : n ≡ 0 = cc (position_here x xs is) in first), is)
        | false ↦ λ is. later (λ k. (y : X) × (slice_get (x ∷ xs) k ≡ Some y) × (p y ≡ true)) n (position p xs) (sym (position_later x xs is) ∙ h) (found_at xs)
      ] refl

  pub found_any : (xs : List X) (n : ℕ) → position p xs ≡ Some n → list_any p xs ≡ true
  found_any [] n h = cc
  found_any (x ∷ xs) n h =
      elim (p x) as (λ b. p x ≡ b → (b || list_any p xs) ≡ true) [
        | true ↦ λ is. refl
        | false ↦ λ is. later (λ k. list_any p xs ≡ true) n (position p xs) (sym (position_later x xs is) ∙ h) (found_any xs)
      ] refl

-- the text at the place where a text is found
pub found_text : (text : List ℕ) (names : List (List ℕ)) (n : ℕ) → position (bytes_eq text) names ≡ Some n → slice_get names n ≡ Some text
found_text text names n h =
    let found = found_at (bytes_eq text) names n h in
    found.1 ∙ ap Some (sym (same_bytes text found.0 found.2))

-- a text that has a number is found there
pub place_of_text : (names : List (List ℕ)) (n : ℕ) (text : List ℕ) → AreDistinct names → slice_get names n ≡ Some text → position (bytes_eq text) names ≡ Some n
unfolding IsDistinct
place_of_text [] n text d h = cc
place_of_text (x ∷ xs) zero text d h = position_here (bytes_eq text) x xs (equal_bytes text x (cc))
place_of_text (x ∷ xs) (suc n) text d h =
    position_later (bytes_eq text) x xs (apart xs n d.0 h) ∙ ap (option_map suc) (place_of_text xs n text d.1 h)
  where
    flipped : (a b : List ℕ) → bytes_eq a b ≡ false → bytes_eq b a ≡ false
    flipped a b h = elim (bytes_eq b a) as (λ t. bytes_eq b a ≡ t → t ≡ false) [
      | true ↦ λ e. cc (equal_bytes a b (sym (same_bytes b a e)))
      | false ↦ λ e. refl
    ] refl

    apart : (ys : List (List ℕ)) (m : ℕ) → AllByRecursion (λ y. bytes_eq x y ≡ false) ys → slice_get ys m ≡ Some text → bytes_eq text x ≡ false
    apart [] m a h = cc
    apart (y ∷ ys) zero a h = flipped x text (ap (bytes_eq x) (let same : text ≡ y = cc in same) ∙ a.0)
    apart (y ∷ ys) (suc m) a h = apart ys m a.1 h

-- the table after a text was put to its keys, which are seen as f says
pub grown : {A : Type 0} (f : A → List ℕ) (ks : List A) (k : A) → map f (cond (list_any (λ x. bytes_eq (f k) (f x)) ks) ks (ks ++ k ∷ [])) ≡ with_name (map f ks) (f k)
grown f ks k = by_test (list_any (λ x. bytes_eq (f k) (f x)) ks) ∙ ap (λ b. cond b (map f ks) (map f ks ++ f k ∷ [])) (sym (list_any_map f (bytes_eq (f k)) ks))
  where
    by_test : (b : Bool) → map f (cond b ks (ks ++ k ∷ [])) ≡ cond b (map f ks) (map f ks ++ f k ∷ [])
    by_test true = refl
    by_test false = map_append f ks (k ∷ [])

pub numbered : (names : List (List ℕ)) → AreDistinct names → AreNumbered names
numbered names d m n text at_m at_n = let p = place_of_text names m text d at_m in let q = place_of_text names n text d at_n in cc

-- texts stay where they are when more follow
pub kept_before : {X : Type 0} (xs ys : List X) (n : ℕ) (x : X) → slice_get xs n ≡ Some x → slice_get (xs ++ ys) n ≡ Some x
kept_before [] ys n x h = cc
kept_before (z ∷ xs) ys zero x h = h
kept_before (z ∷ xs) ys (suc n) x h = kept_before xs ys n x h

pub with_name_keeps : (names : List (List ℕ)) (text : List ℕ) → KeepsNames names (with_name names text)
with_name_keeps names text n t h =
    elim (list_any (bytes_eq text) names) as (λ b. slice_get (cond b names (names ++ text ∷ [])) n ≡ Some t) [
      | true ↦ h
      | false ↦ kept_before names (text ∷ []) n t h
    ]

pub taken_back : NamesAreTakenBack
taken_back [] new kept = refl
taken_back (x ∷ xs) [] kept = cc (kept 0 x refl)
taken_back (x ∷ xs) (y ∷ ys) kept =
    let same : y ≡ x = cc (kept 0 x refl) in
    ap (λ z. z ∷ take (length xs) ys) same ∙ ap (λ zs. x ∷ zs) (taken_back xs ys (λ n t h. kept (suc n) t h))
