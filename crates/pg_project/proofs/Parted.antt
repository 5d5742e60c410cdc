-- Lists that lie one behind the other, so many of each.
use Rattle.std.proofs.Common.{◌≡◌, ℕ, zero, suc, ◌+◌, ◌*◌, ◌-◌, ◌<◌, ◌≤◌, List, [], ◌∷◌, ◌++◌, take, drop, length, get_or, set, map, refl, sym, ap, subst, ◌∙◌, arith, append_assoc}
use Rattle.std.proofs.Math.Nat.{mul-le-mul_right, suc-mul}
use Rattle.std.proofs.Math.Seq.{take-add}
use Rattle.std.proofs.lemmas.List.{drop-drop, drop-map, drop_at, length-append, length-drop, length-take-le, map-append, take-append-drop, take-map, take_all, take_at}
use Rattle.pg_project.specs.KeptGroups.{parted}

swapped : (a b : ℕ) → a + b ≡ b + a
swapped a b = omega arith

first_within : (l s n k : ℕ) → l ≡ s → s ≡ n + k → n ≤ l
first_within l s n k e f = omega arith

others_left : (l s n k : ℕ) → l ≡ s → s ≡ n + k → l - n ≡ k
others_left l s n k e f = omega arith

pub as_fits : (a m l k : ℕ) → a ≤ m → l ≡ m → l ≡ k → a ≤ k
as_fits a m l k h e f = omega arith

pub rest_holds : (s n l m d : ℕ) → s + n ≤ m → l ≡ m → d ≡ l - s → n ≤ d
rest_holds s n l m d h e f = omega arith

begins_within : (s n l m : ℕ) → s + n ≤ m → l ≡ m → s ≤ l
begins_within s n l m h e = omega arith

as_long_again : (s n l m a y d b c e : ℕ) → s + n ≤ m → l ≡ m → a ≡ s → y ≡ n → d ≡ l - s → b ≡ d - n → c ≡ y + b → e ≡ a + c → e ≡ l
as_long_again s n l m a y d b c e h1 h2 h3 h4 h5 h6 h7 h8 = omega arith

pub none_each : (n : ℕ) → 0 * n ≡ 0
none_each n = omega arith

one_behind : (m : ℕ) → suc m + 1 ≡ suc (m + 1)
one_behind m = omega arith

behind : (n i : ℕ) → suc i * n ≡ n + i * n
behind n i = suc-mul i n ∙ swapped (i * n) n

pub within_parts : (n m i : ℕ) → i < m → i * n + n ≤ m * n
within_parts n m i h = subst (λ k. k ≤ m * n) (suc-mul i n) (mul-le-mul_right n (next i m h))
  where
    next : (i m : ℕ) → i < m → suc i ≤ m
    next i m h = omega arith

pub written_long : {X : Type 0} (s n : ℕ) (xs ys : List X) → s + n ≤ length xs → length ys ≡ n → length (take s xs ++ (ys ++ drop n (drop s xs))) ≡ length xs
written_long s n xs ys h k =
    as_long_again s n (length xs) (length xs) (length (take s xs)) (length ys) (length (drop s xs)) (length (drop n (drop s xs))) (length (ys ++ drop n (drop s xs))) (length (take s xs ++ (ys ++ drop n (drop s xs)))) h refl
    (length-take-le s xs (begins_within s n (length xs) (length xs) h refl))
    k
    (length-drop s xs)
    (length-drop n (drop s xs))
    (length-append ys (drop n (drop s xs)))
    (length-append (take s xs) (ys ++ drop n (drop s xs)))

module _ {X : Type 0} (n : ℕ) where
  pub long : (m : ℕ) (xs : List X) → length (parted m n xs) ≡ m
  long zero xs = refl
  long (suc m) xs = ap suc (long m (drop n xs))

  pub part : (m i : ℕ) (xs : List X) → i < m → get_or (parted m n xs) i [] ≡ take n (drop (i * n) xs)
  part zero i xs h = absurd (omega (arith, h))
  part (suc m) zero xs h = sym (ap (λ k. take n (drop k xs)) (none_each n))
  part (suc m) (suc i) xs h = part m i (drop n xs) (omega (arith, h)) ∙ ap (take n) (drop-drop (i * n) n xs ∙ ap (λ k. drop k xs) (sym (behind n i)))

  begins : (m : ℕ) (xs rest : List X) → length xs ≡ n → parted (suc m) n (xs ++ rest) ≡ xs ∷ parted m n rest
  begins m xs rest l = λ i. take_at xs rest n l i ∷ parted m n (drop_at xs rest n l i)

  front_long : (m : ℕ) (xs : List X) → length xs ≡ suc m * n → length (take n xs) ≡ n
  front_long m xs l = length-take-le n xs (first_within (length xs) (suc m * n) n (m * n) l (behind n m))

  rest_long : (m : ℕ) (xs : List X) → length xs ≡ suc m * n → length (drop n xs) ≡ m * n
  rest_long m xs l = length-drop n xs ∙ others_left (length xs) (suc m * n) n (m * n) l (behind n m)

  pub put : (m i : ℕ) (xs ys : List X) → i < m → length xs ≡ m * n → length ys ≡ n → set (parted m n xs) i ys ≡ parted m n (take (i * n) xs ++ (ys ++ drop n (drop (i * n) xs)))
  put zero i xs ys h l k = absurd (omega (arith, h))
  put (suc m) zero xs ys h l k = sym (begins m ys (drop n xs) k) ∙ ap (λ a. parted (suc m) n (take a xs ++ (ys ++ drop n (drop a xs)))) (sym (none_each n))
  put (suc m) (suc i) xs ys h l k =
      ap (λ zs. take n xs ∷ zs) (put m i (drop n xs) ys (omega (arith, h)) (rest_long m xs l) k)
      ∙ sym (begins m (take n xs) later (front_long m xs l))
      ∙ ap (parted (suc m) n)
      (sym (append_assoc (take n xs) (take (i * n) (drop n xs)) (ys ++ drop n (drop (i * n) (drop n xs))))
      ∙ (λ j. sym (take-add n (i * n) xs) j ++ (ys ++ drop n (drop-drop (i * n) n xs j)))
      ∙ ap (λ a. take a xs ++ (ys ++ drop n (drop a xs))) (sym (behind n i)))
    where
      later : List X
      later = take (i * n) (drop n xs) ++ (ys ++ drop n (drop (i * n) (drop n xs)))

  pub more : (m : ℕ) (xs ys : List X) → length xs ≡ m * n → length ys ≡ n → parted (m + 1) n (xs ++ ys) ≡ parted m n xs ++ ys ∷ []
  more zero [] ys l k = ap (λ zs. zs ∷ []) (take_all n ys (omega (arith, k)))
  more zero (x ∷ xs) ys l k = absurd (omega (arith, l))
  more (suc m) xs ys l k =
      ap (λ c. parted c n (xs ++ ys)) (one_behind m)
      ∙ ap (λ zs. parted (suc (m + 1)) n (zs ++ ys)) (sym (take-append-drop n xs))
      ∙ ap (parted (suc (m + 1)) n) (append_assoc (take n xs) (drop n xs) ys)
      ∙ begins (m + 1) (take n xs) (drop n xs ++ ys) (front_long m xs l)
      ∙ ap (λ zs. take n xs ∷ zs) (more m (drop n xs) ys (rest_long m xs l) k)

  pub put_long : (m i : ℕ) (xs ys : List X) → i < m → length xs ≡ m * n → length ys ≡ n → length (take (i * n) xs ++ (ys ++ drop n (drop (i * n) xs))) ≡ length xs
  put_long m i xs ys h l k = written_long (i * n) n xs ys (subst (λ z. i * n + n ≤ z) (sym l) (within_parts n m i h)) k

-- a list of which one part was written anew, as data
pub written : {X Y : Type 0} (f : X → Y) (a k : ℕ) (xs ys : List X) → map f (take a xs ++ (ys ++ drop k (drop a xs))) ≡ take a (map f xs) ++ (map f ys ++ drop k (drop a (map f xs)))
written f a k xs ys =
    map-append f (take a xs) (ys ++ drop k (drop a xs))
    ∙ (λ i. sym (take-map f a xs) i ++ map-append f ys (drop k (drop a xs)) i)
    ∙ ap (λ zs. take a (map f xs) ++ (map f ys ++ zs)) (sym (drop-map f k (drop a xs)) ∙ ap (drop k) (sym (drop-map f a xs)))

pub part_seen : {X Y : Type 0} (f : X → Y) (a k : ℕ) (xs : List X) → map f (take k (drop a xs)) ≡ take k (drop a (map f xs))
part_seen f a k xs = sym (take-map f k (drop a xs)) ∙ ap (take k) (sym (drop-map f a xs))
