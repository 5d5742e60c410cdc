-- Sums over lists, and what a listing charges with what comes after each item.
use Rattle.std.proofs.Common.{◌≡◌, ℕ, suc, ◌+◌, Bool, true, false, List, [], ◌∷◌, ◌++◌, flat_map, length, refl, sym, ap, ◌∙◌, arith}
use Rattle.std.proofs.lemmas.List.{append_assoc}
use Rattle.pg_meaning.specs.Walks.{Listing, each_listing, and_then}

abbrev pub total : {X : Type 0} → (X → ℕ) → List X → ℕ
total f [] = 0
total f (x ∷ xs) = f x + total f xs

pub total_joined : {X : Type 0} (f : X → ℕ) (xs ys : List X) → total f (xs ++ ys) ≡ total f xs + total f ys
total_joined f [] ys = none_more (total f ys)
  where
    none_more : (n : ℕ) → n ≡ 0 + n
    none_more n = omega arith
total_joined f (x ∷ xs) ys = one_more (f x) (total f (xs ++ ys)) (total f xs) (total f ys) (total_joined f xs ys)
  where
    one_more : (a b m n : ℕ) → b ≡ m + n → a + b ≡ (a + m) + n
    one_more a b m n e = omega (arith, e)

pub total_same : {X : Type 0} (f g : X → ℕ) → ((x : X) → f x ≡ g x) → (xs : List X) → total f xs ≡ total g xs
total_same f g h [] = refl
total_same f g h (x ∷ xs) = λ i. h x i + total_same f g h xs i

pub total_flat : {X Y : Type 0} (f : Y → ℕ) (g : X → List Y) (xs : List X) → total f (flat_map g xs) ≡ total (λ x. total f (g x)) xs
total_flat f g [] = refl
total_flat f g (x ∷ xs) = total_joined f (g x) (flat_map g xs) ∙ ap (λ n. total f (g x) + n) (total_flat f g xs)

-- one for each, and something more
pub total_ones : {X : Type 0} (f : X → ℕ) (xs : List X) → length xs + total f xs ≡ total (λ x. 1 + f x) xs
total_ones f [] = refl
total_ones f (x ∷ xs) = one_more (length xs) (f x) (total f xs) (total (λ x. 1 + f x) xs) (total_ones f xs)
  where
    one_more : (l a m n : ℕ) → l + m ≡ n → suc l + (a + m) ≡ (1 + a) + n
    one_more l a m n e = omega (arith, e)

pub total_if : {X : Type 0} (k : X → ℕ) (b : Bool) (x : X) → total k (elim b as (λ c. List X) [ true ↦ x ∷ [] | false ↦ [] ]) ≡ elim b as (λ c. ℕ) [ true ↦ k x | false ↦ 0 ]
total_if k true x = no_more (k x)
  where
    no_more : (n : ℕ) → n + 0 ≡ n
    no_more n = omega arith
total_if k false x = refl

pub flat_joined : {X Y : Type 0} (g : X → List Y) (xs ys : List X) → flat_map g (xs ++ ys) ≡ flat_map g xs ++ flat_map g ys
flat_joined g [] ys = refl
flat_joined g (x ∷ xs) ys = ap (λ zs. g x ++ zs) (flat_joined g xs ys) ∙ sym (append_assoc (g x) (flat_map g xs) (flat_map g ys))

-- ---- charges

-- what a listing charges, and what each of its items charges later
abbrev pub charged : {X : Type 0} → Listing X → (X → ℕ) → ℕ
charged l k = l.1 + total k l.0

pub charged_same : {X : Type 0} (l : Listing X) (f g : X → ℕ) → ((x : X) → f x ≡ g x) → charged l f ≡ charged l g
charged_same l f g h = ap (λ n. l.1 + n) (total_same f g h l.0)

pub steps_each : {X Y : Type 0} (f : X → Listing Y) (xs : List X) → (each_listing f xs).1 ≡ total (λ x. (f x).1) xs
steps_each f [] = refl
steps_each f (x ∷ xs) = ap (λ n. (f x).1 + n) (steps_each f xs)

pub charged_each : {X Y : Type 0} (f : X → Listing Y) (k : Y → ℕ) (xs : List X) → charged (each_listing f xs) k ≡ total (λ x. charged (f x) k) xs
charged_each f k [] = refl
charged_each f k (x ∷ xs) =
    rearranged (f x).1 (each_listing f xs).1 (total k ((f x).0 ++ (each_listing f xs).0)) (total k (f x).0) (total k (each_listing f xs).0) (total (λ x. charged (f x) k) xs) (total_joined k (f x).0 (each_listing f xs).0) (charged_each f k xs)
  where
    rearranged : (a b c m n t : ℕ) → c ≡ m + n → b + n ≡ t → (a + b) + c ≡ (a + m) + t
    rearranged a b c m n t e h = omega (arith, e, h)

pub charged_then : {X Y : Type 0} (l : Listing X) (f : X → Listing Y) (k : Y → ℕ) → charged (and_then l f) k ≡ charged l (λ x. charged (f x) k)
charged_then l f k = rearranged l.1 (each_listing f l.0).1 (total k (each_listing f l.0).0) (total (λ x. charged (f x) k) l.0) (charged_each f k l.0)
  where
    rearranged : (a b c t : ℕ) → b + c ≡ t → (a + b) + c ≡ a + t
    rearranged a b c t e = omega (arith, e)

-- the steps alone
pub steps_then : {X Y : Type 0} (l : Listing X) (f : X → Listing Y) → (and_then l f).1 ≡ charged l (λ x. (f x).1)
steps_then l f = ap (λ n. l.1 + n) (steps_each f l.0)

pub only_one : (n : ℕ) → n ≡ 0 + (n + 0)
only_one n = omega arith
