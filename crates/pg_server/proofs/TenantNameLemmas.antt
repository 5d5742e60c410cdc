-- Where a name stands among names of which no two are equal.
use Rattle.std.proofs.Common.{◌≡◌, Less, Equal, Greater, ℕ, zero, suc, ◌+◌, ◌<◌, ◌≤◌, List, [], ◌∷◌, Bool, true, false, cond, length, get_or, map, inl, inr, Some, bytes_eq, refl, sym, ap, subst, ◌∙◌, arith}
use Rattle.std.proofs.lemmas.Bool.{cases_lt, ltb-false, ltb-true}
use Rattle.std.proofs.lemmas.Iterator.Adapters.{position_from-zero}
use Rattle.std.proofs.lemmas.List.{get_or-map, get_or_past, length-map}
use Rattle.std.proofs.lemmas.Slice.Eq.{bytes_eq-Decides}
use Rattle.std.specs.List.{position_from}
use Rattle.std.specs.Ordering.{is_lt, nat_cmp, ord_max}
use Rattle.std.specs.Prelude.{◌==◌, nat_lt, String, string_bytes, position}
use Rattle.std.specs.declared.alloc.Global.{Global}
use Rattle.pg_meaning.specs.Names.{is_among}
use Rattle.pg_server.proofs.DistinctLemmas.{absent, or_false, or_here}
use Rattle.pg_server.specs.TenantNames.{AreWithin}
use Rattle.pg_value.specs.Texts.{has_duplicate}

from_mapped : {X : Type 0} (t : List ℕ → Bool) (f : X → List ℕ) (i : ℕ) (xs : List X) → position_from t i (map f xs) ≡ position_from (λ x. t (f x)) i xs
from_mapped t f i [] = refl
from_mapped t f i (x ∷ xs) = ap (cond (t (f x)) (Some i)) (from_mapped t f (i + 1) xs)

abbrev pub is_named : List ℕ → String Global → Bool
is_named name one = bytes_eq name (string_bytes one)

pub first_named : (name : List ℕ) (names : List (String Global)) → position (bytes_eq name) (map string_bytes names) ≡ position_from (is_named name) 0 names
first_named name names = position_from-zero (bytes_eq name) (map string_bytes names) ∙ from_mapped (bytes_eq name) string_bytes 0 names

-- a text that is not among others is none of them
differs : (names : List (List ℕ)) (t x : ℕ) (xs n : List ℕ) → is_among names n ≡ false → get_or names t [] ≡ x ∷ xs → bytes_eq (get_or names t []) n ≡ false
differs [] t x xs n absent is = cc
differs (m ∷ ms) zero x xs n absent is = turned (bytes_eq m n) refl
  where
    turned : (b : Bool) → bytes_eq m n ≡ b → bytes_eq m n ≡ false
    turned false e = e
    turned true e =
        let same : bytes_eq n m ≡ true = (bytes_eq-Decides n m).1 (sym ((bytes_eq-Decides m n).0 e)) in
        let other : bytes_eq n m ≡ false = (or_false (bytes_eq n m) (is_among ms n) absent).0 in
        cc
differs (m ∷ ms) (suc t) x xs n absent is = differs ms t x xs n (or_false (bytes_eq n m) (is_among ms n) absent).1 is

named_from : (before names : List (List ℕ)) (i t x : ℕ) (xs : List ℕ) → has_duplicate before names ≡ false → get_or names t [] ≡ x ∷ xs → position_from (bytes_eq (get_or names t [])) i names ≡ Some (t + i)
named_from before [] i t x xs once is = cc
named_from before (n ∷ ns) i zero x xs once is =
    let number : i ≡ 0 + i = omega arith in
    ap (λ b. cond b (Some i) (position_from (bytes_eq n) (i + 1) ns)) ((bytes_eq-Decides n n).1 refl) ∙ ap Some number
named_from before (n ∷ ns) i (suc t) x xs once is =
    let parts = or_false (is_among before n) (has_duplicate (n ∷ before) ns) once in
    let itself : is_among (n ∷ before) n ≡ true = or_here (bytes_eq n n) (is_among before n) ((bytes_eq-Decides n n).1 refl) in
    let other = differs ns t x xs n (absent (n ∷ before) ns n parts.1 itself) is in
    let number : t + (i + 1) ≡ suc t + i = omega arith in
    ap (λ b. cond b (Some i) (position_from (bytes_eq (get_or ns t [])) (i + 1) ns)) other
    ∙ named_from (n ∷ before) ns (i + 1) t x xs parts.1 is
    ∙ ap Some number

-- a name that is not empty stands at one place
pub named_once : (names : List (List ℕ)) (t x : ℕ) (xs : List ℕ) → has_duplicate [] names ≡ false → get_or names t [] ≡ x ∷ xs → position (bytes_eq (get_or names t [])) names ≡ Some t
named_once names t x xs once is =
    let number : t + 0 ≡ t = omega arith in
    position_from-zero (bytes_eq (get_or names t [])) names ∙ named_from [] names 0 t x xs once is ∙ ap Some number

-- ---- how long names are

is_below : (b c : Bool) → is_lt (cond b Less (cond c Equal Greater)) ≡ b
is_below true c = refl
is_below false true = refl
is_below false false = refl

pub at_most : (longest len most : ℕ) → most ≡ ord_max nat_cmp longest len → (longest ≤ most) × (len ≤ most)
at_most longest len most is = by_test (nat_lt len longest) refl
  where
    by_test : (b : Bool) → nat_lt len longest ≡ b → (longest ≤ most) × (len ≤ most)
    by_test true e =
        let same : most ≡ longest = is ∙ ap (λ c. cond c longest len) (is_below (nat_lt len longest) (len == longest) ∙ e) in
        let less = ltb-true len longest e in
        (omega (arith, same), omega (arith, same, less))
    by_test false e =
        let same : most ≡ len = is ∙ ap (λ c. cond c longest len) (is_below (nat_lt len longest) (len == longest) ∙ e) in
        let more = ltb-false len longest e in
        (omega (arith, same, more), omega (arith, same))

module _ (names : List (String Global)) (i : ℕ) (longest : ℕ) where
  abbrev pub WithinSoFar : ℕ → ℕ → Type 0
  WithinSoFar most count = (place : ℕ) → place < count → length (get_or (map string_bytes names) place []) ≤ most

  pub within_more : (more : ℕ) (name : String Global) → i < length names → name ≡ get_or names i name → WithinSoFar longest i → longest ≤ more → length (string_bytes name) ≤ more → WithinSoFar more (i + 1)
  within_more more name below is so_far grown long place lt =
      elim (cases_lt place i) as (λ _. length (get_or (map string_bytes names) place []) ≤ more) [
        | inl earlier ↦ omega (arith, so_far place earlier, grown)
        | inr later ↦
            let here : place ≡ i = omega (arith, later, lt) in
            let same = ap (λ n. get_or (map string_bytes names) n []) here ∙ get_or-map string_bytes names i name [] below ∙ ap string_bytes (sym is) in
            subst (λ n. length n ≤ more) (sym same) long
      ]

  pub within_all : length names ≤ i → WithinSoFar longest i → AreWithin longest (map string_bytes names)
  within_all past so_far place =
      elim (cases_lt place i) as (λ _. length (get_or (map string_bytes names) place []) ≤ longest) [
        | inl earlier ↦ so_far place earlier
        | inr later ↦ subst (λ n. length n ≤ longest) (sym (get_or_past (map string_bytes names) place [] (omega (arith, later, past, length-map names string_bytes)))) (omega arith)
      ]
