--! Two texts that are the same at each place.
use Rattle.std.proofs.Common.{arith, ◌≡◌, ◌≤◌, ◌<◌, ℕ, List, Bool, true, false, refl, sym, length, bytes_eq, get_or, inl, inr}
use Rattle.std.proofs.lemmas.Bool.{cases_lt}
use Rattle.std.proofs.lemmas.List.{ext_get_or}
use Rattle.std.proofs.lemmas.Slice.Eq.{bytes_eq-Decides}

-- the two have the same from one place on and below another
abbrev pub AreSame : List ℕ → List ℕ → ℕ → ℕ → Type 0
AreSame xs ys a b = (i : ℕ) → a ≤ i → i < b → get_or xs i 0 ≡ get_or ys i 0

pub joined : (xs ys : List ℕ) (a b c d : ℕ) → c ≤ b → AreSame xs ys a b → AreSame xs ys c d → AreSame xs ys a d
joined xs ys a b c d meets low high i above below = elim (cases_lt i b) [
  | inl near ↦ low i above near
  | inr far ↦ high i (omega arith) below
]

false_of : (b : Bool) → (b ≡ true → false ≡ true) → false ≡ b
false_of true so = so refl
false_of false so = refl

pub told : (xs ys : List ℕ) (r : Bool) → length xs ≡ length ys → (r ≡ true → AreSame xs ys 0 (length xs)) → (xs ≡ ys → r ≡ true) → r ≡ bytes_eq xs ys
told xs ys true l same differ = sym ((bytes_eq-Decides xs ys).1 (ext_get_or 0 xs ys l (λ i below. same refl i (omega arith) below)))
told xs ys false l same differ = false_of (bytes_eq xs ys) (λ is. differ ((bytes_eq-Decides xs ys).0 is))
