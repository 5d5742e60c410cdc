-- A test of texts by their bytes, as the standard library and the definitions have it.
use Rattle.std.proofs.Common.{◌≡◌, ◌⊎◌, ℕ, Bool, true, false, ◌||◌, List, [], ◌∷◌, ◌++◌, length, drop, refl, ap, eqb, inl, inr, arith, Decides}
use Rattle.std.proofs.lemmas.Bool.{eqb-true}
use Rattle.std.proofs.lemmas.Bool.Decides.{Decides-eqb}
use Rattle.std.proofs.lemmas.List.{length-append}
use Rattle.std.proofs.lemmas.Slice.Eq.{starts_is}
use Rattle.std.specs.Prelude.{nat_eq}
use Rattle.std.specs.List.{starts_with}
use Rattle.std.specs.Str.Iter.{HasSubslice}
use Rattle.pg_meaning.specs.Expressions.{has_part}

pub begins_same : (s t : List ℕ) → starts_with eqb s t ≡ starts_with nat_eq s t
begins_same s t = refl

pub ruleset prefixes = (begins_same)

one_holds : (a b : Bool) → (a || b) ≡ true → (a ≡ true) ⊎ (b ≡ true)
one_holds true b h = inl refl
one_holds false b h = inr h

second_holds : (a b : Bool) → b ≡ true → (a || b) ≡ true
second_holds true b h = refl
second_holds false b h = h

begins_found : (s t : List ℕ) → starts_with nat_eq s t ≡ true → HasSubslice s t
begins_found s t h = ([], drop (length t) s, (starts_is Decides-eqb s t (starts_with nat_eq s t) refl).0 h)

part_found : (s t : List ℕ) → has_part s t ≡ true → HasSubslice s t
part_found [] [] h = ([], [], refl)
part_found [] (x ∷ t) h = absurd (omega (arith, eqb-true (length (x ∷ t)) 0 h))
part_found (b ∷ bs) t h = elim (one_holds (starts_with nat_eq (b ∷ bs) t) (has_part bs t) h) [
  | inl begins ↦ begins_found (b ∷ bs) t begins
  | inr later ↦ let found = part_found bs t later in (b ∷ found.0, found.1, ap (λ xs. b ∷ xs) found.2)
]

first_holds : (a b : Bool) → a ≡ true → (a || b) ≡ true
first_holds a b h = ap (λ x. x || b) h

abbrev rest_of : List ℕ → List ℕ
rest_of [] = []
rest_of (x ∷ xs) = xs

part_there : (s t a b : List ℕ) → s ≡ a ++ (t ++ b) → has_part s t ≡ true
part_there [] [] a b e = refl
part_there [] (x ∷ t) a b e = absurd (omega (arith, ap length e, length-append a ((x ∷ t) ++ b)))
part_there (x ∷ xs) t [] b e = first_holds _ (has_part xs t) ((starts_is Decides-eqb (x ∷ xs) t (starts_with nat_eq (x ∷ xs) t) refl).1 b e)
part_there (x ∷ xs) t (y ∷ a) b e = second_holds (starts_with nat_eq (x ∷ xs) t) (has_part xs t) (part_there xs t a b (ap rest_of e))

pub part_decides : (s t : List ℕ) → Decides (has_part s t) (HasSubslice s t)
part_decides s t = (part_found s t, λ h. part_there s t h.0 h.1 h.2)
