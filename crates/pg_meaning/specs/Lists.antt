-- Words on lists, by recursion: small instances compute, and laws go by cases.
use Rattle.std.specs.Prelude.{◌≡◌, ◌≢◌, ⊤, ◌⊎◌, List, [], ◌∷◌}
use Rattle.std.specs.List.{AllByRecursion}

-- x is one of them
abbrev pub IsIn : {X : Type 0} → X → List X → Type 0
IsIn x [] = ⊥
IsIn x (y ∷ ys) = (x ≡ y) ⊎ IsIn x ys

-- R holds of each element and each later one
abbrev pub AllPairsByRecursion : {X : Type 0} → (X → X → Type 0) → List X → Type 0
AllPairsByRecursion R [] = ⊤
AllPairsByRecursion R (x ∷ xs) = AllByRecursion (R x) xs × AllPairsByRecursion R xs

-- exactly what has the property, each once, in any order
pub record IsListOf {X : Type 0} (P : X → Type 0) (xs : List X) : Type 0 where
  pub each : AllByRecursion P xs
  pub every : (x : X) → P x → IsIn x xs
  pub once : AllPairsByRecursion (λ x y. x ≢ y) xs
