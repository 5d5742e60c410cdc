-- Two rising lists as one, in which what both have stands once.
use Rattle.std.specs.Prelude.{ℕ, List, [], ◌∷◌}
use Rattle.std.specs.Ordering.{nat_cmp, match_ordering}

-- x goes before what is left of both lists
abbrev pub merged_from : ℕ → (List ℕ → List ℕ) → List ℕ → List ℕ
merged_from x rest [] = x ∷ rest []
merged_from x rest (y ∷ ys) = match_ordering (nat_cmp x y) (x ∷ rest (y ∷ ys)) (x ∷ rest ys) (y ∷ merged_from x rest ys)

abbrev pub merged : List ℕ → List ℕ → List ℕ
merged [] ys = ys
merged (x ∷ xs) ys = merged_from x (merged xs) ys
