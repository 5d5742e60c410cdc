-- The parts of an answer with what stands behind it.
use Rattle.std.proofs.Common.{◌≡◌, ℕ, List, Option, Some, None, ap}

abbrev pub both : {A : Type 0} → A → List ℕ → Option (A × List ℕ)
both a more = Some (a, more)

abbrev given : {A : Type 0} → A × List ℕ → Option (A × List ℕ) → A × List ℕ
given d None = d
given d (Some p) = p

pub same_pair : {A : Type 0} (a b : A) (s t : List ℕ) → both a s ≡ both b t → (a ≡ b) × (s ≡ t)
same_pair {A} a b s t e = let d : A × List ℕ = (a, s) in (ap (λ (o : Option (A × List ℕ)). (given d o).0) e, ap (λ (o : Option (A × List ℕ)). (given d o).1) e)
