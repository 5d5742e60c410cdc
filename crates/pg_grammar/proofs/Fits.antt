-- Tokens that fit marks, and parts of lists.
use Rattle.std.proofs.Common.{◌≡◌, List, [], ◌∷◌, ◌++◌, refl, ap}
use Rattle.std.specs.List.{AllByRecursion}
use Rattle.pg_meaning.specs.Tokens.{Token}
use Rattle.pg_meaning.specs.Grammar.{Mark, Fit}

pub fit_append : (a b : List Token) (x y : List Mark) → Fit a x → Fit b y → Fit (a ++ b) (x ++ y)
fit_append [] b [] y p q = q
fit_append [] b (m ∷ x) y p q = absurd p
fit_append (t ∷ a) b [] y p q = absurd p
fit_append (t ∷ a) b (m ∷ x) y p q = (p.0, fit_append a b x y p.1 q)

pub fit_split : (ts : List Token) (x y : List Mark) → Fit ts (x ++ y) → (a : List Token) × (b : List Token) × (ts ≡ a ++ b) × Fit a x × Fit b y
fit_split ts [] y f = ([], ts, refl, tt, f)
fit_split [] (m ∷ x) y f = absurd f
fit_split (t ∷ ts) (m ∷ x) y f = let r = fit_split ts x y f.1 in (t ∷ r.0, r.1, ap (λ (l : List Token). t ∷ l) r.2, (f.0, r.3), r.4)

pub all_front : {A : Type 0} (P : A → Type 0) (xs ys : List A) → AllByRecursion P (xs ++ ys) → AllByRecursion P xs
all_front P [] ys h = tt
all_front P (x ∷ xs) ys h = (h.0, all_front P xs ys h.1)

pub all_back : {A : Type 0} (P : A → Type 0) (xs ys : List A) → AllByRecursion P (xs ++ ys) → AllByRecursion P ys
all_back P [] ys h = h
all_back P (x ∷ xs) ys h = all_back P xs ys h.1
