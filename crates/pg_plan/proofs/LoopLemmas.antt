-- Loops that fill a list: what is there, with what is left, is all.
use Rattle.std.proofs.Common.{◌≡◌, List, [], ◌∷◌, ◌++◌, map, refl, sym, ap, ◌∙◌}
use Rattle.std.proofs.lemmas.List.{append-nil}

joined : {A B : Type 0} (f : A → B) (xs : List A) (x : A) (rest : List B) → map f (xs ++ x ∷ []) ++ rest ≡ map f xs ++ f x ∷ rest
joined f [] x rest = refl
joined f (y ∷ xs) x rest = ap (λ ys. f y ∷ ys) (joined f xs x rest)

pub one_taken : {A B : Type 0} (f : A → B) (xs ys : List A) (x : A) (left rest all : List B) → ys ≡ xs ++ x ∷ [] → left ≡ f x ∷ rest → map f xs ++ left ≡ all → map f ys ++ rest ≡ all
one_taken f xs ys x left rest all pushed here so_far = ap (λ zs. map f zs ++ rest) pushed ∙ joined f xs x rest ∙ ap (λ zs. map f xs ++ zs) (sym here) ∙ so_far

pub all_taken : {B : Type 0} (ys left all : List B) → left ≡ [] → ys ++ left ≡ all → ys ≡ all
all_taken ys left all end so_far = sym (append-nil ys) ∙ ap (λ zs. ys ++ zs) (sym end) ∙ so_far
