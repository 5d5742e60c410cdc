-- Answers of one thing after the other, seen as other things.
use Rattle.std.proofs.Common.{◌≡◌, suc, List, [], ◌∷◌, map, length, Result, Ok, Err, refl, sym, ap, subst, ◌∙◌}
use Rattle.std.specs.List.{AllByRecursion}
use Rattle.pg_meaning.specs.Answer.{◌>>=◌, each_answer}
use Rattle.pg_meaning.specs.AnswerLaws.{went_well, same_ok}
use Rattle.pg_meaning.specs.declared.fault.Fault.{Fault}

pub each_seen : {X Y Z W : Type 0} (f : Z → Result W Fault) (h : X → Z) (g : X → Result Y Fault) (j : Y → W) → ((x : X) → f (h x) ≡ (g x >>= λ y. Ok (j y))) → (xs : List X)
    → each_answer f (map h xs) ≡ (each_answer g xs >>= λ ys. Ok (map j ys))
each_seen f h g j e [] = refl
each_seen {X} {Y} {Z} {W} f h g j e (x ∷ xs) = (λ i. e x i >>= λ w. each_seen f h g j e xs i >>= λ ws. Ok (w ∷ ws)) ∙ by (g x) (each_answer g xs)
  where
    by : (a : Result Y Fault) (rest : Result (List Y) Fault)
        → ((a >>= λ y. Ok (j y)) >>= λ w. (rest >>= λ ys. Ok (map j ys)) >>= λ ws. Ok (w ∷ ws)) ≡ ((a >>= λ y. rest >>= λ ys. Ok (y ∷ ys)) >>= λ ys. Ok (map j ys))
    by (Ok y) (Ok ys) = refl
    by (Ok y) (Err f) = refl
    by (Err f) rest = refl

pub each_mapped : {X Y Z : Type 0} (f : Z → Result Y Fault) (h : X → Z) (g : X → Result Y Fault) → ((x : X) → g x ≡ f (h x)) → (xs : List X) → each_answer g xs ≡ each_answer f (map h xs)
each_mapped f h g e [] = refl
each_mapped f h g e (x ∷ xs) = λ i. e x i >>= λ y. each_mapped f h g e xs i >>= λ ys. Ok (y ∷ ys)

-- what is true of each answer
pub each_is : {X Y : Type 0} (f : X → Result Y Fault) (P : Y → Type 0) → ((x : X) (y : Y) → f x ≡ Ok y → P y) → (xs : List X) (ys : List Y) → each_answer f xs ≡ Ok ys → AllByRecursion P ys
each_is f P is [] ys e = subst (AllByRecursion P) (same_ok [] ys e) tt
each_is f P is (x ∷ xs) ys e =
    let first = went_well (f x) (λ y. each_answer f xs >>= λ zs. Ok (y ∷ zs)) ys e in
    let rest = went_well (each_answer f xs) (λ zs. Ok (first.0 ∷ zs)) ys first.2 in
    subst (AllByRecursion P) (same_ok (first.0 ∷ rest.0) ys rest.2) (is x first.0 first.1, each_is f P is xs rest.0 rest.1)

pub as_many : {X Y : Type 0} (f : X → Result Y Fault) (xs : List X) (ys : List Y) → each_answer f xs ≡ Ok ys → length ys ≡ length xs
as_many f [] ys e = sym (ap length (same_ok [] ys e))
as_many f (x ∷ xs) ys e =
    let first = went_well (f x) (λ y. each_answer f xs >>= λ zs. Ok (y ∷ zs)) ys e in
    let rest = went_well (each_answer f xs) (λ zs. Ok (first.0 ∷ zs)) ys first.2 in
    sym (ap length (same_ok (first.0 ∷ rest.0) ys rest.2)) ∙ ap suc (as_many f xs rest.0 rest.1)

-- by what an answer is
pub by_case : {X : Type 0} (P : Result X Fault → Type 0) (a : Result X Fault) → ((x : X) → a ≡ Ok x → P (Ok x)) → ((f : Fault) → a ≡ Err f → P (Err f)) → P a
by_case P (Ok x) p q = p x refl
by_case P (Err f) p q = q f refl
