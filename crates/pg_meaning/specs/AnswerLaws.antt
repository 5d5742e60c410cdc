-- What an answer that went well, and one that didn't, says of its parts.
use Rattle.std.proofs.Common.{◌≡◌, ◌⊎◌, inl, inr, List, [], ◌∷◌, Result, Ok, Err, refl, ap, subst}
use Rattle.std.specs.List.{AllZip}
use Rattle.pg_meaning.specs.Answer.{◌>>=◌, each_answer}
use Rattle.pg_meaning.specs.Lists.{IsIn}
use Rattle.pg_meaning.specs.declared.fault.Fault.{Fault}

module _ {X Y : Type 0} where
  -- by what the first answer is
  pub by_answer : (P : Result Y Fault → Type 0) (a : Result X Fault) (next : X → Result Y Fault) → ((x : X) → a ≡ Ok x → P (next x)) → ((f : Fault) → a ≡ Err f → P (Err f)) → P (a >>= next)
  by_answer P (Ok x) next p q = p x refl
  by_answer P (Err f) next p q = q f refl

  pub went_well : (a : Result X Fault) (next : X → Result Y Fault) (y : Y) → (a >>= next) ≡ Ok y → (x : X) × (a ≡ Ok x) × (next x ≡ Ok y)
  went_well (Ok x) next y e = (x, refl, e)
  went_well (Err f) next y e = cc

  pub went_wrong : (a : Result X Fault) (next : X → Result Y Fault) (f : Fault) → (a >>= next) ≡ Err f → (a ≡ Err f) ⊎ ((x : X) × (a ≡ Ok x) × (next x ≡ Err f))
  went_wrong (Ok x) next f e = inr (x, refl, e)
  went_wrong (Err g) next f e = inl cc

pub same_ok : {X : Type 0} (x y : X) → ◌≡◌ {A = Result X Fault} (Ok x) (Ok y) → x ≡ y
same_ok x y e = ap (λ r. elim r [ Ok z ↦ z | Err f ↦ x ]) e

pub answers_zip : {X Y : Type 0} (f : X → Result Y Fault) (xs : List X) (ys : List Y) → each_answer f xs ≡ Ok ys → AllZip (λ x y. f x ≡ Ok y) xs ys
answers_zip f [] [] e = tt
answers_zip f [] (y ∷ ys) e = cc
answers_zip {X} {Y} f (x ∷ xs) ys e =
    let first = went_well (f x) (λ y. each_answer f xs >>= λ zs. Ok (y ∷ zs)) ys e in
    let rest = went_well (each_answer f xs) (λ zs. Ok (first.0 ∷ zs)) ys first.2 in
    subst (λ zs. AllZip (λ x y. f x ≡ Ok y) (x ∷ xs) zs) (same_ok (first.0 ∷ rest.0) ys rest.2) (first.1, answers_zip f xs rest.0 rest.1)

pub answers_fault : {X Y : Type 0} (f : X → Result Y Fault) (xs : List X) (g : Fault) → each_answer f xs ≡ Err g → (x : X) × IsIn x xs × (f x ≡ Err g)
answers_fault f [] g e = cc
answers_fault {X} {Y} f (x ∷ xs) g e = by_first (went_wrong (f x) (λ y. each_answer f xs >>= λ zs. Ok (y ∷ zs)) g e) (answers_fault f xs g)
  where
    by_rest : (y : Y) → (each_answer f xs ≡ Err g) ⊎ ((zs : List Y) × (each_answer f xs ≡ Ok zs) × (◌≡◌ {A = Result (List Y) Fault} (Ok (y ∷ zs)) (Err g)))
        → (each_answer f xs ≡ Err g → (z : X) × IsIn z xs × (f z ≡ Err g)) → (z : X) × IsIn z (x ∷ xs) × (f z ≡ Err g)
    by_rest y (inl h) rest = let z = rest h in (z.0, inr z.1, z.2)
    by_rest y (inr h) rest = let impossible = h.2 in cc

    by_first : (f x ≡ Err g) ⊎ ((y : Y) × (f x ≡ Ok y) × ((each_answer f xs >>= λ zs. Ok (y ∷ zs)) ≡ Err g))
        → (each_answer f xs ≡ Err g → (z : X) × IsIn z xs × (f z ≡ Err g)) → (z : X) × IsIn z (x ∷ xs) × (f z ≡ Err g)
    by_first (inl h) rest = (x, inl refl, h)
    by_first (inr h) rest = by_rest h.0 (went_wrong (each_answer f xs) (λ zs. Ok (h.0 ∷ zs)) g h.2) rest
