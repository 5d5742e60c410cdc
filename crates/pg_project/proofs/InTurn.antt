-- Answers of one thing after the other, by place: those that are there, and what is left.
use Rattle.std.proofs.Common.{◌≡◌, ℕ, zero, suc, ◌+◌, ◌≤◌, List, [], ◌∷◌, ◌++◌, length, drop, slice_get, Result, Ok, Err, Some, refl, sym, ap, ◌∙◌, arith}
use Rattle.pg_meaning.specs.Answer.{◌>>=◌, each_answer}
use Rattle.pg_meaning.specs.declared.fault.Fault.{Fault}

abbrev pub after : {Y : Type 0} → List Y → Result (List Y) Fault → Result (List Y) Fault
after found rest = rest >>= λ ys. Ok (found ++ ys)

pub bound_twice : {X Y Z : Type 0} (a : Result X Fault) (f : X → Result Y Fault) (g : Y → Result Z Fault) → (a >>= f >>= g) ≡ (a >>= λ x. f x >>= g)
bound_twice (Ok x) f g = refl
bound_twice (Err e) f g = refl

pub joined : {X : Type 0} (xs : List X) (y : X) (ys : List X) → (xs ++ y ∷ []) ++ ys ≡ xs ++ y ∷ ys
joined [] y ys = refl
joined (x ∷ xs) y ys = ap (λ zs. x ∷ zs) (joined xs y ys)

pub nothing_behind : {X : Type 0} (xs : List X) → xs ++ [] ≡ xs
nothing_behind [] = refl
nothing_behind (x ∷ xs) = ap (λ ys. x ∷ ys) (nothing_behind xs)

pub after_one : {Y : Type 0} (done : List Y) (y : Y) (rest : Result (List Y) Fault) → after done (rest >>= λ ys. Ok (y ∷ ys)) ≡ after (done ++ y ∷ []) rest
after_one done y (Ok ys) = ap Ok (sym (joined done y ys))
after_one done y (Err e) = refl

pub drop_here : {X : Type 0} (xs : List X) (i : ℕ) (x : X) → slice_get xs i ≡ Some x → drop i xs ≡ x ∷ drop (i + 1) xs
drop_here [] i x h = cc
drop_here (y ∷ ys) zero x h = let e : y ≡ x = cc in ap (λ z. z ∷ ys) e
drop_here (y ∷ ys) (suc i) x h = drop_here ys i x h ∙ ap (λ k. x ∷ drop k (y ∷ ys)) (let e : suc (i + 1) ≡ suc i + 1 = omega arith in e)

pub drop_none : {X : Type 0} (xs : List X) (i : ℕ) → length xs ≤ i → drop i xs ≡ []
drop_none [] zero h = refl
drop_none [] (suc i) h = refl
drop_none (x ∷ xs) zero h = absurd (omega (arith, h))
drop_none (x ∷ xs) (suc i) h = drop_none xs i (omega arith)

pub first_of_rest : {X Y : Type 0} (f : X → Result Y Fault) (x : X) (a : Result Y Fault) (xs : List X) → f x ≡ a → each_answer f (x ∷ xs) ≡ (a >>= λ y. each_answer f xs >>= λ ys. Ok (y ∷ ys))
first_of_rest f x a xs h = ap (λ b. b >>= λ y. each_answer f xs >>= λ ys. Ok (y ∷ ys)) h

module _ {X Y : Type 0} (f : X → Result Y Fault) (xs : List X) (done : List Y) (i : ℕ) where
  pub one_more : (x : X) (y : Y) → each_answer f xs ≡ after done (each_answer f (drop i xs)) → slice_get xs i ≡ Some x → f x ≡ Ok y → each_answer f xs ≡ after (done ++ y ∷ []) (each_answer f (drop (i + 1) xs))
  one_more x y all here is =
      all
      ∙ ap (λ ys. after done (each_answer f ys)) (drop_here xs i x here)
      ∙ ap (after done) (first_of_rest f x (Ok y) (drop (i + 1) xs) is)
      ∙ after_one done y (each_answer f (drop (i + 1) xs))

  pub one_fault : (x : X) (e : Fault) → each_answer f xs ≡ after done (each_answer f (drop i xs)) → slice_get xs i ≡ Some x → f x ≡ Err e → each_answer f xs ≡ Err e
  one_fault x e all here is =
      all
      ∙ ap (λ ys. after done (each_answer f ys)) (drop_here xs i x here)
      ∙ ap (after done) (first_of_rest f x (Err e) (drop (i + 1) xs) is)

  pub no_more : each_answer f xs ≡ after done (each_answer f (drop i xs)) → length xs ≤ i → each_answer f xs ≡ Ok done
  no_more all h = all ∙ ap (λ ys. after done (each_answer f ys)) (drop_none xs i h) ∙ ap Ok (nothing_behind done)

pub none_before : {Y : Type 0} (found : List Y) (a : Result (List Y) Fault) → found ≡ [] → a ≡ after found a
none_before found (Ok ys) none = ap (λ xs. Ok (xs ++ ys)) (sym none)
none_before found (Err e) none = refl

pub met : (i n : ℕ) → i ≤ n → n ≤ i → i ≡ n
met i n within past = omega (arith, within, past)
