-- Two answers side by side: both go well and are related, or both are the same fault.
use Rattle.std.proofs.Common.{◌≡◌, Result, Ok, Err, refl, subst}
use Rattle.pg_meaning.specs.Answer.{◌>>=◌}
use Rattle.pg_meaning.specs.declared.fault.Fault.{Fault}

abbrev pub Lifted : {X Y : Type 0} → (X → Y → Type 0) → Result X Fault → Result Y Fault → Type 0
Lifted R (Ok x) (Ok y) = R x y
Lifted R (Err f) (Err g) = f ≡ g
Lifted R a b = ⊥

pub both : {X Y U V : Type 0} (R : X → Y → Type 0) (S : U → V → Type 0) (a : Result X Fault) (b : Result Y Fault) (f : X → Result U Fault) (g : Y → Result V Fault)
    → Lifted R a b → ((x : X) (y : Y) → R x y → Lifted S (f x) (g y)) → Lifted S (a >>= f) (b >>= g)
both R S (Ok x) (Ok y) f g h next = next x y h
both R S (Err e) (Err d) f g h next = h
both R S (Ok x) (Err d) f g h next = absurd h
both R S (Err e) (Ok y) f g h next = absurd h

pub mapped : {X Y U : Type 0} (R : X → Y → Type 0) (S : U → Y → Type 0) (a : Result X Fault) (b : Result Y Fault) (f : X → U)
    → Lifted R a b → ((x : X) (y : Y) → R x y → S (f x) y) → Lifted S (a >>= λ x. Ok (f x)) b
mapped R S (Ok x) (Ok y) f h next = next x y h
mapped R S (Err e) (Err d) f h next = h
mapped R S (Ok x) (Err d) f h next = absurd h
mapped R S (Err e) (Ok y) f h next = absurd h

pub same : {X : Type 0} (a : Result X Fault) → Lifted (λ x y. x ≡ y) a a
same (Ok x) = refl
same (Err f) = refl

pub by_map : {X Y : Type 0} (f : X → Y) (a : Result X Fault) (b : Result Y Fault) → (a >>= λ x. Ok (f x)) ≡ b → Lifted (λ x y. f x ≡ y) a b
by_map f (Ok x) b e = subst (λ c. Lifted (λ u y. f u ≡ y) (Ok x) c) e refl
by_map f (Err g) b e = subst (λ c. Lifted (λ u y. f u ≡ y) (Err g) c) e refl
