-- What an option or a result that is known says.
use Rattle.std.proofs.Common.{◌≡◌, Bool, true, false, Option, Some, None, is_some, T, Result, Ok, Err, refl, sym, ap, subst, ◌∙◌}
use Rattle.pg_meaning.specs.declared.fault.Fault.{Fault}

pub holds : (b : Bool) → b ≡ true → T b
holds b e = subst T (sym e) tt

module _ {X : Type 0} where
  pub found : (o : Option X) → is_some o ≡ true → (x : X) × (o ≡ Some x)
  found (Some x) h = (x, refl)
  found None h = cc

  pub missing : (o : Option X) → is_some o ≡ false → o ≡ None
  missing (Some x) h = cc
  missing None h = refl

  pub some_is : (x y : X) → Some x ≡ Some y → x ≡ y
  some_is x y e = ap (λ o. elim o [ Some z ↦ z | None ↦ x ]) e

  pub none_or_some : (o : Option X) (x : X) → o ≡ Some x → o ≡ None → ⊥
  none_or_some o x e f = let impossible = sym e ∙ f in cc

  pub ok_or_err : (a : Result X Fault) (x : X) (f : Fault) → a ≡ Ok x → a ≡ Err f → ⊥
  ok_or_err a x f p q = let impossible = sym p ∙ q in cc

  pub same_err : (f x : Fault) → ◌≡◌ {A = Result X Fault} (Err f) (Err x) → f ≡ x
  same_err f x e = cc
