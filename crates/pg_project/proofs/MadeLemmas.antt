-- What is made so far of a list that is lent.
use Rattle.std.proofs.Common.{◌≡◌, ◌+◌, ◌<◌, ◌≤◌, ℕ, List, [], ◌∷◌, ◌++◌, get_or, length, map, take, sym, ap, subst, ◌∙◌}
use Rattle.std.proofs.lemmas.List.{map-append, take_all, take_more}

pub map_twice-append : {A B C : Type 0} (f : B → C) (g : A → B) (xs ys : List A) → map f (map g (xs ++ ys)) ≡ map f (map g xs) ++ map f (map g ys)
map_twice-append f g xs ys = ap (map f) (map-append g xs ys) ∙ map-append f (map g xs) (map g ys)

module _ {B C : Type 0} (along : List B → List C) (joined : (xs ys : List B) → along (xs ++ ys) ≡ along xs ++ along ys) (found : List C) (lent ys : List B) (same : lent ≡ ys) (i : ℕ) (so_far : found ≡ along (take i ys)) where
  pub one_made : (y : B) → i < length lent → y ≡ get_or lent i y → (more one : List C) → more ≡ found ++ one → one ≡ along (y ∷ []) → more ≡ along (take (i + 1) ys)
  one_made y within is more one pushed e =
      pushed
      ∙ (λ j. so_far j ++ e j)
      ∙ sym (joined (take i ys) (y ∷ []))
      ∙ ap (λ z. along (take i ys ++ z ∷ [])) (subst (λ zs. y ≡ get_or zs i y) same is)
      ∙ ap along (sym (take_more ys i y (subst (λ zs. i < length zs) same within)))

  pub all_made : length lent ≤ i → found ≡ along ys
  all_made past = so_far ∙ ap along (take_all i ys (subst (λ zs. length zs ≤ i) same past))
