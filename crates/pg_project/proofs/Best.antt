-- A value that was taken in before changes nothing of the best one.
use Rattle.std.proofs.Common.{◌≡◌, ◌||◌, Bool, true, false, cond, List, [], ◌∷◌, fold, Some, refl, sym, ap, ◌∙◌, subst}
use Rattle.std.proofs.lemmas.Cmp.{back_total}
use Rattle.std.specs.Cmp.{IsTotalOrder, Equal-is}
use Rattle.std.specs.List.{list_any, AllByRecursion}
use Rattle.std.specs.Ordering.{is_lt, is_gt, ordering_reverse}
use Rattle.std.specs.declared.cmp.Ordering.{Ordering}
use Rattle.std.specs.declared.cmp.Ordering.TheVariants.{Less, Equal, Greater}
use Rattle.pg_project.specs.Summaries.{best_of, better}
use Rattle.pg_meaning.specs.Aggregates.{lesser, greater}
use Rattle.pg_meaning.specs.Order.{value_order, is_equivalent}
use Rattle.pg_meaning.specs.OrderLaws.{order_total, order_exact}
use Rattle.pg_meaning.specs.Value.{Value}

less_is : (o : Ordering) → is_lt o ≡ true → o ≡ Less
less_is Less h = refl
less_is Equal h = absurd cc
less_is Greater h = absurd cc

module _ (R : Value → Value → Ordering) (total : IsTotalOrder R) where
  abbrev pick : Value → Value → Value
  pick best v = cond (is_lt (R v best)) v best

  not_itself : (v : Value) → is_lt (R v v) ≡ false
  not_itself v = by (R v v) (total.antisymm v v)
    where
      by : (o : Ordering) → o ≡ ordering_reverse o → is_lt o ≡ false
      by Less h = absurd cc
      by Equal h = refl
      by Greater h = refl

  then_less : (x y z : Value) → is_lt (R x y) ≡ true → is_lt (R y z) ≡ true → is_lt (R x z) ≡ true
  then_less x y z h k = ap is_lt (total.trans x y z (less_is (R x y) h) (less_is (R y z) k))

  -- what isn't below another is below no more than it
  also_less : (x y z : Value) → is_lt (R x y) ≡ false → is_lt (R x z) ≡ true → is_lt (R y z) ≡ true
  also_less x y z h k = by (R x y) refl h
    where
      by : (o : Ordering) → R x y ≡ o → is_lt o ≡ false → is_lt (R y z) ≡ true
      by Less e n = absurd cc
      by Equal e n = ap is_lt (sym (total.congr x y z e)) ∙ k
      by Greater e n = then_less y x z (ap is_lt (total.antisymm y x ∙ ap ordering_reverse e)) k

  abbrev NoneBelow : Value → List Value → Type 0
  NoneBelow best vs = AllByRecursion (λ v. is_lt (R v best) ≡ false) vs

  refuted : (b : Bool) → (b ≡ true → false ≡ true) → b ≡ false
  refuted true h = sym (h refl)
  refuted false h = refl

  none_below : (v : Value) (vs : List Value) → NoneBelow (fold pick v vs) (v ∷ vs)
  none_below v [] = (not_itself v, tt)
  none_below v (u ∷ us) = by (is_lt (R u v)) refl (none_below (pick v u) us)
    where
      by : (b : Bool) → is_lt (R u v) ≡ b → NoneBelow (fold pick (cond (is_lt (R u v)) u v) us) (cond (is_lt (R u v)) u v ∷ us) → NoneBelow (fold pick (cond (is_lt (R u v)) u v) us) (v ∷ u ∷ us)
      by true e h =
          let least : is_lt (R u (fold pick (cond (is_lt (R u v)) u v) us)) ≡ false = ap (λ b. is_lt (R (cond b u v) (fold pick (cond (is_lt (R u v)) u v) us))) (sym e) ∙ h.0 in
          (refuted (is_lt (R v (fold pick (cond (is_lt (R u v)) u v) us))) (λ k. sym least ∙ then_less u v (fold pick (cond (is_lt (R u v)) u v) us) e k), (least, h.1))
      by false e h =
          let least : is_lt (R v (fold pick (cond (is_lt (R u v)) u v) us)) ≡ false = ap (λ b. is_lt (R (cond b u v) (fold pick (cond (is_lt (R u v)) u v) us))) (sym e) ∙ h.0 in
          (least, (refuted (is_lt (R u (fold pick (cond (is_lt (R u v)) u v) us))) (λ k. sym least ∙ also_less u v (fold pick (cond (is_lt (R u v)) u v) us) e k), h.1))

  known : (P : Value → Type 0) (v : Value) (vs : List Value) → list_any (is_equivalent v) vs ≡ true → AllByRecursion P vs → P v
  known P v [] h all = absurd cc
  known P v (u ∷ us) h all = by (λ k. known P v us k all.1) (is_equivalent v u) refl h
    where
      by : (list_any (is_equivalent v) us ≡ true → P v) → (b : Bool) → is_equivalent v u ≡ b → (b || list_any (is_equivalent v) us) ≡ true → P v
      by rest true e k = subst P (sym (order_exact v u ((Equal-is (value_order v u)).0 e))) all.0
      by rest false e k = rest k

  stays : (vs : List Value) (v : Value) → list_any (is_equivalent v) vs ≡ true → best_of pick vs ≡ Some (better pick (best_of pick vs) v)
  stays [] v h = absurd cc
  stays (u ∷ us) v h = sym (ap (λ b. Some (cond b v (fold pick u us))) (known (λ x. is_lt (R x (fold pick u us)) ≡ false) v (u ∷ us) h (none_below u us)))

pub lowest_stays : (vs : List Value) (v : Value) → list_any (is_equivalent v) vs ≡ true → best_of lesser vs ≡ Some (better lesser (best_of lesser vs) v)
lowest_stays vs v h = stays value_order order_total vs v h

greater_is : greater ≡ pick (λ x y. value_order y x) (back_total order_total)
greater_is = λ i b v. cond (reversed (value_order v b) (value_order b v) (order_total.antisymm v b) i) v b
  where
    reversed : (o p : Ordering) → o ≡ ordering_reverse p → is_gt o ≡ is_lt p
    reversed o Less h = ap is_gt h
    reversed o Equal h = ap is_gt h
    reversed o Greater h = ap is_gt h

pub highest_stays : (vs : List Value) (v : Value) → list_any (is_equivalent v) vs ≡ true → best_of greater vs ≡ Some (better greater (best_of greater vs) v)
highest_stays vs v h = subst (λ f. best_of f vs ≡ Some (better f (best_of f vs) v)) (sym greater_is) (stays (λ x y. value_order y x) (back_total order_total) vs v h)
