-- What aggregates take in and tell.
use Rattle.std.proofs.Common.{◌≡◌, ◌≢◌, Bool, true, false, cond, ◌&&◌, ◌⊎◌, inl, inr, List, [], ◌∷◌, ◌++◌, filter, fold, Result, Ok, Err, refl, sym, ap, subst, ◌∙◌, append_assoc, append-nil, is_lt, is_gt, Less, Equal, Greater}
use Rattle.std.proofs.lemmas.Cmp.{tied_itself}
use Rattle.std.specs.List.{list_any}
use Rattle.std.specs.Ordering.{ordering_reverse}
use Rattle.std.specs.declared.cmp.Ordering.{Ordering}
use Rattle.pg_meaning.specs.Aggregates.{Aggregate, Summary, counting, summing, least, greatest, collecting, total, extended, take_in, lesser, greater}
use Rattle.pg_meaning.specs.Answer.{each_step}
use Rattle.pg_meaning.specs.AnswerLaws.{went_well, same_ok}
use Rattle.pg_meaning.specs.Arithmetic.{is_in_range}
use Rattle.pg_meaning.specs.Lists.{IsIn}
use Rattle.pg_meaning.specs.Measure.{is_within_limits}
use Rattle.pg_meaning.specs.Order.{value_order, is_equivalent}
use Rattle.pg_meaning.specs.OrderLaws.{order_total, order_exact}
use Rattle.pg_meaning.specs.Value.{Value, null, boolean, integer, text, list, mapping, node, relationship, path, values_of}
use Rattle.pg_meaning.specs.declared.fault.Fault.{Fault}
use Rattle.pg_meaning.specs.declared.fault.Fault.TheVariants.{Overflow, ValueTooLarge}
use Rattle.pg_soundness.specs.Aggregating.{is_there, TakesAllThere, LeastIsFirst, GreatestIsLast}

-- ---- what is taken in

by_limit : (b : Bool) (f : Fault) (vs kept : List Value) → cond b (let r : Result (List Value) Fault = Ok vs in r) (Err f) ≡ Ok kept → kept ≡ vs
by_limit true f vs kept e = sym (same_ok vs kept e)
by_limit false f vs kept e = cc

extended_is : (s : Summary) (vs : List Value) (v : Value) (kept : List Value) → extended s vs v ≡ Ok kept → kept ≡ vs ++ v ∷ []
extended_is counting vs v kept e = sym (same_ok (vs ++ v ∷ []) kept e)
extended_is least vs v kept e = sym (same_ok (vs ++ v ∷ []) kept e)
extended_is greatest vs v kept e = sym (same_ok (vs ++ v ∷ []) kept e)
extended_is collecting vs v kept e = by_limit (is_within_limits (list (values_of (vs ++ v ∷ [])))) ValueTooLarge (vs ++ v ∷ []) kept e
extended_is summing vs (integer i) kept e = by_limit (is_in_range (total (vs ++ integer i ∷ []))) Overflow (vs ++ integer i ∷ []) kept e
extended_is summing vs null kept e = cc
extended_is summing vs (boolean b) kept e = cc
extended_is summing vs (text t) kept e = cc
extended_is summing vs (list ws) kept e = cc
extended_is summing vs (mapping es) kept e = cc
extended_is summing vs (node n) kept e = cc
extended_is summing vs (relationship r) kept e = cc
extended_is summing vs (path ids) kept e = cc

module _ (a : Aggregate) (all : a.distinct ≡ false) where
  with_one : (vs : List Value) (v : Value) (kept : List Value) → elim (a.distinct && list_any (is_equivalent v) vs) as (λ b. Result (List Value) Fault) [ true ↦ Ok vs | false ↦ extended a.summary vs v ] ≡ Ok kept → kept ≡ vs ++ v ∷ []
  with_one vs v kept e =
      extended_is a.summary vs v kept
      (sym (ap (λ b. elim (b && list_any (is_equivalent v) vs) as (λ b. Result (List Value) Fault) [ true ↦ Ok vs | false ↦ extended a.summary vs v ]) all) ∙ e)

  taken : (vs : List Value) (v : Value) (kept : List Value) → take_in a vs v ≡ Ok kept → kept ≡ vs ++ filter is_there (v ∷ [])
  taken vs null kept e = sym (same_ok vs kept e) ∙ sym (append-nil vs)
  taken vs (boolean b) kept e = with_one vs (boolean b) kept e
  taken vs (integer i) kept e = with_one vs (integer i) kept e
  taken vs (text t) kept e = with_one vs (text t) kept e
  taken vs (list ws) kept e = with_one vs (list ws) kept e
  taken vs (mapping es) kept e = with_one vs (mapping es) kept e
  taken vs (node n) kept e = with_one vs (node n) kept e
  taken vs (relationship r) kept e = with_one vs (relationship r) kept e
  taken vs (path ids) kept e = with_one vs (path ids) kept e

  one_more : (v : Value) (values : List Value) → filter is_there (v ∷ []) ++ filter is_there values ≡ filter is_there (v ∷ values)
  one_more v values = elim (is_there v) as (λ b. cond b (v ∷ []) [] ++ filter is_there values ≡ cond b (v ∷ filter is_there values) (filter is_there values)) [ true ↦ refl | false ↦ refl ]

  all_taken : (vs values kept : List Value) → each_step (take_in a) vs values ≡ Ok kept → kept ≡ vs ++ filter is_there values
  all_taken vs [] kept e = sym (same_ok vs kept e) ∙ sym (append-nil vs)
  all_taken vs (v ∷ values) kept e =
      let first = went_well (take_in a vs v) (λ next. each_step (take_in a) next values) kept e in
      all_taken first.0 values kept first.2
      ∙ ap (λ xs. xs ++ filter is_there values) (taken vs v first.0 first.1)
      ∙ append_assoc vs (filter is_there (v ∷ [])) (filter is_there values)
      ∙ ap (λ xs. vs ++ xs) (one_more v values)

pub takes_all_there : TakesAllThere
takes_all_there a values kept all e = all_taken a all [] values kept e

-- ---- min and max

less_is : (o : Ordering) → is_lt o ≡ true → o ≡ Less
less_is Less e = refl
less_is Equal e = cc
less_is Greater e = cc

greater_is : (o : Ordering) → is_gt o ≡ true → o ≡ Greater
greater_is Less e = cc
greater_is Equal e = cc
greater_is Greater e = refl

not_greater_is : (o : Ordering) → is_gt o ≡ false → (o ≡ Less) ⊎ (o ≡ Equal)
not_greater_is Less e = inl refl
not_greater_is Equal e = inr refl
not_greater_is Greater e = cc

not_less_is : (o : Ordering) → is_lt o ≡ false → (o ≡ Greater) ⊎ (o ≡ Equal)
not_less_is Less e = cc
not_less_is Equal e = inr refl
not_less_is Greater e = inl refl

apart : (a b : Ordering) → a ≡ Equal → b ≡ a → b ≢ Less
apart a b e f g = let impossible : Less ≡ Equal = sym g ∙ f ∙ e in cc

apart_too : (a b : Ordering) → a ≡ Equal → b ≡ a → b ≢ Greater
apart_too a b e f g = let impossible : Greater ≡ Equal = sym g ∙ f ∙ e in cc

turned_less : (v w : Value) → value_order v w ≡ Less → value_order w v ≡ Greater
turned_less v w e = order_total.antisymm w v ∙ ap ordering_reverse e

turned_greater : (v w : Value) → value_order v w ≡ Greater → value_order w v ≡ Less
turned_greater v w e = order_total.antisymm w v ∙ ap ordering_reverse e

-- behind the lesser of two stands none that is before it
both_behind : (v w m : Value) (b : Bool) → is_lt (value_order w v) ≡ b → value_order (cond b w v) m ≢ Less → (value_order v m ≢ Less) × (value_order w m ≢ Less)
both_behind v w m true e h = ((λ g. h (order_total.trans w v m (less_is (value_order w v) e) g)), h)
both_behind v w m false e h = (h, by_order (not_less_is (value_order w v) e))
  where
    by_order : (value_order w v ≡ Greater) ⊎ (value_order w v ≡ Equal) → value_order w m ≢ Less
    by_order (inl f) g = h (order_total.trans v w m (turned_greater w v f) g)
    by_order (inr f) g = h (subst (λ x. value_order x m ≡ Less) (order_exact w v f) g)

both_before : (v w m : Value) (b : Bool) → is_gt (value_order w v) ≡ b → value_order (cond b w v) m ≢ Greater → (value_order v m ≢ Greater) × (value_order w m ≢ Greater)
both_before v w m true e h = ((λ g. h (turned_less m w (order_total.trans m v w (turned_greater v m g) (turned_greater w v (greater_is (value_order w v) e))))), h)
both_before v w m false e h = (h, by_order (not_greater_is (value_order w v) e))
  where
    by_order : (value_order w v ≡ Less) ⊎ (value_order w v ≡ Equal) → value_order w m ≢ Greater
    by_order (inl f) g = h (turned_less m v (order_total.trans m w v (turned_greater w m g) f))
    by_order (inr f) g = h (subst (λ x. value_order x m ≡ Greater) (order_exact w v f) g)

one_of_two : (b : Bool) (v w m : Value) (vs : List Value) → IsIn m (cond b w v ∷ vs) → IsIn m (v ∷ w ∷ vs)
one_of_two true v w m vs (inl e) = inr (inl e)
one_of_two false v w m vs (inl e) = inl e
one_of_two b v w m vs (inr i) = inr (inr i)

pub least_is_first : LeastIsFirst
least_is_first v [] = (inl refl, (apart (value_order v v) (value_order v v) (tied_itself order_total v) refl, tt))
least_is_first v (w ∷ vs) =
    let rest = least_is_first (lesser v w) vs in
    let two = both_behind v w (fold lesser (lesser v w) vs) (is_lt (value_order w v)) refl rest.1.0 in
    (one_of_two (is_lt (value_order w v)) v w (fold lesser (lesser v w) vs) vs rest.0, (two.0, (two.1, rest.1.1)))

pub greatest_is_last : GreatestIsLast
greatest_is_last v [] = (inl refl, (apart_too (value_order v v) (value_order v v) (tied_itself order_total v) refl, tt))
greatest_is_last v (w ∷ vs) =
    let rest = greatest_is_last (greater v w) vs in
    let two = both_before v w (fold greater (greater v w) vs) (is_gt (value_order w v)) refl rest.1.0 in
    (one_of_two (is_gt (value_order w v)) v w (fold greater (greater v w) vs) vs rest.0, (two.0, (two.1, rest.1.1)))
