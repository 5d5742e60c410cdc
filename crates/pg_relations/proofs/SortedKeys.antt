-- However ORDER BY arranges some rows, their keys are one list.
use Rattle.std.proofs.Common.{◌≡◌, ◌≢◌, ℕ, ◌+◌, ◌<◌, Bool, true, false, cond, inl, inr, List, [], ◌∷◌, map, Result, Ok, Err, Ordering, Equal, Less, Greater, refl, sym, ap, subst, ◌∙◌, arith}
use Rattle.std.proofs.lemmas.List.Sorted.{IsPermutation-sym, IsPermutation-trans, IsPermutation-map, sum_by-IsPermutation}
use Rattle.std.proofs.lemmas.List.Sums.{sum_by-cons}
use Rattle.std.specs.Bool.{⊤}
use Rattle.std.specs.List.{AllByRecursion, AllZip, sum_by}
use Rattle.std.specs.List.Sorted.{IsPermutation}
use Rattle.std.specs.Ordering.{ordering_then, ordering_reverse}
use Rattle.pg_soundness.proofs.GroupKeys.{Key, same_exact}
use Rattle.pg_soundness.proofs.ProjectedParts.{same_itself}
use Rattle.pg_meaning.specs.AnswerLaws.{answers_zip}
use Rattle.pg_meaning.specs.Graph.{Graph}
use Rattle.pg_meaning.specs.Lists.{IsIn, AllPairsByRecursion}
use Rattle.pg_meaning.specs.ListsLaws.{all_at}
use Rattle.pg_meaning.specs.Meaning.{Arranged, keys_at}
use Rattle.pg_meaning.specs.Order.{value_order}
use Rattle.pg_meaning.specs.OrderLaws.{order_total, order_exact}
use Rattle.pg_meaning.specs.Projections.{Projected, same_values, sort_key, is_descending, directed, keys_order}
use Rattle.pg_meaning.specs.Scopes.{Column}
use Rattle.pg_meaning.specs.Tree.{SortItem}
use Rattle.pg_meaning.specs.Turns.{Given}
use Rattle.pg_meaning.specs.Value.{Value}
use Rattle.pg_meaning.specs.declared.fault.Fault.{Fault}
use Rattle.pg_relations.proofs.Lists.{zipped_map}
use Rattle.pg_relations.specs.Determined.{SortedKeysAreOne}

-- a value for each sort
abbrev HasKeys : List SortItem → Key → Type 0
HasKeys order k = AllZip (λ (o : SortItem) (v : Value). ⊤) order k

-- ---- keys of which none is greater are one

tie : (d : Bool) (r : Ordering) → ordering_then (directed d Equal) r ≡ r
tie true r = refl
tie false r = refl

one_above : (d : Bool) (r s : Ordering) → ordering_then (directed d Greater) r ≢ Greater → ordering_then (directed d Less) s ≢ Greater → ⊥
one_above true r s a b = b refl
one_above false r s a b = a refl

none_above : (order : List SortItem) (k l : Key) → HasKeys order k → HasKeys order l → keys_order order k l ≢ Greater → keys_order order l k ≢ Greater → k ≡ l
none_above [] [] [] z y a b = refl
none_above [] [] (w ∷ ws) z y a b = absurd y
none_above [] (v ∷ vs) l z y a b = absurd z
none_above (o ∷ os) [] l z y a b = absurd z
none_above (o ∷ os) (v ∷ vs) [] z y a b = absurd y
none_above (o ∷ os) (v ∷ vs) (w ∷ ws) z y a b = by_order (value_order w v) refl (none_above os vs ws z.1 y.1)
  where
    forth : (r : Ordering) → value_order v w ≡ r → ordering_then (directed (is_descending o.direction) r) (keys_order os vs ws) ≢ Greater
    forth r e g = a (ap (λ r. ordering_then (directed (is_descending o.direction) r) (keys_order os vs ws)) e ∙ g)

    back : (r : Ordering) → value_order w v ≡ r → ordering_then (directed (is_descending o.direction) r) (keys_order os ws vs) ≢ Greater
    back r e g = b (ap (λ r. ordering_then (directed (is_descending o.direction) r) (keys_order os ws vs)) e ∙ g)

    by_order : (r : Ordering) → value_order w v ≡ r → (keys_order os vs ws ≢ Greater → keys_order os ws vs ≢ Greater → vs ≡ ws) → v ∷ vs ≡ w ∷ ws
    by_order Equal e rest =
        let same = order_total.antisymm v w ∙ ap ordering_reverse e in
        let first = order_exact v w same in
        let later = rest (λ g. forth Equal same (tie (is_descending o.direction) (keys_order os vs ws) ∙ g)) (λ g. back Equal e (tie (is_descending o.direction) (keys_order os ws vs) ∙ g)) in
        λ i. first i ∷ later i
    by_order Less e rest = absurd (one_above (is_descending o.direction) (keys_order os vs ws) (keys_order os ws vs) (forth Greater (order_total.antisymm v w ∙ ap ordering_reverse e)) (back Less e))
    by_order Greater e rest = absurd (one_above (is_descending o.direction) (keys_order os ws vs) (keys_order os vs ws) (back Greater e) (forth Less (order_total.antisymm v w ∙ ap ordering_reverse e)))

-- ---- keys are counted

abbrev is_one : Key → Key → ℕ
is_one x y = cond (same_values y x) 1 0

counts_itself : (x : Key) → is_one x x ≡ 1
counts_itself x = ap (λ b. cond b 1 0) (same_itself x)

none_counted : (x : Key) → sum_by (is_one x) [] ≡ 0
none_counted x = refl

in_counted : (x : Key) (ys : List Key) → 0 < sum_by (is_one x) ys → IsIn x ys
in_counted x [] h = absurd (none (sum_by (is_one x) []) (none_counted x) h)
  where
    none : (n : ℕ) → n ≡ 0 → 0 < n → ⊥
    none n e h = omega (arith, e, h)
in_counted x (y ∷ ys) h = by_same (same_values y x) refl (in_counted x ys)
  where
    later : (a b c : ℕ) → a ≡ b + c → b ≡ 0 → 0 < a → 0 < c
    later a b c e f h = omega (arith, e, f, h)

    by_same : (b : Bool) → same_values y x ≡ b → (0 < sum_by (is_one x) ys → IsIn x ys) → IsIn x (y ∷ ys)
    by_same true t rest = inl (sym (same_exact y x t))
    by_same false t rest = inr (rest (later (sum_by (is_one x) (y ∷ ys)) (is_one x y) (sum_by (is_one x) ys) (sum_by-cons (is_one x) y ys) (ap (λ b. cond b 1 0) t) h))

counted_first : (x : Key) (xs : List Key) → 0 < sum_by (is_one x) (x ∷ xs)
counted_first x xs = some (sum_by (is_one x) (x ∷ xs)) (is_one x x) (sum_by (is_one x) xs) (sum_by-cons (is_one x) x xs) (counts_itself x)
  where
    some : (a b c : ℕ) → a ≡ b + c → b ≡ 1 → 0 < a
    some a b c e f = omega (arith, e, f)

-- ---- rising lists of the same keys are one

abbrev Rises : List SortItem → List Key → Type 0
Rises order ks = AllPairsByRecursion (λ k l. keys_order order k l ≢ Greater) ks

one_rising : (order : List SortItem) (xs ys : List Key) → AllByRecursion (HasKeys order) xs → AllByRecursion (HasKeys order) ys → Rises order xs → Rises order ys → ((z : Key) → sum_by (is_one z) ys ≡ sum_by (is_one z) xs) → xs ≡ ys
one_rising order [] [] f g h k same = refl
one_rising order [] (y ∷ ys) f g h k same = absurd (in_counted y [] (subst (λ n. 0 < n) (same y) (counted_first y ys)))
one_rising order (x ∷ xs) [] f g h k same = absurd (in_counted x [] (subst (λ n. 0 < n) (sym (same x)) (counted_first x xs)))
one_rising order (x ∷ xs) (y ∷ ys) f g h k same =
    let first = by_place (in_counted x (y ∷ ys) (subst (λ n. 0 < n) (sym (same x)) (counted_first x xs))) (in_counted y (x ∷ xs) (subst (λ n. 0 < n) (same y) (counted_first y ys))) in
    let later =
    one_rising order xs ys f.1 g.1 h.1 k.1
    (λ z. left_over (sum_by (is_one z) (y ∷ ys)) (sum_by (is_one z) (x ∷ xs)) (is_one z y) (is_one z x) (sum_by (is_one z) ys) (sum_by (is_one z) xs) (sum_by-cons (is_one z) y ys) (sum_by-cons (is_one z) x xs) (same z) (ap (is_one z) first))
    in
    λ i. first i ∷ later i
  where
    left_over : (a b p q s t : ℕ) → a ≡ p + s → b ≡ q + t → a ≡ b → q ≡ p → s ≡ t
    left_over a b p q s t d e f g = omega (arith, d, e, f, g)

    by_place : IsIn x (y ∷ ys) → IsIn y (x ∷ xs) → x ≡ y
    by_place (inl e) j = e
    by_place (inr i) (inl e) = sym e
    by_place (inr i) (inr j) = none_above order x y f.0 g.0 (all_at (λ l. keys_order order x l ≢ Greater) y xs h.0 j) (all_at (λ l. keys_order order y l ≢ Greater) x ys k.0 i)

-- ---- ORDER BY

any_keys : {X : Type 0} (R : X → Value → Type 0) (xs : List X) (vs : List Value) → AllZip R xs vs → AllZip (λ (x : X) (v : Value). ⊤) xs vs
any_keys R [] [] z = tt
any_keys R [] (v ∷ vs) z = absurd z
any_keys R (x ∷ xs) [] z = absurd z
any_keys R (x ∷ xs) (v ∷ vs) z = (tt, any_keys R xs vs z.1)

module _ (g : Given) (graph : Graph) (columns : List Column) (order : List SortItem) where
  abbrev IsKeyOf : Projected → Key → Type 0
  IsKeyOf p k = keys_at g graph columns order p ≡ Ok k

  abbrev key_of : Projected → Key
  key_of p = elim (keys_at g graph columns order p) [ Ok k ↦ k | Err f ↦ [] ]

  abbrev key_in : Result Key Fault → Key
  key_in r = elim r [ Ok k ↦ k | Err f ↦ [] ]

  all_have : (ps : List Projected) (ks : List Key) → AllZip IsKeyOf ps ks → AllByRecursion (HasKeys order) ks
  all_have [] [] z = tt
  all_have [] (k ∷ ks) z = absurd z
  all_have (p ∷ ps) [] z = absurd z
  all_have (p ∷ ps) (k ∷ ks) z = (any_keys (λ o v. sort_key g.parameters graph columns p o ≡ Ok v) order k (answers_zip (sort_key g.parameters graph columns p) order k z.0), all_have ps ks z.1)

  keys_are : (ps : List Projected) (ks : List Key) → AllZip IsKeyOf ps ks → ks ≡ map key_of ps
  keys_are = zipped_map IsKeyOf key_of (λ p k e. sym (ap key_in e))

  one_keys : (all sorted others : List Projected) → (a : Arranged g graph columns order all sorted) → (b : Arranged g graph columns order all others) → a.keys ≡ b.keys
  one_keys all sorted others a b =
      let ka = answers_zip (keys_at g graph columns order) sorted a.keys a.evaluated in
      let kb = answers_zip (keys_at g graph columns order) others b.keys b.evaluated in
      let rows = IsPermutation-trans sorted all others (IsPermutation-sym all sorted a.same) b.same in
      let keys = subst (λ ks. IsPermutation ks b.keys) (sym (keys_are sorted a.keys ka)) (subst (IsPermutation (map key_of sorted)) (sym (keys_are others b.keys kb)) (IsPermutation-map key_of sorted others rows)) in
      one_rising order a.keys b.keys (all_have sorted a.keys ka) (all_have others b.keys kb) a.rising b.rising (λ z. sum_by-IsPermutation (is_one z) a.keys b.keys keys)

pub sorted_keys_are_one : SortedKeysAreOne
sorted_keys_are_one g graph columns order all sorted others a b = one_keys g graph columns order all sorted others a b
