-- ORDER BY: the sort is a permutation of its rows, and its keys rise.
use Rattle.std.proofs.Common.{◌≡◌, ◌≢◌, Bool, true, false, cond, ◌⊎◌, inl, inr, List, [], ◌∷◌, map, Result, Ok, Err, Ordering, Less, Equal, Greater, refl, sym, ap, subst, ◌∙◌, true≢false}
use Rattle.std.proofs.lemmas.Cmp.{upto, on_total, then_total, back_total}
use Rattle.std.proofs.lemmas.List.Sorted.{IsPermutation-refl, IsPermutation-trans, IsPermutation-cons, IsPermutation-middle, IsPermutation-map}
use Rattle.std.specs.Bool.{⊤}
use Rattle.std.specs.Cmp.{IsTotalOrder}
use Rattle.std.specs.List.{AllByRecursion}
use Rattle.std.specs.List.Sorted.{IsPermutation}
use Rattle.std.specs.Ordering.{ordering_then, ordering_reverse, is_gt}
use Rattle.pg_meaning.specs.Agreement.{given_in}
use Rattle.pg_meaning.specs.Answer.{◌>>=◌, each_answer}
use Rattle.pg_meaning.specs.AnswerLaws.{went_well, went_wrong, same_ok, answers_fault}
use Rattle.pg_meaning.specs.Graph.{Graph}
use Rattle.pg_meaning.specs.Lists.{IsIn, AllPairsByRecursion}
use Rattle.pg_meaning.specs.ListsLaws.{all_weaker}
use Rattle.pg_meaning.specs.Meaning.{keys_at, Sorted}
use Rattle.pg_meaning.specs.Meters.{Setting}
use Rattle.pg_meaning.specs.Order.{value_order}
use Rattle.pg_meaning.specs.OrderLaws.{order_total}
use Rattle.pg_meaning.specs.Projections.{Projected, is_descending, directed, sort_key, keyed, keys_order, insert_keyed, sorted_keyed, ordered_rows}
use Rattle.pg_meaning.specs.Scopes.{Column}
use Rattle.pg_meaning.specs.Tree.{SortItem}
use Rattle.pg_meaning.specs.Value.{Value, null}
use Rattle.pg_meaning.specs.declared.fault.Fault.{Fault}

-- ---- the order of keys

directed_total : (b : Bool) → IsTotalOrder (λ v w. directed b (value_order v w))
directed_total true = subst IsTotalOrder (λ i v w. order_total.antisymm w v i) (back_total order_total)
directed_total false = order_total

abbrev first_key : List Value → Value
first_key [] = null
first_key (v ∷ vs) = v

abbrev other_keys : List Value → List Value
other_keys [] = []
other_keys (v ∷ vs) = vs

-- over lists of any length
abbrev whole_order : List SortItem → List Value → List Value → Ordering
whole_order [] vs ws = Equal
whole_order (o ∷ os) vs ws = ordering_then (directed (is_descending o.direction) (value_order (first_key vs) (first_key ws))) (whole_order os (other_keys vs) (other_keys ws))

equal_total : IsTotalOrder (λ (vs ws : List Value). Equal)
equal_total = record { antisymm = λ x y. refl; trans = λ x y z p q. p; congr = λ x y z p. refl }

whole_total : (order : List SortItem) → IsTotalOrder (whole_order order)
whole_total [] = equal_total
whole_total (o ∷ os) = then_total (on_total first_key (directed_total (is_descending o.direction))) (on_total other_keys (whole_total os))

-- a key for each sort
abbrev HasKeys : List SortItem → List Value → Type 0
HasKeys [] [] = ⊤
HasKeys [] (v ∷ vs) = ⊥
HasKeys (o ∷ os) [] = ⊥
HasKeys (o ∷ os) (v ∷ vs) = HasKeys os vs

same_order : (order : List SortItem) (vs ws : List Value) → HasKeys order vs → HasKeys order ws → keys_order order vs ws ≡ whole_order order vs ws
same_order [] vs ws g h = refl
same_order (o ∷ os) [] ws g h = absurd g
same_order (o ∷ os) (v ∷ vs) [] g h = absurd h
same_order (o ∷ os) (v ∷ vs) (w ∷ ws) g h = ap (ordering_then (directed (is_descending o.direction) (value_order v w))) (same_order os vs ws g h)

-- ---- the sort

abbrev Keyed : Type 0
Keyed = List Value × Projected

module _ (order : List SortItem) where
  abbrev NotAbove : Keyed → Keyed → Type 0
  NotAbove k l = is_gt (whole_order order k.0 l.0) ≡ false

  turned : (x y : Keyed) (o : Ordering) → whole_order order x.0 y.0 ≡ o → is_gt o ≡ true → NotAbove y x
  turned x y Less e h = absurd (true≢false (sym h))
  turned x y Equal e h = absurd (true≢false (sym h))
  turned x y Greater e h = ap is_gt ((whole_total order).antisymm y.0 x.0 ∙ ap ordering_reverse e)

  all_inserted : (P : Keyed → Type 0) (x : Keyed) (ys : List Keyed) → P x → AllByRecursion P ys → AllByRecursion P (insert_keyed order x ys)
  all_inserted P x [] p h = (p, tt)
  all_inserted P x (y ∷ ys) p h =
      elim (is_gt (keys_order order x.0 y.0)) as (λ b. AllByRecursion P (cond b (y ∷ insert_keyed order x ys) (x ∷ y ∷ ys))) [
        | true ↦ (h.0, all_inserted P x ys p h.1)
        | false ↦ (p, h)
      ]

  all_sorted : (P : Keyed → Type 0) (xs : List Keyed) → AllByRecursion P xs → AllByRecursion P (sorted_keyed order xs)
  all_sorted P [] h = tt
  all_sorted P (x ∷ xs) h = all_inserted P x (sorted_keyed order xs) h.0 (all_sorted P xs h.1)

  insert_rises : (x : Keyed) (ys : List Keyed) → HasKeys order x.0 → AllByRecursion (λ (k : Keyed). HasKeys order k.0) ys → AllPairsByRecursion NotAbove ys → AllPairsByRecursion NotAbove (insert_keyed order x ys)
  insert_rises x [] f fs h = (tt, tt)
  insert_rises x (y ∷ ys) f fs h =
      let same = same_order order x.0 y.0 f fs.0 in
      elim (is_gt (keys_order order x.0 y.0)) as (λ b. is_gt (keys_order order x.0 y.0) ≡ b → AllPairsByRecursion NotAbove (cond b (y ∷ insert_keyed order x ys) (x ∷ y ∷ ys))) [
        | true ↦ λ e. (all_inserted (NotAbove y) x ys (turned x y (whole_order order x.0 y.0) refl (ap is_gt (sym same) ∙ e)) h.0, insert_rises x ys f fs.1 h.1)
        | false ↦ λ e. let near : NotAbove x y = ap is_gt (sym same) ∙ e in ((near, all_weaker (NotAbove y) (NotAbove x) (λ z far. upto (whole_total order) x.0 y.0 z.0 near far) ys h.0), h)
      ] refl

  sort_rises : (xs : List Keyed) → AllByRecursion (λ (k : Keyed). HasKeys order k.0) xs → AllPairsByRecursion NotAbove (sorted_keyed order xs)
  sort_rises [] h = tt
  sort_rises (x ∷ xs) h = insert_rises x (sorted_keyed order xs) h.0 (all_sorted (λ (k : Keyed). HasKeys order k.0) xs h.1) (sort_rises xs h.1)

  insert_moves : (x : Keyed) (ys : List Keyed) → IsPermutation (x ∷ ys) (insert_keyed order x ys)
  insert_moves x [] = IsPermutation-refl (x ∷ [])
  insert_moves x (y ∷ ys) =
      elim (is_gt (keys_order order x.0 y.0)) as (λ b. IsPermutation (x ∷ y ∷ ys) (cond b (y ∷ insert_keyed order x ys) (x ∷ y ∷ ys))) [
        | true ↦ IsPermutation-trans (x ∷ y ∷ ys) (y ∷ x ∷ ys) (y ∷ insert_keyed order x ys) (IsPermutation-middle (x ∷ []) y ys) (IsPermutation-cons y (x ∷ ys) (insert_keyed order x ys) (insert_moves x ys))
        | false ↦ IsPermutation-refl (x ∷ y ∷ ys)
      ]

  sort_moves : (xs : List Keyed) → IsPermutation xs (sorted_keyed order xs)
  sort_moves [] = IsPermutation-refl []
  sort_moves (x ∷ xs) = IsPermutation-trans (x ∷ xs) (x ∷ sorted_keyed order xs) (insert_keyed order x (sorted_keyed order xs)) (IsPermutation-cons x xs (sorted_keyed order xs) (sort_moves xs)) (insert_moves x (sorted_keyed order xs))

  -- no later key stands before an earlier one
  keys_rise : (ks : List Keyed) → AllByRecursion (λ (k : Keyed). HasKeys order k.0) ks → AllPairsByRecursion NotAbove ks → AllPairsByRecursion (λ k l. keys_order order k l ≢ Greater) (map (λ (k : Keyed). k.0) ks)
  keys_rise [] f h = tt
  keys_rise (k ∷ ks) f h = (later ks f.1 h.0, keys_rise ks f.1 h.1)
    where
      later : (ls : List Keyed) → AllByRecursion (λ (l : Keyed). HasKeys order l.0) ls → AllByRecursion (NotAbove k) ls → AllByRecursion (λ l. keys_order order k.0 l ≢ Greater) (map (λ (l : Keyed). l.0) ls)
      later [] fs hs = tt
      later (l ∷ ls) fs hs = ((λ e. true≢false (sym (ap is_gt (sym (same_order order k.0 l.0 f.0 fs.0) ∙ e)) ∙ hs.0)), later ls fs.1 hs.1)

-- ---- ORDER BY

has_keys : (f : SortItem → Result Value Fault) (order : List SortItem) (vs : List Value) → each_answer f order ≡ Ok vs → HasKeys order vs
has_keys f [] vs e = subst (HasKeys []) (same_ok [] vs e) tt
has_keys f (o ∷ os) vs e =
    let first = went_well (f o) (λ v. each_answer f os >>= λ ws. Ok (v ∷ ws)) vs e in
    let rest = went_well (each_answer f os) (λ ws. Ok (first.0 ∷ ws)) vs first.2 in
    subst (HasKeys (o ∷ os)) (same_ok (first.0 ∷ rest.0) vs rest.2) (has_keys f os rest.0 rest.1)

module _ (s : Setting) (graph : Graph) (columns : List Column) (order : List SortItem) where
  -- beside its keys
  IsKeyed : Keyed → Type 0
  IsKeyed k = keys_at (given_in s) graph columns order k.1 ≡ Ok k.0

  keyed_is : (p : Projected) (k : Keyed) → keyed s graph columns order p ≡ Ok k → (p ≡ k.1) × IsKeyed k
  unfolding IsKeyed
  keyed_is p k e =
      let keys = went_well (keys_at (given_in s) graph columns order p) (λ vs. Ok (vs, p)) k e in
      let same = same_ok (keys.0, p) k keys.2 in
      (ap (λ (l : Keyed). l.1) same, subst (λ (l : Keyed). keys_at (given_in s) graph columns order l.1 ≡ Ok l.0) same keys.1)

  all_keyed : (ps : List Projected) (ks : List Keyed) → each_answer (keyed s graph columns order) ps ≡ Ok ks → (ps ≡ map (λ (k : Keyed). k.1) ks) × AllByRecursion IsKeyed ks
  all_keyed [] ks e = let same = same_ok [] ks e in (ap (map (λ (k : Keyed). k.1)) same, subst (AllByRecursion IsKeyed) same tt)
  all_keyed (p ∷ ps) ks e =
      let first = went_well (keyed s graph columns order p) (λ k. each_answer (keyed s graph columns order) ps >>= λ ls. Ok (k ∷ ls)) ks e in
      let rest = went_well (each_answer (keyed s graph columns order) ps) (λ ls. Ok (first.0 ∷ ls)) ks first.2 in
      let same = same_ok (first.0 ∷ rest.0) ks rest.2 in
      let here = keyed_is p first.0 first.1 in
      let more = all_keyed ps rest.0 rest.1 in
      ((λ i. here.0 i ∷ more.0 i) ∙ ap (map (λ (k : Keyed). k.1)) same, subst (AllByRecursion IsKeyed) same (here.1, more.1))

  keys_again : (ks : List Keyed) → AllByRecursion IsKeyed ks → each_answer (keys_at (given_in s) graph columns order) (map (λ (k : Keyed). k.1) ks) ≡ Ok (map (λ (k : Keyed). k.0) ks)
  unfolding IsKeyed
  keys_again [] h = refl
  keys_again (k ∷ ks) h =
      ap (λ r. r >>= λ v. each_answer (keys_at (given_in s) graph columns order) (map (λ (k : Keyed). k.1) ks) >>= λ vs. Ok (v ∷ vs)) h.0
      ∙ ap (λ r. r >>= λ vs. Ok (k.0 ∷ vs)) (keys_again ks h.1)

  all_have_keys : (ks : List Keyed) → AllByRecursion IsKeyed ks → AllByRecursion (λ (k : Keyed). HasKeys order k.0) ks
  unfolding IsKeyed
  all_have_keys ks h = all_weaker IsKeyed (λ (k : Keyed). HasKeys order k.0) (λ k e. has_keys (sort_key s.parameters graph columns k.1) order k.0 e) ks h

module _ (s : Setting) (graph : Graph) (columns : List Column) where
  pub sort_agrees : (order : List SortItem) (ps sorted : List Projected) → ordered_rows s graph columns order ps ≡ Ok sorted → Sorted (given_in s) graph columns order ps sorted
  sort_agrees [] ps sorted e = sym (same_ok ps sorted e)
  sort_agrees (o ∷ os) ps sorted e =
      let order = o ∷ os in
      let keys = went_well (each_answer (keyed s graph columns order) ps) (λ ks. Ok (map (λ (k : Keyed). k.1) (sorted_keyed order ks))) sorted e in
      let all = all_keyed s graph columns order ps keys.0 keys.1 in
      let again = all_sorted order (IsKeyed s graph columns order) keys.0 all.1 in
      let have = all_have_keys s graph columns order keys.0 all.1 in
      subst (Sorted (given_in s) graph columns order ps) (same_ok (map (λ (k : Keyed). k.1) (sorted_keyed order keys.0)) sorted keys.2) (record {
        same = subst (λ qs. IsPermutation qs (map (λ (k : Keyed). k.1) (sorted_keyed order keys.0))) (sym all.0) (IsPermutation-map (λ (k : Keyed). k.1) keys.0 (sorted_keyed order keys.0) (sort_moves order keys.0));
        keys = map (λ (k : Keyed). k.0) (sorted_keyed order keys.0);
        evaluated = keys_again s graph columns order (sorted_keyed order keys.0) again;
        rising = keys_rise order (sorted_keyed order keys.0) (all_sorted order (λ (k : Keyed). HasKeys order k.0) keys.0 have) (sort_rises order keys.0 have);
      })

  -- what holds of each row holds of each in another order
  pub all_ordered : (P : Projected → Type 0) (order : List SortItem) (ps sorted : List Projected) → ordered_rows s graph columns order ps ≡ Ok sorted → AllByRecursion P ps → AllByRecursion P sorted
  all_ordered P [] ps sorted e h = subst (AllByRecursion P) (same_ok ps sorted e) h
  all_ordered P (o ∷ os) ps sorted e h =
      let order = o ∷ os in
      let keys = went_well (each_answer (keyed s graph columns order) ps) (λ ks. Ok (map (λ (k : Keyed). k.1) (sorted_keyed order ks))) sorted e in
      let all = all_keyed s graph columns order ps keys.0 keys.1 in
      subst (AllByRecursion P) (same_ok (map (λ (k : Keyed). k.1) (sorted_keyed order keys.0)) sorted keys.2)
      (into (sorted_keyed order keys.0) (all_sorted order (λ (k : Keyed). P k.1) keys.0 (out keys.0 (subst (AllByRecursion P) all.0 h))))
    where
      out : (ks : List Keyed) → AllByRecursion P (map (λ (k : Keyed). k.1) ks) → AllByRecursion (λ (k : Keyed). P k.1) ks
      out [] h = tt
      out (k ∷ ks) h = (h.0, out ks h.1)

      into : (ks : List Keyed) → AllByRecursion (λ (k : Keyed). P k.1) ks → AllByRecursion P (map (λ (k : Keyed). k.1) ks)
      into [] h = tt
      into (k ∷ ks) h = (h.0, into ks h.1)

  pub sort_fault : (order : List SortItem) (ps : List Projected) (f : Fault) → ordered_rows s graph columns order ps ≡ Err f → (r : Projected) × IsIn r ps × (keys_at (given_in s) graph columns order r ≡ Err f)
  sort_fault [] ps f e = cc
  sort_fault (o ∷ os) ps f e = by_keys (went_wrong (each_answer (keyed s graph columns (o ∷ os)) ps) (λ ks. Ok (map (λ (k : Keyed). k.1) (sorted_keyed (o ∷ os) ks))) f e)
    where
      of_row : (r : Projected) → (keys_at (given_in s) graph columns (o ∷ os) r ≡ Err f) ⊎ ((vs : List Value) × (keys_at (given_in s) graph columns (o ∷ os) r ≡ Ok vs) × (◌≡◌ {A = Result Keyed Fault} (Ok (vs, r)) (Err f))) → keys_at (given_in s) graph columns (o ∷ os) r ≡ Err f
      of_row r (inl h) = h
      of_row r (inr h) = let impossible = h.2 in cc

      by_keys : (each_answer (keyed s graph columns (o ∷ os)) ps ≡ Err f) ⊎ ((ks : List Keyed) × (each_answer (keyed s graph columns (o ∷ os)) ps ≡ Ok ks) × (◌≡◌ {A = Result (List Projected) Fault} (Ok (map (λ (k : Keyed). k.1) (sorted_keyed (o ∷ os) ks))) (Err f)))
          → (r : Projected) × IsIn r ps × (keys_at (given_in s) graph columns (o ∷ os) r ≡ Err f)
      by_keys (inl h) = let found = answers_fault (keyed s graph columns (o ∷ os)) ps f h in (found.0, found.1, of_row found.0 (went_wrong (keys_at (given_in s) graph columns (o ∷ os) found.0) (λ vs. Ok (vs, found.0)) f found.2))
      by_keys (inr h) = let impossible = h.2 in cc
