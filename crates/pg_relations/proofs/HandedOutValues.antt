-- What is made of values whose ids were handed out is one.
use Rattle.std.proofs.Common.{◌≡◌, ℕ, zero, suc, nat_le, Bool, true, false, cond, ℤ, pos, negsuc, ◌+ℤ◌, ◌-ℤ◌, List, [], ◌∷◌, Option, Some, None, Result, Ok, Err, Ordering, Less, Equal, Greater, refl, ap, subst}
use Rattle.std.specs.Prelude.{◌*ℤ◌, neg_ℤ, int_div, int_rem, bytes_eq, unwrap_or}
use Rattle.std.specs.Ordering.{match_ordering}
use Rattle.std.specs.Bool.{⊤}
use Rattle.pg_meaning.specs.Answer.{◌>>=◌}
use Rattle.pg_meaning.specs.Arithmetic.{is_in_range, checked, appended, plus, minus, times, divide, modulo, signed}
use Rattle.pg_meaning.specs.Entries.{at_key, value_at, with_entry}
use Rattle.pg_meaning.specs.Expressions.{by_truth, combined, all_signed, on_texts, is_in, tested, item_of}
use Rattle.pg_meaning.specs.Functions.{item_count, item_at, path_nodes, nodes_behind, path_relationships, relationships_behind, steps_within, integers_from, range_by, range_over, texts}
use Rattle.pg_meaning.specs.Graph.{Graph}
use Rattle.pg_meaning.specs.Logic.{and3, or3, xor3, value_of_truth, truth_of}
use Rattle.pg_meaning.specs.Measure.{is_within_limits, made}
use Rattle.pg_meaning.specs.Order.{text_order}
use Rattle.pg_meaning.specs.Value.{Value, null, integer, text, list, Values, no_items, item, Entries, no_entries, entry}
use Rattle.pg_meaning.specs.declared.fault.Fault.{Fault}
use Rattle.pg_meaning.specs.declared.fault.Fault.TheVariants.{ValueTooLarge}
use Rattle.pg_meaning.specs.declared.logic.Tri.{Tri}
use Rattle.pg_meaning.specs.declared.logic.Tri.TheVariants.{True, False, Null}
use Rattle.pg_meaning.specs.declared.operators.Operator.{Operator}
use Rattle.pg_meaning.specs.declared.operators.Operator.TheVariants.{Or, Xor, And, Plus, Minus, Times, Divide, Modulo}
use Rattle.pg_meaning.specs.declared.operators.TextTest.{TextTest}
use Rattle.pg_meaning.specs.declared.operators.TextTest.TheVariants.{StartsWith, EndsWith, Contains, In}
use Rattle.pg_relations.specs.HandedOut.{PathHandedOut, RestHandedOut, IsHandedOut, ItemsHandedOut, EntriesHandedOut}

-- ---- two answers that are one, of which the value has a property

abbrev pub Has : {X : Type 0} → (X → Type 0) → Result X Fault → Type 0
Has P (Ok x) = P x
Has P (Err f) = ⊤

abbrev pub One : {X : Type 0} → (X → Type 0) → Result X Fault → Result X Fault → Type 0
One P r s = (r ≡ s) × Has P r

abbrev pub Any : {X : Type 0} → X → Type 0
Any x = ⊤

pub itself : {X : Type 0} (P : X → Type 0) (r : Result X Fault) → Has P r → One P r r
itself P r h = (refl, h)

pub any : {X : Type 0} (r : Result X Fault) → Has Any r
any (Ok x) = tt
any (Err f) = tt

module _ {X Y : Type 0} where
  pub has_then : (P : X → Type 0) (Q : Y → Type 0) (r : Result X Fault) (next : X → Result Y Fault) → Has P r → ((x : X) → P x → Has Q (next x)) → Has Q (r >>= next)
  has_then P Q (Ok x) next h f = f x h
  has_then P Q (Err g) next h f = tt

  pub one_then : (P : X → Type 0) (Q : Y → Type 0) (r s : Result X Fault) (next more : X → Result Y Fault) → One P r s → ((x : X) → P x → One Q (next x) (more x)) → One Q (r >>= next) (s >>= more)
  one_then P Q (Ok x) s next more h f = subst (λ t. One Q (next x) (t >>= more)) h.0 (f x h.1)
  one_then P Q (Err g) s next more h f = subst (λ t. One Q (Err g) (t >>= more)) h.0 (refl, tt)

pub if_has : {X : Type 0} (P : X → Type 0) (b : Bool) (x : X) (f : Fault) → P x → Has P (cond b (Ok x) (Err f))
if_has P true x f h = h
if_has P false x f h = tt

module _ (before : Graph) where
  abbrev pub Out : Value → Type 0
  Out = IsHandedOut before

  -- ---- values that are made

  pub made_out : (v : Value) → Out v → Has Out (made v)
  made_out v h = if_has Out (is_within_limits v) v ValueTooLarge h

  pub checked_out : (i : ℤ) → Has Out (checked i)
  checked_out i = if_has Out (is_in_range i) (integer i) _ tt

  pub value_out : (t : Tri) → Out (value_of_truth t)
  value_out True = tt
  value_out False = tt
  value_out Null = tt

  pub appended_out : (vs ws : Values) → ItemsHandedOut before vs → ItemsHandedOut before ws → ItemsHandedOut before (appended vs ws)
  appended_out no_items ws h k = k
  appended_out (item v vs) ws h k = (h.0, appended_out vs ws h.1 k)

  pub plus_out : (v w : Value) → Out v → Out w → Has Out (plus v w)
  plus_out null w h k = tt
  plus_out v null h k = tt
  plus_out (integer x) (integer y) h k = checked_out (x +ℤ y)
  plus_out (text x) (text y) h k = made_out (text _) tt
  plus_out (list xs) (list ys) h k = made_out (list (appended xs ys)) (appended_out xs ys h k)
  plus_out (list xs) w h k = made_out (list (appended xs (item w no_items))) (appended_out xs (item w no_items) h (k, tt))
  plus_out v (list ys) h k = made_out (list (item v ys)) (h, k)
  plus_out v w h k = tt

  pub minus_out : (v w : Value) → Has Out (minus v w)
  minus_out null w = tt
  minus_out v null = tt
  minus_out (integer x) (integer y) = checked_out (x -ℤ y)
  minus_out v w = tt

  pub times_out : (v w : Value) → Has Out (times v w)
  times_out null w = tt
  times_out v null = tt
  times_out (integer x) (integer y) = checked_out (x *ℤ y)
  times_out v w = tt

  pub divide_out : (v w : Value) → Has Out (divide v w)
  divide_out null w = tt
  divide_out v null = tt
  divide_out (integer x) (integer (pos zero)) = tt
  divide_out (integer x) (integer y) = checked_out (int_div x y)
  divide_out v w = tt

  pub modulo_out : (v w : Value) → Has Out (modulo v w)
  modulo_out null w = tt
  modulo_out v null = tt
  modulo_out (integer x) (integer (pos zero)) = tt
  modulo_out (integer x) (integer y) = checked_out (int_rem x y)
  modulo_out v w = tt

  pub signed_out : (b : Bool) (v : Value) → Has Out (signed b v)
  signed_out b null = tt
  signed_out true (integer i) = checked_out (neg_ℤ i)
  signed_out false (integer i) = tt
  signed_out b v = tt

  pub all_signed_out : (bs : List Bool) (v : Value) → Out v → Has Out (all_signed bs v)
  all_signed_out [] v h = h
  all_signed_out (b ∷ bs) v h = has_then Out Out (all_signed bs v) (signed b) (all_signed_out bs v h) (λ w k. signed_out b w)

  pub by_truth_out : (f : Tri → Tri → Tri) (v w : Value) → Has Out (by_truth f v w)
  by_truth_out f v w = has_then Any Out (truth_of v) _ (any (truth_of v)) (λ s k. has_then Any Out (truth_of w) _ (any (truth_of w)) (λ t l. value_out (f s t)))

  pub combined_out : (o : Operator) (v w : Value) → Out v → Out w → Has Out (combined o v w)
  combined_out Or v w h k = by_truth_out or3 v w
  combined_out Xor v w h k = by_truth_out xor3 v w
  combined_out And v w h k = by_truth_out and3 v w
  combined_out Plus v w h k = plus_out v w h k
  combined_out Minus v w h k = minus_out v w
  combined_out Times v w h k = times_out v w
  combined_out Divide v w h k = divide_out v w
  combined_out Modulo v w h k = modulo_out v w
  combined_out o v w h k = tt

  pub on_texts_out : (f : List ℕ → List ℕ → Bool) (v w : Value) → Has Out (on_texts f v w)
  on_texts_out f (text s) (text t) = tt
  on_texts_out f v w = tt

  pub is_in_out : (v w : Value) → Has Out (is_in v w)
  is_in_out v null = tt
  is_in_out v (list ws) = value_out _
  is_in_out v w = tt

  pub tested_out : (t : TextTest) (v w : Value) → Has Out (tested t v w)
  tested_out StartsWith v w = on_texts_out _ v w
  tested_out EndsWith v w = on_texts_out _ v w
  tested_out Contains v w = on_texts_out _ v w
  tested_out In v w = is_in_out v w

  -- ---- items and entries

  pub item_out : (n : ℕ) (vs : Values) → ItemsHandedOut before vs → Out (item_at n vs)
  item_out n no_items h = tt
  item_out zero (item v vs) h = h.0
  item_out (suc n) (item v vs) h = item_out n vs h.1

  pub place_out : (vs : Values) (i : ℤ) → ItemsHandedOut before vs → Out (item_of vs i)
  place_out vs (pos n) h = item_out n vs h
  place_out vs (negsuc n) h = by_test _ (nat_le (suc n) (item_count vs)) (item_out _ vs h)
    where
      by_test : (v : Value) (b : Bool) → Out v → Out (cond b v null)
      by_test v true h = h
      by_test v false h = tt

  pub found_out : (k : List ℕ) (es : Entries) (v : Value) → EntriesHandedOut before es → at_key k es ≡ Some v → Out v
  found_out k no_entries v h e = cc
  found_out k (entry l w es) v h e = by_key (bytes_eq k l) e (found_out k es v h.1)
    where
      by_key : (b : Bool) → cond b (Some w) (at_key k es) ≡ Some v → (at_key k es ≡ Some v → Out v) → Out v
      by_key true e rest = subst Out (ap (λ o. unwrap_or o null) e) h.0
      by_key false e rest = rest e

  pub value_at_out : (k : List ℕ) (es : Entries) → EntriesHandedOut before es → Out (value_at k es)
  value_at_out k es h = by_found (at_key k es) refl
    where
      by_found : (o : Option Value) → at_key k es ≡ o → Out (unwrap_or o null)
      by_found None e = tt
      by_found (Some v) e = found_out k es v h e

  pub put_out : (k : List ℕ) (v : Value) (es : Entries) → Out v → EntriesHandedOut before es → EntriesHandedOut before (with_entry k v es)
  put_out k v no_entries h all = (h, tt)
  put_out k v (entry l w es) h all = by_order (text_order k l) (put_out k v es h all.1)
    where
      by_order : (o : Ordering) → EntriesHandedOut before (with_entry k v es) → EntriesHandedOut before (match_ordering o (entry k v (entry l w es)) (entry k v es) (entry l w (with_entry k v es)))
      by_order Less rest = (h, all)
      by_order Equal rest = (h, all.1)
      by_order Greater rest = (all.0, rest)

  pub texts_out : (ts : List (List ℕ)) → Out (texts ts)
  texts_out [] = tt
  texts_out (t ∷ ts) = (tt, texts_out ts)

  mutual
    pub nodes_out : (ids : List ℕ) → PathHandedOut before ids → ItemsHandedOut before (path_nodes ids)
    nodes_out [] h = tt
    nodes_out (n ∷ ids) h = (h.0, behind_out ids h.1)

    pub behind_out : (ids : List ℕ) → RestHandedOut before ids → ItemsHandedOut before (nodes_behind ids)
    behind_out [] h = tt
    behind_out (r ∷ ids) h = nodes_out ids h.1

  mutual
    pub hops_out : (ids : List ℕ) → PathHandedOut before ids → ItemsHandedOut before (path_relationships ids)
    hops_out [] h = tt
    hops_out (n ∷ ids) h = hops_behind_out ids h.1

    pub hops_behind_out : (ids : List ℕ) → RestHandedOut before ids → ItemsHandedOut before (relationships_behind ids)
    hops_behind_out [] h = tt
    hops_behind_out (r ∷ ids) h = (h.0, hops_out ids h.1)

  pub integers_out : (n : ℕ) (i step : ℤ) → ItemsHandedOut before (integers_from n i step)
  integers_out zero i step = tt
  integers_out (suc n) i step = (tt, integers_out n (i +ℤ step) step)

  pub within_out : (n : ℕ) (start step : ℤ) (b : Bool) → Has Out (elim b as (λ b. Result Value Fault) [ true ↦ Ok (list (integers_from n start step)) | false ↦ Err ValueTooLarge ])
  within_out n start step true = integers_out n start step
  within_out n start step false = tt

  pub range_by_out : (start end step : ℤ) → Has Out (range_by start end step)
  range_by_out start end (pos zero) = tt
  range_by_out start end (pos (suc n)) = within_out (steps_within (end -ℤ start) (pos (suc n))) start (pos (suc n)) _
  range_by_out start end (negsuc n) = within_out (steps_within (end -ℤ start) (negsuc n)) start (negsuc n) _

  pub range_out : (is : List ℤ) → Has Out (range_over is)
  range_out [] = tt
  range_out (i ∷ []) = tt
  range_out (i ∷ j ∷ []) = range_by_out i j (pos 1)
  range_out (i ∷ j ∷ k ∷ []) = range_by_out i j k
  range_out (i ∷ j ∷ k ∷ l ∷ is) = tt
