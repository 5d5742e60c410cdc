-- A call's tests in their order.
use Rattle.std.proofs.Common.{◌≡◌, ◌+◌, ℤ, pos, negsuc, zero, suc, true, false, List, [], ◌∷◌, ◌++◌, length, Result, Ok, Err, refl, ap, sym, subst, Bool, arith, ◌∙◌}
use Rattle.std.specs.Prelude.{◌≢◌, ◌||◌, ◌-ℤ◌, nat_le}
use Rattle.pg_expr.specs.Calls.{given_range, is_range, range_sized, sized, IsNotOne}
use Rattle.pg_expr.specs.Contexts.{found_view, founds_view}
use Rattle.pg_expr.specs.declared.value_ref.ValueRef.{ValueRef}
use Rattle.pg_meaning.specs.Answer.{Answer, ◌>>=◌}
use Rattle.pg_meaning.specs.Functions.{Function, applied, function_at, has_deleted, has_null, integers_from, integers_of, is_deleted, is_null, range_by, range_over, size_of, steps_within}
use Rattle.pg_meaning.specs.Functions as function
use Rattle.pg_meaning.specs.Graph.{Graph}
use Rattle.pg_meaning.specs.Measure.{greatest_weight, made}
use Rattle.pg_meaning.specs.Value.{Value, Values, null, list, text, item, no_items}
use Rattle.pg_meaning.specs.declared.fault.Fault.TheVariants.{DeletedEntity, UnknownFunction, ValueTooLarge}
use Rattle.pg_meaning.specs.declared.fault.Fault.{Fault}
use Rattle.pg_expr_calls.proofs.RangeSizes.{made_range}

module _ (g : Graph) (f : Function) (vs : Values) where
  abbrev whole : Answer
  whole = function_at g f vs >>= made

  abbrev tested : Bool → Bool → Answer
  tested b c = elim b [ true ↦ Err DeletedEntity | false ↦ elim c [ true ↦ Ok null | false ↦ whole ] ]

  pub when_deleted : has_deleted g vs ≡ true → applied g f vs ≡ Err DeletedEntity
  when_deleted h = let P : Bool → Type 0 = λ b. tested b (has_null vs) ≡ Err DeletedEntity in subst P (sym h) refl

  pub when_null : has_deleted g vs ≡ false → has_null vs ≡ true → applied g f vs ≡ Ok null
  when_null h k =
      let Q : Bool → Type 0 = λ c. tested false c ≡ Ok null in
      let P : Bool → Type 0 = λ b. tested b (has_null vs) ≡ Ok null in
      let inner : Q (has_null vs) = subst Q (sym k) refl in
      subst P (sym h) inner

  pub when_whole : has_deleted g vs ≡ false → has_null vs ≡ false → applied g f vs ≡ whole
  when_whole h k =
      let Q : Bool → Type 0 = λ c. tested false c ≡ whole in
      let P : Bool → Type 0 = λ b. tested b (has_null vs) ≡ whole in
      let inner : Q (has_null vs) = subst Q (sym k) refl in
      subst P (sym h) inner

pub not_one : (g : Graph) (f : Function) (vs : Values) → is_range f ≡ false → IsNotOne vs → function_at g f vs ≡ Err UnknownFunction
not_one g function.range vs h e = absurd (cc)
not_one g function.id vs h e = e _
not_one g function.labels vs h e = e _
not_one g function.type vs h e = e _
not_one g function.keys vs h e = e _
not_one g function.properties vs h e = e _
not_one g function.size vs h e = e _
not_one g function.length vs h e = e _
not_one g function.nodes vs h e = e _
not_one g function.relationships vs h e = e _
not_one g function.head vs h e = e _
not_one g function.last vs h e = e _
not_one g function.coalesce vs h e = e _
not_one g function.to_string vs h e = e _
not_one g function.to_integer vs h e = e _
not_one g function.abs vs h e = e _
not_one g function.start_node vs h e = e _
not_one g function.end_node vs h e = e _

pub other_count : (fs : List ValueRef) → length fs ≢ 1 → IsNotOne (founds_view fs)
other_count [] h f = refl
other_count (x ∷ []) h f = absurd (h refl)
other_count (x ∷ y ∷ fs) h f = refl

pub one_left : (fs rest : List ValueRef) (x : ValueRef) → fs ≡ rest ++ x ∷ [] → length fs ≡ 1 → founds_view fs ≡ item (found_view x) no_items
one_left fs [] x e h = ap founds_view e
one_left fs (y ∷ []) x e h = let both = ap length e in absurd (omega arith)
one_left fs (y ∷ z ∷ rest) x e h = let both = ap length e in absurd (omega arith)

-- ---- range

over_made : (is : List ℤ) → (range_over is >>= made) ≡ range_over is
over_made [] = refl
over_made (a ∷ []) = refl
over_made (a ∷ b ∷ []) = made_range a b (pos 1)
over_made (a ∷ b ∷ c ∷ []) = made_range a b c
over_made (a ∷ b ∷ c ∷ d ∷ is) = refl

pub ranged : (r : Result (List ℤ) Fault) → ((r >>= range_over) >>= made) ≡ (r >>= range_over)
ranged (Ok is) = over_made is
ranged (Err e) = refl

pub range_when_whole : (g : Graph) (vs : Values) → has_deleted g vs ≡ false → has_null vs ≡ false → applied g function.range vs ≡ given_range vs
range_when_whole g vs h k = when_whole g function.range vs h k ∙ ranged (integers_of vs)

-- ---- size

or_false : (b : Bool) → (b || false) ≡ b
or_false true = refl
or_false false = refl

made_size : (v : Value) → (size_of v >>= made) ≡ size_of v
made_size (list vs) = refl
made_size (text s) = refl
made_size v = refl

module _ (g : Graph) (v : Value) where
  pub sized_deleted : is_deleted g v ≡ true → sized g v ≡ Err DeletedEntity
  sized_deleted h = when_deleted g function.size (item v no_items) (or_false (is_deleted g v) ∙ h)

  pub sized_null : is_deleted g v ≡ false → is_null v ≡ true → sized g v ≡ Ok null
  sized_null h k = when_null g function.size (item v no_items) (or_false (is_deleted g v) ∙ h) (or_false (is_null v) ∙ k)

  pub sized_whole : is_deleted g v ≡ false → is_null v ≡ false → sized g v ≡ size_of v
  sized_whole h k = when_whole g function.size (item v no_items) (or_false (is_deleted g v) ∙ h) (or_false (is_null v) ∙ k) ∙ made_size v

module _ (g : Graph) where
  abbrev perhaps_list : Bool → Values → Answer
  perhaps_list b vs = elim b [ true ↦ Ok (list vs) | false ↦ Err ValueTooLarge ]

  sized_list : (b : Bool) (vs : Values) → (perhaps_list b vs >>= sized g) ≡ (perhaps_list b vs >>= size_of)
  sized_list true vs = refl
  sized_list false vs = refl

  sized_by : (start end step : ℤ) → (range_by start end step >>= sized g) ≡ (range_by start end step >>= size_of)
  sized_by start end (pos zero) = refl
  sized_by start end (pos (suc s)) = let n = steps_within (end -ℤ start) (pos (suc s)) in sized_list (nat_le (1 + n) greatest_weight) (integers_from n start (pos (suc s)))
  sized_by start end (negsuc s) = let n = steps_within (end -ℤ start) (negsuc s) in sized_list (nat_le (1 + n) greatest_weight) (integers_from n start (negsuc s))

  sized_over : (is : List ℤ) → (range_over is >>= sized g) ≡ (range_over is >>= size_of)
  sized_over [] = refl
  sized_over (a ∷ []) = refl
  sized_over (a ∷ b ∷ []) = sized_by a b (pos 1)
  sized_over (a ∷ b ∷ c ∷ []) = sized_by a b c
  sized_over (a ∷ b ∷ c ∷ d ∷ is) = refl

  sized_range : (r : Result (List ℤ) Fault) → ((r >>= range_over) >>= sized g) ≡ ((r >>= range_over) >>= size_of)
  sized_range (Ok is) = sized_over is
  sized_range (Err e) = refl

  pub range_sized_whole : (vs : Values) → has_deleted g vs ≡ false → has_null vs ≡ false → range_sized g vs ≡ (given_range vs >>= size_of)
  range_sized_whole vs h k = ap (λ r. r >>= sized g) (range_when_whole g vs h k) ∙ sized_range (integers_of vs)
