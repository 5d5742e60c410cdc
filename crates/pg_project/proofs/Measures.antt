-- The limits of a list with one value more, from what the others weigh together and how deep they nest.
use Rattle.std.proofs.Common.{◌≡◌, ℕ, ◌+◌, ◌<◌, ◌-◌, ◌^◌, min, max, Bool, true, false, cond, List, [], ◌∷◌, ◌++◌, Result, Ok, Err, refl, ap, ◌∙◌, arith}
use Rattle.std.proofs.lemmas.Bool.{leb-true, leb-false, ltb-true, ltb-false}
use Rattle.std.specs.Prelude.{nat_le, nat_lt, ◌&&◌}
use Rattle.pg_project.specs.Summaries.{collected}
use Rattle.pg_meaning.specs.Measure.{weight_of, items_weight, depth_of, items_depth, is_within_limits}
use Rattle.pg_meaning.specs.Value.{Value, list, values_of}
use Rattle.pg_meaning.specs.declared.fault.Fault.{Fault}
use Rattle.pg_meaning.specs.declared.fault.Fault.TheVariants.{ValueTooLarge}

weight_with : (vs : List Value) (v : Value) → items_weight (values_of (vs ++ v ∷ [])) ≡ items_weight (values_of vs) + weight_of v
weight_with [] v = omega arith
weight_with (u ∷ us) v = let h = weight_with us v in omega arith

depth_with : (vs : List Value) (v : Value) → items_depth (values_of (vs ++ v ∷ [])) ≡ max (items_depth (values_of vs)) (depth_of v)
depth_with [] v = omega arith
depth_with (u ∷ us) v = let h = depth_with us v in omega arith

left_of : (a b : Bool) → (a && b) ≡ true → a ≡ true
left_of true b h = refl
left_of false b h = h

right_of : (a b : Bool) → (a && b) ≡ true → b ≡ true
right_of true b h = h
right_of false true h = refl
right_of false false h = h

limits : (vs : List Value) (v : Value) → is_within_limits (list (values_of (vs ++ v ∷ []))) ≡ (nat_le (1 + (items_weight (values_of vs) + weight_of v)) 1_048_576 && nat_le (1 + max (items_depth (values_of vs)) (depth_of v)) 64)
limits vs v = λ i. nat_le (1 + weight_with vs v i) 1_048_576 && nat_le (1 + depth_with vs v i) 64

below : (x y n : ℕ) → (x < n → y < n) → (y < n → x < n) → nat_le (1 + x) n ≡ nat_lt y n
below x y n f g = by (nat_le (1 + x) n) (nat_lt y n) refl refl
  where
    by : (b c : Bool) → nat_le (1 + x) n ≡ b → nat_lt y n ≡ c → b ≡ c
    by true true h k = refl
    by false false h k = refl
    by true false h k = absurd (let p = f (let q = leb-true (1 + x) n h in omega arith) in let q = ltb-false y n k in omega arith)
    by false true h k = absurd (let p = g (ltb-true y n k) in let q = leb-false (1 + x) n h in omega arith)

-- ---- as the program adds them up

module _ (vs : List Value) (v : Value) (w d a b heavier deeper : ℕ) (weighs : w ≡ items_weight (values_of vs)) (nests : d ≡ items_depth (values_of vs)) (a-is : a ≡ min (weight_of v) (2 ^ 64 - 1)) (b-is : b ≡ min (depth_of v) (2 ^ 64 - 1)) (adds : heavier ≡ min (w + a) (2 ^ 64 - 1)) (nests_with : deeper ≡ max d b) where
  tests : is_within_limits (list (values_of (vs ++ v ∷ []))) ≡ (nat_lt heavier 1_048_576 && nat_lt deeper 64)
  tests = limits vs v ∙ (λ i. weight_test i && depth_test i)
    where
      weight_test : nat_le (1 + (items_weight (values_of vs) + weight_of v)) 1_048_576 ≡ nat_lt heavier 1_048_576
      weight_test = below (items_weight (values_of vs) + weight_of v) heavier 1_048_576 (λ h. omega arith) (λ h. omega arith)

      depth_test : nat_le (1 + max (items_depth (values_of vs)) (depth_of v)) 64 ≡ nat_lt deeper 64
      depth_test = below (max (items_depth (values_of vs)) (depth_of v)) deeper 64 (λ h. omega arith) (λ h. omega arith)

  abbrev answered : Bool → Result (List Value) Fault
  answered x = cond x (Ok (vs ++ v ∷ [])) (Err ValueTooLarge)

  pub refused : (nat_lt heavier 1_048_576 && nat_lt deeper 64) ≡ false → collected vs v ≡ Err ValueTooLarge
  refused e = ap answered (tests ∙ e)

  pub taken : (nat_lt heavier 1_048_576 && nat_lt deeper 64) ≡ true → collected vs v ≡ Ok (vs ++ v ∷ [])
  taken e = ap answered (tests ∙ e)

  module _ (e : (nat_lt heavier 1_048_576 && nat_lt deeper 64) ≡ true) where
    pub light : heavier < 1_048_576
    light = ltb-true heavier 1_048_576 (left_of (nat_lt heavier 1_048_576) (nat_lt deeper 64) e)

    pub shallow : deeper < 64
    shallow = ltb-true deeper 64 (right_of (nat_lt heavier 1_048_576) (nat_lt deeper 64) e)

    pub weighed : heavier ≡ items_weight (values_of (vs ++ v ∷ []))
    weighed = let h = light in let k = weight_with vs v in omega arith

    pub deep : deeper ≡ items_depth (values_of (vs ++ v ∷ []))
    deep = let h = shallow in let k = depth_with vs v in omega arith
