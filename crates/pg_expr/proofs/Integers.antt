-- The integers among a range's arguments one after the other.
use mir.Val.{SFits}
use Rattle.std.proofs.Common.{◌≡◌, ◌<◌, ◌≤◌, ◌+◌, ℕ, ℤ, pos, to_z, of_z, w64, arith, List, [], ◌∷◌, ◌++◌, drop, get_or, length, Result, Ok, Err, refl, sym, ap, ◌∙◌}
use Rattle.std.proofs.lemmas.Int.{to_z-of_z}
use Rattle.std.proofs.lemmas.List.{at_drop_more, at_drop_all}
use Rattle.pg_expr.specs.Contexts.{found_view, founds_view}
use Rattle.pg_expr.specs.declared.value_ref.ValueRef.{ValueRef}
use Rattle.pg_meaning.specs.Answer.{◌>>=◌}
use Rattle.pg_meaning.specs.Functions.{integers_of, range_by, range_over}
use Rattle.pg_meaning.specs.Value.{Value as Datum, Values, integer, item}
use Rattle.pg_meaning.specs.declared.fault.Fault.{Fault}
use Rattle.pg_meaning.specs.declared.fault.Fault.TheVariants.{TypeFault, UnknownFunction}
use Rattle.pg_value_core.specs.View.{view, view_step}
use Rattle.pg_value_core.specs.declared.value.Value.{Value}
use Rattle.pg_value_core.specs.declared.value.Value.TheFolds.{fold-roll-Value}
use Rattle.pg_value_core.specs.declared.value.Value.TheOpen.{Value-F}
use Rattle.pg_value_core.specs.declared.value.Value.TheVariants.{Int}
use Rattle.pg_value_core.specs.declared.value.Value.TheViews.{out-Value, roll-Value, roll-out-Value, rolls-Int}

-- the integers that are there, and those that are left
abbrev pub joined_integers : List ℤ → Result (List ℤ) Fault → Result (List ℤ) Fault
joined_integers found rest = rest >>= λ is. Ok (found ++ is)

pushed : (is js : List ℤ) (i : ℤ) → (is ++ i ∷ []) ++ js ≡ is ++ i ∷ js
pushed [] js i = refl
pushed (k ∷ is) js i = ap (λ ks. k ∷ ks) (pushed is js i)

moved : (is : List ℤ) (i : ℤ) (r : Result (List ℤ) Fault) → joined_integers is (r >>= λ js. Ok (i ∷ js)) ≡ joined_integers (is ++ i ∷ []) r
moved is i (Ok js) = ap Ok (sym (pushed is js i))
moved is i (Err e) = refl

next_integer : (is : List ℤ) (i : ℤ) (f : ValueRef) (fs : List ValueRef) → found_view f ≡ integer i
    → joined_integers is (integers_of (founds_view (f ∷ fs))) ≡ joined_integers (is ++ i ∷ []) (integers_of (founds_view fs))
next_integer is i f fs h = ap (λ v. joined_integers is (integers_of (item v (founds_view fs)))) h ∙ moved is i (integers_of (founds_view fs))

none_left : (is : List ℤ) → is ++ [] ≡ is
none_left [] = refl
none_left (i ∷ is) = ap (λ js. i ∷ js) (none_left is)

none_yet : (r : Result (List ℤ) Fault) → r ≡ joined_integers [] r
none_yet (Ok is) = refl
none_yet (Err e) = refl

pub no_integers_yet : (is : List ℤ) (fs : List ValueRef) → is ≡ [] → integers_of (founds_view fs) ≡ joined_integers is (integers_of (founds_view fs))
no_integers_yet is fs none = none_yet (integers_of (founds_view fs)) ∙ ap (λ js. joined_integers js (integers_of (founds_view fs))) (sym none)

-- any other value is a fault
of_other : (vs : Values) (v : Value) (part : Value-F Value) → roll-Value part ≡ v → ((i : ℤ) → v ≡ Int i → ⊥) → integers_of (item (view v) vs) ≡ Err TypeFault
of_other vs v (Value-F.Int i) same other = absurd (other i (sym same ∙ rolls-Int i))
of_other vs v part same other = ap (λ u. integers_of (item u vs)) (sym (ap view same) ∙ fold-roll-Value Datum view_step part)

module _ (fs all : List ValueRef) (same : fs ≡ all) (i : ℕ) (is : List ℤ) (so_far : integers_of (founds_view fs) ≡ joined_integers is (integers_of (founds_view (drop i fs)))) where
  module _ (f : ValueRef) (within : i < length fs) (at : f ≡ get_or fs i f) where
    at_argument : integers_of (founds_view fs) ≡ joined_integers is (integers_of (founds_view (f ∷ drop (i + 1) fs)))
    at_argument =
        so_far
        ∙ at_drop_more (λ gs. joined_integers is (integers_of (founds_view gs))) fs i f within
        ∙ ap (λ g. joined_integers is (integers_of (founds_view (g ∷ drop (i + 1) fs)))) (sym at)

    integer_taken : (n : ℤ) (more : List ℤ) → found_view f ≡ integer n → more ≡ is ++ n ∷ [] → integers_of (founds_view fs) ≡ joined_integers more (integers_of (founds_view (drop (i + 1) fs)))
    integer_taken n more h push =
        at_argument
        ∙ next_integer is n f (drop (i + 1) fs) h
        ∙ ap (λ js. joined_integers js (integers_of (founds_view (drop (i + 1) fs)))) (sym push)

    pub int_taken : (v : Value) (n : ℤ) (more : List ℤ) → view v ≡ found_view f → v ≡ Int n → more ≡ is ++ n ∷ [] → integers_of (founds_view fs) ≡ joined_integers more (integers_of (founds_view (drop (i + 1) fs)))
    int_taken v n more h same push = integer_taken n more (sym h ∙ ap view (same ∙ sym (rolls-Int n)) ∙ fold-roll-Value Datum view_step (Value-F.Int n)) push

    pub no_integer : (v : Value) → view v ≡ found_view f → ((n : ℤ) → v ≡ Int n → ⊥) → integers_of (founds_view all) ≡ Err TypeFault
    no_integer v h other =
        ap (λ gs. integers_of (founds_view gs)) (sym same)
        ∙ at_argument
        ∙ ap (joined_integers is) (ap (λ u. integers_of (item u (founds_view (drop (i + 1) fs)))) (sym h) ∙ of_other (founds_view (drop (i + 1) fs)) v (out-Value v) (roll-out-Value v) other)

  pub all_integers : length fs ≤ i → integers_of (founds_view all) ≡ Ok is
  all_integers past =
      ap (λ gs. integers_of (founds_view gs)) (sym same)
      ∙ so_far
      ∙ at_drop_all (λ gs. joined_integers is (integers_of (founds_view gs))) fs i past
      ∙ ap Ok (none_left is)

-- ---- a range over integers

two_items : (is : List ℤ) → 2 ≤ length is → length is < 3 → is ≡ get_or is 0 (pos 0) ∷ get_or is 1 (pos 0) ∷ []
two_items [] least below = absurd (omega arith)
two_items (a ∷ []) least below = absurd (omega arith)
two_items (a ∷ b ∷ []) least below = refl
two_items (a ∷ b ∷ c ∷ is) least below = absurd (omega arith)

three_items : (is : List ℤ) → 3 ≤ length is → length is < 4 → is ≡ get_or is 0 (pos 0) ∷ get_or is 1 (pos 0) ∷ get_or is 2 (pos 0) ∷ []
three_items [] least below = absurd (omega arith)
three_items (a ∷ []) least below = absurd (omega arith)
three_items (a ∷ b ∷ []) least below = absurd (omega arith)
three_items (a ∷ b ∷ c ∷ []) least below = refl
three_items (a ∷ b ∷ c ∷ d ∷ is) least below = absurd (omega arith)

few_items : (is : List ℤ) → length is < 2 → range_over is ≡ Err UnknownFunction
few_items [] below = refl
few_items (a ∷ []) below = refl
few_items (a ∷ b ∷ is) below = absurd (omega arith)

many_items : (is : List ℤ) → 4 ≤ length is → range_over is ≡ Err UnknownFunction
many_items [] least = absurd (omega arith)
many_items (a ∷ []) least = absurd (omega arith)
many_items (a ∷ b ∷ []) least = absurd (omega arith)
many_items (a ∷ b ∷ c ∷ []) least = absurd (omega arith)
many_items (a ∷ b ∷ c ∷ d ∷ is) least = refl

module _ (is all : List ℤ) (same : is ≡ all) where
  -- an integer as it is passed to a call
  abbrev pub passed : ℕ → ℤ
  passed i = to_z w64 (of_z w64 (get_or is i (pos 0)))

  pub of_two : 2 ≤ length is → length is < 3 → ((i : ℕ) → i < 2 → SFits w64 (get_or is i (pos 0))) → range_over all ≡ range_by (passed 0) (passed 1) (pos 1)
  of_two least below fits =
      ap range_over (sym same ∙ two_items is least below)
      ∙ sym (λ j. range_by (to_z-of_z w64 (get_or is 0 (pos 0)) (fits 0 (omega arith)) j) (to_z-of_z w64 (get_or is 1 (pos 0)) (fits 1 (omega arith)) j) (pos 1))

  pub of_three : 3 ≤ length is → length is < 4 → ((i : ℕ) → i < 3 → SFits w64 (get_or is i (pos 0))) → range_over all ≡ range_by (passed 0) (passed 1) (passed 2)
  of_three least below fits =
      ap range_over (sym same ∙ three_items is least below)
      ∙ sym (λ j. range_by (to_z-of_z w64 (get_or is 0 (pos 0)) (fits 0 (omega arith)) j) (to_z-of_z w64 (get_or is 1 (pos 0)) (fits 1 (omega arith)) j)
      (to_z-of_z w64 (get_or is 2 (pos 0)) (fits 2 (omega arith)) j))

  pub of_few : length is < 2 → range_over all ≡ Err UnknownFunction
  of_few below = ap range_over (sym same) ∙ few_items is below

  pub of_many : 4 ≤ length is → range_over all ≡ Err UnknownFunction
  of_many least = ap range_over (sym same) ∙ many_items is least
