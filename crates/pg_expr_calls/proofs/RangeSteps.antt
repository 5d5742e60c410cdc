-- One integer more of a range.
use Rattle.std.proofs.Common.{◌≡◌, ℕ, List, zero, suc, ℤ, ◌+ℤ◌, ap, refl, sym, ◌∙◌, subst}
use Rattle.std.specs.Prelude.{FitsSigned}
use Rattle.std.specs.Int.{w64}
use Rattle.pg_expr_calls.specs.Ranges.{AllFit}
use Rattle.pg_expr_calls.proofs.Joins.{none_more}
use Rattle.pg_meaning.specs.Arithmetic.{appended}
use Rattle.pg_value_core.specs.View.{values_view}
use Rattle.pg_value_core.specs.declared.value.Value.{Value}
use Rattle.pg_meaning.specs.Functions.{integers_from}
use Rattle.pg_meaning.specs.Value.{integer, item, no_items, Values}

pub on_from : (n m : ℕ) (i j step : ℤ) → n ≡ suc m → j ≡ i +ℤ step → AllFit n i step → AllFit m j step
on_from n m i j step e f h =
    let g : AllFit (suc m) i step = subst (λ (x : ℕ). AllFit x i step) e h in
    subst (λ (x : ℤ). AllFit m x step) (sym f) g.1

pub rest_from : (n m : ℕ) (i j step : ℤ) → n ≡ suc m → j ≡ i +ℤ step → integers_from n i step ≡ item (integer i) (integers_from m j step)
rest_from n m i j step e f = ap (λ (x : ℕ). integers_from x i step) e ∙ ap (λ (x : ℤ). item (integer i) (integers_from m x step)) (sym f)

last_fit : (m : ℕ) (i step : ℤ) → (FitsSigned w64 (i +ℤ step) → ⊥) → AllFit (suc m) i step → integers_from (suc m) i step ≡ item (integer i) no_items
last_fit zero i step never h = refl
last_fit (suc m) i step never h = absurd (never h.1.0)

pub last_from : (n m : ℕ) (i step : ℤ) → n ≡ suc m → (FitsSigned w64 (i +ℤ step) → ⊥) → AllFit n i step → integers_from n i step ≡ item (integer i) no_items
last_from n m i step e never h =
    ap (λ (x : ℕ). integers_from x i step) e ∙ last_fit m i step never (subst (λ (x : ℕ). AllFit x i step) e h)

pub ended : (n : ℕ) (i step : ℤ) (items : List Value) (whole : Values) → n ≡ zero → appended (values_view items) (integers_from n i step) ≡ whole → values_view items ≡ whole
ended n i step items whole e h = sym (none_more items) ∙ sym (ap (λ (m : ℕ). appended (values_view items) (integers_from m i step)) e) ∙ h
