-- Indexes that rise go on rising.
use Rattle.std.proofs.Common.{◌≡◌, Bool, true, false, cond, not, ◌||◌, ◌&&◌, [], ◌∷◌, ◌++◌, filter, length, Result, Ok, Err, Less, Equal, Greater, refl, sym, ap, ◌∙◌, subst}
use Rattle.std.specs.Prelude.{nat_lt}
use Rattle.std.specs.Cmp.{IsTotalOrder}
use Rattle.std.specs.List.{AllByRecursion}
use Rattle.std.specs.List.Sorted.{IsStrictlySortedBy}
use Rattle.std.specs.Ordering.{is_eq, is_lt, ordering_reverse, ordering_then}
use Rattle.std.specs.Str.{bytes_eq}
use Rattle.std.specs.declared.cmp.Ordering.{Ordering}
use Rattle.std.proofs.lemmas.Cmp.{lists_total, nat_cmp_total, on_total, then_total}
use Rattle.std.proofs.lemmas.List.Kept.{IsStrictlySortedBy-filter}
use Rattle.std.proofs.lemmas.Map.Text.{is_eq-slice_cmp}
use Rattle.pg_meaning.specs.Answer.{◌>>◌, unless}
use Rattle.pg_meaning.specs.Order.{text_order}
use Rattle.pg_meaning.specs.Plans.{Catalogue, is_indexed}
use Rattle.pg_meaning.specs.declared.fault.Fault.{Fault}
use Rattle.pg_meaning.specs.declared.fault.Fault.TheVariants.{IndexExists, NoSuchIndex, TooManyIndexes}
use Rattle.pg_tenant.specs.Indexes.{Index, IndexesRise, index_order, index_tested, is_same, most_indexes, stands_before, with_index, without_index}

total : IsTotalOrder index_order
total = then_total (on_total (λ (i : Index). i.0) (lists_total nat_cmp_total)) (on_total (λ (i : Index). i.1) (lists_total nat_cmp_total))

abbrev Before : Index → Index → Type 0
Before i j = index_order i j ≡ Less

-- ---- one between others

join : (i : Index) (xs ys : Catalogue) → IsStrictlySortedBy index_order xs → AllByRecursion (λ x. Before x i) xs → AllByRecursion (λ y. Before i y) ys → IsStrictlySortedBy index_order ys
    → IsStrictlySortedBy index_order (xs ++ i ∷ ys)
unfolding IsStrictlySortedBy
join i [] ys h before behind k = (behind, k)
join i (x ∷ xs) ys h before behind k = (onward xs h.0, join i xs ys h.1 before.1 behind k)
  where
    beyond : (ys : Catalogue) → AllByRecursion (λ y. Before i y) ys → AllByRecursion (λ y. Before x y) ys
    beyond [] all = tt
    beyond (y ∷ ys) all = (total.trans x i y before.0 all.0, beyond ys all.1)

    onward : (xs : Catalogue) → AllByRecursion (λ y. Before x y) xs → AllByRecursion (λ y. Before x y) (xs ++ i ∷ ys)
    onward [] all = (before.0, beyond ys behind)
    onward (y ∷ xs) all = (all.0, onward xs all.1)

those_before : (i : Index) (indexes : Catalogue) → AllByRecursion (λ j. Before j i) (filter (λ j. stands_before j i) indexes)
those_before i [] = tt
those_before i (j ∷ js) =
    elim (index_order j i) as (λ r. index_order j i ≡ r → AllByRecursion (λ k. Before k i) (cond (is_lt r) (j ∷ filter (λ k. stands_before k i) js) (filter (λ k. stands_before k i) js))) [
      | Less ↦ λ e. (e, those_before i js)
      | Equal ↦ λ e. those_before i js
      | Greater ↦ λ e. those_before i js
    ] refl

-- two indexes that tie are one
abbrev then_key : Index → Index → Ordering → Ordering
then_key i j r = ordering_then r (text_order j.1 i.1)

tied : (i j : Index) → index_order j i ≡ Equal → is_same i j ≡ true
tied i j e =
    elim (text_order j.0 i.0) as (λ r. text_order j.0 i.0 ≡ r → is_same i j ≡ true) [
      | Less ↦ λ l. absurd (let no : Less ≡ Equal = sym (ap (then_key i j) l) ∙ e in cc)
      | Equal ↦ λ l.
          let label : bytes_eq j.0 i.0 ≡ true = sym (is_eq-slice_cmp j.0 i.0) ∙ ap is_eq l in
          let key : bytes_eq j.1 i.1 ≡ true = sym (is_eq-slice_cmp j.1 i.1) ∙ ap is_eq (sym (ap (then_key i j) l) ∙ e) in
          λ k. label k && key k
      | Greater ↦ λ l. absurd (let no : Greater ≡ Equal = sym (ap (then_key i j) l) ∙ e in cc)
    ] refl

those_behind : (i : Index) (indexes : Catalogue) → is_indexed indexes i ≡ false → AllByRecursion (λ j. Before i j) (filter (λ j. not (stands_before j i)) indexes)
those_behind i [] absent = tt
those_behind i (j ∷ js) absent =
    elim (index_order j i) as (λ r. index_order j i ≡ r → AllByRecursion (λ k. Before i k) (cond (not (is_lt r)) (j ∷ filter (λ k. not (stands_before k i)) js) (filter (λ k. not (stands_before k i)) js))) [
      | Less ↦ λ e. those_behind i js (others (is_same i j) absent)
      | Equal ↦ λ e. absurd (let no : true ≡ false = ap (λ b. b || is_indexed js i) (sym (tied i j e)) ∙ absent in cc)
      | Greater ↦ λ e. (total.antisymm i j ∙ ap ordering_reverse e, those_behind i js (others (is_same i j) absent))
    ] refl
  where
    others : (b : Bool) → b || is_indexed js i ≡ false → is_indexed js i ≡ false
    others true h = absurd cc
    others false h = h

one_more : (i : Index) (indexes : Catalogue) → is_indexed indexes i ≡ false → IsStrictlySortedBy index_order indexes → IsStrictlySortedBy index_order (with_index i indexes)
one_more i indexes absent h =
    join i (filter (λ j. stands_before j i) indexes) (filter (λ j. not (stands_before j i)) indexes) (IsStrictlySortedBy-filter index_order (λ j. stands_before j i) indexes h)
    (those_before i indexes) (those_behind i indexes absent) (IsStrictlySortedBy-filter index_order (λ j. not (stands_before j i)) indexes h)

-- ---- requests

behind : (r : Result (Unit {0}) Fault) (s : Result Catalogue Fault) (after : Catalogue) → (r >> s) ≡ Ok after → s ≡ Ok after
behind (Ok t) s after h = h
behind (Err e) s after h = absurd cc

made : (indexes after : Catalogue) (i : Index) → IsStrictlySortedBy index_order indexes → (there few : Bool) → is_indexed indexes i ≡ there
    → (unless (not there) IndexExists >> (unless few TooManyIndexes >> Ok (with_index i indexes))) ≡ Ok after → IsStrictlySortedBy index_order after
made indexes after i h true few is e = absurd cc
made indexes after i h false false is e = absurd cc
made indexes after i h false true is e = let same : with_index i indexes ≡ after = cc in subst (IsStrictlySortedBy index_order) same (one_more i indexes is h)

lost : (indexes after : Catalogue) (i : Index) → IsStrictlySortedBy index_order indexes → (there : Bool) → (unless there NoSuchIndex >> Ok (without_index i indexes)) ≡ Ok after → IsStrictlySortedBy index_order after
lost indexes after i h false e = absurd cc
lost indexes after i h true e =
    let same : without_index i indexes ≡ after = cc in subst (IsStrictlySortedBy index_order) same (IsStrictlySortedBy-filter index_order (λ j. not (is_same i j)) indexes h)

pub indexes_rise : IndexesRise
indexes_rise may_write is_open indexes after label key h = (
  λ e. made indexes after (label, key) h (is_indexed indexes (label, key)) (nat_lt (length indexes) most_indexes) refl (behind (index_tested may_write is_open label key) _ after e),
  λ e. lost indexes after (label, key) h (is_indexed indexes (label, key)) (behind (index_tested may_write is_open label key) _ after e),
)
