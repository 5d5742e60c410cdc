-- Row after row of UNWIND.
use Rattle.std.proofs.Common.{◌≡◌, ℕ, zero, suc, ◌+◌, ◌<◌, Bool, true, false, not, bytes_eq, cond, is_none, is_some, length, map, take, List, [], ◌∷◌, ◌++◌, Option, Some, None, position, append_assoc, refl, sym, ap, ◌∙◌, arith}
use Rattle.std.proofs.lemmas.List.{length-append, nil_from_length}
use Rattle.std.specs.Global.{Vec}
use Rattle.std.specs.Prelude.{IfNone, IfSome, option_to_list}
use Rattle.pg_meaning.specs.Value.{Value}
use Rattle.pg_project.proofs.InTurn.{nothing_behind}
use Rattle.pg_project.specs.Unwound.{lists_view, rows_unwound, with_column, with_items}
use Rattle.pg_rows.specs.Named.{with_name}
use Rattle.pg_rows.specs.Tables.{rows_of}
use Rattle.pg_value_core.specs.View.{view}
use Rattle.pg_value_core.specs.declared.value.Value.{Value as Code}

nothing_unwound : (has_column : Bool) (ls : List (List Value)) → rows_unwound has_column [] ls ≡ []
nothing_unwound has_column [] = refl
nothing_unwound has_column (l ∷ ls) = refl

module _ (has_column : Bool) (found rows ls whole : List (List Value)) (all : found ++ rows_unwound has_column rows ls ≡ whole) where
  pub row_unwound : (rest others more : List (List Value)) (r l : List Value) → rows ≡ r ∷ rest → ls ≡ l ∷ others → more ≡ found ++ with_items has_column r l → more ++ rows_unwound has_column rest others ≡ whole
  row_unwound rest others more r l next first pushed =
      ap (λ m. m ++ rows_unwound has_column rest others) pushed
      ∙ append_assoc found (with_items has_column r l) (rows_unwound has_column rest others)
      ∙ sym (λ i. found ++ rows_unwound has_column (next i) (first i))
      ∙ all

  pub lists_over : ls ≡ [] → found ≡ whole
  lists_over none = sym (nothing_behind found) ∙ sym (ap (λ xs. found ++ rows_unwound has_column rows xs) none) ∙ all

  pub rows_over : rows ≡ [] → found ≡ whole
  rows_over none = sym (nothing_behind found) ∙ ap (λ xs. found ++ xs) (sym (nothing_unwound has_column ls)) ∙ sym (ap (λ xs. found ++ rows_unwound has_column xs ls) none) ∙ all

pub one_less : (m n : ℕ) → m + 1 ≡ n → m < n
one_less m n e = omega (arith, e)

pub one_wider : (name : List ℕ) (names : List (List ℕ)) → length (with_name name names) ≡ with_column (is_none (position (bytes_eq name) names)) (length names)
one_wider name names = by (position (bytes_eq name) names)
  where
    by : (o : Option ℕ) → length (cond (is_some o) names (names ++ name ∷ [])) ≡ cond (is_none o) (length names + 1) (length names)
    by None = length-append names (name ∷ [])
    by (Some i) = refl

pub told_none : (o : Option ℕ) (b : Bool) → is_some o ≡ not b → b ≡ is_none o
told_none None true e = refl
told_none None false e = absurd cc
told_none (Some i) true e = absurd cc
told_none (Some i) false e = refl

-- ---- the only row, where it has no columns

pub bare_row : {X : Type 0} (w n : ℕ) (vs : List X) → w ≡ 0 → length (rows_of w n vs) ≡ 1 → rows_of w n vs ≡ [] ∷ []
bare_row w zero vs bare l = absurd (omega (arith, l))
bare_row w (suc zero) vs bare l = ap (λ k. take k vs ∷ []) bare
bare_row w (suc (suc n)) vs bare l = absurd (omega (arith, l))

module _ (old new : List (Vec Code)) where
  none_before : (l : Vec Code) → old ≡ new ++ l ∷ [] → length old ≡ 1 → new ≡ []
  none_before l e h = nil_from_length new (let long = length-append new (l ∷ []) in let same = ap length e in omega (arith, long, same, h))

  pub only_list : (o : Option (Vec Code)) → old ≡ new ++ option_to_list o → length old ≡ 1 → IfSome o (λ l. lists_view old ≡ map view l.items ∷ [])
  only_list None e h = tt
  only_list (Some l) e h = ap lists_view (e ∙ ap (λ xs. xs ++ l ∷ []) (none_before l e h))

  pub list_left : (o : Option (Vec Code)) → old ≡ new ++ option_to_list o → IfNone o (new ≡ old)
  list_left None e = sym (e ∙ nothing_behind new)
  list_left (Some l) e = tt

pub lone_unwound : (has_column : Bool) (rows lists : List (List Value)) (l : List Value) → has_column ≡ true → rows ≡ [] ∷ [] → lists ≡ l ∷ [] → map (λ v. v ∷ []) l ≡ rows_unwound has_column rows lists
lone_unwound has_column rows lists l h r e = sym ((λ i. rows_unwound (h i) (r i) (e i)) ∙ nothing_behind (with_items true [] l))
