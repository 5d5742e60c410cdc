-- What stands behind the items, part after part.
use Rattle.std.proofs.Common.{◌≡◌, ℕ, Bool, List, Result, Ok, Err, Option, refl, sym, ap, ◌∙◌}
use Rattle.pg_meaning.specs.Answer.{◌>>=◌}
use Rattle.pg_meaning.specs.Graph.{Graph}
use Rattle.pg_meaning.specs.Tree.{Expression, SortItem}
use Rattle.pg_meaning.specs.Value.{Value, Entries}
use Rattle.pg_meaning.specs.declared.fault.Fault.{Fault}
use Rattle.pg_project.specs.Given.{Cut, cut_of, distinct_given, let_in_given, ordered_given, passing_given, tail_given}

module _ (parameters : Entries) (graph : Graph) (names : List (List ℕ)) (es : List Expression) (distinct : Bool) (order : List SortItem) (c : Cut) (where_ : Option Expression) (width : ℕ) (rows firsts : List (List Value)) (first : firsts ≡ distinct_given distinct rows) where
  let_in : (a : Result (List (List Value)) Fault) → (a >>= λ sorted. passing_given parameters graph names where_ width (cut_of c sorted)) ≡ ((a >>= λ sorted. Ok (cut_of c sorted)) >>= λ found. passing_given parameters graph names where_ width found)
  let_in (Ok sorted) = refl
  let_in (Err e) = refl

  in_order : (a : Result (List (List Value)) Fault) → let_in_given parameters graph names es order c firsts ≡ a → tail_given parameters graph names es distinct order c where_ width rows ≡ (a >>= λ found. passing_given parameters graph names where_ width found)
  in_order a sorts =
      let_in (ordered_given parameters graph names es order (distinct_given distinct rows))
      ∙ ap (λ b. b >>= λ found. passing_given parameters graph names where_ width found) ((λ i. let_in_given parameters graph names es order c (sym first i)) ∙ sorts)

  pub sorts_fail : (e : Fault) → ordered_given parameters graph names es order firsts ≡ Err e → tail_given parameters graph names es distinct order c where_ width rows ≡ Err e
  sorts_fail e sorts = in_order (Err e) (ap (λ a. a >>= λ sorted. Ok (cut_of c sorted)) sorts)

  pub passed_on : (found : List (List Value)) (wanted : Option Expression) (k : ℕ) → let_in_given parameters graph names es order c firsts ≡ Ok found → wanted ≡ where_ → k ≡ width
      → (a : Result (List (List Value)) Fault) → passing_given parameters graph names wanted k found ≡ a → tail_given parameters graph names es distinct order c where_ width rows ≡ a
  passed_on found wanted k sorts asked wide a passes = in_order (Ok found) sorts ∙ (λ i. passing_given parameters graph names (sym asked i) (sym wide i) found) ∙ passes
