-- A row with the values of the items that group, and a row that is tested without them.
use Rattle.std.specs.Borrow.{Bor}
use Rattle.std.proofs.Common.{◌≡◌, ◌+◌, ◌<◌, ◌≤◌, ℕ, List, ◌∷◌, drop, get_or, length, [], Result, Ok, Err, sym, ap, subst, ◌∙◌}
use Rattle.pg_project.proofs.Turns.{here, none_left}
use Rattle.pg_project.specs.Items.{Item, aggregates_in, expressions_view, item_of, keys_in}
use Rattle.pg_project.specs.Kept.{Answers, Kept, into_kept, item_tested, items_tested, kept_row, without_group}
use Rattle.pg_meaning.specs.Answer.{◌>>=◌, ◌>>◌, each_answer}
use Rattle.pg_meaning.specs.Tree.{Expression}
use Rattle.pg_meaning.specs.Value.{Value}
use Rattle.pg_meaning.specs.declared.fault.Fault.{Fault}
use Rattle.pg_syntax_tree.specs.View.{expression_view}
use Rattle.pg_syntax_tree.specs.declared.expression.Expression.{Expression as Code}

module _ (at : Answers) (es : List Expression) (groups : List Kept) where
  abbrev by_key : Result (List Value) Fault → Result (List Kept) Fault
  by_key a = elim a [
    | Ok key ↦ into_kept at (aggregates_in es) key groups
    | Err f ↦ without_group at es f
  ]

  pub with_key : (key : List Value) → each_answer at (keys_in es) ≡ Ok key → kept_row at es groups ≡ into_kept at (aggregates_in es) key groups
  with_key key h = ap by_key h

  pub without_key : (f : Fault) → each_answer at (keys_in es) ≡ Err f → kept_row at es groups ≡ without_group at es f
  without_key f h = ap by_key h

pub one_answer : (at : Answers) (e : Expression) (v : Value) → at e ≡ Ok v → each_answer at (e ∷ []) ≡ Ok (v ∷ [])
one_answer at e v h = ap (λ a. a >>= λ y. Ok (y ∷ [])) h

pub one_fault : (at : Answers) (e : Expression) (f : Fault) → at e ≡ Err f → each_answer at (e ∷ []) ≡ Err f
one_fault at e f h = ap (λ a. a >>= λ y. Ok (y ∷ [])) h

-- ---- tests of items that are lent

module _ (at : Answers) (lent es : List (Bor Code)) (same : lent ≡ es) (i : ℕ) (all : Result (Unit {0}) Fault) (so_far : all ≡ items_tested at (expressions_view (drop i es))) where
  module _ (e : Bor Code) (within : i < length lent) (is : e ≡ get_or lent i e) (item : Item) (made : item ≡ item_of (expression_view e.now)) where
    first : (r : Result (Unit {0}) Fault) → item_tested at item ≡ r → all ≡ (r >> items_tested at (expressions_view (drop (i + 1) es)))
    first r h =
        so_far
        ∙ ap (λ xs. items_tested at (expressions_view xs)) (subst (λ xs. drop i xs ≡ e ∷ drop (i + 1) xs) same (here lent i e within is))
        ∙ ap (λ (k : Item). item_tested at k >> items_tested at (expressions_view (drop (i + 1) es))) (sym made)
        ∙ ap (λ a. a >> items_tested at (expressions_view (drop (i + 1) es))) h

    pub item_passes : item_tested at item ≡ Ok tt → all ≡ items_tested at (expressions_view (drop (i + 1) es))
    item_passes h = first (Ok tt) h

    pub item_fails : (f : Fault) → item_tested at item ≡ Err f → all ≡ Err f
    item_fails f h = first (Err f) h

  pub all_pass : length lent ≤ i → all ≡ Ok tt
  all_pass past = so_far ∙ ap (λ xs. items_tested at (expressions_view xs)) (none_left es i (subst (λ xs. length xs ≤ i) same past))
