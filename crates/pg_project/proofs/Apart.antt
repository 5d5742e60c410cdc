-- Items taken apart, one after the other.
use Rattle.std.specs.Borrow.{Bor}
use Rattle.std.proofs.Common.{◌≡◌, ◌+◌, ◌<◌, ◌≤◌, ℕ, List, [], ◌∷◌, ◌++◌, drop, get_or, length, refl, sym, ap, subst, ◌∙◌}
use Rattle.std.proofs.lemmas.List.{append_assoc, append-nil}
use Rattle.pg_project.proofs.Turns.{here, none_left}
use Rattle.pg_project.specs.Items.{Item, grouping, aggregate, before_aggregates, before_keys, expressions_view, item_of}
use Rattle.pg_meaning.specs.Aggregates.{Aggregate}
use Rattle.pg_meaning.specs.Tree.{Expression}
use Rattle.pg_syntax_tree.specs.View.{expression_view}
use Rattle.pg_syntax_tree.specs.declared.expression.Expression.{Expression as Code}

pub key_first : (i : Item) (es : List Expression) → before_keys i es ≡ before_keys i [] ++ es
key_first (grouping e) es = refl
key_first (aggregate a) es = refl

pub aggregate_first : (i : Item) (aggregates : List Aggregate) → before_aggregates i aggregates ≡ before_aggregates i [] ++ aggregates
aggregate_first (grouping e) aggregates = refl
aggregate_first (aggregate a) aggregates = refl

-- what is taken of expressions, one by one
module _ {Y : Type 0} (all_of : List Expression → List Y) (lent es : List (Bor Code)) (same : lent ≡ es) (i : ℕ) (found : List Y) (so_far : found ++ all_of (expressions_view (drop i es)) ≡ all_of (expressions_view es)) where
  pub one_taken : (of_item : Item → List Y) → ((e : Expression) (rest : List Expression) → all_of (e ∷ rest) ≡ of_item (item_of e) ++ all_of rest)
      → (e : Bor Code) → i < length lent → e ≡ get_or lent i e → (item : Item) → item ≡ item_of (expression_view e.now) → (more : List Y) → more ≡ found ++ of_item item
      → more ++ all_of (expressions_view (drop (i + 1) es)) ≡ all_of (expressions_view es)
  one_taken of_item first e within is item made more pushed =
      ap (λ ys. ys ++ all_of rest) (pushed ∙ ap (λ k. found ++ of_item k) made)
      ∙ append_assoc found (of_item (item_of (expression_view e.now))) (all_of rest)
      ∙ ap (λ ys. found ++ ys) (sym (first (expression_view e.now) rest))
      ∙ sym (ap (λ xs. found ++ all_of (expressions_view xs)) (subst (λ xs. drop i xs ≡ e ∷ drop (i + 1) xs) same (here lent i e within is)))
      ∙ so_far
    where
      rest : List Expression
      rest = expressions_view (drop (i + 1) es)

  pub all_taken : all_of [] ≡ [] → length lent ≤ i → found ≡ all_of (expressions_view es)
  all_taken none past =
      sym (append-nil found) ∙ ap (λ ys. found ++ ys) (sym none) ∙ ap (λ xs. found ++ all_of (expressions_view xs)) (sym (none_left es i (subst (λ xs. length xs ≤ i) same past))) ∙ so_far
