-- The conjuncts of a chain behind its first, from a place on.
use Rattle.std.proofs.Common.{◌≡◌, ◌<◌, ◌≤◌, ◌+◌, ℕ, Bool, true, false, List, ◌∷◌, map, drop, get_or, length, Result, Ok, Err, sym, ap, subst, ◌∙◌}
use Rattle.std.proofs.lemmas.List.{at_drop_more, at_drop_all}
use Rattle.pg_expr.proofs.Conjuncts.{next_met, next_unmet, next_fault}
use Rattle.pg_expr.specs.Conditions.{is_met_by, all_met_by}
use Rattle.pg_expr.specs.declared.row_context.RowContext.{RowContext}
use Rattle.pg_meaning.specs.Conditions.{operands_of as conjuncts_in}
use Rattle.pg_meaning.specs.Graph.{Graph}
use Rattle.pg_meaning.specs.Parse.{operands_of}
use Rattle.pg_meaning.specs.Tree as tree
use Rattle.pg_meaning.specs.declared.fault.Fault.{Fault}
use Rattle.pg_meaning.specs.declared.operators.Operator.{Operator}
use Rattle.pg_syntax_tree.specs.View.{expression_view, operand_view}
use Rattle.pg_syntax_tree.specs.declared.expression.Expression.{Expression}

abbrev pub conjuncts_from : List (Operator × Expression) → List tree.Expression
conjuncts_from os = conjuncts_in (operands_of (map operand_view os))

module _ (s : RowContext) (g : Graph) (all : Result Bool Fault) (xs os : List (Operator × Expression)) (same : xs ≡ os) (i : ℕ) (so_far : all ≡ all_met_by s g (conjuncts_from (drop i os))) where
  module _ (o : Operator × Expression) (within : i < length xs) (is : o ≡ get_or xs i o) where
    at_place : all ≡ all_met_by s g (expression_view o.1 ∷ conjuncts_from (drop (i + 1) os))
    at_place =
        let left = λ (ps : List (Operator × Expression)). all_met_by s g (conjuncts_from ps) in
        so_far
        ∙ at_drop_more left os i o (subst (λ ps. i < length ps) same within)
        ∙ ap (λ p. left (p ∷ drop (i + 1) os)) (sym (subst (λ ps. o ≡ get_or ps i o) same is))

    pub met_at : (b : Bool) → is_met_by s g (expression_view o.1) ≡ Ok b → b ≡ true → all ≡ all_met_by s g (conjuncts_from (drop (i + 1) os))
    met_at b h k = at_place ∙ next_met s g (expression_view o.1) (conjuncts_from (drop (i + 1) os)) b h k

    pub unmet_at : (b : Bool) → is_met_by s g (expression_view o.1) ≡ Ok b → b ≡ false → all ≡ Ok false
    unmet_at b h k = at_place ∙ next_unmet s g (expression_view o.1) (conjuncts_from (drop (i + 1) os)) b h k

    pub fault_at : (f : Fault) → is_met_by s g (expression_view o.1) ≡ Err f → all ≡ Err f
    fault_at f h = at_place ∙ next_fault s g (expression_view o.1) (conjuncts_from (drop (i + 1) os)) f h

  pub all_met : length xs ≤ i → all ≡ Ok true
  all_met past = so_far ∙ at_drop_all (λ ps. all_met_by s g (conjuncts_from ps)) os i (subst (λ ps. length ps ≤ i) same past)
