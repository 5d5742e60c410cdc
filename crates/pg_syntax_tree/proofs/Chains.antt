-- The conjuncts of a chain.
use Rattle.std.proofs.Common.{◌≡◌, ◌<◌, ◌≤◌, ◌+◌, ℕ, Bool, true, false, List, [], ◌∷◌, ◌++◌, map, drop, get_or, length, refl, sym, ap, subst, ◌∙◌}
use Rattle.std.proofs.lemmas.List.{append_assoc, append-nil, at_drop_all, at_drop_more, map-append}
use Rattle.std.specs.Borrow.{Bor}
use Rattle.pg_meaning.specs.Conditions.{conjuncts, operands_of as conjuncts_in}
use Rattle.pg_meaning.specs.Parse.{operands_of}
use Rattle.pg_meaning.specs.Tree as tree
use Rattle.pg_meaning.specs.declared.operators.Operator.{Operator}
use Rattle.pg_meaning.specs.declared.operators.Operator.TheVariants.{And}
use Rattle.pg_syntax_tree.specs.Conjuncts.{begins_conjunction, lent_expressions}
use Rattle.pg_syntax_tree.specs.View.{expression_view, operand_view}
use Rattle.pg_syntax_tree.specs.declared.expression.Expression.{Expression}

pub of_chain : (e : tree.Expression) (os : tree.Operands) → begins_conjunction os ≡ true → conjuncts (tree.chain e os) ≡ e ∷ conjuncts_in os
of_chain e (tree.operand And f os) h = refl
of_chain e os h = absurd (cc)

pub of_other_chain : (e : tree.Expression) (os : tree.Operands) → begins_conjunction os ≡ false → conjuncts (tree.chain e os) ≡ tree.chain e os ∷ []
of_other_chain e (tree.operand And f os) h = absurd (cc)
of_other_chain e os h = refl

-- those of the operands from a place on
abbrev pub conjuncts_from : List (Operator × Expression) → List tree.Expression
conjuncts_from os = conjuncts_in (operands_of (map operand_view os))

module _ (es : List (Bor Expression)) (lent os : List (Operator × Expression)) (same : lent ≡ os) (i : ℕ) (all : List tree.Expression) (so_far : lent_expressions es ++ conjuncts_from (drop i os) ≡ all) where
  pub one_listed : (o : Operator × Expression) → i < length lent → o ≡ get_or lent i o → (more : List (Bor Expression)) (e : Bor Expression) → more ≡ es ++ e ∷ [] → e.now ≡ o.1 → lent_expressions more ++ conjuncts_from (drop (i + 1) os) ≡ all
  one_listed o within is more e pushed at =
      let behind = conjuncts_from (drop (i + 1) os) in
      ap (λ xs. lent_expressions xs ++ behind) pushed
      ∙ ap (λ xs. xs ++ behind) (map-append (λ (b : Bor Expression). expression_view b.now) es (e ∷ []))
      ∙ append_assoc (lent_expressions es) (expression_view e.now ∷ []) behind
      ∙ ap (λ x. lent_expressions es ++ expression_view x ∷ behind) at
      ∙ ap (λ p. lent_expressions es ++ conjuncts_from (p ∷ drop (i + 1) os)) (subst (λ ps. o ≡ get_or ps i o) same is)
      ∙ sym (at_drop_more (λ ps. lent_expressions es ++ conjuncts_from ps) os i o (subst (λ ps. i < length ps) same within))
      ∙ so_far

  pub all_listed : length lent ≤ i → lent_expressions es ≡ all
  all_listed past =
      sym (append-nil (lent_expressions es))
      ∙ sym (at_drop_all (λ ps. lent_expressions es ++ conjuncts_from ps) os i (subst (λ ps. length ps ≤ i) same past))
      ∙ so_far
