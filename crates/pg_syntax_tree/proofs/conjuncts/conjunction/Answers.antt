use Rattle.std.proofs.Common.{sym, ap, map, ◌∷◌, [], ◌∙◌}
use Rattle.pg_syntax_tree.proofs.Chains.{of_chain, of_other_chain}
use Rattle.pg_meaning.specs.Conditions.{conjuncts}
use Rattle.pg_meaning.specs.Parse.{operands_of}
use Rattle.pg_syntax_tree.proofs.Views.{chain_is}
use Rattle.pg_syntax_tree.specs.View.{expression_view, operand_view}
use Rattle.pg_syntax_tree.proofs.conjuncts.conjunction.Goals as goal

pub returns-then-begins_conjunction-clause-some : goal.returns-then-begins_conjunction-clause-some
returns-then-begins_conjunction-clause-some c =
    let a = c.in-Chain in
    ap (λ e. conjuncts (expression_view e)) a.is
    ∙ ap conjuncts (chain_is a.first a.operands)
    ∙ of_chain (expression_view a.first.value) (operands_of (map operand_view a.operands.items)) (sym c.begins_conjunction.ensures ∙ c.if-begins_conjunction.true)

pub returns-else-begins_conjunction-clause-none : goal.returns-else-begins_conjunction-clause-none
returns-else-begins_conjunction-clause-none c =
    let a = c.in-Chain in
    ap (λ e. conjuncts (expression_view e)) a.is
    ∙ ap conjuncts (chain_is a.first a.operands)
    ∙ of_other_chain (expression_view a.first.value) (operands_of (map operand_view a.operands.items)) (sym c.begins_conjunction.ensures ∙ c.if-begins_conjunction.false)
    ∙ ap (λ e. e ∷ []) (sym (chain_is a.first a.operands) ∙ sym (ap expression_view a.is))
