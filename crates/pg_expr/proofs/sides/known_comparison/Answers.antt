use Rattle.std.proofs.Common.{get_or, map, sym, ap, ◌∙◌}
use Rattle.pg_expr.proofs.SideLemmas.{known}
use Rattle.pg_expr.proofs.Turns as turn
use Rattle.pg_meaning.specs.Expressions.{begins_comparison}
use Rattle.pg_meaning.specs.Tree as tree
use Rattle.pg_syntax_tree.proofs.Views.{chain_is}
use Rattle.pg_meaning.specs.Parse.{operands_of}
use Rattle.pg_syntax_tree.specs.View.{expression_view, operand_view}
use Rattle.pg_value_core.specs.Given.{parameters_view}
use Rattle.pg_expr.proofs.sides.known_comparison.Goals as goal

pub returns : goal.returns
returns c =
    let a = c.in-Chain in
    let items = c.as_slice.result.now in
    let p = get_or items 0 c.index-operator-0.result in
    let q = get_or items 0 c.index-operand-0.result in
    let e = expression_view c.args.expression.now in
    let one = turn.one_left items a.operands.items p q c.as_slice.ensures.value c.in-len1.len_at_least c.in-len1.len_below (ap (get_or items 0) c.index-operator-0.is) (ap (get_or items 0) c.index-operand-0.is) in
    known c.args.names.now (parameters_view c.args.parameters.now) e (expression_view c.deref.result.now) (expression_view q.1) _
    (ap expression_view a.is ∙ chain_is a.first a.operands ∙ ap (λ x. tree.chain (expression_view x) (operands_of (map operand_view a.operands.items))) (sym c.deref.ensures) ∙ ap (tree.chain (expression_view c.deref.result.now)) one)
    (ap begins_comparison (sym one) ∙ sym c.begins_comparison.ensures ∙ c.if-not-begins_comparison.false)
    c.in-Some.ensures c.in-Some-side_of.ensures
