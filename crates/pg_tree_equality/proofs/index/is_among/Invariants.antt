use Rattle.std.proofs.Common.{◌≡◌, drop, map}
use Rattle.std.specs.List.{list_any}
use Rattle.pg_meaning.specs.Trees.{same_expression}
use Rattle.pg_syntax_tree.specs.View.{expression_view}
use Rattle.pg_tree_equality.proofs.index.is_among.Given as goal

abbrev pub invariant-loop-expression : goal.invariant-loop-expression
invariant-loop-expression l =
    list_any (λ x. same_expression x (expression_view l.key)) (map (λ b. expression_view b.now) l.expressions.items)
    ≡ list_any (λ x. same_expression x (expression_view l.key)) (map (λ b. expression_view b.now) (drop l.expression-index l.expressions.items))
