use Rattle.std.proofs.Common.{◌≡◌, drop}
use Rattle.std.specs.List.{position_from}
use Rattle.pg_meaning.specs.Trees.{same_expression}
use Rattle.pg_project.specs.Items.{expressions_view}
use Rattle.pg_syntax_tree.specs.View.{expression_view}
use Rattle.pg_project.proofs.sorting.item_place.Given as goal

abbrev pub invariant-loop-at : goal.invariant-loop-at
invariant-loop-at l =
    position_from (λ x. same_expression x (expression_view l.key)) 0 (expressions_view l.item-items) ≡ position_from (λ x. same_expression x (expression_view l.key)) l.at (expressions_view (drop l.at l.item-items))
