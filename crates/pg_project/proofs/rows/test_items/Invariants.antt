use Rattle.std.proofs.Common.{◌≡◌, drop}
use Rattle.pg_project.specs.Items.{expressions_view}
use Rattle.pg_project.specs.Kept.{items_tested}
use Rattle.pg_expr.specs.Contexts.{given}
use Rattle.pg_project.proofs.rows.test_items.Given as goal

abbrev pub invariant-loop-expression : goal.invariant-loop-expression
invariant-loop-expression g l =
    items_tested (given l.context l.graph) (expressions_view l.expressions.items) ≡ items_tested (given l.context l.graph) (expressions_view (drop l.expression-index l.expressions.items))
