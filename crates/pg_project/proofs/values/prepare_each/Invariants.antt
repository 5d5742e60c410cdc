use Rattle.std.proofs.Common.{◌≡◌, length, take}
use Rattle.pg_project.specs.Items.{expressions_view}
use Rattle.pg_project.specs.Given.{trees_of}
use Rattle.pg_project.proofs.values.prepare_each.Given as goal

abbrev pub invariant-loop-expression : goal.invariant-loop-expression
invariant-loop-expression l =
    (trees_of l.names l.ready.items ≡ expressions_view (take l.expression-index l.expressions.items))
    × (length l.ready.items ≡ l.expression-index)
