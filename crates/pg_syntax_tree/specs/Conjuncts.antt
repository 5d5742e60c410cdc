-- The conjuncts of a condition, as the program reads them.
use Rattle.std.specs.Prelude.{Bool, true, false, List, map}
use Rattle.std.specs.Borrow.{Bor}
use Rattle.pg_meaning.specs.Tree as tree
use Rattle.pg_meaning.specs.declared.operators.Operator.TheVariants.{And}
use Rattle.pg_syntax_tree.specs.View.{expression_view}
use Rattle.pg_syntax_tree.specs.declared.expression.Expression.{Expression}

abbrev pub lent_expressions : List (Bor Expression) → List tree.Expression
lent_expressions es = map (λ e. expression_view e.now) es

-- the operators of one chain are of one level
abbrev pub begins_conjunction : tree.Operands → Bool
begins_conjunction (tree.operand And e os) = true
begins_conjunction os = false
