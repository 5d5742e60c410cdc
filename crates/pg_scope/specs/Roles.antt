-- The roles of expressions, and a borrowed expression, where there is one, as data.
use Rattle.std.specs.Prelude.{Option, Some, None}
use Rattle.std.specs.Borrow.{Bor}
use Rattle.pg_meaning.specs.StaticFaults as faults
use Rattle.pg_meaning.specs.Tree as tree
use Rattle.pg_scope.specs.declared.expressions.Role.{Role}
use Rattle.pg_scope.specs.declared.expressions.Role.TheVariants.{WholeItem, Elsewhere}
use Rattle.pg_syntax_tree.specs.View.{expression_view}
use Rattle.pg_syntax_tree.specs.declared.expression.Expression.{Expression}

abbrev pub role_view : Role → faults.Role
role_view WholeItem = faults.whole_item
role_view Elsewhere = faults.elsewhere

abbrev pub seen : Option (Bor Expression) → Option tree.Expression
seen None = None
seen (Some x) = Some (expression_view x.now)
