-- When two tests, or two suffixes, are one tree.
use Rattle.std.specs.Prelude.{Bool, false, ◌&&◌}
use Rattle.std.specs.Bool.{beq}
use Rattle.pg_meaning.specs.Trees.{same_name, same_test, same_expression}
use Rattle.pg_syntax_tree.specs.View.{name_view, expression_view}
use Rattle.pg_syntax_tree.specs.declared.expression.Expression.{Expression}
use Rattle.pg_syntax_tree.specs.declared.expression.Suffix.{Suffix}
use Rattle.pg_syntax_tree.specs.declared.expression.Suffix.TheVariants as suffix
use Rattle.pg_syntax_tree.specs.declared.expression.Test.{Test}
use Rattle.pg_syntax_tree.specs.declared.expression.Test.TheVariants as test

abbrev pub is_same_test : Test Expression → Test Expression → Bool
is_same_test (test.Text t x) (test.Text u y) = same_test t u && same_expression (expression_view x) (expression_view y)
is_same_test (test.IsNull b) (test.IsNull c) = beq b c
is_same_test x y = false

abbrev pub is_same_suffix : Suffix Expression → Suffix Expression → Bool
is_same_suffix (suffix.Property n) (suffix.Property m) = same_name (name_view n) (name_view m)
is_same_suffix (suffix.Index x) (suffix.Index y) = same_expression (expression_view x) (expression_view y)
is_same_suffix x y = false
