-- The bytes of an expression, put behind those that were found.
use Rattle.std.specs.Prelude.{ℕ, ℤ, pos, negsuc, Bool, true, false, List, [], ◌∷◌, ◌++◌}
use Rattle.std.specs.Int.{to_le_bytes, w64}
use Rattle.std.specs.Str.{str_to_ascii_lowercase}
use Rattle.pg_meaning.specs.declared.operators.Operator.{Operator}
use Rattle.pg_meaning.specs.declared.operators.Operator.TheVariants as o
use Rattle.pg_meaning.specs.declared.operators.TextTest.{TextTest}
use Rattle.pg_meaning.specs.declared.operators.TextTest.TheVariants as t
use Rattle.pg_meaning.specs.Value.{Value}
use Rattle.pg_meaning.specs.Value as value
use Rattle.pg_meaning.specs.Tree.{Name, Expressions, Pairs, Perhaps, Whens, Operands, Tests, Suffixes}
use Rattle.pg_meaning.specs.Tree as tree
use Rattle.pg_syntax_tree.specs.View.{expression_view, name_view}
use Rattle.pg_syntax_tree.specs.declared.expression.Expression.{Expression}
use Rattle.pg_syntax_tree.specs.declared.expression.Suffix.{Suffix}
use Rattle.pg_syntax_tree.specs.declared.expression.Suffix.TheVariants as suffix
use Rattle.pg_syntax_tree.specs.declared.expression.Test.{Test}
use Rattle.pg_syntax_tree.specs.declared.expression.Test.TheVariants as test

abbrev pub with_byte : ℕ → List ℕ → List ℕ
with_byte b code = code ++ b ∷ []

abbrev pub with_bytes : List ℕ → List ℕ → List ℕ
with_bytes [] code = code
with_bytes (b ∷ bs) code = with_bytes bs (with_byte b code)

abbrev pub with_text : List ℕ → List ℕ → List ℕ
with_text text code = with_byte 255 (with_bytes text code)

abbrev pub with_number : ℕ → List ℕ → List ℕ
with_number n code = with_bytes (to_le_bytes w64 n) code

abbrev pub with_flag : Bool → List ℕ → List ℕ
with_flag true code = with_byte 1 code
with_flag false code = with_byte 2 code

abbrev pub with_flags : List Bool → List ℕ → List ℕ
with_flags [] code = with_byte 0 code
with_flags (b ∷ bs) code = with_flags bs (with_flag b code)

abbrev pub with_names : List Name → List ℕ → List ℕ
with_names [] code = with_byte 0 code
with_names (n ∷ ns) code = with_names ns (with_text n.text (with_byte 1 code))

abbrev pub with_integer : ℤ → List ℕ → List ℕ
with_integer (pos n) code = with_number n (with_byte 3 code)
with_integer (negsuc n) code = code

abbrev pub with_literal : Value → List ℕ → List ℕ
with_literal value.null code = with_byte 1 code
with_literal (value.boolean b) code = with_flag b (with_byte 2 code)
with_literal (value.integer i) code = with_integer i code
with_literal (value.text text) code = with_text text (with_byte 4 code)
with_literal v code = code

abbrev pub byte_of_operator : Operator → ℕ
byte_of_operator o.Or = 1
byte_of_operator o.Xor = 2
byte_of_operator o.And = 3
byte_of_operator o.Equal = 4
byte_of_operator o.NotEqual = 5
byte_of_operator o.Less = 6
byte_of_operator o.LessOrEqual = 7
byte_of_operator o.Greater = 8
byte_of_operator o.GreaterOrEqual = 9
byte_of_operator o.Plus = 10
byte_of_operator o.Minus = 11
byte_of_operator o.Times = 12
byte_of_operator o.Divide = 13
byte_of_operator o.Modulo = 14

abbrev pub byte_of_test : TextTest → ℕ
byte_of_test t.StartsWith = 1
byte_of_test t.EndsWith = 2
byte_of_test t.Contains = 3
byte_of_test t.In = 4

abbrev mutual
  pub with_expression : tree.Expression → List ℕ → List ℕ
  with_expression (tree.literal v) code = with_literal v (with_byte 1 code)
  with_expression (tree.parameter n) code = with_text n.text (with_byte 2 code)
  with_expression (tree.variable n) code = with_text n.text (with_byte 3 code)
  with_expression (tree.list_literal xs) code = with_expressions xs (with_byte 4 code)
  with_expression (tree.map_literal ps) code = with_pairs ps (with_byte 5 code)
  with_expression (tree.parentheses x) code = with_expression x (with_byte 6 code)
  with_expression (tree.call n star distinct xs) code = with_expressions xs (with_flag distinct (with_flag star (with_text (str_to_ascii_lowercase n.text) (with_byte 7 code))))
  with_expression (tree.case x ws e) code = with_perhaps e (with_whens ws (with_perhaps x (with_byte 8 code)))
  with_expression (tree.chain x os) code = with_operands os (with_expression x (with_byte 9 code))
  with_expression (tree.negation n x) code = with_expression x (with_number n (with_byte 10 code))
  with_expression (tree.signs bs x) code = with_expression x (with_flags bs (with_byte 11 code))
  with_expression (tree.tests x ts) code = with_tests ts (with_expression x (with_byte 12 code))
  with_expression (tree.suffixes x xs ls) code = with_names ls (with_suffixes xs (with_expression x (with_byte 13 code)))

  pub with_expressions : Expressions → List ℕ → List ℕ
  with_expressions tree.no_expressions code = with_byte 0 code
  with_expressions (tree.expression x xs) code = with_expressions xs (with_expression x code)

  pub with_pairs : Pairs → List ℕ → List ℕ
  with_pairs tree.no_pairs code = with_byte 0 code
  with_pairs (tree.pair n x ps) code = with_pairs ps (with_expression x (with_text n.text (with_byte 1 code)))

  pub with_perhaps : Perhaps → List ℕ → List ℕ
  with_perhaps tree.absent code = with_byte 0 code
  with_perhaps (tree.present x) code = with_expression x code

  pub with_whens : Whens → List ℕ → List ℕ
  with_whens tree.no_whens code = with_byte 0 code
  with_whens (tree.when c x ws) code = with_whens ws (with_expression x (with_expression c code))

  pub with_operands : Operands → List ℕ → List ℕ
  with_operands tree.no_operands code = with_byte 0 code
  with_operands (tree.operand o x os) code = with_operands os (with_expression x (with_byte (byte_of_operator o) code))

  pub with_tests : Tests → List ℕ → List ℕ
  with_tests tree.no_tests code = with_byte 0 code
  with_tests (tree.text_test t x ts) code = with_tests ts (with_expression x (with_byte (byte_of_test t) code))
  with_tests (tree.null_test b ts) code = with_tests ts (with_flag b (with_byte 5 code))

  pub with_suffixes : Suffixes → List ℕ → List ℕ
  with_suffixes tree.no_suffixes code = with_byte 0 code
  with_suffixes (tree.property n xs) code = with_suffixes xs (with_text n.text (with_byte 1 code))
  with_suffixes (tree.index x xs) code = with_suffixes xs (with_expression x (with_byte 2 code))

-- the byte that an expression begins with
abbrev pub byte_of_form : tree.Expression → ℕ
byte_of_form (tree.literal v) = 1
byte_of_form (tree.parameter n) = 2
byte_of_form (tree.variable n) = 3
byte_of_form (tree.list_literal xs) = 4
byte_of_form (tree.map_literal ps) = 5
byte_of_form (tree.parentheses x) = 6
byte_of_form (tree.call n star distinct xs) = 7
byte_of_form (tree.case x ws e) = 8
byte_of_form (tree.chain x os) = 9
byte_of_form (tree.negation n x) = 10
byte_of_form (tree.signs bs x) = 11
byte_of_form (tree.tests x ts) = 12
byte_of_form (tree.suffixes x xs ls) = 13

-- one test, and one suffix
abbrev pub with_test : Test Expression → List ℕ → List ℕ
with_test (test.Text t x) code = with_expression (expression_view x) (with_byte (byte_of_test t) code)
with_test (test.IsNull b) code = with_flag b (with_byte 5 code)

abbrev pub with_suffix : Suffix Expression → List ℕ → List ℕ
with_suffix (suffix.Property n) code = with_text (name_view n).text (with_byte 1 code)
with_suffix (suffix.Index x) code = with_expression (expression_view x) (with_byte 2 code)
