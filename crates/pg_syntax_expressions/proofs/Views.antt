-- Tests and suffixes as they are read, one before the others, and operands.
use Rattle.std.proofs.Common.{◌≡◌, ◌<◌, length, List, [], ◌∷◌, map, refl, ap, arith}
use Rattle.pg_meaning.specs.declared.operators.Operator.{Operator}
use Rattle.pg_meaning.specs.Parse.{all_tests, all_suffixes, chained, operands_of, tested, suffixed}
use Rattle.pg_meaning.specs.Tree as tree
use Rattle.pg_syntax_expressions.specs.Parts.{suffix_view, test_view}
use Rattle.pg_syntax_tree.specs.View.{expression_view, name_view, names_view, operand_view, tests_of, suffixes_of}
use Rattle.pg_syntax_tree.specs.View as view
use Rattle.pg_syntax_tree.specs.declared.expression.Expression.{Expression}
use Rattle.pg_syntax_tree.specs.declared.expression.Name.{Name}
use Rattle.pg_syntax_tree.specs.declared.expression.Suffix.{Suffix}
use Rattle.pg_syntax_tree.specs.declared.expression.Suffix.TheVariants as suffix
use Rattle.pg_syntax_tree.specs.declared.expression.Test.{Test}
use Rattle.pg_syntax_tree.specs.declared.expression.Test.TheVariants as test

tests_read : (ts : List (Test Expression)) → tests_of (map view.test_view ts) ≡ all_tests (map test_view ts)
tests_read [] = refl
tests_read (test.Text t x ∷ ts) = ap (tree.text_test t (expression_view x)) (tests_read ts)
tests_read (test.IsNull negated ∷ ts) = ap (tree.null_test negated) (tests_read ts)

suffixes_read : (ss : List (Suffix Expression)) → suffixes_of (map view.suffix_view ss) ≡ all_suffixes (map suffix_view ss)
suffixes_read [] = refl
suffixes_read (suffix.Property n ∷ ss) = ap (tree.property (name_view n)) (suffixes_read ss)
suffixes_read (suffix.Index x ∷ ss) = ap (tree.index (expression_view x)) (suffixes_read ss)

pub chained_more : (x : tree.Expression) (os : List (Operator × Expression)) → 0 < length os → tree.chain x (operands_of (map operand_view os)) ≡ chained x (map operand_view os)
chained_more x [] e = absurd (omega arith)
chained_more x (o ∷ os) e = refl

pub tested_more : (x : tree.Expression) (ts : List (Test Expression)) → 0 < length ts → tree.tests x (tests_of (map view.test_view ts)) ≡ tested x (map test_view ts)
tested_more x [] e = absurd (omega arith)
tested_more x (t ∷ ts) e = ap (tree.tests x) (tests_read (t ∷ ts))

pub suffixed_more : (x : tree.Expression) (ss : List (Suffix Expression)) (ls : List Name) → 0 < length ss → tree.suffixes x (suffixes_of (map view.suffix_view ss)) (names_view ls) ≡ suffixed x (map suffix_view ss) (names_view ls)
suffixed_more x [] ls e = absurd (omega arith)
suffixed_more x (s ∷ ss) ls e = ap (λ r. tree.suffixes x r (names_view ls)) (suffixes_read (s ∷ ss))

pub labelled_more : (x : tree.Expression) (ss : List (Suffix Expression)) (ls : List Name) → 0 < length ls → tree.suffixes x (suffixes_of (map view.suffix_view ss)) (names_view ls) ≡ suffixed x (map suffix_view ss) (names_view ls)
labelled_more x ss [] e = absurd (omega arith)
labelled_more x [] (l ∷ ls) e = refl
labelled_more x (s ∷ ss) (l ∷ ls) e = ap (λ r. tree.suffixes x r (names_view (l ∷ ls))) (suffixes_read (s ∷ ss))
