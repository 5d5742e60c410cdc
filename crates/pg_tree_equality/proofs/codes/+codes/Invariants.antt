use Rattle.std.proofs.Common.{◌≡◌, drop, map}
use Rattle.pg_tree_equality.specs.Codes.{with_expressions, with_pairs, with_whens, with_operands, with_tests, with_suffixes}
use Rattle.pg_meaning.specs.Parse.{expressions_of, operands_of, pairs_of, whens_of}
use Rattle.pg_syntax_tree.specs.View.{expression_view, pair_view, suffixes_of, tests_of, when_view, operand_view, test_view, suffix_view}
use Rattle.pg_tree_equality.proofs.codes.+codes.Given as goal

abbrev pub invariant-add_all-loop-expression : goal.invariant-add_all-loop-expression
invariant-add_all-loop-expression l = with_expressions (expressions_of (map expression_view (drop l.expression-index l.expressions.items))) l.code.items ≡ with_expressions (expressions_of (map expression_view l.expressions.items)) l.fn.code.items

abbrev pub invariant-add_pairs-loop-pair : goal.invariant-add_pairs-loop-pair
invariant-add_pairs-loop-pair l = with_pairs (pairs_of (map pair_view (drop l.pair-index l.pairs.items))) l.code.items ≡ with_pairs (pairs_of (map pair_view l.pairs.items)) l.fn.code.items

abbrev pub invariant-add_whens-loop-when : goal.invariant-add_whens-loop-when
invariant-add_whens-loop-when l = with_whens (whens_of (map when_view (drop l.when-index l.whens.items))) l.code.items ≡ with_whens (whens_of (map when_view l.whens.items)) l.fn.code.items

abbrev pub invariant-add_operands-loop-operand : goal.invariant-add_operands-loop-operand
invariant-add_operands-loop-operand l = with_operands (operands_of (map operand_view (drop l.operand-index l.operands.items))) l.code.items ≡ with_operands (operands_of (map operand_view l.operands.items)) l.fn.code.items

abbrev pub invariant-add_tests-loop-test : goal.invariant-add_tests-loop-test
invariant-add_tests-loop-test l = with_tests (tests_of (map test_view (drop l.test-index l.tests.items))) l.code.items ≡ with_tests (tests_of (map test_view l.tests.items)) l.fn.code.items

abbrev pub invariant-add_suffixes-loop-suffix : goal.invariant-add_suffixes-loop-suffix
invariant-add_suffixes-loop-suffix l = with_suffixes (suffixes_of (map suffix_view (drop l.suffix-index l.suffixes.items))) l.code.items ≡ with_suffixes (suffixes_of (map suffix_view l.suffixes.items)) l.fn.code.items
