use Rattle.std.proofs.Common.{◌≡◌, drop, map}
use Rattle.pg_meaning.specs.Parse.{expressions_of, operands_of, pairs_of, whens_of}
use Rattle.pg_meaning.specs.Trees.{same_expressions, same_pairs, same_whens, same_operands, same_tests, same_suffixes}
use Rattle.pg_syntax_tree.specs.View.{expression_view, pair_view, suffixes_of, tests_of, when_view, operand_view, test_view, suffix_view}
use Rattle.pg_tree_equality.proofs.trees.+trees.Given as goal

abbrev pub invariant-same_all-loop-i : goal.invariant-same_all-loop-i
invariant-same_all-loop-i l = same_expressions (expressions_of (map expression_view l.a.items)) (expressions_of (map expression_view l.b.items)) ≡ same_expressions (expressions_of (map expression_view (drop l.i l.a.items))) (expressions_of (map expression_view (drop l.i l.b.items)))

abbrev pub invariant-same_pairs-loop-i : goal.invariant-same_pairs-loop-i
invariant-same_pairs-loop-i l = same_pairs (pairs_of (map pair_view l.a.items)) (pairs_of (map pair_view l.b.items)) ≡ same_pairs (pairs_of (map pair_view (drop l.i l.a.items))) (pairs_of (map pair_view (drop l.i l.b.items)))

abbrev pub invariant-same_whens-loop-i : goal.invariant-same_whens-loop-i
invariant-same_whens-loop-i l = same_whens (whens_of (map when_view l.a.items)) (whens_of (map when_view l.b.items)) ≡ same_whens (whens_of (map when_view (drop l.i l.a.items))) (whens_of (map when_view (drop l.i l.b.items)))

abbrev pub invariant-same_operands-loop-i : goal.invariant-same_operands-loop-i
invariant-same_operands-loop-i l = same_operands (operands_of (map operand_view l.a.items)) (operands_of (map operand_view l.b.items)) ≡ same_operands (operands_of (map operand_view (drop l.i l.a.items))) (operands_of (map operand_view (drop l.i l.b.items)))

abbrev pub invariant-same_tests-loop-i : goal.invariant-same_tests-loop-i
invariant-same_tests-loop-i l = same_tests (tests_of (map test_view l.a.items)) (tests_of (map test_view l.b.items)) ≡ same_tests (tests_of (map test_view (drop l.i l.a.items))) (tests_of (map test_view (drop l.i l.b.items)))

abbrev pub invariant-same_suffixes-loop-i : goal.invariant-same_suffixes-loop-i
invariant-same_suffixes-loop-i l = same_suffixes (suffixes_of (map suffix_view l.a.items)) (suffixes_of (map suffix_view l.b.items)) ≡ same_suffixes (suffixes_of (map suffix_view (drop l.i l.a.items))) (suffixes_of (map suffix_view (drop l.i l.b.items)))
