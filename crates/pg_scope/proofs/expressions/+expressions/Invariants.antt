use Rattle.std.proofs.Common.{◌≡◌, drop, map}
use Rattle.pg_meaning.specs.Parse.{expressions_of, operands_of, pairs_of, whens_of}
use Rattle.pg_meaning.specs.StaticFaults.{least, all_faults, pair_faults, when_faults, operand_faults, test_faults, suffix_faults}
use Rattle.pg_scope.specs.Names.{names_in}
use Rattle.pg_syntax_tree.specs.View.{expression_view, pair_view, suffixes_of, tests_of, when_view, operand_view, test_view, suffix_view}
use Rattle.pg_scope.proofs.expressions.+expressions.Given as goal

abbrev pub invariant-fault_in_all-loop-item : goal.invariant-fault_in_all-loop-item
invariant-fault_in_all-loop-item l =
    least l.fn.first (all_faults (names_in l.visible) (expressions_of (map expression_view l.items.items)))
    ≡ least l.first (all_faults (names_in l.visible) (expressions_of (map expression_view (drop l.item-index l.items.items))))

abbrev pub invariant-fault_in_pairs-loop-value : goal.invariant-fault_in_pairs-loop-value
invariant-fault_in_pairs-loop-value l =
    least l.fn.first (pair_faults (names_in l.visible) (pairs_of (map pair_view l.pairs.items)))
    ≡ least l.first (pair_faults (names_in l.visible) (pairs_of (map pair_view (drop l.value-index l.pairs.items))))

abbrev pub invariant-fault_in_whens-loop-condition : goal.invariant-fault_in_whens-loop-condition
invariant-fault_in_whens-loop-condition l =
    least l.fn.first (when_faults (names_in l.visible) (whens_of (map when_view l.whens.items)))
    ≡ least l.first (when_faults (names_in l.visible) (whens_of (map when_view (drop l.condition-index l.whens.items))))

abbrev pub invariant-fault_in_operands-loop-operand : goal.invariant-fault_in_operands-loop-operand
invariant-fault_in_operands-loop-operand l =
    least l.fn.first (operand_faults (names_in l.visible) (operands_of (map operand_view l.operands.items)))
    ≡ least l.first (operand_faults (names_in l.visible) (operands_of (map operand_view (drop l.operand-index l.operands.items))))

abbrev pub invariant-fault_in_tests-loop-test : goal.invariant-fault_in_tests-loop-test
invariant-fault_in_tests-loop-test l =
    least l.fn.first (test_faults (names_in l.visible) (tests_of (map test_view l.tests.items)))
    ≡ least l.first (test_faults (names_in l.visible) (tests_of (map test_view (drop l.test-index l.tests.items))))

abbrev pub invariant-fault_in_suffixes-loop-suffix : goal.invariant-fault_in_suffixes-loop-suffix
invariant-fault_in_suffixes-loop-suffix l =
    least l.fn.first (suffix_faults (names_in l.visible) (suffixes_of (map suffix_view l.suffixes.items)))
    ≡ least l.first (suffix_faults (names_in l.visible) (suffixes_of (map suffix_view (drop l.suffix-index l.suffixes.items))))
