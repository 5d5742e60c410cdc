use Rattle.std.proofs.Common.{◌≡◌, drop}
use Rattle.std.specs.Prelude.{option_map}
use Rattle.pg_expr.proofs.Walks.{joined, joined_pairs, each_of, pairs_given, first_of, true_of, chain_of, operands_given, tests_given, suffixes_given}
use Rattle.pg_expr.specs.Contexts.{found_view, founds_view, pairs_view}
use Rattle.pg_meaning.specs.Value.{no_entries}
use Rattle.pg_value_core.specs.View.{entries_view}
use Rattle.pg_expr.proofs.evaluation.+find.Given as goal

abbrev pub invariant-each-loop-item : goal.invariant-each-loop-item
invariant-each-loop-item g l = each_of l.context l.graph l.items.items ≡ joined (founds_view l.found.items) (each_of l.context l.graph (drop l.item-index l.items.items))

abbrev pub invariant-mapping-loop-key : goal.invariant-mapping-loop-key
invariant-mapping-loop-key g l =
    pairs_given l.context l.graph no_entries l.pairs.items ≡ pairs_given l.context l.graph (entries_view l.entries.entries) (drop l.key-index l.pairs.items)

abbrev pub invariant-first_given-loop-item : goal.invariant-first_given-loop-item
invariant-first_given-loop-item g l = first_of l.context l.graph l.items.items ≡ first_of l.context l.graph (drop l.item-index l.items.items)

abbrev pub invariant-first_true-loop-condition : goal.invariant-first_true-loop-condition
invariant-first_true-loop-condition g l =
    true_of l.context l.graph (option_map found_view l.subject) l.whens.items ≡ true_of l.context l.graph (option_map found_view l.subject) (drop l.condition-index l.whens.items)

abbrev pub invariant-joined-loop-operator : goal.invariant-joined-loop-operator
invariant-joined-loop-operator g l =
    chain_of l.context l.graph (found_view l.fn.first) l.operands.items ≡ chain_of l.context l.graph (found_view l.left) (drop l.operator-index l.operands.items)

abbrev pub invariant-each_operand-loop-operator : goal.invariant-each_operand-loop-operator
invariant-each_operand-loop-operator g l =
    operands_given l.context l.graph l.operands.items ≡ joined_pairs (pairs_view l.found.items) (operands_given l.context l.graph (drop l.operator-index l.operands.items))

abbrev pub invariant-pass_tests-loop-test : goal.invariant-pass_tests-loop-test
invariant-pass_tests-loop-test g l =
    tests_given l.context l.graph (found_view l.initial.found) l.test-items ≡ tests_given l.context l.graph (found_view l.found) (drop l.test-index l.test-items)

abbrev pub invariant-read-loop-suffix : goal.invariant-read-loop-suffix
invariant-read-loop-suffix g l =
    suffixes_given l.context l.graph (found_view l.initial.found) l.suffix-items ≡ suffixes_given l.context l.graph (found_view l.found) (drop l.suffix-index l.suffix-items)
