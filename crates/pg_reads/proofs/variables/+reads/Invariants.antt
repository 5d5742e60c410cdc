use Rattle.std.proofs.Common.{◌≡◌, drop, map}
use Rattle.pg_meaning.specs.Parse.{expressions_of, operands_of, pairs_of, whens_of}
use Rattle.pg_reads.specs.Reads.{any_reads, operands_read, pairs_read, suffixes_read, tests_read, whens_read}
use Rattle.pg_syntax_tree.specs.View.{expression_view, operand_view, pair_view, suffix_view, suffixes_of, test_view, tests_of, when_view}
use Rattle.pg_reads.proofs.variables.+reads.Given as goal

abbrev pub invariant-any_reads-loop-expression : goal.invariant-any_reads-loop-expression
invariant-any_reads-loop-expression l =
    any_reads l.name (expressions_of (map expression_view l.expressions))
    ≡ any_reads l.name (expressions_of (map expression_view (drop l.expression-index l.expressions)))

abbrev pub invariant-pairs_read-loop-value : goal.invariant-pairs_read-loop-value
invariant-pairs_read-loop-value l =
    pairs_read l.name (pairs_of (map pair_view l.pairs))
    ≡ pairs_read l.name (pairs_of (map pair_view (drop l.value-index l.pairs)))

abbrev pub invariant-whens_read-loop-condition : goal.invariant-whens_read-loop-condition
invariant-whens_read-loop-condition l =
    whens_read l.name (whens_of (map when_view l.whens))
    ≡ whens_read l.name (whens_of (map when_view (drop l.condition-index l.whens)))

abbrev pub invariant-operands_read-loop-operand : goal.invariant-operands_read-loop-operand
invariant-operands_read-loop-operand l =
    operands_read l.name (operands_of (map operand_view l.operands))
    ≡ operands_read l.name (operands_of (map operand_view (drop l.operand-index l.operands)))

abbrev pub invariant-tests_read-loop-test : goal.invariant-tests_read-loop-test
invariant-tests_read-loop-test l =
    tests_read l.name (tests_of (map test_view l.tests))
    ≡ tests_read l.name (tests_of (map test_view (drop l.test-index l.tests)))

abbrev pub invariant-suffixes_read-loop-suffix : goal.invariant-suffixes_read-loop-suffix
invariant-suffixes_read-loop-suffix l =
    suffixes_read l.name (suffixes_of (map suffix_view l.suffixes))
    ≡ suffixes_read l.name (suffixes_of (map suffix_view (drop l.suffix-index l.suffixes)))
