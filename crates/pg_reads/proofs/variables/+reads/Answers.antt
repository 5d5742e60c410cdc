use Rattle.std.proofs.Common.{◌≡◌, true, map, refl, sym, ◌∙◌}
use Rattle.std.specs.Prelude.{◌||◌}
use Rattle.pg_reads.proofs.ReadLemmas as lemma
use Rattle.pg_meaning.specs.Parse.{whens_of}
use Rattle.pg_reads.specs.Reads.{perhaps_reads, whens_read}
use Rattle.pg_syntax_tree.proofs.Views.{map_is, case_is, chain_is, tests_is, suffixes_is}
use Rattle.pg_syntax_tree.specs.View.{perhaps_view, when_view}
use Rattle.pg_reads.proofs.variables.+reads.Goals as goal

pub reads-returns-in-MapLiteral : goal.reads-returns-in-MapLiteral
reads-returns-in-MapLiteral t c = rw c.in-MapLiteral.is (rw (map_is c.in-MapLiteral.pairs) (rw c.deref-in-MapLiteral.ensures.value at c.pairs_read.ensures))

pub any_reads-loop-expression-init : goal.any_reads-loop-expression-init
any_reads-loop-expression-init t c = refl

pub any_reads-loop-expression-preserved : goal.any_reads-loop-expression-preserved
any_reads-loop-expression-preserved t c = lemma.passed_here (lemma.expressions c.args.name.now) c.args.expressions.now c.loop-expression.expression-index c.expression-item.result c.loop-expression-test.true c.expression-item.is (sym c.if-reads.false ∙ c.reads.ensures) c.loop-expression.invariant

pub any_reads-returns-then-reads : goal.any_reads-returns-then-reads
any_reads-returns-then-reads t c = lemma.reads_here (lemma.expressions c.args.name.now) c.args.expressions.now c.loop-expression.expression-index c.expression-item.result c.loop-expression-test.true c.expression-item.is (sym c.if-reads.true ∙ c.reads.ensures) c.loop-expression.invariant

pub any_reads-returns : goal.any_reads-returns
any_reads-returns t c = lemma.passed_all (lemma.expressions c.args.name.now) c.args.expressions.now c.loop-expression.expression-index c.loop-expression-test.false c.loop-expression.invariant

pub pairs_read-loop-value-init : goal.pairs_read-loop-value-init
pairs_read-loop-value-init t c = refl

pub pairs_read-loop-value-preserved : goal.pairs_read-loop-value-preserved
pairs_read-loop-value-preserved t c = lemma.passed_here (lemma.pairs c.args.name.now) c.args.pairs.now c.loop-value.value-index c.loop-value-item.result c.loop-value-test.true c.loop-value-item.is (sym c.if-reads.false ∙ c.reads.ensures) c.loop-value.invariant

pub pairs_read-returns-then-reads : goal.pairs_read-returns-then-reads
pairs_read-returns-then-reads t c = lemma.reads_here (lemma.pairs c.args.name.now) c.args.pairs.now c.loop-value.value-index c.loop-value-item.result c.loop-value-test.true c.loop-value-item.is (sym c.if-reads.true ∙ c.reads.ensures) c.loop-value.invariant

pub pairs_read-returns : goal.pairs_read-returns
pairs_read-returns t c = lemma.passed_all (lemma.pairs c.args.name.now) c.args.pairs.now c.loop-value.value-index c.loop-value-test.false c.loop-value.invariant

pub whens_read-loop-condition-init : goal.whens_read-loop-condition-init
whens_read-loop-condition-init t c = refl

pub whens_read-loop-condition-preserved : goal.whens_read-loop-condition-preserved
whens_read-loop-condition-preserved t c = lemma.passed_here (lemma.whens c.args.name.now) c.args.whens.now c.loop-condition.condition-index c.loop-condition-item.result c.loop-condition-test.true c.loop-condition-item.is (lemma.or_else _ c.reads.ensures c.if-reads.false (sym c.if-reads-2.false ∙ c.reads-else-reads.ensures)) c.loop-condition.invariant

pub whens_read-returns-then-reads : goal.whens_read-returns-then-reads
whens_read-returns-then-reads t c =
    let found : true ≡ (lemma.whens c.args.name.now).one c.loop-condition-item.result = elim c.then-reads.branch [
      | goal.whens_read-then-reads-via-then-reads w ↦ lemma.or_then _ c.reads.ensures w.if-reads.true (sym w.if-reads.true)
      | goal.whens_read-then-reads-via-else-reads+then-reads-2 w ↦ lemma.or_else _ c.reads.ensures w.if-reads.false (sym w.if-reads-2.true ∙ w.reads-else-reads.ensures)
    ] in
    lemma.reads_here (lemma.whens c.args.name.now) c.args.whens.now c.loop-condition.condition-index c.loop-condition-item.result c.loop-condition-test.true c.loop-condition-item.is found c.loop-condition.invariant

pub whens_read-returns : goal.whens_read-returns
whens_read-returns t c = lemma.passed_all (lemma.whens c.args.name.now) c.args.whens.now c.loop-condition.condition-index c.loop-condition-test.false c.loop-condition.invariant

pub operands_read-loop-operand-init : goal.operands_read-loop-operand-init
operands_read-loop-operand-init t c = refl

pub operands_read-loop-operand-preserved : goal.operands_read-loop-operand-preserved
operands_read-loop-operand-preserved t c = lemma.passed_here (lemma.operands c.args.name.now) c.args.operands.now c.loop-operand.operand-index c.loop-operand-item.result c.loop-operand-test.true c.loop-operand-item.is (sym c.if-reads.false ∙ c.reads.ensures) c.loop-operand.invariant

pub operands_read-returns-then-reads : goal.operands_read-returns-then-reads
operands_read-returns-then-reads t c = lemma.reads_here (lemma.operands c.args.name.now) c.args.operands.now c.loop-operand.operand-index c.loop-operand-item.result c.loop-operand-test.true c.loop-operand-item.is (sym c.if-reads.true ∙ c.reads.ensures) c.loop-operand.invariant

pub operands_read-returns : goal.operands_read-returns
operands_read-returns t c = lemma.passed_all (lemma.operands c.args.name.now) c.args.operands.now c.loop-operand.operand-index c.loop-operand-test.false c.loop-operand.invariant

pub tests_read-loop-test-init : goal.tests_read-loop-test-init
tests_read-loop-test-init t c = refl

pub tests_read-loop-test-preserved : goal.tests_read-loop-test-preserved
tests_read-loop-test-preserved t c =
    let found : c.match-test.found ≡ lemma.test_reads c.args.name.now c.test-item.result = elim c.match-test.branch [
      | goal.tests_read-in-Text w ↦ rw w.in-Text.is (w.found-is ∙ w.reads-found.ensures)
      | goal.tests_read-in-IsNull w ↦ rw w.in-IsNull.is w.found-is
    ] in
    lemma.passed_here (lemma.tests c.args.name.now) c.args.tests.now c.loop-test.test-index c.test-item.result c.loop-test-test.true c.test-item.is (sym c.if-found.false ∙ found) c.loop-test.invariant

pub tests_read-returns-then-found : goal.tests_read-returns-then-found
tests_read-returns-then-found t c =
    let found : c.match-test.found ≡ lemma.test_reads c.args.name.now c.test-item.result = elim c.match-test.branch [
      | goal.tests_read-in-Text w ↦ rw w.in-Text.is (w.found-is ∙ w.reads-found.ensures)
      | goal.tests_read-in-IsNull w ↦ rw w.in-IsNull.is w.found-is
    ] in
    lemma.reads_here (lemma.tests c.args.name.now) c.args.tests.now c.loop-test.test-index c.test-item.result c.loop-test-test.true c.test-item.is (sym c.if-found.true ∙ found) c.loop-test.invariant

pub tests_read-returns : goal.tests_read-returns
tests_read-returns t c = lemma.passed_all (lemma.tests c.args.name.now) c.args.tests.now c.loop-test.test-index c.loop-test-test.false c.loop-test.invariant

pub suffixes_read-loop-suffix-init : goal.suffixes_read-loop-suffix-init
suffixes_read-loop-suffix-init t c = refl

pub suffixes_read-loop-suffix-preserved : goal.suffixes_read-loop-suffix-preserved
suffixes_read-loop-suffix-preserved t c =
    let found : c.match-suffix.found ≡ lemma.suffix_reads c.args.name.now c.suffix-item.result = elim c.match-suffix.branch [
      | goal.suffixes_read-in-Index w ↦ rw w.in-Index.is (w.found-is ∙ w.reads-found.ensures)
      | goal.suffixes_read-in-Property w ↦ rw w.in-Property.is w.found-is
    ] in
    lemma.passed_here (lemma.suffixes c.args.name.now) c.args.suffixes.now c.loop-suffix.suffix-index c.suffix-item.result c.loop-suffix-test.true c.suffix-item.is (sym c.if-found.false ∙ found) c.loop-suffix.invariant

pub suffixes_read-returns-then-found : goal.suffixes_read-returns-then-found
suffixes_read-returns-then-found t c =
    let found : c.match-suffix.found ≡ lemma.suffix_reads c.args.name.now c.suffix-item.result = elim c.match-suffix.branch [
      | goal.suffixes_read-in-Index w ↦ rw w.in-Index.is (w.found-is ∙ w.reads-found.ensures)
      | goal.suffixes_read-in-Property w ↦ rw w.in-Property.is w.found-is
    ] in
    lemma.reads_here (lemma.suffixes c.args.name.now) c.args.suffixes.now c.loop-suffix.suffix-index c.suffix-item.result c.loop-suffix-test.true c.suffix-item.is (sym c.if-found.true ∙ found) c.loop-suffix.invariant

pub suffixes_read-returns : goal.suffixes_read-returns
suffixes_read-returns t c = lemma.passed_all (lemma.suffixes c.args.name.now) c.args.suffixes.now c.loop-suffix.suffix-index c.loop-suffix-test.false c.loop-suffix.invariant

pub reads-returns-else-reads : goal.reads-returns-else-reads
reads-returns-else-reads t c =
    let a = c.in-Chain in
    rw a.is (rw (chain_is a.first a.operands) (lemma.or_else _ (lemma.reads_there c.args.name.now c.reads.ensures c.deref-in-Chain.ensures) c.if-reads.false (rw c.deref-else-reads.ensures.value at c.operands_read.ensures)))

pub reads-returns-else-reads-2 : goal.reads-returns-else-reads-2
reads-returns-else-reads-2 t c =
    let a = c.in-Tests in
    rw a.is (rw (tests_is a.first a.tests) (lemma.or_else _ (lemma.reads_there c.args.name.now c.reads-in-Tests.ensures c.deref-in-Tests.ensures) c.if-reads-2.false (rw c.deref-else-reads-2.ensures.value at c.tests_read.ensures)))

pub reads-returns-else-reads-3 : goal.reads-returns-else-reads-3
reads-returns-else-reads-3 t c =
    let a = c.in-Suffixes in
    rw a.is (rw (suffixes_is a.first a.suffixes a.field-2) (lemma.or_else _ (lemma.reads_there c.args.name.now c.reads-in-Suffixes.ensures c.deref-in-Suffixes.ensures) c.if-reads-3.false (rw c.deref-else-reads-3.ensures.value at c.suffixes_read.ensures)))

pub reads-returns-then-whens_read : goal.reads-returns-then-whens_read
reads-returns-then-whens_read t c =
    let a = c.in-Case in
    let name = c.args.name.now in
    let subject = perhaps_reads name (perhaps_view a.subject) in
    let inside = whens_read name (whens_of (map when_view a.whens.items)) in
    let last = perhaps_reads name (perhaps_view a.otherwise) in
    let two : c.if-perhaps_reads.value ≡ (subject || inside) = elim c.if-perhaps_reads.branch [
      | goal.reads-then-perhaps_reads w ↦ lemma.or_then {a = subject} inside c.perhaps_reads.ensures w.if-perhaps_reads.true w.value-is
      | goal.reads-else-perhaps_reads w ↦ lemma.or_else {a = subject} inside c.perhaps_reads.ensures w.if-perhaps_reads.false (w.value-is ∙ (rw w.deref-else-perhaps_reads.ensures.value at w.whens_read.ensures))
    ] in
    rw a.is (rw (case_is a.subject a.whens a.otherwise) (lemma.or_then_last subject inside last two c.if-whens_read.true))

pub reads-returns-else-whens_read : goal.reads-returns-else-whens_read
reads-returns-else-whens_read t c =
    let a = c.in-Case in
    let name = c.args.name.now in
    let subject = perhaps_reads name (perhaps_view a.subject) in
    let inside = whens_read name (whens_of (map when_view a.whens.items)) in
    let last = perhaps_reads name (perhaps_view a.otherwise) in
    let two : c.if-perhaps_reads.value ≡ (subject || inside) = elim c.if-perhaps_reads.branch [
      | goal.reads-then-perhaps_reads w ↦ lemma.or_then {a = subject} inside c.perhaps_reads.ensures w.if-perhaps_reads.true w.value-is
      | goal.reads-else-perhaps_reads w ↦ lemma.or_else {a = subject} inside c.perhaps_reads.ensures w.if-perhaps_reads.false (w.value-is ∙ (rw w.deref-else-perhaps_reads.ensures.value at w.whens_read.ensures))
    ] in
    rw a.is (rw (case_is a.subject a.whens a.otherwise) (lemma.or_else_last subject inside last two c.if-whens_read.false c.perhaps_reads-else-whens_read.ensures))
