use Rattle.std.proofs.Common.{refl, sym, ◌∙◌}
use Rattle.pg_reads.proofs.ReadLemmas as lemma
use Rattle.pg_reads.proofs.variables.sorts_read.Goals as goal

pub loop-sort-init : goal.loop-sort-init
loop-sort-init c = refl

pub loop-sort-preserved : goal.loop-sort-preserved
loop-sort-preserved c = lemma.passed_here (lemma.sorts c.args.name.now) c.args.sorts.now c.loop-sort.sort-index c.sort-item.result c.loop-sort-test.true c.sort-item.is (sym c.if-reads.false ∙ c.reads.ensures) c.loop-sort.invariant

pub returns-then-reads : goal.returns-then-reads
returns-then-reads c = lemma.reads_here (lemma.sorts c.args.name.now) c.args.sorts.now c.loop-sort.sort-index c.sort-item.result c.loop-sort-test.true c.sort-item.is (sym c.if-reads.true ∙ c.reads.ensures) c.loop-sort.invariant

pub returns : goal.returns
returns c = lemma.passed_all (lemma.sorts c.args.name.now) c.args.sorts.now c.loop-sort.sort-index c.loop-sort-test.false c.loop-sort.invariant
