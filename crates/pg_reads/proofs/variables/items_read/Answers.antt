use Rattle.std.proofs.Common.{refl, sym, ◌∙◌}
use Rattle.pg_reads.proofs.ReadLemmas as lemma
use Rattle.pg_reads.proofs.variables.items_read.Goals as goal

pub loop-item-init : goal.loop-item-init
loop-item-init c = refl

pub loop-item-preserved : goal.loop-item-preserved
loop-item-preserved c = lemma.passed_here (lemma.items c.args.name.now) c.args.items.now c.loop-item.item-index c.item-item.result c.loop-item-test.true c.item-item.is (sym c.if-reads.false ∙ c.reads.ensures) c.loop-item.invariant

pub returns-then-reads : goal.returns-then-reads
returns-then-reads c = lemma.reads_here (lemma.items c.args.name.now) c.args.items.now c.loop-item.item-index c.item-item.result c.loop-item-test.true c.item-item.is (sym c.if-reads.true ∙ c.reads.ensures) c.loop-item.invariant

pub returns : goal.returns
returns c = lemma.passed_all (lemma.items c.args.name.now) c.args.items.now c.loop-item.item-index c.loop-item-test.false c.loop-item.invariant
