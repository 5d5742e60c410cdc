use Rattle.std.proofs.Common.{sym, ap, ◌∙◌}
use Rattle.std.specs.FinMap as map
use Rattle.pg_store.proofs.Keeping.{each_before, none_before, one_more}
use Rattle.pg_store.proofs.NoteLemmas.{index_is}
use Rattle.pg_store.proofs.node_changes.keeps_indexed.Goals as goal
use Rattle.pg_store.specs.Edits.{properties_before}

pub loop-index-init : goal.loop-index-init
loop-index-init c = λ l k pair none. none_before _ l k c.args.indexes.now pair none

pub loop-index-preserved : goal.loop-index-preserved
loop-index-preserved c = λ l k pair none ps.
    let x = c.index-item.result in
    one_more _ l k c.args.indexes.now c.loop-index.index-index x c.index-item.is c.loop-index-test.true (λ left. c.loop-index.invariant l k pair left ps)
    (λ for. let is = index_is x l k for in
    ap (map.get (properties_before c.args.before.now ps)) (sym is.1) ∙ c.keeps.ensures c.if-not-keeps.false ps ∙ ap (map.get ps) is.1)
    none

pub returns : goal.returns
returns c = λ yes l k pair ps. each_before _ l k c.args.indexes.now c.loop-index.index-index c.loop-index-test.false (λ left. c.loop-index.invariant l k pair left ps)
