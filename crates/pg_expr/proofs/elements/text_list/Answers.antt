use Rattle.pg_expr.proofs.TextListLemmas.{text_copied, all_copied}
use Rattle.pg_expr.proofs.elements.text_list.Goals as goal

pub loop-bytes-preserved : goal.loop-bytes-preserved
loop-bytes-preserved c =
    let l = c.loop-bytes in
    text_copied l.values.items c.deref-bytes-items.result.now l.bytes-index l.invariant _ c.in_ok-text.field-0 c.push.new.self.items c.loop-bytes-test.true c.in_ok-text.ensures c.in_ok-push.ensures.items

pub returns : goal.returns
returns c =
    let l = c.loop-bytes in
    rw (← all_copied l.values c.deref-bytes-items.result.now c.args.all.now.items c.deref-bytes-items.ensures.value l.bytes-index l.invariant c.loop-bytes-test.false) c.list.ensures
