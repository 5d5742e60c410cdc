use Rattle.std.proofs.Common.{false, Ok, Err, sym, ap, ◌∙◌}
use Rattle.std.proofs.lemmas.Result.{err_from_is_err_and}
use Rattle.pg_meaning.specs.Reading.{test_nodes}
use Rattle.pg_write_make.proofs.TurnLemmas.{all_tested, test_then}
use Rattle.pg_write_make.specs.Makings.{others_view}
use Rattle.pg_write_make.specs.Scenes.{row_in}
use Rattle.pg_write_make.proofs.bound.test_others.Goals as goal

pub loop-hop-preserved : goal.loop-hop-preserved
loop-hop-preserved g c =
    let hs = c.args.hops.now.items in
    let row = row_in c.args.scene.now c.args.row.now in
    test_then c.deref-hop-items.result.now hs c.loop-hop.hop-index c.deref-hop-items.ensures.value c.args.graph.now row (test_nodes false c.args.graph.now row (others_view hs)) c.loop-hop.invariant
    c.hop-item.result c.hop-item.is c.loop-hop-test.true (Ok tt) c.in_ok-test_node.ensures

pub returns-in_err-test_node : goal.returns-in_err-test_node
returns-in_err-test_node g c =
    let hs = c.args.hops.now.items in
    let row = row_in c.args.scene.now c.args.row.now in
    let p = err_from_is_err_and c.from_residual.result c.from_residual.ensures.1 in
    p.1 ∙ ap Err p.2 ∙ sym (test_then c.deref-hop-items.result.now hs c.loop-hop.hop-index c.deref-hop-items.ensures.value c.args.graph.now row (test_nodes false c.args.graph.now row (others_view hs)) c.loop-hop.invariant
    c.hop-item.result c.hop-item.is c.loop-hop-test.true (Err c.in_err-test_node.field-0.0) c.in_err-test_node.ensures)

pub returns : goal.returns
returns g c =
    let hs = c.args.hops.now.items in
    let row = row_in c.args.scene.now c.args.row.now in
    sym (all_tested c.deref-hop-items.result.now hs c.loop-hop.hop-index c.deref-hop-items.ensures.value c.args.graph.now row (test_nodes false c.args.graph.now row (others_view hs)) c.loop-hop.invariant c.loop-hop-test.false)
