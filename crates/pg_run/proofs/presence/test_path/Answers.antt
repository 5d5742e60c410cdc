use Rattle.std.proofs.Common.{◌+◌, ap, drop, get_or, sym, ◌∙◌}
use Rattle.std.proofs.lemmas.List.{drop_more}
use Rattle.std.proofs.lemmas.Result.{err_from_is_err_and}
use Rattle.pg_meaning.specs.Queries.{test_ids}
use Rattle.pg_run.proofs.Places.{place_refused, place_tested}
use Rattle.pg_run.proofs.presence.test_path.Goals as goal

pub returns-in_err-test_element-clause-err : goal.returns-in_err-test_element-clause-err
returns-in_err-test_element-clause-err g c =
    let ids = c.deref-id-items.result.now in
    let i = c.loop-id.id-index in
    let p = err_from_is_err_and c.from_residual.result c.from_residual.ensures.1 in
    rw (p.1, p.2) (ap (test_ids c.args.graph.now) (sym c.deref-id-items.ensures.value)
    ∙ place_refused c.args.graph.now c.loop-id.is_node ids (drop i ids) (drop (i + 1) ids) (get_or ids i 0) _ c.loop-id.invariant (drop_more ids i 0 c.loop-id-test.true) c.in_err-test_element.ensures.err)

pub loop-id-preserved : goal.loop-id-preserved
loop-id-preserved g c =
    let ids = c.deref-id-items.result.now in
    let i = c.loop-id.id-index in
    place_tested c.args.graph.now c.loop-id.is_node ids (drop i ids) (drop (i + 1) ids) (get_or ids i 0) c.loop-id.invariant (drop_more ids i 0 c.loop-id-test.true) c.in_ok-test_element.ensures.ok
