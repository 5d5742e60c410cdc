use Rattle.pg_project.proofs.NamesAlike.{one_more_alike, same_name}
use Rattle.pg_project.proofs.pass_through.same_names.Goals as goal

pub loop-at-preserved : goal.loop-at-preserved
loop-at-preserved c =
    let one = c.name.result.now in
    let other = c.name-in-loop-at.result.now in
    one_more_alike c.args.columns.now c.args.names.now c.loop-at.at one other c.loop-at.invariant c.name.ensures c.name-in-loop-at.ensures (same_name one other c.if-ne.ensures)
