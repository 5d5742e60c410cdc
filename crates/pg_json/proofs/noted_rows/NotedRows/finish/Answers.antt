use Rattle.pg_json.proofs.Writing.{noted_reply}
use Rattle.pg_json.proofs.noted_rows.NotedRows.finish.Goals as goal

pub invariant_of-result : goal.invariant_of-result
invariant_of-result c =
    noted_reply c.self.inside.text.items _ _ _ _ c.args.steps c.ranges.steps.fits c.in_ok-push.ensures.items c.in_ok-text.ensures.ok c.in_ok-text.ensures.within c.self.invariant
