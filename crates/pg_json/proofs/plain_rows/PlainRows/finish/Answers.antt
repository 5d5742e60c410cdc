use Rattle.pg_json.proofs.Writing.{plain_reply}
use Rattle.pg_json.proofs.plain_rows.PlainRows.finish.Goals as goal

pub invariant_of-result : goal.invariant_of-result
invariant_of-result c =
    plain_reply c.args.self.to.before _ _ _ _ _ c.args.steps c.args.self.begun c.into_inner-text.ensures.items c.in_ok-push.ensures.items c.in_ok-text.ensures.ok c.in_ok-text.ensures.within c.new-row_ends.ensures.items
