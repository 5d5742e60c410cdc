use Rattle.std.specs.Result.{is_ok}
use Rattle.pg_store.proofs.NoteLemmas.{pushed_stay, value_noted}
use Rattle.pg_store.proofs.notes.note_value.Goals as goal

pub returns-in_err-push-clause-notes : goal.returns-in_err-push-clause-notes
returns-in_err-push-clause-notes c = pushed_stay (is_ok c.push.result) c.args.stale_ids.now.items c.push.new.self.items _ c.push.ensures.items

pub returns-clause-notes : goal.returns-clause-notes
returns-clause-notes c = pushed_stay (is_ok c.push.result) c.args.stale_ids.now.items c.push.new.self.items _ c.push.ensures.items

pub returns-clause-ok : goal.returns-clause-ok
returns-clause-ok c = λ v one.
    value_noted c.args.stale_ids.now.items c.push.new.self.items c.args.index.now.label c.args.index.now.key c.in_ok-value.value c.args.value.now v c.args.id c.in_ok-push.ensures.items c.in_ok-value.ensures one
