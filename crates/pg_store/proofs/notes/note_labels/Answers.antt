use Rattle.std.proofs.Common.{◌==◌, ap, ◌∙◌}
use Rattle.std.specs.List.{list_any}
use Rattle.std.specs.Result.{is_ok}
use Rattle.pg_store.proofs.NoteLemmas.{label_noted, no_label_to_come, one_label_fewer, pushed_stay, stay_all}
use Rattle.pg_store.proofs.notes.note_labels.Goals as goal
use Rattle.pg_store.specs.Covers.{with_label}
use Rattle.pg_store.specs.Noted.{StayNoted, is_noted}

pub loop-label-preserved : goal.loop-label-preserved
loop-label-preserved c =
    let was = c.loop-label.invariant in
    let items = c.as_slice-label-items.result.now in
    let at = c.loop-label.label-index in
    let x = c.label-item.result in
    let id = c.args.id in
    let old = c.loop-label.stale_ids.items in
    let new = c.push.new.self.items in
    let stay : StayNoted old new = pushed_stay (is_ok c.push.result) old new _ c.push.ensures.items in
    record {
      notes = stay_all c.args.stale_ids.now.items old new was.notes stay;
      items = was.items;
      done = λ m among.
          one_label_fewer (is_noted old (with_label m) id) (is_noted new (with_label m) id) m items at x c.label-item.is c.loop-label-test.true
          (stay (with_label m) id)
          (λ is. label_noted old new x m id c.in_ok-push.ensures.items is)
          (was.done m among);
    }

pub returns-in_err-push-clause-notes : goal.returns-in_err-push-clause-notes
returns-in_err-push-clause-notes c =
    stay_all c.args.stale_ids.now.items c.loop-label.stale_ids.items c.push.new.self.items c.loop-label.invariant.notes (pushed_stay (is_ok c.push.result) c.loop-label.stale_ids.items c.push.new.self.items _ c.push.ensures.items)

pub returns-clause-ok : goal.returns-clause-ok
returns-clause-ok c = λ m among.
    let was = c.loop-label.invariant in
    no_label_to_come (is_noted c.loop-label.stale_ids.items (with_label m) c.args.id) m c.as_slice-label-items.result.now c.loop-label.label-index c.loop-label-test.false
    (was.done m (ap (list_any (λ x. x == m)) was.items ∙ among))
