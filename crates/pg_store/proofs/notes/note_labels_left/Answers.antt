use Rattle.std.proofs.Common.{◌==◌, sym, ap, ◌∙◌}
use Rattle.std.specs.List.{list_any}
use Rattle.std.specs.Prelude.{◌||◌}
use Rattle.pg_store.proofs.NoteLemmas.{no_label_to_come, one_label_fewer, or_on, same_number, stay_all}
use Rattle.pg_store.proofs.notes.note_labels_left.Goals as goal
use Rattle.pg_store.specs.Covers.{with_label}
use Rattle.pg_store.specs.Noted.{is_noted}

pub loop-label-preserved : goal.loop-label-preserved
loop-label-preserved c =
    let was = c.loop-label.invariant in
    let items = c.as_slice-label-items.result.now in
    let at = c.loop-label.label-index in
    let x = c.label-item.result in
    let id = c.args.id in
    let labels = c.args.labels.now in
    let old = c.loop-label.stale_ids.items in
    let new = c.note_label_left.new.stale_ids.items in
    record {
      notes = stay_all c.args.stale_ids.now.items old new was.notes c.note_label_left.ensures.notes;
      items = was.items;
      done = λ m among.
          one_label_fewer (list_any (λ l. l == m) labels || is_noted old (with_label m) id) (list_any (λ l. l == m) labels || is_noted new (with_label m) id) m items at x c.label-item.is c.loop-label-test.true
          (or_on (list_any (λ l. l == m) labels) (is_noted old (with_label m) id) (list_any (λ l. l == m) labels) (is_noted new (with_label m) id) (λ h. h) (c.note_label_left.ensures.notes (with_label m) id))
          (λ is. ap (λ q. list_any (λ l. l == q) labels || is_noted new (with_label q) id) (sym (same_number x m is)) ∙ c.in_ok-note_label_left.ensures.ok)
          (was.done m among);
    }

pub returns-in_err-note_label_left-clause-notes : goal.returns-in_err-note_label_left-clause-notes
returns-in_err-note_label_left-clause-notes c = stay_all c.args.stale_ids.now.items c.loop-label.stale_ids.items c.note_label_left.new.stale_ids.items c.loop-label.invariant.notes c.note_label_left.ensures.notes

pub returns-clause-ok : goal.returns-clause-ok
returns-clause-ok c = λ m among.
    let was = c.loop-label.invariant in
    no_label_to_come (list_any (λ l. l == m) c.args.labels.now || is_noted c.loop-label.stale_ids.items (with_label m) c.args.id) m c.as_slice-label-items.result.now c.loop-label.label-index c.loop-label-test.false
    (was.done m (ap (list_any (λ x. x == m)) was.items ∙ among))
