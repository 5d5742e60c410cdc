use Rattle.std.proofs.Common.{◌==◌, refl, sym, ◌∙◌}
use Rattle.std.specs.List.{list_any}
use Rattle.std.specs.Result.{is_ok}
use Rattle.pg_store.proofs.NoteLemmas.{equal_number, label_noted, or_left, or_right, pushed_stay}
use Rattle.pg_store.proofs.notes.note_label_left.Goals as goal
use Rattle.pg_store.specs.Covers.{with_label}
use Rattle.pg_store.specs.Noted.{is_noted}

pub returns-then-contains-clause-ok : goal.returns-then-contains-clause-ok
returns-then-contains-clause-ok c = or_left (list_any (λ l. l == c.args.label) c.args.labels.now) (is_noted c.args.stale_ids.now.items (with_label c.args.label) c.args.id) (sym c.contains.ensures ∙ c.if-contains.true)

pub returns-in_err-push-clause-notes : goal.returns-in_err-push-clause-notes
returns-in_err-push-clause-notes c = pushed_stay (is_ok c.push.result) c.args.stale_ids.now.items c.push.new.self.items _ c.push.ensures.items

pub returns-clause-notes : goal.returns-clause-notes
returns-clause-notes c = pushed_stay (is_ok c.push.result) c.args.stale_ids.now.items c.push.new.self.items _ c.push.ensures.items

pub returns-clause-ok : goal.returns-clause-ok
returns-clause-ok c =
    or_right (list_any (λ l. l == c.args.label) c.args.labels.now) (is_noted c.push.new.self.items (with_label c.args.label) c.args.id)
    (label_noted c.args.stale_ids.now.items c.push.new.self.items c.args.label c.args.label c.args.id c.in_ok-push.ensures.items (equal_number c.args.label c.args.label refl))
