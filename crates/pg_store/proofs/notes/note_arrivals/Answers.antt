use Rattle.std.proofs.Common.{sym, ap, ◌∙◌}
use Rattle.std.specs.Prelude.{◌||◌}
use Rattle.pg_index.specs.Properties.{finds, is_found_by, some_finds}
use Rattle.pg_store.proofs.NoteLemmas.{first_to_come, index_is, none_to_come, one_fewer, or_on, some_at, stay_all}
use Rattle.pg_store.proofs.notes.note_arrivals.Goals as goal
use Rattle.pg_store.specs.Covers.{with_value}
use Rattle.pg_store.specs.Noted.{is_noted}

pub loop-index-init : goal.loop-index-init
loop-index-init c = record {
  notes = λ key id h. h;
  done = λ l k v pair found. first_to_come _ l k c.args.indexes.now pair;
}

pub loop-index-preserved : goal.loop-index-preserved
loop-index-preserved c =
    let xs = c.args.indexes.now in
    let at = c.loop-index.index-index in
    let x = c.index-item.result in
    let id = c.args.id in
    let n = c.args.node.now in
    record {
      notes = stay_all c.args.stale_ids.now.items c.loop-index.stale_ids.items c.note_arrival.new.stale_ids.items c.loop-index.invariant.notes c.note_arrival.ensures.notes;
      done = λ l k v pair found.
          one_fewer (some_finds xs l k v id || is_noted c.loop-index.stale_ids.items (with_value l k v) id) (some_finds xs l k v id || is_noted c.note_arrival.new.stale_ids.items (with_value l k v) id) l k xs at x c.index-item.is c.loop-index-test.true
          (or_on (some_finds xs l k v id) (is_noted c.loop-index.stale_ids.items (with_value l k v) id) (some_finds xs l k v id) (is_noted c.note_arrival.new.stale_ids.items (with_value l k v) id) (λ h. h) (c.note_arrival.ensures.notes (with_value l k v) id))
          (λ for. let is = index_is x l k for in
          or_on (finds x v id) (is_noted c.note_arrival.new.stale_ids.items (with_value x.label x.key v) id) (some_finds xs l k v id) (is_noted c.note_arrival.new.stale_ids.items (with_value l k v) id)
          (λ h. some_at xs at x l k v id c.index-item.is c.loop-index-test.true for h)
          (λ h. ap (λ m. is_noted c.note_arrival.new.stale_ids.items (with_value m k v) id) (sym is.0) ∙ ap (λ m. is_noted c.note_arrival.new.stale_ids.items (with_value x.label m v) id) (sym is.1) ∙ h)
          (c.in_ok-note_arrival.ensures.ok v (ap (λ m. is_found_by m x.key v n) is.0 ∙ ap (λ m. is_found_by l m v n) is.1 ∙ found)))
          (c.loop-index.invariant.done l k v pair found);
    }

pub returns-in_err-note_arrival-clause-notes : goal.returns-in_err-note_arrival-clause-notes
returns-in_err-note_arrival-clause-notes c = stay_all c.args.stale_ids.now.items c.loop-index.stale_ids.items c.note_arrival.new.stale_ids.items c.loop-index.invariant.notes c.note_arrival.ensures.notes

pub returns-clause-ok : goal.returns-clause-ok
returns-clause-ok c = λ l k v pair found. none_to_come _ l k c.args.indexes.now c.loop-index.index-index c.loop-index-test.false (c.loop-index.invariant.done l k v pair found)
