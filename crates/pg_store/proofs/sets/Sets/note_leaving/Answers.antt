use Rattle.std.proofs.Common.{◌≡◌, ℕ, true, refl, ap, ◌∙◌}
use Rattle.std.proofs.lemmas.Result.{on_ok_weaker}
use Rattle.std.specs.Result.{is_ok}
use Rattle.pg_graph.specs.declared.records.NodeRecord.{NodeRecord}
use Rattle.pg_index.specs.Properties.{has_pair, is_found_by, pairs_of}
use Rattle.pg_store.proofs.GainLemmas.{gains_notes, some_pair}
use Rattle.pg_store.proofs.NoteLemmas.{pushed_noted, pushed_stay, stay_all}
use Rattle.pg_store.proofs.sets.Sets.note_leaving.Goals as goal
use Rattle.pg_store.specs.Covers.{Key, every, with_label, with_value, belongs}
use Rattle.pg_store.specs.Noted.{is_in, is_noted}
use Rattle.pg_store.specs.declared.sets.Sets.{Sets}
use Rattle.pg_store.specs.declared.wanted.Place.TheVariants as place
use Rattle.pg_value_core.specs.declared.value.Value.{Value}

-- each set in which a node belongs is noted
all_noted : (old new : Sets) (n : NodeRecord) (id : ℕ) → is_noted new.stale_ids.items every id ≡ true → ((l : ℕ) → belongs (with_label l) n ≡ true → is_noted new.stale_ids.items (with_label l) id ≡ true)
    → ((l k : ℕ) (v : Value) → has_pair (l, k) (pairs_of old.indexes.items) ≡ true → is_found_by l k v n ≡ true → is_noted new.stale_ids.items (with_value l k v) id ≡ true)
    → (k : Key) → is_in old k id ≡ true → belongs k n ≡ true → is_noted new.stale_ids.items k id ≡ true
all_noted old new n id all labels values every there h = all
all_noted old new n id all labels values (with_label l) there h = labels l h
all_noted old new n id all labels values (with_value l k v) there h = values l k v (some_pair old.indexes.items l k v id there) h

pub returns-in_err-push-clause-gains : goal.returns-in_err-push-clause-gains
returns-in_err-push-clause-gains c =
    let old = c.args.self.now in
    gains_notes old (record old { stale_ids = c.push.new.self }) (refl, refl, refl) (pushed_stay (is_ok c.push.result) old.stale_ids.items c.push.new.self.items _ c.push.ensures.items)

pub returns-in_err-note_labels-clause-gains : goal.returns-in_err-note_labels-clause-gains
returns-in_err-note_labels-clause-gains c =
    let old = c.args.self.now in
    gains_notes old (record old { stale_ids = c.note_labels.new.stale_ids }) (refl, refl, refl)
    (stay_all old.stale_ids.items c.push.new.self.items c.note_labels.new.stale_ids.items (pushed_stay (is_ok c.push.result) old.stale_ids.items c.push.new.self.items _ c.push.ensures.items) c.note_labels.ensures.notes)

pub returns-clause-gains : goal.returns-clause-gains
returns-clause-gains c =
    let old = c.args.self.now in
    let last = c.note_values.new.stale_ids in
    gains_notes old (record old { stale_ids = last }) (refl, refl, refl)
    (stay_all old.stale_ids.items c.push.new.self.items last.items (pushed_stay (is_ok c.push.result) old.stale_ids.items c.push.new.self.items _ c.push.ensures.items)
    (stay_all c.push.new.self.items c.note_labels.new.stale_ids.items last.items c.note_labels.ensures.notes c.note_values.ensures.notes))

pub returns-clause-ok : goal.returns-clause-ok
returns-clause-ok c =
    let old = c.args.self.now in
    let last = c.note_values.new.stale_ids in
    let id = c.args.id in
    on_ok_weaker c.note_values.result (λ noted.
    all_noted old (record old { stale_ids = last }) c.args.was.now id
    (c.note_values.ensures.notes every id (c.note_labels.ensures.notes every id (pushed_noted old.stale_ids.items c.push.new.self.items place.All id c.in_ok-push.ensures.items every refl)))
    (λ l h. c.note_values.ensures.notes (with_label l) id (c.in_ok-note_labels.ensures.ok l h))
    (λ l k v pair found. noted l k v (ap (λ xs. has_pair (l, k) (pairs_of xs)) c.as_slice-indexes.ensures.value ∙ pair) found)) c.note_values.ensures.ok
