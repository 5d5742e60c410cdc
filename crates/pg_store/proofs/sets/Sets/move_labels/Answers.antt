use Rattle.std.proofs.Common.{◌≡◌, ◌==◌, ℕ, List, true, refl, ap, ◌∙◌}
use Rattle.std.proofs.lemmas.Result.{on_ok_weaker}
use Rattle.std.specs.List.{list_any}
use Rattle.std.specs.Prelude.{◌||◌}
use Rattle.pg_graph.specs.declared.records.NodeRecord.{NodeRecord}
use Rattle.pg_index.specs.Properties.{has_pair, is_found_by, pairs_of}
use Rattle.pg_store.proofs.GainLemmas.{gains_notes, gains_then, some_pair}
use Rattle.pg_store.proofs.NoteLemmas.{or_on, stay_all}
use Rattle.pg_store.proofs.sets.Sets.move_labels.Goals as goal
use Rattle.pg_store.specs.Covers.{Key, every, with_label, with_value, belongs}
use Rattle.pg_store.specs.Noted.{is_in, is_noted}
use Rattle.pg_store.specs.declared.sets.Sets.{Sets}
use Rattle.pg_value_core.specs.declared.value.Value.{Value}

labels_left : (old new : Sets) (n : NodeRecord) (ls : List ℕ) (id : ℕ) → ((l : ℕ) → list_any (λ x. x == l) ls ≡ true → (list_any (λ x. x == l) n.labels || is_noted new.stale_ids.items (with_label l) id) ≡ true)
    → ((l k : ℕ) (v : Value) → has_pair (l, k) (pairs_of old.indexes.items) ≡ true → is_found_by l k v (record n { labels = ls }) ≡ true → (is_found_by l k v n || is_noted new.stale_ids.items (with_value l k v) id) ≡ true)
    → (k : Key) → is_in old k id ≡ true → belongs k (record n { labels = ls }) ≡ true → (belongs k n || is_noted new.stale_ids.items k id) ≡ true
labels_left old new n ls id labels values every there h = refl
labels_left old new n ls id labels values (with_label l) there h = labels l h
labels_left old new n ls id labels values (with_value l k v) there h = values l k v (some_pair old.indexes.items l k v id there) h

pub returns-in_err-note_labels_left-clause-gains : goal.returns-in_err-note_labels_left-clause-gains
returns-in_err-note_labels_left-clause-gains c = gains_notes c.args.self.now (record c.args.self.now { stale_ids = c.note_labels_left.new.stale_ids }) (refl, refl, refl) c.note_labels_left.ensures.notes

pub returns-in_err-note_label_values_left-clause-gains : goal.returns-in_err-note_label_values_left-clause-gains
returns-in_err-note_label_values_left-clause-gains c =
    let old = c.args.self.now in
    gains_notes old (record old { stale_ids = c.note_label_values_left.new.stale_ids }) (refl, refl, refl)
    (stay_all old.stale_ids.items c.note_labels_left.new.stale_ids.items c.note_label_values_left.new.stale_ids.items c.note_labels_left.ensures.notes c.note_label_values_left.ensures.notes)

pub returns-clause-gains : goal.returns-clause-gains
returns-clause-gains c =
    let old = c.args.self.now in
    let mid = record old { stale_ids = c.note_label_values_left.new.stale_ids } in
    gains_then old mid c.insert_node.new.self
    (gains_notes old mid (refl, refl, refl) (stay_all old.stale_ids.items c.note_labels_left.new.stale_ids.items c.note_label_values_left.new.stale_ids.items c.note_labels_left.ensures.notes c.note_label_values_left.ensures.notes))
    c.insert_node.ensures.gains

pub returns-clause-left : goal.returns-clause-left
returns-clause-left c =
    let old = c.args.self.now in
    let new = c.insert_node.new.self in
    let n = c.args.node.now in
    let id = c.args.id in
    on_ok_weaker c.insert_node.result (λ covered.
    labels_left old new n c.args.before.now id
    (λ l among.
    or_on (list_any (λ x. x == l) n.labels) (is_noted c.note_labels_left.new.stale_ids.items (with_label l) id) (list_any (λ x. x == l) n.labels) (is_noted new.stale_ids.items (with_label l) id) (λ h. h)
    (λ h. c.insert_node.ensures.gains.stay (with_label l) id (c.note_label_values_left.ensures.notes (with_label l) id h))
    (c.in_ok-note_labels_left.ensures.ok l among))
    (λ l k v pair found.
    or_on (is_found_by l k v n) (is_noted c.note_label_values_left.new.stale_ids.items (with_value l k v) id) (is_found_by l k v n) (is_noted new.stale_ids.items (with_value l k v) id) (λ h. h) (c.insert_node.ensures.gains.stay (with_value l k v) id)
    (c.in_ok-note_label_values_left.ensures.ok l k v (ap (λ xs. has_pair (l, k) (pairs_of xs)) c.as_slice-indexes.ensures.value ∙ pair) found))) c.insert_node.ensures.ok
