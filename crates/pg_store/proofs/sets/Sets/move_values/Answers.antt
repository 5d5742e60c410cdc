use Rattle.std.proofs.Common.{◌≡◌, ℕ, true, refl, ap, ◌∙◌}
use Rattle.std.proofs.lemmas.Result.{on_ok_weaker}
use Rattle.std.specs.Prelude.{◌||◌}
use Rattle.pg_graph.specs.Records.{Properties}
use Rattle.pg_graph.specs.declared.records.NodeRecord.{NodeRecord}
use Rattle.pg_index.specs.Properties.{has_pair, is_found_by, pairs_of}
use Rattle.pg_store.proofs.GainLemmas.{gains_notes, gains_then, some_pair}
use Rattle.pg_store.proofs.Keeping.{still_belongs, still_found}
use Rattle.pg_store.proofs.NoteLemmas.{or_left, or_on}
use Rattle.pg_store.proofs.sets.Sets.move_values.Goals as goal
use Rattle.pg_store.specs.Covers.{Key, every, with_label, with_value, belongs}
use Rattle.pg_store.specs.Noted.{is_in, is_noted}
use Rattle.pg_store.specs.declared.sets.Sets.{Sets}
use Rattle.pg_value_core.specs.declared.value.Value.{Value}

-- only where a value was can a node belong no longer
values_left : (old new : Sets) (n : NodeRecord) (ps : Properties) (id : ℕ)
    → ((l k : ℕ) (v : Value) → has_pair (l, k) (pairs_of old.indexes.items) ≡ true → is_found_by l k v (record n { properties = ps }) ≡ true → (is_found_by l k v n || is_noted new.stale_ids.items (with_value l k v) id) ≡ true)
    → (k : Key) → is_in old k id ≡ true → belongs k (record n { properties = ps }) ≡ true → (belongs k n || is_noted new.stale_ids.items k id) ≡ true
values_left old new n ps id values every there h = refl
values_left old new n ps id values (with_label l) there h = or_left (belongs (with_label l) n) (is_noted new.stale_ids.items (with_label l) id) h
values_left old new n ps id values (with_value l k v) there h = values l k v (some_pair old.indexes.items l k v id there) h

pub returns-in_err-note_values_left-clause-gains : goal.returns-in_err-note_values_left-clause-gains
returns-in_err-note_values_left-clause-gains c = gains_notes c.args.self.now (record c.args.self.now { stale_ids = c.note_values_left.new.stale_ids }) (refl, refl, refl) c.note_values_left.ensures.notes

pub returns-clause-gains : goal.returns-clause-gains
returns-clause-gains c =
    let old = c.args.self.now in
    let mid = record old { stale_ids = c.note_values_left.new.stale_ids } in
    gains_then old mid c.insert_values.new.self (gains_notes old mid (refl, refl, refl) c.note_values_left.ensures.notes) c.insert_values.ensures.gains

pub returns-clause-left : goal.returns-clause-left
returns-clause-left c =
    let old = c.args.self.now in
    let new = c.insert_values.new.self in
    let n = c.args.node.now in
    let id = c.args.id in
    on_ok_weaker c.insert_values.result (λ covered.
    values_left old new n _ id (λ l k v pair found.
    or_on (is_found_by l k v n) (is_noted c.note_values_left.new.stale_ids.items (with_value l k v) id) (is_found_by l k v n) (is_noted new.stale_ids.items (with_value l k v) id) (λ h. h) (c.insert_values.ensures.gains.stay (with_value l k v) id)
    (c.in_ok-note_values_left.ensures.ok l k v (ap (λ xs. has_pair (l, k) (pairs_of xs)) c.as_slice-indexes.ensures.value ∙ pair) found))) c.insert_values.ensures.ok

pub returns-then-keeps_indexed-clause-ok : goal.returns-then-keeps_indexed-clause-ok
returns-then-keeps_indexed-clause-ok c =
    let n = c.args.node.now in
    still_found c.args.self.now n _ c.args.id (λ l k pair. c.keeps_indexed.ensures c.if-keeps_indexed.true l k (ap (λ xs. has_pair (l, k) (pairs_of xs)) c.as_slice-indexes.ensures.value ∙ pair) n.properties) c.requires.covered

pub returns-then-keeps_indexed-clause-left : goal.returns-then-keeps_indexed-clause-left
returns-then-keeps_indexed-clause-left c =
    let n = c.args.node.now in
    still_belongs c.args.self.now n _ c.args.id (λ l k pair. c.keeps_indexed.ensures c.if-keeps_indexed.true l k (ap (λ xs. has_pair (l, k) (pairs_of xs)) c.as_slice-indexes.ensures.value ∙ pair) n.properties)
