use Rattle.std.proofs.Common.{◌≡◌, ◌==◌, arith, refl, sym, ap, ◌∙◌}
use Rattle.std.proofs.lemmas.List.{with_items_is}
use Rattle.std.proofs.lemmas.Result.{on_ok_weaker}
use Rattle.std.specs.Prelude.{◌&&◌, ◌||◌}
use Rattle.std.specs.Vec.{with_items}
use Rattle.pg_index.specs.Properties.{all_find, has_pair, is_found_by, pairs_of, some_finds}
use Rattle.pg_store.proofs.GainLemmas.{gains_notes, values_gain}
use Rattle.pg_store.proofs.sets.Sets.insert_values.Goals as goal
use Rattle.pg_store.specs.Covers.{with_value}
use Rattle.pg_store.specs.Noted.{is_noted}

pub returns-in_err-note_arrivals-clause-gains : goal.returns-in_err-note_arrivals-clause-gains
returns-in_err-note_arrivals-clause-gains c = gains_notes c.args.self.now (record c.args.self.now { stale_ids = c.note_arrivals.new.stale_ids }) (refl, refl, refl) c.note_arrivals.ensures.notes

pub returns : goal.returns
returns c =
    let old = c.args.self.now in
    let covered = c.insert_in_each.new.indexes in
    let items : (with_items old.indexes covered).items ≡ covered = with_items_is old.indexes covered (omega (arith, c.insert_in_each.auto.indexes, c.as_mut_slice.ensures.len)) in
    let value = c.as_mut_slice.ensures.value in
    record {
      all = refl;
      labels = refl;
      grown = λ label key v i h.
          ap (λ xs. all_find xs label key v i) items ∙ c.insert_in_each.ensures.grown label key v i (ap (λ xs. all_find xs label key v i) c.as_mut_slice.ensures.value ∙ h);
      gains = values_gain old (record old { stale_ids = c.note_arrivals.new.stale_ids; indexes = with_items old.indexes covered }) c.args.node.now c.args.id refl refl c.note_arrivals.ensures.notes
          (ap pairs_of items ∙ c.insert_in_each.ensures.pairs ∙ ap pairs_of value)
          (λ label key v i h.
          ap (λ xs. some_finds xs label key v i || (is_found_by label key v c.args.node.now && i == c.args.id)) (sym value)
          ∙ c.insert_in_each.ensures.come label key v i (ap (λ xs. some_finds xs label key v i) (sym items) ∙ h))
          (λ label key v pair found.
          ap (λ xs. some_finds xs label key v c.args.id || is_noted c.note_arrivals.new.stale_ids.items (with_value label key v) c.args.id) (sym c.as_slice-indexes.ensures.value)
          ∙ c.in_ok-note_arrivals.ensures.ok label key v (ap (λ xs. has_pair (label, key) (pairs_of xs)) c.as_slice-indexes.ensures.value ∙ pair) found);
      ok = on_ok_weaker c.insert_in_each.result (λ values label key v found. ap (λ xs. all_find xs label key v c.args.id) items ∙ values label key v found) c.insert_in_each.ensures.ok;
    }
