use Rattle.std.proofs.Common.{◌++◌, ◌∷◌, [], refl, ap, ◌∙◌}
use Rattle.pg_graph.proofs.Others.{keeps_refl}
use Rattle.pg_graph.specs.Removed.{Ids}
use Rattle.std.proofs.lemmas.Result.{IfOk-from_err}
use Rattle.pg_store.proofs.ChangeLemmas.{at_err, changed_fit, changed_marks, marks_alike, refused_fit}
use Rattle.pg_store.proofs.Stores.{rel_held}
use Rattle.pg_store.proofs.Kept.{tables_kept}
use Rattle.pg_store.proofs.CoverLemmas.{covers_now}
use Rattle.pg_store.proofs.GainLemmas.{gains_none}
use Rattle.pg_store.proofs.Noting.{noted_alike, noted_now}
use Rattle.pg_store.proofs.States.{with_rel_removed, rel_removed, rel_removal_undone, a_rel}
use Rattle.pg_store.proofs.store.Store.remove_rel.Goals as goal
use Rattle.pg_store.specs.Covers.{has_in}
use Rattle.pg_store.specs.Journal.{live, graph_in}
use Rattle.pg_store.specs.Noted.{is_in}
use Rattle.pg_store.specs.Stores.{state_of}
use Rattle.pg_store.specs.declared.journal.Entry.TheVariants.{RelRemoved}

pub overflow_sub-self : goal.overflow_sub-self
overflow_sub-self g c =
    let store = c.args.self.now in
    let s = state_of g.T.Tables.seen store c.args.shared.now in
    let there = rel_held c.args.shared.now.names (live s) store.next.node store.next.rel c.args.id.0 c.requires.there in
    a_rel c.args.shared.now.names s c.args.id c.requires.fit.well there

pub returns-clause-changes : goal.returns-clause-changes
returns-clause-changes g c = record {
  says = (let store = c.args.self.now in
      let s = state_of g.T.Tables.seen store c.args.shared.now in
      let there = rel_held c.args.shared.now.names (live s) store.next.node store.next.rel c.args.id.0 c.requires.there in
      let removed = with_rel_removed c.args.shared.now.names s c.args.id c.requires.fit.well there in
      ap (λ (gone : Ids). graph_in c.args.shared.now.names (record removed { gone_rels = gone })) c.in_ok-insert.ensures.ok
      ∙ rel_removed c.args.shared.now.names s c.args.id c.requires.fit.well there);
  same = tt;
  fit = (let store = c.args.self.now in
      let s = state_of g.T.Tables.seen store c.args.shared.now in
      let there = rel_held c.args.shared.now.names (live s) store.next.node store.next.rel c.args.id.0 c.requires.there in
      let removed = with_rel_removed c.args.shared.now.names s c.args.id c.requires.fit.well there in
      changed_fit g.T.Tables.seen store _ c.args.shared.now _ c.requires.fit (RelRemoved c.args.id) removed
      (rel_removal_undone c.args.shared.now.names s c.args.id c.requires.fit.well there)
      refl
      (ap (λ (gone : Ids). record removed { gone_rels = gone }) c.in_ok-insert.ensures.ok)
      (c.push_reserved.ensures.items ∙ ap (λ es. es ++ RelRemoved c.args.id ∷ []) c.in_ok-reserve.ensures.items) (gains_none store.sets)
      (λ k i h. h)
      (covers_now (has_in store.sets) store.journal.items s c.requires.fit.covered)
      (noted_alike (is_in store.sets) store.sets.stale_ids.items s removed refl (noted_now (is_in store.sets) store.sets.stale_ids.items store.journal.items s c.requires.fit.noted))
      c.requires.fit.fits);
  keeps = tables_kept c.args.self.now _ c.args.shared.now _ c.requires.fit (keeps_refl c.args.self.now.tables c.args.shared.now.tables c.requires.fit.fits) refl;
}

pub returns-clause-marks : goal.returns-clause-marks
returns-clause-marks g c =
    let store = c.args.self.now in
    let s = state_of g.T.Tables.seen store c.args.shared.now in
    let there = rel_held c.args.shared.now.names (live s) store.next.node store.next.rel c.args.id.0 c.requires.there in
    let removed = with_rel_removed c.args.shared.now.names s c.args.id c.requires.fit.well there in
    changed_marks g.T.Tables.seen store _ c.args.shared.now _ c.requires.fit (RelRemoved c.args.id) removed
    (rel_removal_undone c.args.shared.now.names s c.args.id c.requires.fit.well there)
    refl
    (ap (λ (gone : Ids). record removed { gone_rels = gone }) c.in_ok-insert.ensures.ok)
    (c.push_reserved.ensures.items ∙ ap (λ es. es ++ RelRemoved c.args.id ∷ []) c.in_ok-reserve.ensures.items) (gains_none store.sets)

pub returns-in_err-reserve-clause-changes : goal.returns-in_err-reserve-clause-changes
returns-in_err-reserve-clause-changes g c =
    let store = c.args.self.now in
    let left = record store { journal = c.reserve.new.self } in
    record {
      says = IfOk-from_err c.from_residual.result _ c.from_residual.ensures.0;
      same = at_err c.from_residual.result refl;
      fit = refused_fit g.T.Tables.seen store left c.args.shared.now c.args.shared.now c.requires.fit refl refl c.reserve.ensures.items (λ k i h. h) (gains_none store.sets) c.requires.fit.fits;
      keeps = tables_kept store left c.args.shared.now c.args.shared.now c.requires.fit (keeps_refl store.tables c.args.shared.now.tables c.requires.fit.fits) refl;
    }

pub returns-in_err-reserve-clause-marks : goal.returns-in_err-reserve-clause-marks
returns-in_err-reserve-clause-marks g c =
    let store = c.args.self.now in
    marks_alike g.T.Tables.seen store (record store { journal = c.reserve.new.self }) c.args.shared.now c.args.shared.now refl c.reserve.ensures.items refl refl

pub returns-in_err-insert-clause-changes : goal.returns-in_err-insert-clause-changes
returns-in_err-insert-clause-changes g c =
    let store = c.args.self.now in
    let left = record store { gone_rels = c.insert.new.self; journal = c.reserve.new.self } in
    let s = state_of g.T.Tables.seen store c.args.shared.now in
    record {
      says = IfOk-from_err c.from_residual-in_err-insert.result _ c.from_residual-in_err-insert.ensures.0;
      same = at_err c.from_residual-in_err-insert.result (ap (graph_in c.args.shared.now.names) (λ t. record s { gone_rels = c.in_err-insert.ensures.err t }));
      fit = refused_fit g.T.Tables.seen store left c.args.shared.now c.args.shared.now c.requires.fit refl (λ t. record s { gone_rels = c.in_err-insert.ensures.err t }) c.reserve.ensures.items (λ k i h. h) (gains_none store.sets) c.requires.fit.fits;
      keeps = tables_kept store left c.args.shared.now c.args.shared.now c.requires.fit (keeps_refl store.tables c.args.shared.now.tables c.requires.fit.fits) refl;
    }

pub returns-in_err-insert-clause-marks : goal.returns-in_err-insert-clause-marks
returns-in_err-insert-clause-marks g c =
    let store = c.args.self.now in
    let s = state_of g.T.Tables.seen store c.args.shared.now in
    marks_alike g.T.Tables.seen store (record store { gone_rels = c.insert.new.self; journal = c.reserve.new.self }) c.args.shared.now c.args.shared.now refl c.reserve.ensures.items (λ t. record s { gone_rels = c.in_err-insert.ensures.err t }) refl
