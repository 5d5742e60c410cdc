use Rattle.std.proofs.Common.{◌++◌, ◌∷◌, [], IsSome, option_copied, refl, sym, ap, subst, ◌∙◌}
use Rattle.pg_graph.proofs.Others.{keeps_refl}
use Rattle.pg_graph.proofs.Refined.{outgoing_are_read, incoming_are_read}
use Rattle.pg_graph.proofs.Removed.{is_live}
use Rattle.pg_graph.specs.Removed.{Ids}
use Rattle.std.proofs.lemmas.Result.{IfOk-from_err}
use Rattle.pg_store.proofs.ChangeLemmas.{changed_fit, refused_fit, changed_marks, marks_alike, at_err}
use Rattle.pg_store.proofs.SetLemmas.{same_grow}
use Rattle.pg_store.proofs.Stores.{node_held, copied_some}
use Rattle.pg_store.proofs.Kept.{tables_kept}
use Rattle.pg_store.proofs.CoverLemmas.{covers_now, grown_covers}
use Rattle.pg_store.proofs.GainLemmas.{gains_none}
use Rattle.pg_store.proofs.Noting.{noted_now, noted_without, there_belongs}
use Rattle.pg_store.proofs.States.{live_with_node_removed, with_node_removed, node_removed, node_removal_undone, a_node}
use Rattle.pg_store.proofs.store.Store.remove_node.Goals as goal
use Rattle.pg_store.specs.Covers.{has_in}
use Rattle.pg_store.specs.Journal.{live, graph_in}
use Rattle.pg_graph.specs.Content.{Content}
use Rattle.pg_store.specs.Noted.{is_in}
use Rattle.pg_store.specs.Stores.{state_of}
use Rattle.pg_store.specs.declared.journal.Entry.TheVariants.{NodeRemoved}

pub overflow_sub-self : goal.overflow_sub-self
overflow_sub-self g c =
    let store = c.args.self.now in
    let s = state_of g.T.Tables.seen store c.args.shared.now in
    let there = node_held c.args.shared.now.names (live s) store.next.node store.next.rel c.args.id.0 c.requires.there in
    let out = sym (outgoing_are_read c.args.shared.now.names (live s) store.next.node store.next.rel c.args.id.0) ∙ c.requires.no_outgoing in
    let into = sym (incoming_are_read c.args.shared.now.names (live s) store.next.node store.next.rel c.args.id.0) ∙ c.requires.no_incoming in
    a_node c.args.shared.now.names s c.args.id c.requires.fit.well there out into

pub returns-clause-changes : goal.returns-clause-changes
returns-clause-changes g c = record {
  says = (let store = c.args.self.now in
      let s = state_of g.T.Tables.seen store c.args.shared.now in
      let there = node_held c.args.shared.now.names (live s) store.next.node store.next.rel c.args.id.0 c.requires.there in
      let out = sym (outgoing_are_read c.args.shared.now.names (live s) store.next.node store.next.rel c.args.id.0) ∙ c.requires.no_outgoing in
      let into = sym (incoming_are_read c.args.shared.now.names (live s) store.next.node store.next.rel c.args.id.0) ∙ c.requires.no_incoming in
      let removed = with_node_removed c.args.shared.now.names s c.args.id c.requires.fit.well there out into in
      ap (λ (gone : Ids). graph_in c.args.shared.now.names (record removed { gone_nodes = gone })) c.in_ok-insert.ensures.ok
      ∙ node_removed c.args.shared.now.names s c.args.id c.requires.fit.well there out into);
  same = tt;
  fit = (let store = c.args.self.now in
      let s = state_of g.T.Tables.seen store c.args.shared.now in
      let there = node_held c.args.shared.now.names (live s) store.next.node store.next.rel c.args.id.0 c.requires.there in
      let out = sym (outgoing_are_read c.args.shared.now.names (live s) store.next.node store.next.rel c.args.id.0) ∙ c.requires.no_outgoing in
      let into = sym (incoming_are_read c.args.shared.now.names (live s) store.next.node store.next.rel c.args.id.0) ∙ c.requires.no_incoming in
      let removed = with_node_removed c.args.shared.now.names s c.args.id c.requires.fit.well there out into in
      changed_fit g.T.Tables.seen store _ c.args.shared.now _ c.requires.fit (NodeRemoved c.args.id) removed
      (node_removal_undone c.args.shared.now.names s c.args.id c.requires.fit.well there out into)
      refl
      (ap (λ (gone : Ids). record removed { gone_nodes = gone }) c.in_ok-insert.ensures.ok)
      (c.push_reserved.ensures.items ∙ ap (λ es. es ++ NodeRemoved c.args.id ∷ []) c.in_ok-reserve.ensures.items) c.note_leaving.ensures.gains
      (same_grow store.sets c.note_leaving.new.self c.note_leaving.ensures.all c.note_leaving.ensures.labels c.note_leaving.ensures.indexes)
      (grown_covers (has_in store.sets) (has_in c.note_leaving.new.self) (same_grow store.sets c.note_leaving.new.self c.note_leaving.ensures.all c.note_leaving.ensures.labels c.note_leaving.ensures.indexes) s (covers_now (has_in store.sets) store.journal.items s c.requires.fit.covered))
      (noted_without (is_in store.sets) (is_in c.note_leaving.new.self) store.sets.stale_ids.items c.note_leaving.new.self.stale_ids.items c.note_leaving.ensures.gains.come c.note_leaving.ensures.gains.stay s removed c.args.id.0
      (noted_now (is_in store.sets) store.sets.stale_ids.items store.journal.items s c.requires.fit.noted)
      (ap (λ (x : Content). x.nodes) (live_with_node_removed c.args.shared.now.names s c.args.id c.requires.fit.well there out into))
      (λ k g h. c.in_ok-note_leaving.ensures.ok k g (there_belongs s k c.args.id.0 c.unwrap-was.result.now (sym c.node.ensures ∙ ap option_copied c.unwrap-was.ensures) h)))
      c.requires.fit.fits);
  keeps = tables_kept c.args.self.now _ c.args.shared.now _ c.requires.fit (keeps_refl c.args.self.now.tables c.args.shared.now.tables c.requires.fit.fits) refl;
}

pub returns-clause-marks : goal.returns-clause-marks
returns-clause-marks g c =
    let store = c.args.self.now in
    let s = state_of g.T.Tables.seen store c.args.shared.now in
    let there = node_held c.args.shared.now.names (live s) store.next.node store.next.rel c.args.id.0 c.requires.there in
    let out = sym (outgoing_are_read c.args.shared.now.names (live s) store.next.node store.next.rel c.args.id.0) ∙ c.requires.no_outgoing in
    let into = sym (incoming_are_read c.args.shared.now.names (live s) store.next.node store.next.rel c.args.id.0) ∙ c.requires.no_incoming in
    let removed = with_node_removed c.args.shared.now.names s c.args.id c.requires.fit.well there out into in
    changed_marks g.T.Tables.seen store _ c.args.shared.now _ c.requires.fit (NodeRemoved c.args.id) removed
    (node_removal_undone c.args.shared.now.names s c.args.id c.requires.fit.well there out into)
    refl
    (ap (λ (gone : Ids). record removed { gone_nodes = gone }) c.in_ok-insert.ensures.ok)
    (c.push_reserved.ensures.items ∙ ap (λ es. es ++ NodeRemoved c.args.id ∷ []) c.in_ok-reserve.ensures.items) c.note_leaving.ensures.gains

pub returns-in_err-note_leaving-clause-changes : goal.returns-in_err-note_leaving-clause-changes
returns-in_err-note_leaving-clause-changes g c = record {
  says = IfOk-from_err c.from_residual-in_err-note_leaving.result _ c.from_residual-in_err-note_leaving.ensures.0;
  same = at_err c.from_residual-in_err-note_leaving.result refl;
  fit = (let store = c.args.self.now in
      let s = state_of g.T.Tables.seen store c.args.shared.now in
      refused_fit g.T.Tables.seen store (record store { journal = c.reserve.new.self; sets = c.note_leaving.new.self }) c.args.shared.now c.args.shared.now c.requires.fit refl refl c.in_ok-reserve.ensures.items (same_grow store.sets c.note_leaving.new.self c.note_leaving.ensures.all c.note_leaving.ensures.labels c.note_leaving.ensures.indexes) c.note_leaving.ensures.gains c.requires.fit.fits);
  keeps = tables_kept c.args.self.now _ c.args.shared.now _ c.requires.fit (keeps_refl c.args.self.now.tables c.args.shared.now.tables c.requires.fit.fits) refl;
}

pub returns-in_err-insert-clause-changes : goal.returns-in_err-insert-clause-changes
returns-in_err-insert-clause-changes g c = record {
  says = IfOk-from_err c.from_residual-in_err-insert.result _ c.from_residual-in_err-insert.ensures.0;
  same = at_err c.from_residual-in_err-insert.result (λ t. graph_in c.args.shared.now.names (record (state_of g.T.Tables.seen c.args.self.now c.args.shared.now) { gone_nodes = c.in_err-insert.ensures.err t }));
  fit = (let store = c.args.self.now in
      let s = state_of g.T.Tables.seen store c.args.shared.now in
      refused_fit g.T.Tables.seen store (record store { gone_nodes = c.insert.new.self; journal = c.reserve.new.self; sets = c.note_leaving.new.self }) c.args.shared.now c.args.shared.now c.requires.fit refl (λ t. record s { gone_nodes = c.in_err-insert.ensures.err t }) c.in_ok-reserve.ensures.items (same_grow store.sets c.note_leaving.new.self c.note_leaving.ensures.all c.note_leaving.ensures.labels c.note_leaving.ensures.indexes) c.note_leaving.ensures.gains c.requires.fit.fits);
  keeps = tables_kept c.args.self.now _ c.args.shared.now _ c.requires.fit (keeps_refl c.args.self.now.tables c.args.shared.now.tables c.requires.fit.fits) refl;
}

pub unwrap-was-requires : goal.unwrap-was-requires
unwrap-was-requires g c =
    let store = c.args.self.now in
    let s = state_of g.T.Tables.seen store c.args.shared.now in
    copied_some c.node.result (subst IsSome (sym c.node.ensures) (is_live s.content.nodes store.gone_nodes c.args.id.0 (node_held c.args.shared.now.names (live s) store.next.node store.next.rel c.args.id.0 c.requires.there)).1)

pub returns-in_err-reserve-clause-marks : goal.returns-in_err-reserve-clause-marks
returns-in_err-reserve-clause-marks g c =
    let store = c.args.self.now in
    marks_alike g.T.Tables.seen store (record store { journal = c.reserve.new.self }) c.args.shared.now c.args.shared.now refl c.reserve.ensures.items refl refl

pub returns-in_err-note_leaving-clause-marks : goal.returns-in_err-note_leaving-clause-marks
returns-in_err-note_leaving-clause-marks g c =
    let store = c.args.self.now in
    marks_alike g.T.Tables.seen store (record store { journal = c.reserve.new.self; sets = c.note_leaving.new.self }) c.args.shared.now c.args.shared.now refl c.reserve.ensures.items refl c.note_leaving.ensures.gains.pairs

pub returns-in_err-insert-clause-marks : goal.returns-in_err-insert-clause-marks
returns-in_err-insert-clause-marks g c =
    let store = c.args.self.now in
    let s = state_of g.T.Tables.seen store c.args.shared.now in
    marks_alike g.T.Tables.seen store (record store { gone_nodes = c.insert.new.self; journal = c.reserve.new.self; sets = c.note_leaving.new.self }) c.args.shared.now c.args.shared.now refl c.reserve.ensures.items (λ t. record s { gone_nodes = c.in_err-insert.ensures.err t }) c.note_leaving.ensures.gains.pairs

pub returns-in_err-reserve-clause-changes : goal.returns-in_err-reserve-clause-changes
returns-in_err-reserve-clause-changes g c =
    let store = c.args.self.now in
    let left = record store { journal = c.reserve.new.self } in
    record {
      says = IfOk-from_err c.from_residual.result _ c.from_residual.ensures.0;
      same = at_err c.from_residual.result refl;
      fit = refused_fit g.T.Tables.seen store left c.args.shared.now c.args.shared.now c.requires.fit refl refl c.reserve.ensures.items (λ k i h. h) (gains_none store.sets) c.requires.fit.fits;
      keeps = tables_kept store left c.args.shared.now c.args.shared.now c.requires.fit (keeps_refl store.tables c.args.shared.now.tables c.requires.fit.fits) refl;
    }
