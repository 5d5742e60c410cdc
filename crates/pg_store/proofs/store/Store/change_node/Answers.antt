use Rattle.std.proofs.Common.{◌++◌, ◌∷◌, [], refl, sym, ap, subst, ◌∙◌}
use Rattle.std.proofs.lemmas.Result.{IfOk-from_err}
use Rattle.pg_graph.proofs.Others.{keeps_refl, keeps_trans}
use Rattle.pg_graph.proofs.Removed.{is_live}
use Rattle.pg_graph.specs.Content.{Content, with_node}
use Rattle.pg_graph.specs.Refinement.{node_of}
use Rattle.pg_graph.specs.declared.records.NodeRecord.{NodeRecord}
use Rattle.pg_meaning.specs.Graph.{change_node}
use Rattle.pg_store.proofs.ChangeLemmas.{changed_fit, refused_fit, changed_marks, marks_alike, at_err}
use Rattle.pg_store.proofs.CoverLemmas.{covers_now, grown_covers, covers_with}
use Rattle.pg_store.proofs.Kept.{tables_kept}
use Rattle.pg_store.proofs.GainLemmas.{gains_none}
use Rattle.pg_store.proofs.Noting.{noted_now, noted_with, there_is}
use Rattle.pg_store.proofs.States.{live_with_node_changed, with_node_changed, node_changed, node_change_undone, held_live, the_same, taken_and_put, node_as_it_was, node_stays_there}
use Rattle.pg_store.proofs.store.Store.change_node.Goals as goal
use Rattle.pg_store.specs.Covers.{has_in}
use Rattle.pg_store.specs.Edits.{changed_node}
use Rattle.pg_store.specs.Journal.{graph_in}
use Rattle.pg_store.specs.Noted.{is_in}
use Rattle.pg_store.specs.Stores.{state_of, graph_of_store}
use Rattle.pg_store.specs.Views.{IsNamedNode}
use Rattle.pg_store.specs.declared.journal.Entry.TheVariants.{NodeChanged}

pub change-node-requires-clause-present : goal.change-node-requires-clause-present
change-node-requires-clause-present g c =
    let store = c.args.self.now in
    (is_live (g.T.Tables.seen.content store.tables c.args.shared.now.tables).nodes store.gone_nodes c.args.id.0 c.requires.there).1

pub change_node-changed-requires : goal.change_node-changed-requires
change_node-changed-requires g c =
    let store = c.args.self.now in
    let s = state_of g.T.Tables.seen store c.args.shared.now in
    let was = c.change-node.ensures.before in
    record {
      change = c.requires.change c.change-node.result (held_live s c.args.id.0 c.change-node.result c.requires.there was);
      covered = λ k found. covers_now (has_in store.sets) store.journal.items s c.requires.fit.covered k c.args.id.0 c.change-node.result was found;
    }

pub change-requires : goal.change-requires
change-requires g c =
    let store = c.args.self.now in
    let s = state_of g.T.Tables.seen store c.args.shared.now in
    record { fits = c.change-node.ensures.keeps.fits; present = node_stays_there s.content _ c.args.id.0 _ c.change-node.ensures.changed }

pub returns : goal.returns
returns g c =
    let store = c.args.self.now in
    let shared = c.args.shared.now in
    let names = shared.names in
    let r = c.requires in
    let s = state_of g.T.Tables.seen store shared in
    let id = c.args.id in
    let w = c.change-node.result in
    let n = c.change_node-changed.new.node in
    let was = c.change-node.ensures.before in
    let held = held_live s id.0 w r.there was in
    let edit = c.in_ok-before.ensures in
    let named = subst (IsNamedNode names) (sym edit.ok) (r.named w held) in
    let content = taken_and_put s.content _ _ id.0 _ n c.change-node.ensures.changed c.change.ensures.changed in
    let changed = with_node_changed names s id n w r.fit.well r.there named.labels named.keys was in
    let undone = node_change_undone names s id n w r.fit.well r.there named.labels named.keys was c.in_ok-before.before edit.back edit.can in
    let state = ap (λ (content : Content). record changed { content = content }) content in
    let journal = c.push_reserved.ensures.items ∙ ap (λ es. es ++ NodeChanged id c.in_ok-before.before ∷ []) c.in_ok-reserve.ensures.items in
    let keeps = keeps_trans store.tables _ _ shared.tables _ _ c.change-node.ensures.keeps c.change.ensures.keeps in
    record {
      ok = λ m is.
          ap (λ (content : Content). graph_in names (record changed { content = content })) content
          ∙ node_changed names s id n w r.fit.well r.there named.labels named.keys was
          ∙ ap (λ (x : NodeRecord). change_node (λ _. node_of names x) id.0 (graph_of_store g.T.Tables.seen store shared)) (edit.ok ∙ ap (changed_node c.args.change) (the_same w m held is));
      err = tt;
      marks = changed_marks g.T.Tables.seen store _ shared _ r.fit (NodeChanged id c.in_ok-before.before) changed undone refl state journal c.change_node-changed.ensures.gains;
      fit = changed_fit g.T.Tables.seen store _ shared _ r.fit (NodeChanged id c.in_ok-before.before) changed undone refl state journal c.change_node-changed.ensures.gains
          c.change_node-changed.ensures.grown
          (covers_with (has_in c.change_node-changed.new.self) s id.0 n (grown_covers (has_in store.sets) (has_in c.change_node-changed.new.self) c.change_node-changed.ensures.grown s (covers_now (has_in store.sets) store.journal.items s r.fit.covered)) (λ k found. edit.covered k found))
          (noted_with (is_in store.sets) (is_in c.change_node-changed.new.self) store.sets.stale_ids.items c.change_node-changed.new.self.stale_ids.items c.change_node-changed.ensures.gains.come c.change_node-changed.ensures.gains.stay s changed id.0
          (noted_now (is_in store.sets) store.sets.stale_ids.items store.journal.items s r.fit.noted) n
          (ap (λ (x : Content). x.nodes) (live_with_node_changed names s id n w r.fit.well r.there named.labels named.keys was))
          (λ k g there. edit.left k g (sym (there_is s k id.0 w held) ∙ there)))
          keeps.fits;
      keeps = tables_kept store _ shared _ r.fit keeps refl;
    }

pub returns-in_err-reserve : goal.returns-in_err-reserve
returns-in_err-reserve g c =
    let store = c.args.self.now in
    let shared = c.args.shared.now in
    let left = record store { journal = c.reserve.new.self } in
    record {
      ok = IfOk-from_err c.from_residual.result _ c.from_residual.ensures.0;
      err = at_err c.from_residual.result refl;
      marks = marks_alike g.T.Tables.seen store left shared shared refl c.reserve.ensures.items refl refl;
      fit = refused_fit g.T.Tables.seen store left shared shared c.requires.fit refl refl c.reserve.ensures.items (λ k i h. h) (gains_none store.sets) c.requires.fit.fits;
      keeps = tables_kept store left shared shared c.requires.fit (keeps_refl store.tables shared.tables c.requires.fit.fits) refl;
    }

pub returns-in_err-before : goal.returns-in_err-before
returns-in_err-before g c =
    let store = c.args.self.now in
    let shared = c.args.shared.now in
    let s = state_of g.T.Tables.seen store shared in
    let id = c.args.id.0 in
    let left = record store { tables = c.change.new.self; journal = c.reserve.new.self; sets = c.change_node-changed.new.self } in
    let after = record shared { tables = c.change.new.shared } in
    let content = taken_and_put s.content _ _ id _ c.change_node-changed.new.node c.change-node.ensures.changed c.change.ensures.changed
    ∙ ap (with_node s.content id) c.in_err-before.ensures.err ∙ node_as_it_was s.content id c.change-node.result c.change-node.ensures.before in
    let state = ap (λ (content : Content). record s { content = content }) content in
    let keeps = keeps_trans store.tables _ _ shared.tables _ _ c.change-node.ensures.keeps c.change.ensures.keeps in
    record {
      ok = IfOk-from_err c.from_residual-in_err-before.result _ c.from_residual-in_err-before.ensures.0;
      err = at_err c.from_residual-in_err-before.result (ap (graph_in shared.names) state);
      marks = marks_alike g.T.Tables.seen store left shared after refl c.reserve.ensures.items state c.change_node-changed.ensures.gains.pairs;
      fit = refused_fit g.T.Tables.seen store left shared after c.requires.fit refl state c.reserve.ensures.items c.change_node-changed.ensures.grown c.change_node-changed.ensures.gains keeps.fits;
      keeps = tables_kept store left shared after c.requires.fit keeps refl;
    }
