use Rattle.std.proofs.Common.{◌++◌, ◌∷◌, [], refl, ap, ◌∙◌}
use Rattle.std.proofs.lemmas.Result.{IfOk-from_err}
use Rattle.pg_graph.proofs.Others.{keeps_refl}
use Rattle.pg_graph.proofs.Made.{next_is_absent}
use Rattle.pg_graph.specs.Content.{Content}
use Rattle.pg_store.proofs.ChangeLemmas.{changed_fit, refused_fit, changed_marks, marks_alike, at_err}
use Rattle.pg_store.proofs.Kept.{tables_kept}
use Rattle.pg_store.proofs.CoverLemmas.{covers_now, grown_covers, covers_with}
use Rattle.pg_store.proofs.GainLemmas.{gains_none}
use Rattle.pg_store.proofs.Noting.{absent_there, noted_now, noted_with}
use Rattle.pg_store.proofs.States.{live_with_new_node, with_new_node, new_node_made, new_node_undone}
use Rattle.pg_store.proofs.store.Store.add_node.Goals as goal
use Rattle.pg_store.specs.Covers.{has_in}
use Rattle.pg_store.specs.Journal.{graph_in, live}
use Rattle.pg_store.specs.Noted.{is_in}
use Rattle.pg_store.specs.Stores.{state_of}
use Rattle.pg_store.specs.declared.journal.Entry.TheVariants.{NodeAdded}

pub add_node-requires-clause-absent : goal.add_node-requires-clause-absent
add_node-requires-clause-absent g c =
    let store = c.args.self.now in
    next_is_absent c.args.shared.now.names (g.T.Tables.seen.content store.tables c.args.shared.now.tables) store.next.node store.next.rel c.requires.fit.well.held

pub returns-clause-ok : goal.returns-clause-ok
returns-clause-ok g c = λ texts h.
    let store = c.args.self.now in
    let s = state_of g.T.Tables.seen store c.args.shared.now in
    let made = with_new_node c.args.shared.now.names s c.args.node c.requires.fit.well c.requires.labels c.requires.keys c.requires.room c.requires.count in
    ap (λ (content : Content). graph_in c.args.shared.now.names (record made { content = content })) c.in_ok-add_node.ensures.ok
    ∙ new_node_made c.args.shared.now.names s c.args.node c.requires.fit.well c.requires.labels c.requires.keys c.requires.room c.requires.count texts h

pub returns-clause-marks : goal.returns-clause-marks
returns-clause-marks g c =
    let store = c.args.self.now in
    let s = state_of g.T.Tables.seen store c.args.shared.now in
    let made = with_new_node c.args.shared.now.names s c.args.node c.requires.fit.well c.requires.labels c.requires.keys c.requires.room c.requires.count in
    changed_marks g.T.Tables.seen store _ c.args.shared.now _ c.requires.fit NodeAdded made
    (new_node_undone c.args.shared.now.names s c.args.node c.requires.fit.well c.requires.labels c.requires.keys c.requires.room c.requires.count)
    refl
    (ap (λ (content : Content). record made { content = content }) c.in_ok-add_node.ensures.ok)
    (c.push_reserved.ensures.items ∙ ap (λ es. es ++ NodeAdded ∷ []) c.in_ok-reserve.ensures.items)
    c.insert_node.ensures.gains

pub returns-clause-fit : goal.returns-clause-fit
returns-clause-fit g c =
    let store = c.args.self.now in
    let s = state_of g.T.Tables.seen store c.args.shared.now in
    let made = with_new_node c.args.shared.now.names s c.args.node c.requires.fit.well c.requires.labels c.requires.keys c.requires.room c.requires.count in
    changed_fit g.T.Tables.seen store _ c.args.shared.now _ c.requires.fit NodeAdded made
    (new_node_undone c.args.shared.now.names s c.args.node c.requires.fit.well c.requires.labels c.requires.keys c.requires.room c.requires.count)
    refl
    (ap (λ (content : Content). record made { content = content }) c.in_ok-add_node.ensures.ok)
    (c.push_reserved.ensures.items ∙ ap (λ es. es ++ NodeAdded ∷ []) c.in_ok-reserve.ensures.items)
    c.insert_node.ensures.gains
    c.insert_node.ensures.grown
    (covers_with (has_in c.insert_node.new.self) s store.next.node c.args.node (grown_covers (has_in store.sets) (has_in c.insert_node.new.self) c.insert_node.ensures.grown s (covers_now (has_in store.sets) store.journal.items s c.requires.fit.covered)) (λ k found. c.in_ok-insert_node.ensures.ok k found))
    (noted_with (is_in store.sets) (is_in c.insert_node.new.self) store.sets.stale_ids.items c.insert_node.new.self.stale_ids.items c.insert_node.ensures.gains.come c.insert_node.ensures.gains.stay s made store.next.node
    (noted_now (is_in store.sets) store.sets.stale_ids.items store.journal.items s c.requires.fit.noted) c.args.node
    (ap (λ (x : Content). x.nodes) (live_with_new_node c.args.shared.now.names s c.args.node c.requires.fit.well c.requires.labels c.requires.keys c.requires.room c.requires.count))
    (λ k g there. absurd (absent_there s k store.next.node (next_is_absent c.args.shared.now.names (live s) store.next.node store.next.rel c.requires.fit.well.holds) there)))
    c.add_node.ensures.keeps.fits

pub returns-clause-keeps : goal.returns-clause-keeps
returns-clause-keeps g c = tables_kept c.args.self.now _ c.args.shared.now _ c.requires.fit c.add_node.ensures.keeps refl

pub returns-in_err-reserve : goal.returns-in_err-reserve
returns-in_err-reserve g c =
    let store = c.args.self.now in
    let shared = c.args.shared.now in
    let left = record store { journal = c.reserve.new.self } in
    record {
      id = IfOk-from_err c.from_residual.result _ c.from_residual.ensures.0;
      ok = IfOk-from_err c.from_residual.result _ c.from_residual.ensures.0;
      err = at_err c.from_residual.result refl;
      marks = marks_alike g.T.Tables.seen store left shared shared refl c.reserve.ensures.items refl refl;
      fit = refused_fit g.T.Tables.seen store left shared shared c.requires.fit refl refl c.reserve.ensures.items (λ k i h. h) (gains_none store.sets) c.requires.fit.fits;
      keeps = tables_kept store left shared shared c.requires.fit (keeps_refl store.tables shared.tables c.requires.fit.fits) refl;
    }

pub returns-in_err-insert_node : goal.returns-in_err-insert_node
returns-in_err-insert_node g c =
    let store = c.args.self.now in
    let shared = c.args.shared.now in
    let left = record store { journal = c.reserve.new.self; sets = c.insert_node.new.self } in
    record {
      id = IfOk-from_err c.from_residual-in_err-insert_node.result _ c.from_residual-in_err-insert_node.ensures.0;
      ok = IfOk-from_err c.from_residual-in_err-insert_node.result _ c.from_residual-in_err-insert_node.ensures.0;
      err = at_err c.from_residual-in_err-insert_node.result refl;
      marks = marks_alike g.T.Tables.seen store left shared shared refl c.reserve.ensures.items refl c.insert_node.ensures.gains.pairs;
      fit = refused_fit g.T.Tables.seen store left shared shared c.requires.fit refl refl c.reserve.ensures.items c.insert_node.ensures.grown c.insert_node.ensures.gains c.requires.fit.fits;
      keeps = tables_kept store left shared shared c.requires.fit (keeps_refl store.tables shared.tables c.requires.fit.fits) refl;
    }

pub returns-in_err-add_node : goal.returns-in_err-add_node
returns-in_err-add_node g c =
    let store = c.args.self.now in
    let shared = c.args.shared.now in
    let s = state_of g.T.Tables.seen store shared in
    let left = record store { tables = c.add_node.new.self; journal = c.reserve.new.self; sets = c.insert_node.new.self } in
    let after = record shared { tables = c.add_node.new.shared } in
    record {
      id = IfOk-from_err c.from_residual-in_err-add_node.result _ c.from_residual-in_err-add_node.ensures.0;
      ok = IfOk-from_err c.from_residual-in_err-add_node.result _ c.from_residual-in_err-add_node.ensures.0;
      err = at_err c.from_residual-in_err-add_node.result (λ t. graph_in shared.names (record s { content = c.in_err-add_node.ensures.err t }));
      marks = marks_alike g.T.Tables.seen store left shared after refl c.reserve.ensures.items (λ t. record s { content = c.in_err-add_node.ensures.err t }) c.insert_node.ensures.gains.pairs;
      fit = refused_fit g.T.Tables.seen store left shared after c.requires.fit refl (λ t. record s { content = c.in_err-add_node.ensures.err t }) c.reserve.ensures.items c.insert_node.ensures.grown c.insert_node.ensures.gains c.add_node.ensures.keeps.fits;
      keeps = tables_kept store left shared after c.requires.fit c.add_node.ensures.keeps refl;
    }
