use Rattle.std.proofs.Common.{◌++◌, ◌∷◌, [], refl, ap, ◌∙◌}
use Rattle.std.proofs.lemmas.Result.{IfOk-from_err}
use Rattle.pg_graph.proofs.Others.{keeps_refl}
use Rattle.pg_graph.proofs.Removed.{is_live}
use Rattle.pg_graph.specs.Content.{Content}
use Rattle.pg_store.proofs.ChangeLemmas.{changed_fit, changed_marks, marks_alike, refused_fit, at_err}
use Rattle.pg_store.proofs.Kept.{tables_kept}
use Rattle.pg_store.proofs.CoverLemmas.{covers_now}
use Rattle.pg_store.proofs.GainLemmas.{gains_none}
use Rattle.pg_store.proofs.Noting.{noted_alike, noted_now}
use Rattle.pg_store.proofs.States.{next_rel_is_absent, with_new_rel, new_rel_made, new_rel_undone}
use Rattle.pg_store.proofs.store.Store.add_rel.Goals as goal
use Rattle.pg_store.specs.Covers.{has_in}
use Rattle.pg_store.specs.Journal.{graph_in}
use Rattle.pg_store.specs.Noted.{is_in}
use Rattle.pg_store.specs.Stores.{state_of}
use Rattle.pg_store.specs.declared.journal.Entry.TheVariants.{RelAdded}

pub add_rel-requires-clause-absent : goal.add_rel-requires-clause-absent
add_rel-requires-clause-absent g c =
    let store = c.args.self.now in
    next_rel_is_absent c.args.shared.now.names (g.T.Tables.seen.content store.tables c.args.shared.now.tables) store.next.node store.next.rel c.requires.fit.well.held

pub add_rel-requires-clause-source : goal.add_rel-requires-clause-source
add_rel-requires-clause-source g c =
    let store = c.args.self.now in
    (is_live (g.T.Tables.seen.content store.tables c.args.shared.now.tables).nodes store.gone_nodes c.args.rel.source.0 c.requires.source).1

pub add_rel-requires-clause-target : goal.add_rel-requires-clause-target
add_rel-requires-clause-target g c =
    let store = c.args.self.now in
    (is_live (g.T.Tables.seen.content store.tables c.args.shared.now.tables).nodes store.gone_nodes c.args.rel.target.0 c.requires.target).1

pub returns-clause-ok : goal.returns-clause-ok
returns-clause-ok g c =
    let store = c.args.self.now in
    let r = c.requires in
    let s = state_of g.T.Tables.seen store c.args.shared.now in
    let made = with_new_rel c.args.shared.now.names s c.args.rel r.fit.well r.kind r.keys r.source r.target r.room r.count in
    ap (λ (content : Content). graph_in c.args.shared.now.names (record made { content = content })) c.in_ok-add_rel.ensures.ok
    ∙ new_rel_made c.args.shared.now.names s c.args.rel r.fit.well r.kind r.keys r.source r.target r.room r.count

pub returns-clause-marks : goal.returns-clause-marks
returns-clause-marks g c =
    let store = c.args.self.now in
    let r = c.requires in
    let s = state_of g.T.Tables.seen store c.args.shared.now in
    let made = with_new_rel c.args.shared.now.names s c.args.rel r.fit.well r.kind r.keys r.source r.target r.room r.count in
    changed_marks g.T.Tables.seen store _ c.args.shared.now _ r.fit RelAdded made
    (new_rel_undone c.args.shared.now.names s c.args.rel r.fit.well r.kind r.keys r.source r.target r.room r.count)
    refl
    (ap (λ (content : Content). record made { content = content }) c.in_ok-add_rel.ensures.ok)
    (c.push_reserved.ensures.items ∙ ap (λ es. es ++ RelAdded ∷ []) c.in_ok-reserve.ensures.items)
    (gains_none store.sets)

pub returns-clause-fit : goal.returns-clause-fit
returns-clause-fit g c =
    let store = c.args.self.now in
    let r = c.requires in
    let s = state_of g.T.Tables.seen store c.args.shared.now in
    let made = with_new_rel c.args.shared.now.names s c.args.rel r.fit.well r.kind r.keys r.source r.target r.room r.count in
    changed_fit g.T.Tables.seen store _ c.args.shared.now _ r.fit RelAdded made
    (new_rel_undone c.args.shared.now.names s c.args.rel r.fit.well r.kind r.keys r.source r.target r.room r.count)
    refl
    (ap (λ (content : Content). record made { content = content }) c.in_ok-add_rel.ensures.ok)
    (c.push_reserved.ensures.items ∙ ap (λ es. es ++ RelAdded ∷ []) c.in_ok-reserve.ensures.items)
    (gains_none store.sets)
    (λ k i h. h)
    (covers_now (has_in store.sets) store.journal.items s c.requires.fit.covered)
    (noted_alike (is_in store.sets) store.sets.stale_ids.items s made refl (noted_now (is_in store.sets) store.sets.stale_ids.items store.journal.items s r.fit.noted))
    c.add_rel.ensures.keeps.fits

pub returns-clause-keeps : goal.returns-clause-keeps
returns-clause-keeps g c = tables_kept c.args.self.now _ c.args.shared.now _ c.requires.fit c.add_rel.ensures.keeps refl

pub returns-in_err-reserve : goal.returns-in_err-reserve
returns-in_err-reserve g c =
    let store = c.args.self.now in
    let shared = c.args.shared.now in
    let left = record store { journal = c.reserve.new.self } in
    record {
      id = IfOk-from_err c.from_residual.result _ c.from_residual.ensures.0;
      ok = IfOk-from_err c.from_residual.result _ c.from_residual.ensures.0;
      err = at_err c.from_residual.result refl;
      marks = marks_alike g.T.Tables.seen store left shared shared refl c.reserve.ensures.items refl refl;
      fit = refused_fit g.T.Tables.seen store left shared shared c.requires.fit refl refl c.reserve.ensures.items (λ k i h. h) (gains_none store.sets) c.requires.fit.fits;
      keeps = tables_kept store left shared shared c.requires.fit (keeps_refl store.tables shared.tables c.requires.fit.fits) refl;
    }

pub returns-in_err-add_rel : goal.returns-in_err-add_rel
returns-in_err-add_rel g c =
    let store = c.args.self.now in
    let shared = c.args.shared.now in
    let s = state_of g.T.Tables.seen store shared in
    let left = record store { tables = c.add_rel.new.self; journal = c.reserve.new.self } in
    let after = record shared { tables = c.add_rel.new.shared } in
    record {
      id = IfOk-from_err c.from_residual-in_err-add_rel.result _ c.from_residual-in_err-add_rel.ensures.0;
      ok = IfOk-from_err c.from_residual-in_err-add_rel.result _ c.from_residual-in_err-add_rel.ensures.0;
      err = at_err c.from_residual-in_err-add_rel.result (λ t. graph_in shared.names (record s { content = c.in_err-add_rel.ensures.err t }));
      marks = marks_alike g.T.Tables.seen store left shared after refl c.reserve.ensures.items (λ t. record s { content = c.in_err-add_rel.ensures.err t }) refl;
      fit = refused_fit g.T.Tables.seen store left shared after c.requires.fit refl (λ t. record s { content = c.in_err-add_rel.ensures.err t }) c.reserve.ensures.items (λ k i h. h) (gains_none store.sets) c.add_rel.ensures.keeps.fits;
      keeps = tables_kept store left shared after c.requires.fit c.add_rel.ensures.keeps refl;
    }
