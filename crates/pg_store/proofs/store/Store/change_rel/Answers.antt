use Rattle.std.proofs.Common.{◌++◌, ◌∷◌, [], refl, sym, ap, subst, ◌∙◌}
use Rattle.std.proofs.lemmas.Result.{IfOk-from_err}
use Rattle.std.specs.FinMap as map
use Rattle.pg_graph.proofs.Others.{keeps_refl, keeps_trans}
use Rattle.pg_graph.proofs.Removed.{is_live}
use Rattle.pg_graph.specs.Content.{Content, with_rel_properties}
use Rattle.pg_graph.specs.Records.{Properties}
use Rattle.pg_graph.specs.Refinement.{AreNamed, property_entries}
use Rattle.pg_graph.specs.declared.records.RelRecord.{RelRecord}
use Rattle.pg_meaning.specs.Graph.{change_relationship}
use Rattle.pg_store.proofs.ChangeLemmas.{changed_fit, refused_fit, changed_marks, marks_alike, at_err}
use Rattle.pg_store.proofs.Changed.{rel_before}
use Rattle.pg_store.proofs.CoverLemmas.{same_nodes, covers_now, covers_other_properties}
use Rattle.pg_store.proofs.Kept.{tables_kept}
use Rattle.pg_store.proofs.States.{with_rel_changed, rel_changed, rel_change_undone, held_live_rel, the_same, properties_taken_and_put, rel_as_it_was, rel_stays_there}
use Rattle.pg_store.proofs.store.Store.change_rel.Goals as goal
use Rattle.pg_store.specs.Covers.{has_in}
use Rattle.pg_store.specs.Edits.{CanChange, changed_properties}
use Rattle.pg_store.specs.Journal.{graph_in}
use Rattle.std.specs.FinMap.{FinMap}
use Rattle.std.specs.Ordering.{nat_cmp}
use Rattle.pg_graph.specs.Removed.{without_ids}
use Rattle.pg_graph.specs.declared.records.NodeRecord.{NodeRecord}
use Rattle.pg_store.proofs.GainLemmas.{gains_none}
use Rattle.pg_store.proofs.Noting.{noted_alike, noted_now}
use Rattle.pg_store.specs.Noted.{is_in}
use Rattle.pg_store.specs.Stores.{state_of, graph_of_store}
use Rattle.pg_store.specs.declared.journal.Entry.TheVariants.{RelChanged}

pub change_rel-properties-requires-clause-present : goal.change_rel-properties-requires-clause-present
change_rel-properties-requires-clause-present g c =
    let store = c.args.self.now in
    (is_live (g.T.Tables.seen.content store.tables c.args.shared.now.tables).rels store.gone_rels c.args.id.0 c.requires.there).1

pub exchange-changed-requires : goal.exchange-changed-requires
exchange-changed-requires g c =
    let s = state_of g.T.Tables.seen c.args.self.now c.args.shared.now in
    let rel = rel_before c.args.shared.now.names (map.get s.content.rels c.args.id.0) c.change_rel-properties.result c.change_rel-properties.ensures.before in
    subst (CanChange c.args.change) rel.2 (c.requires.change rel.0 (held_live_rel s c.args.id.0 rel.0 c.requires.there rel.1))

pub change_rel-requires : goal.change_rel-requires
change_rel-requires g c =
    let store = c.args.self.now in
    let s = state_of g.T.Tables.seen store c.args.shared.now in
    let held = (is_live s.content.rels store.gone_rels c.args.id.0 c.requires.there).1 in
    record { fits = c.change_rel-properties.ensures.keeps.fits; present = rel_stays_there s.content _ c.args.id.0 _ held c.change_rel-properties.ensures.changed }

pub returns : goal.returns
returns g c =
    let store = c.args.self.now in
    let shared = c.args.shared.now in
    let names = shared.names in
    let r = c.requires in
    let s = state_of g.T.Tables.seen store shared in
    let id = c.args.id in
    let w = c.change_rel-properties.result in
    let ps = c.exchange-changed.new.properties in
    let was = c.change_rel-properties.ensures.before in
    let held = (is_live s.content.rels store.gone_rels id.0 r.there).1 in
    let rel = rel_before names (map.get s.content.rels id.0) w was in
    let is_there = held_live_rel s id.0 rel.0 r.there rel.1 in
    let edit = c.in_ok-before.ensures in
    let made = edit.ok ∙ ap (changed_properties c.args.change) (sym rel.2) in
    let named = subst (λ (qs : Properties). AreNamed names (map.keys qs)) (sym made) (r.named rel.0 is_there) in
    let content = properties_taken_and_put s.content _ _ id.0 _ ps held c.change_rel-properties.ensures.changed c.change_rel.ensures.changed in
    let changed = with_rel_changed names s id ps w r.fit.well r.there named was in
    let undone = rel_change_undone names s id ps w r.fit.well r.there named was c.in_ok-before.before edit.back edit.can in
    let state = ap (λ (content : Content). record changed { content = content }) content in
    let journal = c.push_reserved.ensures.items ∙ ap (λ es. es ++ RelChanged id c.in_ok-before.before ∷ []) c.in_ok-reserve.ensures.items in
    let keeps = keeps_trans store.tables _ _ shared.tables _ _ c.change_rel-properties.ensures.keeps c.change_rel.ensures.keeps in
    record {
      ok = λ m is.
          ap (λ (content : Content). graph_in names (record changed { content = content })) content
          ∙ rel_changed names s id ps w r.fit.well r.there named was
          ∙ ap (λ (qs : Properties). change_relationship (λ e. record e { properties = property_entries names qs }) id.0 (graph_of_store g.T.Tables.seen store shared))
          (made ∙ ap (λ (x : RelRecord). changed_properties c.args.change x.properties) (the_same rel.0 m is_there is));
      err = tt;
      marks = changed_marks g.T.Tables.seen store _ shared _ r.fit (RelChanged id c.in_ok-before.before) changed undone refl state journal (gains_none store.sets);
      fit = changed_fit g.T.Tables.seen store _ shared _ r.fit (RelChanged id c.in_ok-before.before) changed undone refl state journal (gains_none store.sets) (λ k i h. h)
          (covers_other_properties (has_in store.sets) s id.0 ps (covers_now (has_in store.sets) store.journal.items s r.fit.covered))
          (noted_alike (is_in store.sets) store.sets.stale_ids.items s changed (ap (λ (m : FinMap nat_cmp NodeRecord). without_ids m s.gone_nodes) (same_nodes s.content id.0 ps)) (noted_now (is_in store.sets) store.sets.stale_ids.items store.journal.items s r.fit.noted))
          keeps.fits;
      keeps = tables_kept store _ shared _ r.fit keeps refl;
    }

pub returns-in_err-reserve : goal.returns-in_err-reserve
returns-in_err-reserve g c =
    let store = c.args.self.now in
    let shared = c.args.shared.now in
    let left = record store { journal = c.reserve.new.self } in
    record {
      ok = IfOk-from_err c.from_residual.result _ c.from_residual.ensures.0;
      err = at_err c.from_residual.result refl;
      marks = marks_alike g.T.Tables.seen store left shared shared refl c.reserve.ensures.items refl refl;
      fit = refused_fit g.T.Tables.seen store left shared shared c.requires.fit refl refl c.reserve.ensures.items (λ k i h. h) (gains_none store.sets) c.requires.fit.fits;
      keeps = tables_kept store left shared shared c.requires.fit (keeps_refl store.tables shared.tables c.requires.fit.fits) refl;
    }

pub returns-in_err-before : goal.returns-in_err-before
returns-in_err-before g c =
    let store = c.args.self.now in
    let shared = c.args.shared.now in
    let s = state_of g.T.Tables.seen store shared in
    let id = c.args.id.0 in
    let left = record store { tables = c.change_rel.new.self; journal = c.reserve.new.self } in
    let after = record shared { tables = c.change_rel.new.shared } in
    let held = (is_live s.content.rels store.gone_rels id c.requires.there).1 in
    let rel = rel_before shared.names (map.get s.content.rels id) c.change_rel-properties.result c.change_rel-properties.ensures.before in
    let content = properties_taken_and_put s.content _ _ id _ c.exchange-changed.new.properties held c.change_rel-properties.ensures.changed c.change_rel.ensures.changed
    ∙ ap (with_rel_properties s.content id) (c.in_err-before.ensures.err ∙ sym rel.2) ∙ rel_as_it_was s.content id rel.0 rel.1 in
    let state = ap (λ (content : Content). record s { content = content }) content in
    let keeps = keeps_trans store.tables _ _ shared.tables _ _ c.change_rel-properties.ensures.keeps c.change_rel.ensures.keeps in
    record {
      ok = IfOk-from_err c.from_residual-in_err-before.result _ c.from_residual-in_err-before.ensures.0;
      err = at_err c.from_residual-in_err-before.result (ap (graph_in shared.names) state);
      marks = marks_alike g.T.Tables.seen store left shared after refl c.reserve.ensures.items state refl;
      fit = refused_fit g.T.Tables.seen store left shared after c.requires.fit refl state c.reserve.ensures.items (λ k i h. h) (gains_none store.sets) keeps.fits;
      keeps = tables_kept store left shared after c.requires.fit keeps refl;
    }
