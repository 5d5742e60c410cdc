use Rattle.std.proofs.Common.{ℕ, IsSome, refl, sym, ap, subst, ◌∙◌}
use Rattle.std.specs.FinMap as map
use Rattle.pg_graph.proofs.Others.{keeps_trans}
use Rattle.pg_graph.proofs.Removed.{get_kept, is_live}
use Rattle.pg_graph.specs.Content.{Content}
use Rattle.pg_graph.specs.Records.{Properties, shown}
use Rattle.pg_graph.specs.declared.records.RelRecord.{RelRecord}
use Rattle.std.specs.Option.{option_map}
use Rattle.std.specs.FinMap.{FinMap}
use Rattle.std.specs.Ordering.{nat_cmp}
use Rattle.pg_graph.specs.Removed.{without_ids}
use Rattle.pg_graph.specs.declared.records.NodeRecord.{NodeRecord}
use Rattle.pg_store.proofs.CoverLemmas.{same_nodes}
use Rattle.pg_store.proofs.Noting.{noted_alike}
use Rattle.pg_store.proofs.Settled.{settles_first, settles_on, rel_without_blanks, well_rel_without_blanks, graph_rel_without_blanks, covers_rel_without_blanks}
use Rattle.pg_store.proofs.States.{properties_taken_and_put, rel_stays_there, the_same}
use Rattle.pg_store.proofs.store.Store.settle_rel_key.Goals as goal
use Rattle.pg_store.specs.Covers.{has_in}
use Rattle.pg_store.specs.Noted.{is_in}
use Rattle.pg_store.specs.Stores.{state_of}

pub returns-then-not-has_blank_rel : goal.returns-then-not-has_blank_rel
returns-then-not-has_blank_rel g c = settles_first g.T.Tables.seen c.args.self.now c.args.shared.now c.requires

pub change_rel-properties-requires : goal.change_rel-properties-requires
change_rel-properties-requires g c =
    let s = state_of g.T.Tables.seen c.args.self.now c.args.shared.now in
    let found = c.has_blank_rel.ensures c.if-not-has_blank_rel.false in
    record { fits = c.requires.fits; present = (is_live s.content.rels s.gone_rels c.args.id.0 (subst IsSome (sym found.1) refl)).1 }

pub change_rel-requires : goal.change_rel-requires
change_rel-requires g c =
    let s = state_of g.T.Tables.seen c.args.self.now c.args.shared.now in
    let found = c.has_blank_rel.ensures c.if-not-has_blank_rel.false in
    record {
      fits = c.change_rel-properties.ensures.keeps.fits;
      present = rel_stays_there s.content _ c.args.id.0 _ (is_live s.content.rels s.gone_rels c.args.id.0 (subst IsSome (sym found.1) refl)).1 c.change_rel-properties.ensures.changed;
    }

pub returns : goal.returns
returns g c =
    let store = c.args.self.now in
    let shared = c.args.shared.now in
    let names = shared.names in
    let s = state_of g.T.Tables.seen store shared in
    let id = c.args.id in
    let found = c.has_blank_rel.ensures c.if-not-has_blank_rel.false in
    let r = found.0 in
    let well = c.requires.well in
    let live = is_live s.content.rels s.gone_rels id.0 (subst IsSome (sym found.1) refl) in
    let held = sym (get_kept s.content.rels s.gone_rels id.0 live.0) ∙ found.1 in
    let ps = c.remove_blanks.new.self in
    let is = the_same r.properties c.change_rel-properties.result (ap (option_map (λ (r : RelRecord). r.properties)) held) c.change_rel-properties.ensures.before in
    let alike = λ (q : ℕ). c.remove_blanks.ensures q ∙ ap (λ (qs : Properties). shown (map.get qs q)) (sym is) in
    let content = properties_taken_and_put s.content _ _ id.0 _ ps live.1 c.change_rel-properties.ensures.changed c.change_rel.ensures.changed in
    settles_on g.T.Tables.seen store store _ shared shared _ (rel_without_blanks names s id r ps well found.1 alike)
    (settles_first g.T.Tables.seen store shared c.requires)
    (ap (λ (content : Content). record s { content = content }) content)
    (well_rel_without_blanks names s id r ps well found.1 alike)
    (covers_rel_without_blanks names s id r ps well found.1 alike (has_in store.sets) c.requires.covered)
    (noted_alike (is_in store.sets) store.sets.stale_ids.items s (rel_without_blanks names s id r ps well found.1 alike) (ap (λ (m : FinMap nat_cmp NodeRecord). without_ids m s.gone_nodes) (same_nodes s.content id.0 ps))
    c.requires.noted)
    refl
    (graph_rel_without_blanks names s id r ps well found.1 alike)
    refl refl
    (keeps_trans store.tables _ _ shared.tables _ _ c.change_rel-properties.ensures.keeps c.change_rel.ensures.keeps)
