use Rattle.std.proofs.Common.{◌≡◌, ℕ, IsSome, refl, sym, ap, subst, ◌∙◌}
use Rattle.std.specs.FinMap as map
use Rattle.pg_graph.proofs.Others.{keeps_trans}
use Rattle.pg_graph.proofs.Removed.{get_kept, is_live}
use Rattle.pg_graph.specs.Content.{Content, with_node}
use Rattle.pg_graph.specs.Records.{shown}
use Rattle.pg_graph.specs.declared.records.NodeRecord.{NodeRecord}
use Rattle.pg_store.proofs.Settled.{noted_without_blanks, settles_first, settles_on, without_blanks, well_without_blanks, graph_without_blanks, covers_without_blanks}
use Rattle.pg_store.proofs.States.{taken_and_put, node_stays_there, the_same}
use Rattle.pg_store.proofs.store.Store.settle_node_key.Goals as goal
use Rattle.pg_store.specs.Covers.{has_in}
use Rattle.pg_store.specs.Noted.{is_in}
use Rattle.pg_store.specs.Stores.{state_of}

pub returns-then-not-has_blank : goal.returns-then-not-has_blank
returns-then-not-has_blank g c = settles_first g.T.Tables.seen c.args.self.now c.args.shared.now c.requires

pub change-node-requires : goal.change-node-requires
change-node-requires g c =
    let s = state_of g.T.Tables.seen c.args.self.now c.args.shared.now in
    let found = c.has_blank.ensures c.if-not-has_blank.false in
    record { fits = c.requires.fits; present = (is_live s.content.nodes s.gone_nodes c.args.id.0 (subst IsSome (sym found.1) refl)).1 }

pub change-requires : goal.change-requires
change-requires g c =
    let s = state_of g.T.Tables.seen c.args.self.now c.args.shared.now in
    record { fits = c.change-node.ensures.keeps.fits; present = node_stays_there s.content _ c.args.id.0 _ c.change-node.ensures.changed }

pub returns : goal.returns
returns g c =
    let store = c.args.self.now in
    let shared = c.args.shared.now in
    let names = shared.names in
    let s = state_of g.T.Tables.seen store shared in
    let id = c.args.id in
    let found = c.has_blank.ensures c.if-not-has_blank.false in
    let n = found.0 in
    let well = c.requires.well in
    let w = c.change-node.result in
    let held = sym (get_kept s.content.nodes s.gone_nodes id.0 (is_live s.content.nodes s.gone_nodes id.0 (subst IsSome (sym found.1) refl)).0) ∙ found.1 in
    let is : n ≡ w = the_same n w held c.change-node.ensures.before in
    let ps = c.remove_blanks.new.self in
    let alike = λ (q : ℕ). c.remove_blanks.ensures q ∙ ap (λ (x : NodeRecord). shown (map.get x.properties q)) (sym is) in
    let content = taken_and_put s.content _ _ id.0 _ (record w { properties = ps }) c.change-node.ensures.changed c.change.ensures.changed
    ∙ ap (λ (x : NodeRecord). with_node s.content id.0 (record x { properties = ps })) (sym is) in
    settles_on g.T.Tables.seen store store _ shared shared _ (without_blanks names s id n ps well found.1 alike)
    (settles_first g.T.Tables.seen store shared c.requires)
    (ap (λ (content : Content). record s { content = content }) content)
    (well_without_blanks names s id n ps well found.1 alike)
    (covers_without_blanks names s id n ps well found.1 alike (has_in store.sets) c.requires.covered)
    (noted_without_blanks names s id n ps well found.1 alike (is_in store.sets) store.sets.stale_ids.items c.requires.noted)
    refl
    (graph_without_blanks names s id n ps well found.1 alike)
    refl refl
    (keeps_trans store.tables _ _ shared.tables _ _ c.change-node.ensures.keeps c.change.ensures.keeps)
