use Rattle.std.proofs.Common.{subst, sym, ap, refl, ◌<◌}
use Rattle.pg_graph.specs.Content.{Content}
use Rattle.std.specs.FinMap as map
use Rattle.pg_graph.specs.Removed.{Ids}
use Rattle.pg_store.proofs.CoverLemmas.{covers_without}
use Rattle.pg_store.proofs.Noting.{noted_alike}
use Rattle.pg_store.proofs.Settled.{live_nodes, among, settles_on, fewer, graph_without_node, well_without_node, without_gone_node, nothing_out, nothing_in}
use Rattle.pg_store.proofs.store.Store.settle_nodes.Goals as goal
use Rattle.pg_store.specs.Covers.{has_in}
use Rattle.pg_store.specs.Noted.{is_in}
use Rattle.pg_store.specs.Stores.{state_of}

pub drop_node-requires-clause-no_outgoing : goal.drop_node-requires-clause-no_outgoing
drop_node-requires-clause-no_outgoing g c =
    let now = c.loop-id.self in
    let was = c.loop-id.invariant in
    nothing_out c.loop-id.shared.names (state_of g.T.Tables.seen now c.loop-id.shared) c.in-Some.id was.settles.settling.well (among now.gone_nodes c.in-Some.id _ c.in-Some.ensures.before) was.no_rels

pub drop_node-requires-clause-no_incoming : goal.drop_node-requires-clause-no_incoming
drop_node-requires-clause-no_incoming g c =
    let now = c.loop-id.self in
    let was = c.loop-id.invariant in
    nothing_in c.loop-id.shared.names (state_of g.T.Tables.seen now c.loop-id.shared) c.in-Some.id was.settles.settling.well (among now.gone_nodes c.in-Some.id _ c.in-Some.ensures.before) was.no_rels

pub loop-id-smaller : goal.loop-id-smaller
loop-id-smaller g c =
    let gone = c.loop-id.self.gone_nodes in
    subst (λ (ids : Ids). map.len ids < map.len gone) (sym c.in-Some.ensures.removed) (fewer gone c.in-Some.id _ c.in-Some.ensures.before)

pub loop-id-preserved : goal.loop-id-preserved
loop-id-preserved g c =
    let now = c.loop-id.self in
    let was = c.loop-id.invariant in
    let s = state_of g.T.Tables.seen now c.loop-id.shared in
    let gone = among now.gone_nodes c.in-Some.id _ c.in-Some.ensures.before in
    record {
      settles = settles_on g.T.Tables.seen c.args.self.now now _ c.args.shared.now c.loop-id.shared _ (without_gone_node c.loop-id.shared.names s c.in-Some.id was.settles.settling.well gone was.no_rels) was.settles
          (λ t. record s { content = c.drop_node.ensures.dropped t; gone_nodes = c.in-Some.ensures.removed t })
          (well_without_node c.loop-id.shared.names s c.in-Some.id was.settles.settling.well gone was.no_rels)
          (covers_without (has_in now.sets) s c.in-Some.id was.settles.settling.covered)
          (noted_alike (is_in now.sets) now.sets.stale_ids.items s (without_gone_node c.loop-id.shared.names s c.in-Some.id was.settles.settling.well gone was.no_rels) (ap (λ (x : Content). x.nodes) (live_nodes c.loop-id.shared.names s c.in-Some.id was.settles.settling.well gone was.no_rels)) was.settles.settling.noted)
          refl
          (graph_without_node c.loop-id.shared.names s c.in-Some.id was.settles.settling.well gone was.no_rels)
          refl refl c.drop_node.ensures.keeps;
      no_rels = was.no_rels;
    }
