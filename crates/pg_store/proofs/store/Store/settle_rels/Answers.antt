use Rattle.std.proofs.Common.{subst, sym, refl, ◌<◌}
use Rattle.std.specs.FinMap as map
use Rattle.pg_graph.specs.Removed.{Ids}
use Rattle.pg_store.proofs.Noting.{noted_alike}
use Rattle.pg_store.proofs.Settled.{among, settles_first, settles_on, fewer, graph_without_rel, well_without_rel, without_gone_rel}
use Rattle.pg_store.proofs.store.Store.settle_rels.Goals as goal
use Rattle.pg_store.specs.Noted.{is_in}
use Rattle.pg_store.specs.Stores.{state_of}

pub loop-id-init : goal.loop-id-init
loop-id-init g c = settles_first g.T.Tables.seen c.args.self.now c.args.shared.now c.requires

pub drop_rel-requires : goal.drop_rel-requires
drop_rel-requires g c =
    let was = c.loop-id.invariant in
    record { fits = was.settling.fits; present = was.settling.well.rels_wait c.in-Some.id (among c.loop-id.self.gone_rels c.in-Some.id _ c.in-Some.ensures.before) }

pub loop-id-smaller : goal.loop-id-smaller
loop-id-smaller g c =
    let gone = c.loop-id.self.gone_rels in
    subst (λ (ids : Ids). map.len ids < map.len gone) (sym c.in-Some.ensures.removed) (fewer gone c.in-Some.id _ c.in-Some.ensures.before)

pub loop-id-preserved : goal.loop-id-preserved
loop-id-preserved g c =
    let now = c.loop-id.self in
    let was = c.loop-id.invariant in
    let s = state_of g.T.Tables.seen now c.loop-id.shared in
    let gone = among now.gone_rels c.in-Some.id _ c.in-Some.ensures.before in
    settles_on g.T.Tables.seen c.args.self.now now _ c.args.shared.now c.loop-id.shared _ (without_gone_rel c.loop-id.shared.names s c.in-Some.id was.settling.well gone) was
    (λ t. record s { content = c.drop_rel.ensures.dropped t; gone_rels = c.in-Some.ensures.removed t })
    (well_without_rel c.loop-id.shared.names s c.in-Some.id was.settling.well gone)
    was.settling.covered
    (noted_alike (is_in now.sets) now.sets.stale_ids.items s (without_gone_rel c.loop-id.shared.names s c.in-Some.id was.settling.well gone) refl was.settling.noted)
    refl
    (graph_without_rel c.loop-id.shared.names s c.in-Some.id was.settling.well gone)
    refl refl c.drop_rel.ensures.keeps
