use Rattle.std.proofs.Common.{ℕ, filter, map as map_list, ap, ◌∙◌}
use Rattle.std.specs.FinMap as map
use Rattle.pg_graph.specs.Removed.{Ids}
use Rattle.pg_store.proofs.Stores.{nothing_held}
use Rattle.pg_store.proofs.graph_view.GraphView.no_nodes.Goals as goal
use Rattle.pg_store.specs.Covers.{every, belongs, passes}
use Rattle.pg_store.specs.Journal.{live}
use Rattle.pg_store.specs.Stores.{state_of}

pub returns-clause-ids : goal.returns-clause-ids
returns-clause-ids g c =
    let s = state_of g.T.Tables.seen c.self.inside.store.now c.self.inside.shared.now in
    ap (filter (passes (belongs every) (live s).nodes)) (c.ids.ensures ∙ ap (λ (ids : Ids). map.keys ids) c.self.inside.store.now.sets.none_is_empty ∙ ap (map_list (λ (e : ℕ × Unit {0}). e.0)) (nothing_held (Unit {0})))
