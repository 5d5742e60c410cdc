use Rattle.std.proofs.Common.{◌==◌, ◌||◌, sym, ap, ◌∙◌}
use Rattle.pg_graph.proofs.Refined.{ids_mapped}
use Rattle.pg_graph.proofs.Removed.{ids_live}
use Rattle.pg_graph.specs.Refinement.{relationship_of}
use Rattle.pg_graph.specs.Removed.{live_ids}
use Rattle.pg_meaning.specs.Graph.{Graph, incident, both}
use Rattle.pg_store.proofs.MergedLemmas.{merged_where}
use Rattle.pg_store.proofs.graph_view.GraphView.incident.Goals as goal
use Rattle.pg_store.specs.Journal.{live}
use Rattle.pg_store.specs.Merged.{merged}
use Rattle.pg_store.specs.Stores.{state_of}
use Rattle.std.specs.FinMap as map

pub returns : goal.returns
returns g c =
    let store = c.self.inside.store.now in
    let n = c.args.node.0 in
    let content = g.T.Tables.seen.content store.tables c.self.inside.shared.now.tables in
    (λ i. live_ids store.gone_rels (merged (c.outgoing.ensures i) (c.incoming.ensures i)))
    ∙ ap (live_ids store.gone_rels) (merged_where (λ r. r.source.0 == n) (λ r. r.target.0 == n) content.rels)
    ∙ sym (ids_mapped (relationship_of c.self.inside.shared.now.names) (λ r. (r.source == n) || (r.target == n)) (map.entries (live (state_of g.T.Tables.seen store c.self.inside.shared.now)).rels)
    ∙ ids_live (λ r. (r.source.0 == n) || (r.target.0 == n)) content.rels store.gone_rels)
    ∙ ap (λ (graph : Graph). incident both c.args.node.0 graph) c.self.view_is
