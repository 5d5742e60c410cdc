use Rattle.std.proofs.Common.{◌==◌, sym, ap, ◌∙◌}
use Rattle.pg_graph.proofs.Refined.{outgoing_are_read}
use Rattle.pg_graph.proofs.Removed.{ids_live}
use Rattle.pg_graph.specs.Links.{numbers}
use Rattle.pg_graph.specs.Removed.{live_ids}
use Rattle.pg_meaning.specs.Graph.{Graph, incident, outgoing}
use Rattle.pg_store.proofs.MergedLemmas.{merged_none}
use Rattle.pg_store.proofs.graph_view.GraphView.outgoing.Goals as goal
use Rattle.pg_store.specs.Journal.{live}
use Rattle.pg_store.specs.Stores.{state_of}

pub returns : goal.returns
returns g c =
    let store = c.self.inside.store.now in
    let content = g.T.Tables.seen.content store.tables c.self.inside.shared.now.tables in
    ap (live_ids store.gone_rels) (merged_none (numbers c.outgoing.result.now) ∙ c.outgoing.ensures)
    ∙ sym (outgoing_are_read c.self.inside.shared.now.names (live (state_of g.T.Tables.seen store c.self.inside.shared.now)) store.next.node store.next.rel c.args.node.0
    ∙ ids_live (λ r. r.source.0 == c.args.node.0) content.rels store.gone_rels)
    ∙ ap (λ (graph : Graph). incident outgoing c.args.node.0 graph) c.self.view_is
