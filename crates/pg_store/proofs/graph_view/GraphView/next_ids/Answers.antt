use Rattle.std.proofs.Common.{ap, ◌∙◌}
use Rattle.pg_meaning.specs.Graph.{Graph}
use Rattle.pg_store.proofs.graph_view.GraphView.next_ids.Goals as goal

pub returns-clause-node : goal.returns-clause-node
returns-clause-node g c = c.next_ids.ensures.node c.self.inside.shared.now ∙ ap (λ (graph : Graph). graph.next_node) c.self.view_is

pub returns-clause-relationship : goal.returns-clause-relationship
returns-clause-relationship g c = c.next_ids.ensures.relationship c.self.inside.shared.now ∙ ap (λ (graph : Graph). graph.next_relationship) c.self.view_is
