use Rattle.std.proofs.Common.{◌≡◌, option_copied, sym, ap, ◌∙◌}
use Rattle.pg_meaning.specs.Graph.{Graph, has_node}
use Rattle.pg_store.proofs.Stores.{copied_is_there, node_is_there, node_is_below}
use Rattle.pg_store.proofs.graph_view.GraphView.has_node.Goals as goal
use Rattle.pg_store.specs.Journal.{live}
use Rattle.pg_store.specs.Stores.{graph_of_store, state_of}

pub returns : goal.returns
returns g c =
    let seen = g.T.Tables.seen in
    let store = c.self.inside.store.now in
    let shared = c.self.inside.shared.now in
    let there : c.is_some.result ≡ has_node (graph_of_store seen store shared) c.args.id.0 =
    c.is_some.ensures ∙ sym (copied_is_there c.node.result)
    ∙ sym (node_is_there shared.names (live (state_of seen store shared)) store.next.node store.next.rel c.args.id.0 (option_copied c.node.result) c.node.ensures) in
    record {
      is = there ∙ ap (λ (graph : Graph). has_node graph c.args.id.0) c.self.view_is;
      below = λ yes. node_is_below seen store shared c.args.id.0 c.self.invariant (sym there ∙ yes);
    }
