use Rattle.std.proofs.Common.{◌+◌, drop, refl, ap}
use Rattle.pg_meaning.specs.Patterns.{nodes_of}
use Rattle.pg_scope.proofs.FirstLemmas.{item_here, items_end}
use Rattle.pg_syntax_tree.specs.View.{node_view, path_view}
use Rattle.pg_plan.proofs.LoopLemmas.{one_taken, all_taken}
use Rattle.pg_plan.specs.Places.{nodes_in, hop_nodes}
use Rattle.pg_plan.proofs.nodes.nodes_of.Goals as goal

pub loop-node-init : goal.loop-node-init
loop-node-init c = rw c.in_ok-push.ensures.items (rw c.new-nodes.ensures.items refl)

pub loop-node-preserved : goal.loop-node-preserved
loop-node-preserved c =
    let hops = c.args.path.now.hops.items in
    one_taken (λ n. node_view n.now) c.loop-node.nodes.items _ _ (hop_nodes (drop c.loop-node.node-index hops)) (hop_nodes (drop (c.loop-node.node-index + 1) hops)) (nodes_of (path_view c.args.path.now))
    c.in_ok-push-2.ensures.items (ap hop_nodes (item_here c.loop-node-test.true c.loop-node-item.is c.deref-node-items.ensures.value)) c.loop-node.invariant

pub returns : goal.returns
returns c =
    all_taken (nodes_in c.loop-node.nodes.items) (hop_nodes (drop c.loop-node.node-index c.args.path.now.hops.items)) (nodes_of (path_view c.args.path.now))
    (ap hop_nodes (items_end c.loop-node-test.false c.deref-node-items.ensures.value)) c.loop-node.invariant
