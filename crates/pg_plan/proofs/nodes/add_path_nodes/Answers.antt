use Rattle.std.proofs.Common.{subst}
use Rattle.pg_meaning.specs.Patterns.{nodes_of}
use Rattle.pg_scope.proofs.FirstLemmas.{item_here, items_end}
use Rattle.pg_scope.specs.Names.{names_in}
use Rattle.pg_syntax_tree.specs.View.{node_view, path_view}
use Rattle.pg_plan.proofs.PlaceLemmas.{all_left, one_node, none_left}
use Rattle.pg_plan.specs.Places.{hop_nodes, AreLeft}
use Rattle.pg_plan.proofs.nodes.add_path_nodes.Goals as goal

pub loop-node-init : goal.loop-node-init
loop-node-init c = one_node {n = node_view c.args.path.now.first} {rest = hop_nodes c.args.path.now.hops.items} (all_left (names_in c.args.names.now) (nodes_of (path_view c.args.path.now))) c.in_ok-add_variable.ensures

pub loop-node-preserved : goal.loop-node-preserved
loop-node-preserved c =
    let left = subst (λ hs. AreLeft (names_in c.loop-node.names) (hop_nodes hs) (names_in c.args.names.now) (nodes_of (path_view c.args.path.now))) (item_here c.loop-node-test.true c.loop-node-item.is c.deref-node-items.ensures.value) c.loop-node.invariant in
    one_node left c.in_ok-add_variable-2.ensures

pub returns : goal.returns
returns c =
    none_left (subst (λ hs. AreLeft (names_in c.loop-node.names) (hop_nodes hs) (names_in c.args.names.now) (nodes_of (path_view c.args.path.now))) (items_end c.loop-node-test.false c.deref-node-items.ensures.value) c.loop-node.invariant)
