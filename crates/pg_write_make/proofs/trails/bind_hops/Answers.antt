use Rattle.std.proofs.Common.{◌++◌, map}
use Rattle.std.proofs.lemmas.List.{nil_from_length}
use Rattle.pg_meaning.specs.Patterns.{single}
use Rattle.pg_syntax_tree.specs.View.{hop_view}
use Rattle.pg_write_make.proofs.HopLemmas.{bonds_over, hop_bound, hops_past, nodes_over}
use Rattle.pg_write_make.proofs.LoopLemmas.{at_same, past_same, within_same}
use Rattle.pg_write_make.specs.Bindings.{hop_bindings, named}
use Rattle.pg_write_make.specs.Lent.{bindings_view}
use Rattle.pg_write_make.specs.Makings.{node_ids, relationship_ids}
use Rattle.pg_write_make.proofs.trails.bind_hops.Goals as goal

pub loop-hop-preserved : goal.loop-hop-preserved
loop-hop-preserved c =
    let hops = c.args.hops.now.items in
    let i = c.loop-hop.hop-index in
    let h = c.hop-item.result in
    let same = c.deref-hop-items.ensures.value in
    hop_bound hops i c.loop-hop.bonds.now c.loop-hop.ahead.now (bindings_view c.loop-hop.bindings.items)
    (bindings_view c.args.bindings.now.items ++ named (hop_bindings (map hop_view hops) (map single (relationship_ids c.args.relationships.now)) (node_ids c.args.nodes.now)))
    c.loop-hop.invariant h (at_same c.deref-hop-items.result.now hops i h same c.hop-item.is) (within_same c.deref-hop-items.result.now hops i same c.loop-hop-test.true)
    c.in-Some-Some.bond.now c.in-Some-Some.other_bonds.now c.in-Some-Some.node.now c.in-Some-Some.other_nodes.now c.in-Some-Some.ensures.cases.0 c.in-Some-Some.ensures'.cases.0
    (bindings_view c.bind_relationship.new.bindings.items) (bindings_view c.bind_if_named.new.bindings.items)
    c.in_ok-bind_relationship-in-Some-Some.ensures c.in_ok-bind_if_named-in-Some-Some.ensures

pub returns-in_default : goal.returns-in_default
returns-in_default c =
    let hops = c.args.hops.now.items in
    nodes_over hops c.loop-hop.hop-index c.loop-hop.bonds.now c.loop-hop.ahead.now (bindings_view c.loop-hop.bindings.items)
    (bindings_view c.args.bindings.now.items ++ named (hop_bindings (map hop_view hops) (map single (relationship_ids c.args.relationships.now)) (node_ids c.args.nodes.now)))
    c.loop-hop.invariant (nil_from_length c.loop-hop.ahead.now c.in_default.ensures'.cases)

pub returns-in_default-2 : goal.returns-in_default-2
returns-in_default-2 c =
    let hops = c.args.hops.now.items in
    bonds_over hops c.loop-hop.hop-index c.loop-hop.bonds.now c.loop-hop.ahead.now (bindings_view c.loop-hop.bindings.items)
    (bindings_view c.args.bindings.now.items ++ named (hop_bindings (map hop_view hops) (map single (relationship_ids c.args.relationships.now)) (node_ids c.args.nodes.now)))
    c.loop-hop.invariant (nil_from_length c.loop-hop.bonds.now c.in_default.ensures.cases)

pub returns : goal.returns
returns c =
    let hops = c.args.hops.now.items in
    hops_past hops c.loop-hop.hop-index c.loop-hop.bonds.now c.loop-hop.ahead.now (bindings_view c.loop-hop.bindings.items)
    (bindings_view c.args.bindings.now.items ++ named (hop_bindings (map hop_view hops) (map single (relationship_ids c.args.relationships.now)) (node_ids c.args.nodes.now)))
    c.loop-hop.invariant (past_same c.deref-hop-items.result.now hops c.loop-hop.hop-index c.deref-hop-items.ensures.value c.loop-hop-test.false)
