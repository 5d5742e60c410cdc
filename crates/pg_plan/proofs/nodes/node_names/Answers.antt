use Rattle.std.proofs.Common.{[], map, sym, subst}
use Rattle.std.specs.Prelude.{flat_map}
use Rattle.pg_meaning.specs.Patterns.{nodes_of}
use Rattle.pg_scope.proofs.FirstLemmas.{item_here, items_end}
use Rattle.pg_scope.specs.Names.{names_in}
use Rattle.pg_syntax_tree.specs.View.{path_view}
use Rattle.pg_plan.proofs.PlaceLemmas.{all_left, some_nodes, named_all}
use Rattle.pg_plan.specs.Places.{AreLeft}
use Rattle.pg_plan.proofs.nodes.node_names.Goals as goal

pub loop-path-init : goal.loop-path-init
loop-path-init c =
    let all = flat_map nodes_of (map path_view c.args.paths.now.items) in
    subst (λ ks. AreLeft (map (λ k. k.now) ks) all [] all) (sym c.new-names.ensures.empty) (all_left [] all)

pub loop-path-preserved : goal.loop-path-preserved
loop-path-preserved c =
    let all = flat_map nodes_of (map path_view c.args.paths.now.items) in
    let left = subst (λ ps. AreLeft (names_in c.loop-path.names) (flat_map nodes_of (map path_view ps)) [] all) (item_here c.loop-path-test.true c.path-item.is c.deref-path-items.ensures.value) c.loop-path.invariant in
    some_nodes left c.in_ok-add_path_nodes.ensures

pub returns : goal.returns
returns c =
    let all = flat_map nodes_of (map path_view c.args.paths.now.items) in
    named_all (subst (λ ps. AreLeft (names_in c.loop-path.names) (flat_map nodes_of (map path_view ps)) [] all) (items_end c.loop-path-test.false c.deref-path-items.ensures.value) c.loop-path.invariant)
