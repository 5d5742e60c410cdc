use Rattle.std.proofs.Common.{flat_map, refl, ◌++◌, sym, ap}
use Rattle.pg_meaning.specs.Patterns.{nodes_of}
use Rattle.pg_syntax_tree.specs.View.{path_view}
use Rattle.pg_write_make.proofs.TurnLemmas.{one_further, all_made}
use Rattle.pg_write_make.specs.Lent.{paths_view}
use Rattle.pg_write_make.specs.Makings.{patterns_view}
use Rattle.std.proofs.lemmas.Result.{IfOk-from_err}
use Rattle.pg_write_make.proofs.counts.all_nodes.Goals as goal

pub loop-path-preserved : goal.loop-path-preserved
loop-path-preserved c =
    let ps = c.args.paths.now in
    let path = c.path-item.result in
    one_further ps ps c.loop-path.path-index path refl c.path-item.is c.loop-path-test.true
    (λ ys. flat_map nodes_of (paths_view ys)) (flat_map nodes_of (paths_view ps)) (patterns_view c.loop-path.nodes.items) (patterns_view c.push_nodes.new.nodes.items) (nodes_of (path_view path))
    refl c.in_ok-push_nodes.ensures c.loop-path.invariant

pub returns-in_err-push_nodes : goal.returns-in_err-push_nodes
returns-in_err-push_nodes c = IfOk-from_err c.from_residual.result _ c.from_residual.ensures.0

pub loop-path-init : goal.loop-path-init
loop-path-init c = ap (λ ns. patterns_view ns ++ flat_map nodes_of (paths_view c.args.paths.now)) (sym c.new-nodes.ensures.items)

pub returns : goal.returns
returns c =
    let ps = c.args.paths.now in
    all_made ps ps c.loop-path.path-index refl c.loop-path-test.false (λ ys. flat_map nodes_of (paths_view ys)) (patterns_view c.loop-path.nodes.items) (flat_map nodes_of (paths_view ps)) refl (sym c.loop-path.invariant)
