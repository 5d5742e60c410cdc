use Rattle.std.proofs.Common.{[], ◌∷◌, ◌++◌, refl, sym, ap, ◌∙◌, append_assoc}
use Rattle.pg_meaning.specs.Patterns.{nodes_of}
use Rattle.pg_syntax_tree.specs.View.{node_view, path_view}
use Rattle.pg_write_make.proofs.TurnLemmas.{one_further, seen_pushed, all_made}
use Rattle.pg_write_make.specs.Makings.{others_view, patterns_view}
use Rattle.std.proofs.lemmas.Result.{IfOk-from_err}
use Rattle.pg_write_make.proofs.counts.push_nodes.Goals as goal

pub loop-hop-preserved : goal.loop-hop-preserved
loop-hop-preserved c =
    let hop = c.hop-item.result in
    sym (one_further c.deref-hop-items.result.now c.args.path.now.hops.items c.loop-hop.hop-index hop c.deref-hop-items.ensures.value c.hop-item.is c.loop-hop-test.true
    others_view (patterns_view c.args.nodes.now.items ++ nodes_of (path_view c.args.path.now)) (patterns_view c.loop-hop.nodes.items) (patterns_view c.push-in-loop-hop.new.self.items) (node_view hop.1 ∷ [])
    refl (seen_pushed (λ n. node_view n.now) c.loop-hop.nodes.items c.push-in-loop-hop.new.self.items _ c.in_ok-push-2.ensures.items)
    (sym c.loop-hop.invariant))

pub returns-in_err-push : goal.returns-in_err-push
returns-in_err-push c = IfOk-from_err c.from_residual.result _ c.from_residual.ensures.0

pub loop-hop-init : goal.loop-hop-init
loop-hop-init c =
    let old = c.args.nodes.now.items in
    let others = others_view c.args.path.now.hops.items in
    ap (λ ns. ns ++ others) (seen_pushed (λ n. node_view n.now) old c.push.new.self.items _ c.in_ok-push.ensures.items)
    ∙ append_assoc (patterns_view old) (node_view c.args.path.now.first ∷ []) others

pub returns-in_err-push-2 : goal.returns-in_err-push-2
returns-in_err-push-2 c = IfOk-from_err c.from_residual-in_err-push-2.result _ c.from_residual-in_err-push-2.ensures.0

pub returns : goal.returns
returns c =
    all_made c.deref-hop-items.result.now c.args.path.now.hops.items c.loop-hop.hop-index c.deref-hop-items.ensures.value c.loop-hop-test.false others_view (patterns_view c.loop-hop.nodes.items)
    (patterns_view c.args.nodes.now.items ++ nodes_of (path_view c.args.path.now)) refl c.loop-hop.invariant
