use Rattle.std.proofs.Common.{◌+◌, ◌∷◌, [], Bor, length, ap, ◌∙◌}
use Rattle.std.proofs.lemmas.Result.{IfOk-from_err, IfOk-at_ok}
use Rattle.std.proofs.lemmas.List.{length-append, map-append}
use Rattle.pg_expr.specs.Prepared.{tree_of}
use Rattle.pg_project.specs.Items.{expressions_view}
use Rattle.pg_project.proofs.MadeLemmas.{all_made, one_made}
use Rattle.pg_project.proofs.TurnLemmas.{all_long}
use Rattle.pg_project.specs.Given.{trees_of}
use Rattle.pg_syntax_tree.specs.View.{expression_view}
use Rattle.pg_syntax_tree.specs.declared.expression.Expression.{Expression}
use Rattle.pg_project.proofs.values.prepare_each.Goals as goal

pub loop-expression-preserved : goal.loop-expression-preserved
loop-expression-preserved c =
    let l = c.loop-expression in
    let names = c.args.names.now in
    let ready = l.ready.items in
    let one = c.in_ok-push_made.ensures.0 in (
      one_made expressions_view (map-append (λ (e : Bor Expression). expression_view e.now)) (trees_of names ready) c.deref-expression-items.result.now c.args.expressions.now.items c.deref-expression-items.ensures.value l.expression-index l.invariant.0
          c.expression-item.result c.loop-expression-test.true c.expression-item.is (trees_of names c.push_made.new.list.items) (tree_of names one ∷ []) (ap (trees_of names) c.in_ok-push_made.ensures.2 ∙ map-append (tree_of names) ready (one ∷ [])) (λ j. IfOk-at_ok _ c.in_ok-push_made.ensures.1 c.prepare.ensures j ∷ []),
      ap length c.in_ok-push_made.ensures.2 ∙ length-append ready (one ∷ []) ∙ ap (λ n. n + 1) l.invariant.1,
    )

pub returns-clause-trees : goal.returns-clause-trees
returns-clause-trees c =
    let l = c.loop-expression in
    all_made expressions_view (map-append (λ (e : Bor Expression). expression_view e.now)) (trees_of c.args.names.now l.ready.items) c.deref-expression-items.result.now c.args.expressions.now.items c.deref-expression-items.ensures.value l.expression-index l.invariant.0 c.loop-expression-test.false

pub returns-clause-len : goal.returns-clause-len
returns-clause-len c = all_long c.deref-expression-items.result.now c.args.expressions.now.items (length c.loop-expression.ready.items) c.loop-expression.expression-index c.deref-expression-items.ensures.value c.loop-expression.invariant.1 c.loop-expression.auto.expression-index-end c.loop-expression-test.false

pub returns-in_err-push_made-clause-trees : goal.returns-in_err-push_made-clause-trees
returns-in_err-push_made-clause-trees c = IfOk-from_err c.from_residual.result _ c.from_residual.ensures.0

pub returns-in_err-push_made-clause-len : goal.returns-in_err-push_made-clause-len
returns-in_err-push_made-clause-len c = IfOk-from_err c.from_residual.result _ c.from_residual.ensures.0
