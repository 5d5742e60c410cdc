use Rattle.std.proofs.Common.{◌+◌, length, map, refl, ap, ◌∙◌, arith}
use Rattle.std.proofs.lemmas.Result.{IfOk-from_err}
use Rattle.pg_expr.specs.Prepared.{tree_of}
use Rattle.pg_expr.proofs.ExitLemmas.{fault_passed}
use Rattle.pg_project.proofs.InTurn.{after}
use Rattle.pg_project.proofs.WideRows.{failed_behind}
use Rattle.pg_project.proofs.TurnLemmas.{turn_done, turn_failed, turns_over, one_longer, all_long}
use Rattle.pg_project.specs.Given.{trees_of, value_given, values_given}
use Rattle.pg_value_core.specs.Given.{parameters_view}
use Rattle.pg_value_core.specs.View.{view}
use Rattle.pg_project.proofs.values.push_values.Goals as goal

pub returns-in_err-push_at-clause-ok : goal.returns-in_err-push_at-clause-ok
returns-in_err-push_at-clause-ok g c = IfOk-from_err c.from_residual.result _ c.from_residual.ensures.0

pub returns-in_err-push_at-clause-len : goal.returns-in_err-push_at-clause-len
returns-in_err-push_at-clause-len g c = IfOk-from_err c.from_residual.result _ c.from_residual.ensures.0

pub returns-in_err-push_at-clause-err : goal.returns-in_err-push_at-clause-err
returns-in_err-push_at-clause-err g c =
    let ps = parameters_view c.args.context.now.parameters.now in
    let names = c.args.context.now.names.now in
    let row = map view c.args.context.now.row.now in
    let l = c.loop-one in
    fault_passed _ c.in_err-push_at.field-0.0 c.from_residual.result c.from_residual.ensures.1
    (λ other. failed_behind (map view c.args.values.now.items) c.in_err-push_at.field-0.0 (values_given ps c.args.graph.now names (trees_of names c.args.ready.now.items) row)
    (turn_failed (tree_of names) (value_given ps c.args.graph.now names row) view c.deref-one-items.result.now c.args.ready.now.items c.deref-one-items.ensures.value l.one-index l.values.items
    (after (map view c.args.values.now.items) (values_given ps c.args.graph.now names (trees_of names c.args.ready.now.items) row)) l.invariant.0 c.one-item.result c.loop-one-test.true c.one-item.is c.in_err-push_at.field-0.0 (c.in_err-push_at.ensures.err other)))

pub loop-one-preserved : goal.loop-one-preserved
loop-one-preserved g c =
    let ps = parameters_view c.args.context.now.parameters.now in
    let names = c.args.context.now.names.now in
    let row = map view c.args.context.now.row.now in
    let l = c.loop-one in
    let pushed = c.in_ok-push_at.ensures.ok in (
      turn_done (tree_of names) (value_given ps c.args.graph.now names row) view c.deref-one-items.result.now c.args.ready.now.items c.deref-one-items.ensures.value l.one-index l.values.items
          (after (map view c.args.values.now.items) (values_given ps c.args.graph.now names (trees_of names c.args.ready.now.items) row)) l.invariant.0 c.one-item.result c.loop-one-test.true c.one-item.is
          pushed.0 c.push_at.new.values.items pushed.1 pushed.2,
      (let longer = one_longer l.values.items c.push_at.new.values.items pushed.0 _ pushed.2 l.invariant.1 in omega (arith, longer)),
    )

pub returns-clause-ok : goal.returns-clause-ok
returns-clause-ok g c =
    let ps = parameters_view c.args.context.now.parameters.now in
    let names = c.args.context.now.names.now in
    let row = map view c.args.context.now.row.now in
    let l = c.loop-one in
    turns_over (tree_of names) (value_given ps c.args.graph.now names row) view c.deref-one-items.result.now c.args.ready.now.items c.deref-one-items.ensures.value l.one-index l.values.items
    (after (map view c.args.values.now.items) (values_given ps c.args.graph.now names (trees_of names c.args.ready.now.items) row)) l.invariant.0 c.loop-one-test.false

pub returns-clause-len : goal.returns-clause-len
returns-clause-len g c =
    c.loop-one.invariant.1
    ∙ ap (λ n. length c.args.values.now.items + n) (all_long c.deref-one-items.result.now c.args.ready.now.items c.loop-one.one-index c.loop-one.one-index c.deref-one-items.ensures.value refl c.loop-one.auto.one-index-end c.loop-one-test.false)

pub returns-clause-err : goal.returns-clause-err
returns-clause-err g c = tt
