use Rattle.std.proofs.Common.{◌≡◌, ◌+◌, ◌∷◌, [], map, length, drop, Err, ap, ◌∙◌, subst, ◌≤◌, ◌<◌}
use Rattle.std.proofs.lemmas.List.{length-append}
use Rattle.std.proofs.lemmas.Result.{IfOk-from_err}
use Rattle.pg_expr.specs.Prepared.{tree_of}
use Rattle.pg_meaning.specs.declared.fault.Fault.{Fault}
use Rattle.pg_expr.proofs.ExitLemmas.{fault_passed}
use Rattle.pg_project.proofs.ExitLemmas.{memory_passed}
use Rattle.pg_project.proofs.InTurn.{after, one_more, one_fault, none_before, no_more, met}
use Rattle.pg_project.proofs.Unwinding.{lists_more}
use Rattle.pg_project.specs.Unwound.{list_given, lists_given, lists_view}
use Rattle.pg_rows.specs.Tables.{table}
use Rattle.pg_value_core.specs.Given.{parameters_view}
use Rattle.pg_value_core.specs.View.{view}
use Rattle.pg_project.proofs.lists.lists_at.Goals as goal

pub returns-in_err-list_at-clause-err : goal.returns-in_err-list_at-clause-err
returns-in_err-list_at-clause-err g c =
    let l = c.loop-at in
    let f = list_given (parameters_view c.args.scope.now.query.now.parameters.now) c.args.graph.now (tree_of c.args.scope.now.names.now c.args.prepared.now) c.args.scope.now.names.now in
    let refused : (e : Fault) → f (map view c.row.result.now) ≡ Err e → lists_given (parameters_view c.args.scope.now.query.now.parameters.now) c.args.graph.now (tree_of c.args.scope.now.names.now c.args.prepared.now) c.args.scope.now.names.now (table c.args.rows.now) ≡ Err e =
    λ e h. one_fault f (table c.args.rows.now) (lists_view l.lists.items) l.at (map view c.row.result.now) e l.invariant.0 c.row.ensures h in
    fault_passed _ c.in_err-list_at.field-0.0 c.from_residual.result c.from_residual.ensures.1 (λ other. refused c.in_err-list_at.field-0.0 (c.in_err-list_at.ensures.err other))

pub loop-at-preserved : goal.loop-at-preserved
loop-at-preserved g c =
    let l = c.loop-at in
    let f = list_given (parameters_view c.args.scope.now.query.now.parameters.now) c.args.graph.now (tree_of c.args.scope.now.names.now c.args.prepared.now) c.args.scope.now.names.now in
    let list = c.in_ok-list_at.field-0 in (
      one_more f (table c.args.rows.now) (lists_view l.lists.items) l.at (map view c.row.result.now) (map view list.items) l.invariant.0 c.row.ensures c.in_ok-list_at.ensures.ok
          ∙ ap (λ ls. after ls (lists_given (parameters_view c.args.scope.now.query.now.parameters.now) c.args.graph.now (tree_of c.args.scope.now.names.now c.args.prepared.now) c.args.scope.now.names.now (drop (l.at + 1) (table c.args.rows.now))))
          (lists_more l.lists.items list c.push.new.self.items c.in_ok-push.ensures.items),
      ap length c.in_ok-push.ensures.items ∙ length-append l.lists.items (list ∷ []) ∙ ap (λ n. n + 1) l.invariant.1,
    )

pub returns-in_err-list_at-clause-ok : goal.returns-in_err-list_at-clause-ok
returns-in_err-list_at-clause-ok g c = IfOk-from_err c.from_residual.result _ c.from_residual.ensures.0

pub returns-in_err-list_at-clause-len : goal.returns-in_err-list_at-clause-len
returns-in_err-list_at-clause-len g c = IfOk-from_err c.from_residual.result _ c.from_residual.ensures.0

pub returns-in_err-push-clause-ok : goal.returns-in_err-push-clause-ok
returns-in_err-push-clause-ok g c = IfOk-from_err c.from_residual-in_err-push.result _ c.from_residual-in_err-push.ensures.0

pub returns-in_err-push-clause-len : goal.returns-in_err-push-clause-len
returns-in_err-push-clause-len g c = IfOk-from_err c.from_residual-in_err-push.result _ c.from_residual-in_err-push.ensures.0

pub returns-in_err-push-clause-err : goal.returns-in_err-push-clause-err
returns-in_err-push-clause-err g c = memory_passed _ c.from_residual-in_err-push.result c.from_residual-in_err-push.ensures.1

pub loop-at-init : goal.loop-at-init
loop-at-init g c =
    let made = c.new-lists.result.items in (
      none_before (lists_view made) (lists_given (parameters_view c.args.scope.now.query.now.parameters.now) c.args.graph.now (tree_of c.args.scope.now.names.now c.args.prepared.now) c.args.scope.now.names.now (table c.args.rows.now)) (ap lists_view c.new-lists.ensures.items),
      ap length c.new-lists.ensures.items,
    )

pub returns-clause-err : goal.returns-clause-err
returns-clause-err g c = tt

pub row-requires : goal.row-requires
row-requires g c = subst (λ n. c.loop-at.at < n) c.len-at-end.ensures c.loop-at-test.true

pub returns-clause-ok : goal.returns-clause-ok
returns-clause-ok g c = no_more (list_given (parameters_view c.args.scope.now.query.now.parameters.now) c.args.graph.now (tree_of c.args.scope.now.names.now c.args.prepared.now) c.args.scope.now.names.now) (table c.args.rows.now) (lists_view c.loop-at.lists.items) c.loop-at.at c.loop-at.invariant.0 (subst (λ n. n ≤ c.loop-at.at) c.len-at-end.ensures c.loop-at-test.false)

pub returns-clause-len : goal.returns-clause-len
returns-clause-len g c = c.loop-at.invariant.1 ∙ met c.loop-at.at c.len-at-end.result c.loop-at.auto.at-end c.loop-at-test.false ∙ c.len-at-end.ensures
