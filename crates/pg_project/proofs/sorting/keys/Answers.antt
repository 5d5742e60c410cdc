use Rattle.std.proofs.Common.{◌≡◌, ◌+◌, ◌∷◌, [], map, length, drop, Err, sym, ap, ◌∙◌, subst, ◌≤◌, ◌<◌}
use Rattle.std.proofs.lemmas.List.{length-append}
use Rattle.std.proofs.lemmas.Result.{IfOk-from_err}
use Rattle.pg_meaning.specs.declared.fault.Fault.{Fault}
use Rattle.pg_expr.proofs.ExitLemmas.{fault_passed}
use Rattle.pg_project.proofs.ExitLemmas.{memory_passed}
use Rattle.pg_project.proofs.InTurn.{after, one_more, one_fault, no_more, none_before, met}
use Rattle.pg_project.specs.Given.{all_keys_given, keys_given}
use Rattle.pg_project.specs.Sources.{sources_view}
use Rattle.pg_rows.specs.Tables.{table}
use Rattle.pg_value_core.specs.Given.{parameters_view}
use Rattle.pg_value_core.specs.View.{view}
use Rattle.pg_project.proofs.sorting.keys.Goals as goal

pub returns-in_err-push_keys-clause-err : goal.returns-in_err-push_keys-clause-err
returns-in_err-push_keys-clause-err g c =
    let l = c.loop-at in
    let f = keys_given (parameters_view c.args.scope.now.query.now.parameters.now) c.args.graph.now c.args.scope.now.names.now (sources_view c.args.scope.now.names.now c.args.sources.now.items) in
    let refused : (e : Fault) → f (map view c.row.result.now) ≡ Err e → all_keys_given (parameters_view c.args.scope.now.query.now.parameters.now) c.args.graph.now c.args.scope.now.names.now (sources_view c.args.scope.now.names.now c.args.sources.now.items) (table c.args.rows.now) ≡ Err e =
    λ e h. one_fault f (table c.args.rows.now) (table l.found) l.at (map view c.row.result.now) e l.invariant.0 c.row.ensures h in
    fault_passed _ c.in_err-push_keys.field-0.0 c.from_residual.result c.from_residual.ensures.1 (λ other. refused c.in_err-push_keys.field-0.0 (c.in_err-push_keys.ensures.err other))

pub loop-at-preserved : goal.loop-at-preserved
loop-at-preserved g c =
    let l = c.loop-at in
    let f = keys_given (parameters_view c.args.scope.now.query.now.parameters.now) c.args.graph.now c.args.scope.now.names.now (sources_view c.args.scope.now.names.now c.args.sources.now.items) in
    let found = map view c.push_keys.new.keys.items in (
      one_more f (table c.args.rows.now) (table l.found) l.at (map view c.row.result.now) found l.invariant.0 c.row.ensures c.in_ok-push_keys.ensures.ok
          ∙ ap (λ ks. after ks (all_keys_given (parameters_view c.args.scope.now.query.now.parameters.now) c.args.graph.now c.args.scope.now.names.now (sources_view c.args.scope.now.names.now c.args.sources.now.items) (drop (l.at + 1) (table c.args.rows.now)))) (sym c.in_ok-push_from.ensures.rows),
      ap length c.in_ok-push_from.ensures.rows ∙ length-append (table l.found) (found ∷ []) ∙ ap (λ n. n + 1) l.invariant.1,
      c.in_ok-push_from.ensures.width ∙ l.invariant.2,
      c.in_ok-push_from.ensures.emptied,
    )

pub returns-in_err-push_keys-clause-ok : goal.returns-in_err-push_keys-clause-ok
returns-in_err-push_keys-clause-ok g c = IfOk-from_err c.from_residual.result _ c.from_residual.ensures.0

pub returns-in_err-push_keys-clause-len : goal.returns-in_err-push_keys-clause-len
returns-in_err-push_keys-clause-len g c = IfOk-from_err c.from_residual.result _ c.from_residual.ensures.0

pub returns-in_err-push_keys-clause-width : goal.returns-in_err-push_keys-clause-width
returns-in_err-push_keys-clause-width g c = IfOk-from_err c.from_residual.result _ c.from_residual.ensures.0

pub returns-in_err-push_from-clause-width : goal.returns-in_err-push_from-clause-width
returns-in_err-push_from-clause-width g c = IfOk-from_err c.from_residual-in_err-push_from.result _ c.from_residual-in_err-push_from.ensures.0

pub returns-clause-width : goal.returns-clause-width
returns-clause-width g c = c.loop-at.invariant.2

pub returns-in_err-push_from-clause-ok : goal.returns-in_err-push_from-clause-ok
returns-in_err-push_from-clause-ok g c = IfOk-from_err c.from_residual-in_err-push_from.result _ c.from_residual-in_err-push_from.ensures.0

pub returns-in_err-push_from-clause-len : goal.returns-in_err-push_from-clause-len
returns-in_err-push_from-clause-len g c = IfOk-from_err c.from_residual-in_err-push_from.result _ c.from_residual-in_err-push_from.ensures.0

pub returns-in_err-push_from-clause-err : goal.returns-in_err-push_from-clause-err
returns-in_err-push_from-clause-err g c = memory_passed _ c.from_residual-in_err-push_from.result c.from_residual-in_err-push_from.ensures.1

pub returns-clause-err : goal.returns-clause-err
returns-clause-err g c = tt

pub loop-at-init : goal.loop-at-init
loop-at-init g c = (
  none_before (table c.new-found.result) (all_keys_given (parameters_view c.args.scope.now.query.now.parameters.now) c.args.graph.now c.args.scope.now.names.now (sources_view c.args.scope.now.names.now c.args.sources.now.items) (table c.args.rows.now)) c.new-found.ensures.rows,
  ap length c.new-found.ensures.rows,
  c.new-found.ensures.width ∙ c.len.ensures ∙ c.args.sources.now.ok.0,
  c.new-keys.ensures.items,
)

pub row-requires : goal.row-requires
row-requires g c = subst (λ n. c.loop-at.at < n) c.len-at-end.ensures c.loop-at-test.true

pub push_keys-requires : goal.push_keys-requires
push_keys-requires g c = c.loop-at.invariant.3

pub push_from-requires : goal.push_from-requires
push_from-requires g c = c.in_ok-push_keys.ensures.len ∙ sym c.loop-at.invariant.2

pub returns-clause-ok : goal.returns-clause-ok
returns-clause-ok g c = no_more (keys_given (parameters_view c.args.scope.now.query.now.parameters.now) c.args.graph.now c.args.scope.now.names.now (sources_view c.args.scope.now.names.now c.args.sources.now.items)) (table c.args.rows.now) (table c.loop-at.found) c.loop-at.at c.loop-at.invariant.0 (subst (λ n. n ≤ c.loop-at.at) c.len-at-end.ensures c.loop-at-test.false)

pub returns-clause-len : goal.returns-clause-len
returns-clause-len g c = c.loop-at.invariant.1 ∙ met c.loop-at.at c.len-at-end.result c.loop-at.auto.at-end c.loop-at-test.false ∙ c.len-at-end.ensures
