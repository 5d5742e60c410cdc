use Rattle.std.proofs.Common.{map}
use Rattle.std.proofs.lemmas.Result.{IfOk-from_err}
use Rattle.pg_expr.proofs.ExitLemmas.{fault_passed}
use Rattle.pg_project.proofs.ExitLemmas.{memory_passed}
use Rattle.pg_project.proofs.TurnLemmas.{turn_done, turn_failed, turns_over, one_longer, all_long}
use Rattle.pg_project.specs.Given.{key_given, keys_given}
use Rattle.pg_project.specs.Sources.{source_view, sources_view}
use Rattle.pg_value_core.specs.Given.{parameters_view}
use Rattle.pg_value_core.specs.View.{view}
use Rattle.pg_project.proofs.sorting.push_keys.Goals as goal

pub returns-in_err-key-clause-ok : goal.returns-in_err-key-clause-ok
returns-in_err-key-clause-ok g c = IfOk-from_err c.from_residual.result _ c.from_residual.ensures.0

pub returns-in_err-key-clause-len : goal.returns-in_err-key-clause-len
returns-in_err-key-clause-len g c = IfOk-from_err c.from_residual.result _ c.from_residual.ensures.0

pub returns-in_err-key-clause-err : goal.returns-in_err-key-clause-err
returns-in_err-key-clause-err g c =
    let ps = parameters_view c.args.context.now.parameters.now in
    let names = c.args.context.now.names.now in
    let row = map view c.args.context.now.row.now in
    let l = c.loop-source in
    fault_passed _ c.in_err-key.field-0.0 c.from_residual.result c.from_residual.ensures.1
    (λ other. turn_failed (source_view names) (key_given ps c.args.graph.now names row) view c.deref-source-items.result.now c.args.sources.now.items c.deref-source-items.ensures.value l.source-index l.keys.items
    (keys_given ps c.args.graph.now names (sources_view names c.args.sources.now.items) row) l.invariant.0 c.source-item.result c.loop-source-test.true c.source-item.is c.in_err-key.field-0.0 (c.in_err-key.ensures.err other))

pub returns-in_err-push-clause-ok : goal.returns-in_err-push-clause-ok
returns-in_err-push-clause-ok g c = IfOk-from_err c.from_residual-in_err-push.result _ c.from_residual-in_err-push.ensures.0

pub returns-in_err-push-clause-len : goal.returns-in_err-push-clause-len
returns-in_err-push-clause-len g c = IfOk-from_err c.from_residual-in_err-push.result _ c.from_residual-in_err-push.ensures.0

pub returns-in_err-push-clause-err : goal.returns-in_err-push-clause-err
returns-in_err-push-clause-err g c = memory_passed _ c.from_residual-in_err-push.result c.from_residual-in_err-push.ensures.1

pub loop-source-preserved : goal.loop-source-preserved
loop-source-preserved g c =
    let ps = parameters_view c.args.context.now.parameters.now in
    let names = c.args.context.now.names.now in
    let row = map view c.args.context.now.row.now in
    let l = c.loop-source in (
      turn_done (source_view names) (key_given ps c.args.graph.now names row) view c.deref-source-items.result.now c.args.sources.now.items c.deref-source-items.ensures.value l.source-index l.keys.items
          (keys_given ps c.args.graph.now names (sources_view names c.args.sources.now.items) row) l.invariant.0 c.source-item.result c.loop-source-test.true c.source-item.is
          c.in_ok-key.field-0 c.push.new.self.items c.in_ok-key.ensures.ok c.in_ok-push.ensures.items,
      one_longer l.keys.items c.push.new.self.items c.in_ok-key.field-0 l.source-index c.in_ok-push.ensures.items l.invariant.1,
    )

pub returns-clause-ok : goal.returns-clause-ok
returns-clause-ok g c =
    let ps = parameters_view c.args.context.now.parameters.now in
    let names = c.args.context.now.names.now in
    let row = map view c.args.context.now.row.now in
    let l = c.loop-source in
    turns_over (source_view names) (key_given ps c.args.graph.now names row) view c.deref-source-items.result.now c.args.sources.now.items c.deref-source-items.ensures.value l.source-index l.keys.items
    (keys_given ps c.args.graph.now names (sources_view names c.args.sources.now.items) row) l.invariant.0 c.loop-source-test.false

pub returns-clause-len : goal.returns-clause-len
returns-clause-len g c = all_long c.deref-source-items.result.now c.args.sources.now.items _ c.loop-source.source-index c.deref-source-items.ensures.value c.loop-source.invariant.1 c.loop-source.auto.source-index-end c.loop-source-test.false

pub returns-clause-err : goal.returns-clause-err
returns-clause-err g c = tt
