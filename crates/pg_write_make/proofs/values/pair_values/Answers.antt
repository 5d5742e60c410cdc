use Rattle.std.proofs.Common.{refl, ap}
use Rattle.std.proofs.lemmas.Result.{IfOk-from_err}
use Rattle.pg_expr.proofs.ExitLemmas.{fault_passed}
use Rattle.pg_meaning.specs.declared.fault.Fault.TheVariants.{OutOfMemory}
use Rattle.pg_store.specs.Stores.{pairs_of}
use Rattle.pg_write_make.proofs.TurnLemmas.{none_before, pair_kept, pair_refused, pairs_past}
use Rattle.pg_write_make.specs.Values.{pairs_given, pairs_wanted}
use Rattle.pg_write_make.proofs.values.pair_values.Goals as goal

pub loop-pair-preserved : goal.loop-pair-preserved
loop-pair-preserved g c =
    let ps = c.args.pairs.now.items in
    let scene = c.args.scene.now in
    pair_kept c.deref-pair-items.result.now ps c.loop-pair.pair-index c.pair-item.result c.deref-pair-items.ensures.value c.pair-item.is c.loop-pair-test.true
    scene c.args.graph.now c.args.row.now c.loop-pair.values.items (pairs_given scene c.args.graph.now c.args.row.now (pairs_wanted ps)) c.loop-pair.invariant
    c.push.new.self.items c.as_str.result c.in_ok-value.value c.in_ok-value.ensures.ok c.as_str.ensures.value c.in_ok-push.ensures.items

pub loop-pair-init : goal.loop-pair-init
loop-pair-init g c = none_before (pairs_of c.in_ok-values.values.items) (pairs_given c.args.scene.now c.args.graph.now c.args.row.now (pairs_wanted c.args.pairs.now.items)) (ap pairs_of c.in_ok-values.ensures.items)

pub returns-in_err-values-clause-ok : goal.returns-in_err-values-clause-ok
returns-in_err-values-clause-ok g c = IfOk-from_err c.from_residual.result _ c.from_residual.ensures.0

pub returns-in_err-values-clause-err : goal.returns-in_err-values-clause-err
returns-in_err-values-clause-err g c = fault_passed (pairs_given c.args.scene.now c.args.graph.now c.args.row.now (pairs_wanted c.args.pairs.now.items)) OutOfMemory c.from_residual.result c.from_residual.ensures.1 (λ other. absurd (other refl))

pub returns-in_err-value-clause-ok : goal.returns-in_err-value-clause-ok
returns-in_err-value-clause-ok g c = IfOk-from_err c.from_residual-in_err-value.result _ c.from_residual-in_err-value.ensures.0

pub returns-in_err-value-clause-err : goal.returns-in_err-value-clause-err
returns-in_err-value-clause-err g c =
    let ps = c.args.pairs.now.items in
    let scene = c.args.scene.now in
    let whole = pairs_given scene c.args.graph.now c.args.row.now (pairs_wanted ps) in
    let e = c.in_err-value.field-0.0 in
    fault_passed whole e c.from_residual-in_err-value.result c.from_residual-in_err-value.ensures.1
    (λ other. pair_refused c.deref-pair-items.result.now ps c.loop-pair.pair-index c.pair-item.result c.deref-pair-items.ensures.value c.pair-item.is c.loop-pair-test.true
    scene c.args.graph.now c.args.row.now c.loop-pair.values.items whole c.loop-pair.invariant e (c.in_err-value.ensures.err other))

pub returns-in_err-push-clause-ok : goal.returns-in_err-push-clause-ok
returns-in_err-push-clause-ok g c = IfOk-from_err c.from_residual-in_err-push.result _ c.from_residual-in_err-push.ensures.0

pub returns-in_err-push-clause-err : goal.returns-in_err-push-clause-err
returns-in_err-push-clause-err g c = fault_passed (pairs_given c.args.scene.now c.args.graph.now c.args.row.now (pairs_wanted c.args.pairs.now.items)) OutOfMemory c.from_residual-in_err-push.result c.from_residual-in_err-push.ensures.1 (λ other. absurd (other refl))

pub returns-clause-ok : goal.returns-clause-ok
returns-clause-ok g c =
    pairs_past c.deref-pair-items.result.now c.args.pairs.now.items c.loop-pair.pair-index c.deref-pair-items.ensures.value c.loop-pair-test.false c.args.scene.now c.args.graph.now c.args.row.now (pairs_of c.loop-pair.values.items)
    (pairs_given c.args.scene.now c.args.graph.now c.args.row.now (pairs_wanted c.args.pairs.now.items)) c.loop-pair.invariant
