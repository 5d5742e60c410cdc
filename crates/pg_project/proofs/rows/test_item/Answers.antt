use Rattle.std.proofs.Common.{◌≡◌, ◌≢◌, Result, Ok, Err, IfErr, OnOk, ap, ◌∙◌, sym}
use Rattle.std.proofs.lemmas.Result.{IfOk-from_err}
use Rattle.pg_expr.proofs.ExitLemmas.{fault_passed}
use Rattle.pg_project.specs.Kept.{item_tested}
use Rattle.pg_project.specs.ReadyItems.{item_view}
use Rattle.pg_expr.specs.Contexts.{given}
use Rattle.pg_meaning.specs.Answer.{◌>>=◌}
use Rattle.pg_meaning.specs.Projections.{test_alone}
use Rattle.pg_meaning.specs.declared.fault.Fault.{Fault}
use Rattle.pg_meaning.specs.declared.fault.Fault.TheVariants.{OutOfMemory}
use Rattle.pg_scope.specs.Calls.{summary_view}
use Rattle.pg_project.proofs.rows.test_item.Goals as goal

module _ (tested : Result (Unit {0}) Fault) where
  passed : (result : Result (Unit {0}) Fault) → tested ≡ result → OnOk result (tested ≡ Ok tt)
  passed (Ok x) h = h
  passed (Err f) h = tt

  failed : (result : Result (Unit {0}) Fault) → tested ≡ result → IfErr result (λ e. e ≢ OutOfMemory → tested ≡ Err e)
  failed (Ok x) h = tt
  failed (Err f) h = λ other. h

pub returns-in_err-evaluate_at-in-Key-clause-ok : goal.returns-in_err-evaluate_at-in-Key-clause-ok
returns-in_err-evaluate_at-in-Key-clause-ok g c = IfOk-from_err c.from_residual.result _ c.from_residual.ensures.0

pub returns-in_err-evaluate_at-in-Key-clause-err : goal.returns-in_err-evaluate_at-in-Key-clause-err
returns-in_err-evaluate_at-in-Key-clause-err g c =
    let context = c.args.context.now in
    let at = given context c.args.graph.now in
    let f = c.in_err-evaluate_at-in-Key.field-0.0 in
    fault_passed (item_tested at (item_view context.names.now c.args.item.now)) f c.from_residual.result c.from_residual.ensures.1
    (λ other. ap (λ i. item_tested at (item_view context.names.now i)) c.in-Key.is ∙ ap (λ a. a >>= λ v. Ok tt) (c.in_err-evaluate_at-in-Key.ensures.err other))

pub returns-in_ok-evaluate_at-in-Key-clause-ok : goal.returns-in_ok-evaluate_at-in-Key-clause-ok
returns-in_ok-evaluate_at-in-Key-clause-ok g c =
    let context = c.args.context.now in
    ap (λ i. item_tested (given context c.args.graph.now) (item_view context.names.now i)) c.in-Key.is ∙ ap (λ a. a >>= λ v. Ok tt) c.in_ok-evaluate_at-in-Key.ensures.ok

pub returns-in_ok-evaluate_at-in-Key-clause-err : goal.returns-in_ok-evaluate_at-in-Key-clause-err
returns-in_ok-evaluate_at-in-Key-clause-err g c = tt

pub returns-in_err-value-in-Aggregate-clause-ok : goal.returns-in_err-value-in-Aggregate-clause-ok
returns-in_err-value-in-Aggregate-clause-ok g c = IfOk-from_err c.from_residual-in_err-value-in-Aggregate.result _ c.from_residual-in_err-value-in-Aggregate.ensures.0

pub returns-in_err-value-in-Aggregate-clause-err : goal.returns-in_err-value-in-Aggregate-clause-err
returns-in_err-value-in-Aggregate-clause-err g c =
    let context = c.args.context.now in
    let at = given context c.args.graph.now in
    let f = c.in_err-value-in-Aggregate.field-0.0 in
    fault_passed (item_tested at (item_view context.names.now c.args.item.now)) f c.from_residual-in_err-value-in-Aggregate.result c.from_residual-in_err-value-in-Aggregate.ensures.1
    (λ other. ap (λ i. item_tested at (item_view context.names.now i)) c.in-Aggregate.is ∙ ap (λ a. a >>= test_alone (summary_view c.in-Aggregate.aggregate.summary)) (c.in_err-value-in-Aggregate.ensures.err other))

pub returns-in_ok-value-in-Aggregate : goal.returns-in_ok-value-in-Aggregate
returns-in_ok-value-in-Aggregate g c =
    let context = c.args.context.now in
    let at = given context c.args.graph.now in
    let tested = ap (λ i. item_tested at (item_view context.names.now i)) c.in-Aggregate.is ∙ ap (λ a. a >>= test_alone (summary_view c.in-Aggregate.aggregate.summary)) c.in_ok-value-in-Aggregate.ensures.ok ∙ sym c.test_alone.ensures in
    record {
      ok = passed (item_tested at (item_view context.names.now c.args.item.now)) c.test_alone.result tested;
      err = failed (item_tested at (item_view context.names.now c.args.item.now)) c.test_alone.result tested;
    }
