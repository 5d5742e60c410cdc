use Rattle.std.proofs.Common.{◌<◌, get_or, length, refl, ◌∙◌, arith}
use Rattle.std.proofs.lemmas.List.{get_or_default, length-set}
use Rattle.pg_project.proofs.Turns.{next_taken, fault_taken, all_taken, at_either, nothing_before}
use Rattle.pg_expr.specs.Contexts.{given}
use Rattle.std.proofs.lemmas.Result.{IfOk-from_err}
use Rattle.pg_expr.proofs.ExitLemmas.{fault_passed}
use Rattle.pg_project.specs.Kept.{all_taken_in}
use Rattle.pg_project.specs.ReadyItems.{aggregate_view, aggregates_view}
use Rattle.pg_project.specs.Views.{taken_view, takens_view}
use Rattle.pg_project.proofs.taking.take_in_all.Goals as goal

pub loop-at-preserved : goal.loop-at-preserved
loop-at-preserved g c =
    let l = c.loop-at in
    let in_aggregates : l.at < length c.args.aggregates.now.items = omega (arith, c.loop-at-test.true, c.min-count.ensures, c.len.ensures) in
    let in_taken : l.at < length l.taken = omega (arith, c.loop-at-test.true, c.min-count.ensures, c.len.ensures, l.invariant.1) in
    let before = get_or l.taken l.at c.index-taken-at.result in (
      l.invariant.0
          ∙ next_taken (given c.args.context.now c.args.graph.now) (aggregate_view c.args.context.now.names.now) taken_view c.args.aggregates.now.items l.taken l.at c.index.result.now before c.take_in.new.taken
          in_aggregates in_taken c.index.ensures (get_or_default l.taken l.at c.index-taken-at.result before in_taken) c.in_ok-take_in.ensures.ok,
      length-set l.taken l.at c.take_in.new.taken ∙ l.invariant.1,
    )

pub returns-clause-ok : goal.returns-clause-ok
returns-clause-ok g c =
    let l = c.loop-at in
    l.invariant.0
    ∙ all_taken (given c.args.context.now c.args.graph.now) (aggregate_view c.args.context.now.names.now) taken_view c.args.aggregates.now.items l.taken l.at
    (at_either (length c.args.aggregates.now.items) (length l.taken) l.at (omega (arith, c.loop-at-test.false, c.min-count.ensures, c.len.ensures, l.invariant.1)))

pub loop-at-init : goal.loop-at-init
loop-at-init g c =
    let context = c.args.context.now in (
      nothing_before (all_taken_in (given context c.args.graph.now) (aggregates_view context.names.now c.args.aggregates.now.items) (takens_view c.args.taken.now)),
      refl,
    )

pub returns-in_err-take_in-clause-ok : goal.returns-in_err-take_in-clause-ok
returns-in_err-take_in-clause-ok g c = IfOk-from_err c.from_residual.result _ c.from_residual.ensures.0

pub returns-in_err-take_in-clause-err : goal.returns-in_err-take_in-clause-err
returns-in_err-take_in-clause-err g c =
    let l = c.loop-at in
    let context = c.args.context.now in
    let f = c.in_err-take_in.field-0.0 in
    let before = get_or l.taken l.at c.index-taken-at.result in
    let in_aggregates : l.at < length c.args.aggregates.now.items = omega (arith, c.loop-at-test.true, c.min-count.ensures, c.len.ensures) in
    let in_taken : l.at < length l.taken = omega (arith, c.loop-at-test.true, c.min-count.ensures, c.len.ensures, l.invariant.1) in
    fault_passed _ f c.from_residual.result c.from_residual.ensures.1
    (λ other. l.invariant.0
    ∙ fault_taken (given context c.args.graph.now) (aggregate_view context.names.now) taken_view c.args.aggregates.now.items l.taken l.at c.index.result.now before f
    in_aggregates in_taken c.index.ensures (get_or_default l.taken l.at c.index-taken-at.result before in_taken) (c.in_err-take_in.ensures.err other))

pub returns-clause-err : goal.returns-clause-err
returns-clause-err g c = tt
