use Rattle.std.proofs.Common.{◌≡◌, ◌+◌, ◌*◌, ◌<◌, Ok, cond, drop, length, map, sym, ap, ◌∙◌, arith}
use Rattle.std.proofs.lemmas.List.{length-map}
use Rattle.std.proofs.lemmas.Result.{IfOk-from_err}
use Rattle.pg_expr.proofs.ExitLemmas.{fault_passed}
use Rattle.pg_project.proofs.ExitLemmas.{memory_passed}
use Rattle.pg_project.proofs.InTurn.{none_before}
use Rattle.pg_project.proofs.WideRows.{wide_fault, wide_in_place, wide_over, some_left, one_fewer}
use Rattle.pg_project.specs.Given.{trees_of, wide_rows_given}
use Rattle.pg_rows.proofs.Tabled.{more_rows}
use Rattle.pg_rows.specs.Left.{rows_left}
use Rattle.pg_rows.specs.Tables.{rows_of, table}
use Rattle.pg_value_core.specs.Given.{parameters_view}
use Rattle.pg_value_core.specs.View.{view}
use Rattle.pg_project.proofs.values.wide_rows.Goals as goal

pub loop-row-init : goal.loop-row-init
loop-row-init g c =
    let names = c.args.scope.now.names.now in
    let given = wide_rows_given (parameters_view c.args.scope.now.query.now.parameters.now) c.args.graph.now names (trees_of names c.args.ready.now.items) c.args.keeps in (
      ap given (sym c.into_left-left.ensures.rows) ∙ none_before (rows_of c.args.width 0 (map view c.in_ok-values.values.items)) (given (rows_left c.into_left-left.result)) (cc),
      c.into_left-left.ensures.width,
      (let none = ap length c.in_ok-values.ensures.items in let zero : 0 ≡ 0 * c.args.width = omega arith in none ∙ zero),
      (let all = ap length c.into_left-left.ensures.rows in omega (arith, all)),
    )

pub returns-in_err-push_values-clause-ok : goal.returns-in_err-push_values-clause-ok
returns-in_err-push_values-clause-ok g c = IfOk-from_err c.from_residual-in_err-push_values.result _ c.from_residual-in_err-push_values.ensures.0

pub returns-in_err-push_values-clause-width : goal.returns-in_err-push_values-clause-width
returns-in_err-push_values-clause-width g c = IfOk-from_err c.from_residual-in_err-push_values.result _ c.from_residual-in_err-push_values.ensures.0

pub returns-in_err-push_values-clause-err : goal.returns-in_err-push_values-clause-err
returns-in_err-push_values-clause-err g c =
    let ps = parameters_view c.args.scope.now.query.now.parameters.now in
    let names = c.args.scope.now.names.now in
    let es = trees_of names c.args.ready.now.items in
    let left = rows_left c.loop-row.left in
    fault_passed _ c.in_err-push_values.field-0.0 c.from_residual-in_err-push_values.result c.from_residual-in_err-push_values.ensures.1
    (λ other. wide_fault ps c.args.graph.now names es c.args.keeps (wide_rows_given ps c.args.graph.now names es c.args.keeps (table c.args.rows)) (rows_of c.args.width c.loop-row.at (map view c.loop-row.values.items))
    left (drop 1 left) (map view c.in-Some.row.now) c.in_err-push_values.field-0.0 c.in-Some.ensures.row (c.in_err-push_values.ensures.err other) c.loop-row.invariant.0)

pub pass-requires : goal.pass-requires
pass-requires g c = let left = rows_left c.loop-row.left in some_left left (drop 1 left) (map view c.in-Some.row.now) c.in-Some.ensures.row

pub loop-row-smaller : goal.loop-row-smaller
loop-row-smaller g c = let left = rows_left c.loop-row.left in one_fewer left (drop 1 left) (rows_left c.pass.new.left) (map view c.in-Some.row.now) c.in-Some.ensures.row c.in_ok-pass.ensures.rows

pub loop-row-preserved : goal.loop-row-preserved
loop-row-preserved g c =
    let ps = parameters_view c.args.scope.now.query.now.parameters.now in
    let names = c.args.scope.now.names.now in
    let es = trees_of names c.args.ready.now.items in
    let left = rows_left c.loop-row.left in
    let l = c.loop-row in
    let w = c.args.width in
    let long : length l.values.items ≡ l.at * w = l.invariant.2 in
    let kept = ap (λ k. cond c.args.keeps k 0) l.invariant.1 in
    let more : (l.at + 1) * w ≡ l.at * w + w = omega arith in
    let pushed = c.in_ok-push_values.ensures.len in
    let passed = c.in_ok-pass.ensures.len in
    let wide = c.requires in
    let longer : length c.pass.new.values.items ≡ (l.at + 1) * w = omega (arith, kept, more, pushed, passed, wide, long) in
    let fewer = ap length c.in_ok-pass.ensures.rows in
    let first = ap length c.in-Some.ensures.row in
    let all = l.invariant.3 in (
      wide_in_place ps c.args.graph.now names es c.args.keeps (wide_rows_given ps c.args.graph.now names es c.args.keeps (table c.args.rows)) w l.at (map view l.values.items) (map view c.push_values.new.values.items) (map view c.pass.new.values.items)
          left (drop 1 left) (rows_left c.pass.new.left) (map view c.in-Some.row.now) c.in-Some.ensures.row c.in_ok-push_values.ensures.ok l.invariant.0 c.in_ok-pass.ensures.values c.in_ok-pass.ensures.rows
          (length-map l.values.items view ∙ long) (length-map c.pass.new.values.items view ∙ longer),
      c.in_ok-pass.ensures.width ∙ l.invariant.1,
      longer,
      omega (arith, fewer, first, all),
    )

pub of_values-requires : goal.of_values-requires
of_values-requires g c = c.loop-row.invariant.2

pub returns-clause-ok : goal.returns-clause-ok
returns-clause-ok g c =
    let ps = parameters_view c.args.scope.now.query.now.parameters.now in
    let names = c.args.scope.now.names.now in
    let es = trees_of names c.args.ready.now.items in
    wide_over ps c.args.graph.now names es c.args.keeps (wide_rows_given ps c.args.graph.now names es c.args.keeps (table c.args.rows)) (rows_of c.args.width c.loop-row.at (map view c.loop-row.values.items)) (rows_left c.loop-row.left) c.in_default.ensures.none c.loop-row.invariant.0
    ∙ ap Ok (sym c.of_values.ensures.rows)

pub returns-clause-err : goal.returns-clause-err
returns-clause-err g c = tt
