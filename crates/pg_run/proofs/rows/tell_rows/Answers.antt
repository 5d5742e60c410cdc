use Rattle.std.proofs.Common.{rules, ◌≡◌, ◌+◌, map, drop, Err, arith}
use Rattle.pg_meaning.specs.Answer.{each_answer}
use Rattle.pg_meaning.specs.declared.fault.Fault.{Fault}
use Rattle.pg_project.proofs.InTurn.{drop_here, drop_none}
use Rattle.pg_project.specs.Cuts.{cut_view}
use Rattle.pg_project.specs.Given.{trees_of, values_given}
use Rattle.pg_run.proofs.Returns.{no_row, one_row, row_fault, all_rows}
use Rattle.pg_rows.specs.Tables.{table}
use Rattle.pg_value_core.specs.Given.{parameters_view}
use Rattle.pg_value_core.specs.View.{view}
use Rattle.pg_run.proofs.rows.tell_rows.Goals as goal

pub loop-at-init : goal.loop-at-init
loop-at-init g c =
    no_row c.args.graph.now c.args.telling.now (cut_view c.args.cut) (values_given (parameters_view c.args.items.now.query.now.parameters.now) c.args.graph.now c.args.items.now.names.now (trees_of c.args.items.now.names.now c.args.items.now.ready.now)) (table c.args.rows.now)

pub loop-at-preserved : goal.loop-at-preserved
loop-at-preserved g c =
    let graph = c.args.graph.now in
    let f = values_given (parameters_view c.args.items.now.query.now.parameters.now) graph c.args.items.now.names.now (trees_of c.args.items.now.names.now c.args.items.now.ready.now) in
    let rows = table c.args.rows.now in
    let row = map view c.row.result.now in
    one_row graph _ (cut_view c.args.cut) f rows (drop c.loop-at.at rows) (drop (c.loop-at.at + 1) rows) c.loop-at.at _ row c.loop-at.invariant (drop_here rows c.loop-at.at row c.row.ensures)
    c.lets_in-is_in.result _ c.lets_in-is_in.ensures c.in_ok-tell_row.ensures.ok

pub returns-in_err-tell_row-clause-err : goal.returns-in_err-tell_row-clause-err
returns-in_err-tell_row-clause-err g c =
    let graph = c.args.graph.now in
    let f = values_given (parameters_view c.args.items.now.query.now.parameters.now) graph c.args.items.now.names.now (trees_of c.args.items.now.names.now c.args.items.now.ready.now) in
    let rows = table c.args.rows.now in
    let row = map view c.row.result.now in
    let refused : (e : Fault) → f row ≡ Err e → each_answer f rows ≡ Err e =
    row_fault graph _ (cut_view c.args.cut) f rows (drop c.loop-at.at rows) (drop (c.loop-at.at + 1) rows) _ _ row c.loop-at.invariant (drop_here rows c.loop-at.at row c.row.ensures) in
    search (rules, refused)

pub returns-clause-ok : goal.returns-clause-ok
returns-clause-ok g c =
    let graph = c.args.graph.now in
    let f = values_given (parameters_view c.args.items.now.query.now.parameters.now) graph c.args.items.now.names.now (trees_of c.args.items.now.names.now c.args.items.now.ready.now) in
    let rows = table c.args.rows.now in
    let so_far = c.loop-at.invariant in
    record {
      rows = so_far.rows;
      are = all_rows graph _ (cut_view c.args.cut) f rows (drop c.loop-at.at rows) _ _ so_far (drop_none rows c.loop-at.at (omega (arith, c.len-at-end.ensures, c.loop-at-test.false)));
      telling = so_far.telling;
    }
