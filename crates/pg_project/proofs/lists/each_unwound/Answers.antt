use Rattle.std.proofs.Common.{◌++◌, map, sym, ap, ◌∙◌, arith}
use Rattle.std.proofs.lemmas.List.{nil_from_length}
use Rattle.std.proofs.lemmas.Result.{IfOk-from_err}
use Rattle.std.specs.Vec.Iter.{into_iter_items, into_iter_len}
use Rattle.pg_project.proofs.UnwoundLemmas.{row_unwound, lists_over, rows_over, one_less}
use Rattle.pg_project.specs.Unwound.{lists_view, rows_unwound, with_column}
use Rattle.pg_rows.specs.Left.{rows_left}
use Rattle.pg_rows.specs.Tables.{table}
use Rattle.pg_value_core.specs.View.{view}
use Rattle.pg_project.proofs.lists.each_unwound.Goals as goal

pub loop-items-init : goal.loop-items-init
loop-items-init c = (
  (λ i. c.new-found.ensures.rows i ++ rows_unwound c.args.has_column (c.into_left-left.ensures.rows i) (lists_view (c.into_iter-items-iterator.ensures.into_iter_gives.0 i))),
  c.new-found.ensures.width,
  c.into_left-left.ensures.width,
)

pub returns-in_err-row-clause-rows : goal.returns-in_err-row-clause-rows
returns-in_err-row-clause-rows c = IfOk-from_err c.from_residual.result _ c.from_residual.ensures.0

pub returns-in_err-row-clause-width : goal.returns-in_err-row-clause-width
returns-in_err-row-clause-width c = IfOk-from_err c.from_residual.result _ c.from_residual.ensures.0

pub returns-in_default-clause-rows : goal.returns-in_default-clause-rows
returns-in_default-clause-rows c =
    let l = c.loop-items in
    rows_over c.args.has_column (table l.found) (rows_left l.left) (lists_view (into_iter_items l.items-iterator)) (rows_unwound c.args.has_column (table c.args.rows) (lists_view c.args.lists.items)) l.invariant.0
    (rw c.in_default.is at c.in_ok-row.ensures.none)

pub returns-in_default-clause-width : goal.returns-in_default-clause-width
returns-in_default-clause-width c = c.loop-items.invariant.1

pub push_items-requires : goal.push_items-requires
push_items-requires c =
    let long = rw c.in-Some-2.is at c.in_ok-row.ensures.len in
    c.loop-items.invariant.1 ∙ c.requires ∙ ap (with_column c.args.has_column) (sym (long ∙ c.loop-items.invariant.2))

pub loop-items-smaller : goal.loop-items-smaller
loop-items-smaller c = one_less (into_iter_len c.next.new.self) (into_iter_len c.loop-items.items-iterator) c.in-Some.ensures.steps.1

pub loop-items-preserved : goal.loop-items-preserved
loop-items-preserved c =
    let l = c.loop-items in (
      row_unwound c.args.has_column (table l.found) (rows_left l.left) (lists_view (into_iter_items l.items-iterator)) (rows_unwound c.args.has_column (table c.args.rows) (lists_view c.args.lists.items)) l.invariant.0
          (rows_left c.next_row.new.self) (lists_view (into_iter_items c.next.new.self)) (table c.push_items.new.found) (map view c.in-Some-2.row.items) (map view c.in-Some.items.items)
          (rw c.in-Some-2.is at c.in_ok-row.ensures.row) (ap lists_view c.in-Some.ensures.steps.0) c.in_ok-push_items.ensures.rows,
      c.in_ok-push_items.ensures.width ∙ l.invariant.1,
      c.in_ok-row.ensures.width ∙ l.invariant.2,
    )

pub returns-in_err-push_items-clause-rows : goal.returns-in_err-push_items-clause-rows
returns-in_err-push_items-clause-rows c = IfOk-from_err c.from_residual-in_err-push_items.result _ c.from_residual-in_err-push_items.ensures.0

pub returns-in_err-push_items-clause-width : goal.returns-in_err-push_items-clause-width
returns-in_err-push_items-clause-width c = IfOk-from_err c.from_residual-in_err-push_items.result _ c.from_residual-in_err-push_items.ensures.0

pub returns-clause-rows : goal.returns-clause-rows
returns-clause-rows c =
    let l = c.loop-items in
    lists_over c.args.has_column (table l.found) (rows_left l.left) (lists_view (into_iter_items l.items-iterator)) (rows_unwound c.args.has_column (table c.args.rows) (lists_view c.args.lists.items)) l.invariant.0
    (ap lists_view (nil_from_length (into_iter_items l.items-iterator) (let none = c.in-None.ensures.steps in omega (arith, none.0))))

pub returns-clause-width : goal.returns-clause-width
returns-clause-width c = c.loop-items.invariant.1
