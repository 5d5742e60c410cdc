use Rattle.std.proofs.Common.{◌≡◌, ◌<◌, length, map, Ok, Err, sym, ap, subst, ◌∙◌, arith, refl}
use Rattle.std.specs.Prelude.{IfSome}
use Rattle.std.proofs.lemmas.Bool.Decides.{nat_tests}
use Rattle.std.proofs.lemmas.Result.{IfOk-from_err}
use Rattle.pg_meaning.specs.declared.fault.Fault.{Fault}
use Rattle.pg_expr.proofs.ExitLemmas.{fault_passed}
use Rattle.pg_project.proofs.ExitLemmas.{memory_passed}
use Rattle.pg_project.proofs.SortColumns.{all_read}
use Rattle.pg_project.proofs.SortPlaces.{ordered_fails, ordered_done, ordered_unsorted}
use Rattle.pg_project.proofs.Wide.{table_wide}
use Rattle.pg_meaning.specs.Answer.{◌>>=◌}
use Rattle.pg_project.specs.Cuts.{cut_view}
use Rattle.pg_project.specs.Items.{expressions_view}
use Rattle.pg_project.specs.Given.{all_keys_given, cut_of, ordered_given}
use Rattle.pg_project.specs.Sources.{ReadColumns, sources_view}
use Rattle.pg_rows.specs.Sorts.{directions, directions_of, picked, sorted_places}
use Rattle.pg_rows.specs.Tables.{rows_at_places, table}
use Rattle.pg_syntax_tree.specs.View.{sort_item_view}
use Rattle.pg_value_core.specs.Given.{parameters_view}
use Rattle.pg_project.proofs.sorting.ordered_rows.Goals as goal

pub returns-in_err-keys-clause-err : goal.returns-in_err-keys-clause-err
returns-in_err-keys-clause-err g c =
    let some : 0 < length c.args.order.now.items = grind (arith, nat_tests, c.if-is_empty.ensures) in
    let refused : (e : Fault) → all_keys_given (parameters_view c.args.scope.now.query.now.parameters.now) c.args.graph.now c.args.scope.now.names.now (sources_view c.args.scope.now.names.now c.in_ok-sources.sources.items) (table c.args.rows) ≡ Err e
    → ordered_given (parameters_view c.args.scope.now.query.now.parameters.now) c.args.graph.now c.args.scope.now.names.now (expressions_view c.args.items.now.items) (map sort_item_view c.args.order.now.items) (table c.args.rows) ≡ Err e =
    λ e h. ordered_fails (parameters_view c.args.scope.now.query.now.parameters.now) c.args.graph.now c.args.scope.now.names.now (expressions_view c.args.items.now.items) c.args.order.now.items (table c.args.rows) e some
    (ap (λ ks. all_keys_given (parameters_view c.args.scope.now.query.now.parameters.now) c.args.graph.now c.args.scope.now.names.now ks (table c.args.rows)) (sym c.in_ok-sources.ensures.sources) ∙ h) in
    fault_passed _ c.in_err-keys.field-0.0 c.from_residual-in_err-keys.result c.from_residual-in_err-keys.ensures.1 (λ other. refused c.in_err-keys.field-0.0 (c.in_err-keys.ensures.err other))

pub returns-in_err-sources-clause-ok : goal.returns-in_err-sources-clause-ok
returns-in_err-sources-clause-ok g c = IfOk-from_err c.from_residual.result _ c.from_residual.ensures.0

pub returns-in_err-sources-clause-width : goal.returns-in_err-sources-clause-width
returns-in_err-sources-clause-width g c = IfOk-from_err c.from_residual.result _ c.from_residual.ensures.0

pub returns-in_err-sources-clause-err : goal.returns-in_err-sources-clause-err
returns-in_err-sources-clause-err g c = memory_passed _ c.from_residual.result c.from_residual.ensures.1

pub returns-in_err-columns-clause-ok : goal.returns-in_err-columns-clause-ok
returns-in_err-columns-clause-ok g c = IfOk-from_err c.from_residual-in_err-columns.result _ c.from_residual-in_err-columns.ensures.0

pub returns-in_err-columns-clause-width : goal.returns-in_err-columns-clause-width
returns-in_err-columns-clause-width g c = IfOk-from_err c.from_residual-in_err-columns.result _ c.from_residual-in_err-columns.ensures.0

pub returns-in_err-columns-clause-err : goal.returns-in_err-columns-clause-err
returns-in_err-columns-clause-err g c = memory_passed _ c.from_residual-in_err-columns.result c.from_residual-in_err-columns.ensures.1

pub returns-in_err-sorted_rows-clause-ok : goal.returns-in_err-sorted_rows-clause-ok
returns-in_err-sorted_rows-clause-ok g c = IfOk-from_err c.from_residual-in_err-sorted_rows.result _ c.from_residual-in_err-sorted_rows.ensures.0

pub returns-in_err-sorted_rows-clause-width : goal.returns-in_err-sorted_rows-clause-width
returns-in_err-sorted_rows-clause-width g c = IfOk-from_err c.from_residual-in_err-sorted_rows.result _ c.from_residual-in_err-sorted_rows.ensures.0

pub returns-in_err-sorted_rows-clause-err : goal.returns-in_err-sorted_rows-clause-err
returns-in_err-sorted_rows-clause-err g c = memory_passed _ c.from_residual-in_err-sorted_rows.result c.from_residual-in_err-sorted_rows.ensures.1

pub returns-in_err-keys-clause-ok : goal.returns-in_err-keys-clause-ok
returns-in_err-keys-clause-ok g c = IfOk-from_err c.from_residual-in_err-keys.result _ c.from_residual-in_err-keys.ensures.0

pub returns-in_err-keys-clause-width : goal.returns-in_err-keys-clause-width
returns-in_err-keys-clause-width g c = IfOk-from_err c.from_residual-in_err-keys.result _ c.from_residual-in_err-keys.ensures.0

pub returns-in_err-rows_by_keys-clause-ok : goal.returns-in_err-rows_by_keys-clause-ok
returns-in_err-rows_by_keys-clause-ok g c = IfOk-from_err c.from_residual-in_err-rows_by_keys.result _ c.from_residual-in_err-rows_by_keys.ensures.0

pub returns-in_err-rows_by_keys-clause-width : goal.returns-in_err-rows_by_keys-clause-width
returns-in_err-rows_by_keys-clause-width g c = IfOk-from_err c.from_residual-in_err-rows_by_keys.result _ c.from_residual-in_err-rows_by_keys.ensures.0

pub returns-in_err-rows_by_keys-clause-err : goal.returns-in_err-rows_by_keys-clause-err
returns-in_err-rows_by_keys-clause-err g c = memory_passed _ c.from_residual-in_err-rows_by_keys.result c.from_residual-in_err-rows_by_keys.ensures.1

pub returns-clause-err : goal.returns-clause-err
returns-clause-err g c = tt

pub returns-then-is_empty-clause-ok : goal.returns-then-is_empty-clause-ok
returns-then-is_empty-clause-ok g c =
    let none : length c.args.order.now.items ≡ 0 = grind (arith, nat_tests, c.if-is_empty.ensures) in
    ap (λ a. a >>= λ sorted. Ok (cut_of (cut_view c.args.cut) sorted))
    (ordered_unsorted (parameters_view c.args.scope.now.query.now.parameters.now) c.args.graph.now c.args.scope.now.names.now (expressions_view c.args.items.now.items) c.args.order.now.items (table c.args.rows) none)

pub returns-then-is_empty-clause-width : goal.returns-then-is_empty-clause-width
returns-then-is_empty-clause-width g c = refl

pub returns-then-is_empty-clause-err : goal.returns-then-is_empty-clause-err
returns-then-is_empty-clause-err g c = tt

pub rows_by_keys-requires-clause-len : goal.rows_by_keys-requires-clause-len
rows_by_keys-requires-clause-len g c = c.in_ok-keys.ensures.len

pub rows_by_keys-requires-clause-width : goal.rows_by_keys-requires-clause-width
rows_by_keys-requires-clause-width g c = c.in_ok-keys.ensures.width

pub returns-clause-ok : goal.returns-clause-ok
returns-clause-ok g c =
    let some : 0 < length c.args.order.now.items = grind (arith, nat_tests, c.if-is_empty.ensures) in
    let ps = parameters_view c.args.scope.now.query.now.parameters.now in
    let names = c.args.scope.now.names.now in
    let rows = table c.args.rows in
    let keys = table c.in_ok-keys.keys in
    let sorted = rows_at_places rows (sorted_places (directions (map sort_item_view c.args.order.now.items)) keys) in
    ap (λ a. a >>= λ sorted. Ok (cut_of (cut_view c.args.cut) sorted))
    (ordered_done ps c.args.graph.now names (expressions_view c.args.items.now.items) c.args.order.now.items rows keys sorted some
    (ap (λ ks. all_keys_given ps c.args.graph.now names ks rows) (sym c.in_ok-sources.ensures.sources) ∙ c.in_ok-keys.ensures.ok)
    refl)
    ∙ ap Ok (sym (c.in_ok-rows_by_keys.ensures.rows ∙ ap (λ ds. cut_of (cut_view c.args.cut) (rows_at_places rows (sorted_places ds keys))) c.in_ok-sources.ensures.directions))

pub returns-clause-width : goal.returns-clause-width
returns-clause-width g c = c.in_ok-rows_by_keys.ensures.width

pub returns-in-Some-clause-ok : goal.returns-in-Some-clause-ok
returns-in-Some-clause-ok g c =
    let some : 0 < length c.args.order.now.items = grind (arith, nat_tests, c.if-is_empty.ensures) in
    let ps = parameters_view c.args.scope.now.query.now.parameters.now in
    let names = c.args.scope.now.names.now in
    let rows = table c.args.rows in
    let sources = c.in_ok-sources.sources.items in
    let sorts = c.in-Some.sorts.items in
    let keys = map (picked sorts) rows in
    let sorted = rows_at_places rows (sorted_places (directions (map sort_item_view c.args.order.now.items)) keys) in
    let told = subst (λ o. IfSome o (λ s. ReadColumns names c.width.result sources s.items)) c.in-Some.is c.in_ok-columns.ensures in
    let read : ReadColumns names c.args.rows.width sources sorts = subst (λ w. ReadColumns names w sources sorts) c.width.ensures told in
    let lent = c.as_slice.ensures.value in
    ap (λ a. a >>= λ sorted. Ok (cut_of (cut_view c.args.cut) sorted))
    (ordered_done ps c.args.graph.now names (expressions_view c.args.items.now.items) c.args.order.now.items rows keys sorted some
    (ap (λ ks. all_keys_given ps c.args.graph.now names ks rows) (sym c.in_ok-sources.ensures.sources) ∙ all_read ps c.args.graph.now names c.args.rows.width sources sorts read rows (table_wide c.args.rows))
    refl)
    ∙ ap Ok (sym (c.in_ok-sorted_rows.ensures.rows
    ∙ (λ i. cut_of (cut_view c.args.cut) (rows_at_places rows (sorted_places (directions_of (lent i)) (map (picked (lent i)) rows))))
    ∙ ap (λ ds. cut_of (cut_view c.args.cut) (rows_at_places rows (sorted_places ds keys))) (read.directions ∙ c.in_ok-sources.ensures.directions)))

pub returns-in-Some-clause-width : goal.returns-in-Some-clause-width
returns-in-Some-clause-width g c = c.in_ok-sorted_rows.ensures.width

pub returns-in-Some-clause-err : goal.returns-in-Some-clause-err
returns-in-Some-clause-err g c = tt
