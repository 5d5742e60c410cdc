use Rattle.std.proofs.Common.{◌≡◌, length, map, position, bytes_eq, is_none, sum, Ok, Err, refl, sym, ap, subst, ◌∙◌}
use Rattle.std.proofs.lemmas.List.{length-map}
use Rattle.std.specs.List.{AllByRecursion}
use Rattle.pg_expr.specs.Prepared.{tree_of}
use Rattle.pg_meaning.specs.Meters.{spend}
use Rattle.pg_meaning.specs.Reading.{unwind_clause}
use Rattle.pg_meaning.specs.declared.fault.Fault.{Fault}
use Rattle.pg_project.proofs.Unwinding.{lists_fail, steps_fail, all_unwound, one_name}
use Rattle.pg_project.proofs.Wide.{table_wide}
use Rattle.pg_project.specs.Unwound.{lists_given, lists_view, rows_unwound}
use Rattle.pg_rows.specs.Named.{with_name}
use Rattle.pg_rows.specs.States.{seen, state_of}
use Rattle.pg_rows.specs.Tables.{table}
use Rattle.pg_syntax_tree.specs.View.{expression_view, name_view}
use Rattle.pg_value_core.specs.Given.{parameters_view}
use Rattle.pg_value_core.specs.View.{view}
use Rattle.std.proofs.lemmas.Result.{IfOk-from_err}
use Rattle.pg_expr.proofs.ExitLemmas.{fault_passed}
use Rattle.pg_project.proofs.ExitLemmas.{memory_passed}
use Rattle.pg_project.proofs.unwind.unwind_rows.Goals as goal

pub returns-in_err-lists-clause-unwinds : goal.returns-in_err-lists-clause-unwinds
returns-in_err-lists-clause-unwinds g c =
    let ps = parameters_view c.args.query.now.parameters.now in
    let graph = c.args.graph.now in
    let e = expression_view c.args.list.now in
    let t = seen c.args.table in
    let names = c.split-names.result.0 in
    let rows = table c.split-names.result.1 in
    λ s suits.
    let refused : (f : Fault) → lists_given ps graph (tree_of names c.in_ok-prepared.prepared) names rows ≡ Err f → unwind_clause s e (name_view c.args.name.now) (state_of graph t c.args.meter.now.used) ≡ Err f =
    λ f h. lists_fail s graph e (name_view c.args.name.now) t c.args.meter.now.used ps c.args.meter.now.limit suits f
    ((λ i. lists_given ps graph (sym c.in_ok-prepared.ensures i) (sym c.split-names.ensures.names i) (sym c.split-names.ensures.rows i)) ∙ h) in
    record {
      ok = IfOk-from_err c.from_residual-in_err-lists.result _ c.from_residual-in_err-lists.ensures.0;
      err = fault_passed _ c.in_err-lists.field-0.0 c.from_residual-in_err-lists.result c.from_residual-in_err-lists.ensures.1 (λ other. refused c.in_err-lists.field-0.0 (c.in_err-lists.ensures.err other));
    }

pub returns-in_err-spend_items-clause-unwinds : goal.returns-in_err-spend_items-clause-unwinds
returns-in_err-spend_items-clause-unwinds g c =
    let ps = parameters_view c.args.query.now.parameters.now in
    let graph = c.args.graph.now in
    let e = expression_view c.args.list.now in
    let t = seen c.args.table in
    let ls = lists_view c.in_ok-lists.lists.items in
    let n = sum (map length ls) in
    let used = c.args.meter.now.used in
    λ s suits.
    let listed : lists_given ps graph e t.names t.rows ≡ Ok ls =
    (λ i. lists_given ps graph (sym c.in_ok-prepared.ensures i) (sym c.split-names.ensures.names i) (sym c.split-names.ensures.rows i)) ∙ c.in_ok-lists.ensures.ok in
    let long : length ls ≡ length t.rows = length-map c.in_ok-lists.lists.items (λ l. map view l.items) ∙ c.in_ok-lists.ensures.len ∙ ap length c.split-names.ensures.rows in
    let refused : (f : Fault) → spend s used n ≡ Err f → unwind_clause s e (name_view c.args.name.now) (state_of graph t used) ≡ Err f =
    λ f h. steps_fail s graph e (name_view c.args.name.now) t used ps c.args.meter.now.limit suits ls n f listed long refl h in
    let tested = c.in_err-spend_items.ensures.spends s suits.steps_are in
    record {
      ok = IfOk-from_err c.from_residual-in_err-spend_items.result _ c.from_residual-in_err-spend_items.ensures.0;
      err = fault_passed _ c.in_err-spend_items.field-0.0 c.from_residual-in_err-spend_items.result c.from_residual-in_err-spend_items.ensures.1 (λ other. refused c.in_err-spend_items.field-0.0 tested);
    }

pub returns-clause-unwinds : goal.returns-clause-unwinds
returns-clause-unwinds g c =
    let ps = parameters_view c.args.query.now.parameters.now in
    let graph = c.args.graph.now in
    let e = expression_view c.args.list.now in
    let name = name_view c.args.name.now in
    let t = seen c.args.table in
    let ls = lists_view c.in_ok-lists.lists.items in
    let n = sum (map length ls) in
    let used = c.args.meter.now.used in
    let made = c.in_ok-unwound_table in
    λ s suits.
    let listed : lists_given ps graph e t.names t.rows ≡ Ok ls =
    (λ i. lists_given ps graph (sym c.in_ok-prepared.ensures i) (sym c.split-names.ensures.names i) (sym c.split-names.ensures.rows i)) ∙ c.in_ok-lists.ensures.ok in
    let long : length ls ≡ length t.rows = length-map c.in_ok-lists.lists.items (λ l. map view l.items) ∙ c.in_ok-lists.ensures.len ∙ ap length c.split-names.ensures.rows in
    let wide : AllByRecursion (λ r. length r ≡ length t.names) t.rows = subst (λ k. AllByRecursion (λ r. length r ≡ k) (table c.args.table.rows)) c.args.table.fits (table_wide c.args.table.rows) in
    let named : (seen made.field-0).names ≡ with_name name.text t.names = made.ensures.names ∙ (λ i. with_name (c.as_str.ensures.value i) (c.split-names.ensures.names i)) in
    let filled : (seen made.field-0).rows ≡ rows_unwound (is_none (position (bytes_eq name.text) t.names)) t.rows ls =
    made.ensures.rows ∙ (λ i. rows_unwound (is_none (position (bytes_eq (c.as_str.ensures.value i)) (c.split-names.ensures.names i))) (c.split-names.ensures.rows i) ls) in
    record {
      ok = all_unwound s graph e name t used ps c.args.meter.now.limit suits ls n c.spend_items.new.meter.used (seen made.field-0) listed long refl (c.in_ok-spend_items.ensures.spends s suits.steps_are) wide named filled;
      err = tt;
    }

pub returns-clause-names : goal.returns-clause-names
returns-clause-names g c =
    c.in_ok-unwound_table.ensures.names
    ∙ (λ i. with_name (c.as_str.ensures.value i) (c.split-names.ensures.names i))
    ∙ one_name (name_view c.args.name.now).text (seen c.args.table).names

pub returns-in_err-prepared-clause-unwinds : goal.returns-in_err-prepared-clause-unwinds
returns-in_err-prepared-clause-unwinds g c = λ s suits. record {
  ok = IfOk-from_err c.from_residual.result _ c.from_residual.ensures.0;
  err = memory_passed _ c.from_residual.result c.from_residual.ensures.1;
}

pub returns-in_err-unwound_table-clause-unwinds : goal.returns-in_err-unwound_table-clause-unwinds
returns-in_err-unwound_table-clause-unwinds g c = λ s suits. record {
  ok = IfOk-from_err c.from_residual-in_err-unwound_table.result _ c.from_residual-in_err-unwound_table.ensures.0;
  err = memory_passed _ c.from_residual-in_err-unwound_table.result c.from_residual-in_err-unwound_table.ensures.1;
}

pub returns-in_err-prepared-clause-names : goal.returns-in_err-prepared-clause-names
returns-in_err-prepared-clause-names g c = IfOk-from_err c.from_residual.result _ c.from_residual.ensures.0

pub returns-in_err-lists-clause-names : goal.returns-in_err-lists-clause-names
returns-in_err-lists-clause-names g c = IfOk-from_err c.from_residual-in_err-lists.result _ c.from_residual-in_err-lists.ensures.0

pub returns-in_err-spend_items-clause-names : goal.returns-in_err-spend_items-clause-names
returns-in_err-spend_items-clause-names g c = IfOk-from_err c.from_residual-in_err-spend_items.result _ c.from_residual-in_err-spend_items.ensures.0

pub returns-in_err-unwound_table-clause-names : goal.returns-in_err-unwound_table-clause-names
returns-in_err-unwound_table-clause-names g c = IfOk-from_err c.from_residual-in_err-unwound_table.result _ c.from_residual-in_err-unwound_table.ensures.0

pub returns-in_err-prepared-clause-limit : goal.returns-in_err-prepared-clause-limit
returns-in_err-prepared-clause-limit g c = refl

pub returns-in_err-lists-clause-limit : goal.returns-in_err-lists-clause-limit
returns-in_err-lists-clause-limit g c = refl

pub returns-in_err-spend_items-clause-limit : goal.returns-in_err-spend_items-clause-limit
returns-in_err-spend_items-clause-limit g c = c.spend_items.ensures.limit

pub returns-in_err-unwound_table-clause-limit : goal.returns-in_err-unwound_table-clause-limit
returns-in_err-unwound_table-clause-limit g c = c.spend_items.ensures.limit

pub returns-clause-limit : goal.returns-clause-limit
returns-clause-limit g c = c.spend_items.ensures.limit

pub unwound_table-requires : goal.unwound_table-requires
unwound_table-requires g c = c.split-names.ensures.width ∙ sym (ap length c.split-names.ensures.names)
