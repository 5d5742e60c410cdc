use Rattle.std.proofs.Common.{◌≡◌, ◌||◌, ◌++◌, length, map, option_map, Ok, Err, sym, ap, subst, ◌∙◌, ◌≤◌, List, arith}
use Rattle.std.proofs.lemmas.List.{length-map, length-append}
use Rattle.std.proofs.lemmas.Result.{IfOk-from_err, IfOk-weaker}
use Rattle.pg_meaning.specs.Projections.{Projected, item_rows}
use Rattle.pg_meaning.specs.Value.{Value}
use Rattle.pg_meaning.specs.declared.fault.Fault.{Fault}
use Rattle.pg_expr.proofs.ExitLemmas.{fault_passed}
use Rattle.pg_project.proofs.PassedRows.{passed_gives}
use Rattle.pg_project.proofs.Projecting.{cut_fails, items_fail, ended_gives}
use Rattle.pg_project.specs.Columns.{columns_view}
use Rattle.pg_project.specs.Cuts.{cut_view}
use Rattle.pg_project.specs.Items.{columns_of, expressions_view}
use Rattle.pg_project.specs.Given.{earlier_names, has_aggregate, hides_earlier}
use Rattle.pg_project.specs.Parts.{rows_projected, stands}
use Rattle.pg_rows.specs.Named.{rows_named}
use Rattle.pg_rows.specs.States.{seen}
use Rattle.pg_rows.specs.Tables.{table}
use Rattle.pg_syntax_tree.specs.View.{expression_view, projection_view}
use Rattle.pg_value_core.specs.Given.{parameters_view}
use Rattle.pg_project.proofs.ExitLemmas.{memory_passed}
use Rattle.pg_project.proofs.parts.projected_rows.Goals as goal

first_of : {X Y : Type 0} (items : List X) (columns more names : List Y) → length items ≡ length columns → names ≡ columns ++ more → length items ≤ length names
first_of items columns more names long same = omega (arith, long, ap length same, length-append columns more)

pub returns-in_err-wide-clause-gives : goal.returns-in_err-wide-clause-gives
returns-in_err-wide-clause-gives g c = λ s given.
    let ps = parameters_view c.args.scope.now.query.now.parameters.now in
    let graph = c.args.graph.now in
    let all = columns_view c.args.columns.now in
    let p = projection_view c.args.clause.now.projection.now in
    let where_ = option_map expression_view c.args.clause.now.condition.now in
    let rows = rows_named c.args.scope.now.names.now (table c.args.rows) in
    let columns = c.args.columns.now.names in
    let es = expressions_view c.in_ok-items.items.items in
    let same : length columns ≡ length es = sym c.in_ok-items.ensures.len ∙ sym (length-map c.in_ok-items.items.items (λ e. expression_view e.now)) in
    let said = c.in_err-wide.ensures.gives s given in
    let refused : (f : Fault) → item_rows s graph (hides_earlier columns p where_) (columns_of columns es) rows ≡ Err f → rows_projected s graph all p where_ rows ≡ Err f =
    items_fail s graph ps given all p where_ rows columns c.args.scope.now.names.now es c.in_ok-items.ensures.trees same (cut_view c.in_ok-cut.cut) c.in_ok-cut.ensures.ok in
    record {
      ok = IfOk-from_err c.from_residual-in_err-wide.result _ c.from_residual-in_err-wide.ensures.0;
      err = fault_passed _ c.in_err-wide.field-0.0 c.from_residual-in_err-wide.result c.from_residual-in_err-wide.ensures.1 (λ other. refused c.in_err-wide.field-0.0 (ap (λ b. item_rows s graph b (columns_of columns es) rows) (sym c.hides_earlier-hidden.ensures) ∙ said.err other));
    }

pub returns-clause-gives : goal.returns-clause-gives
returns-clause-gives g c = λ s given.
    let ps = parameters_view c.args.scope.now.query.now.parameters.now in
    let graph = c.args.graph.now in
    let all = columns_view c.args.columns.now in
    let p = projection_view c.args.clause.now.projection.now in
    let where_ = option_map expression_view c.args.clause.now.condition.now in
    let rows = rows_named c.args.scope.now.names.now (table c.args.rows) in
    let columns = c.args.columns.now.names in
    let items = c.in_ok-items.items.items in
    let es = expressions_view items in
    let long : length items ≡ length columns = c.in_ok-items.ensures.len in
    let same : length columns ≡ length es = sym long ∙ sym (length-map items (λ e. expression_view e.now)) in
    let wide = c.in_ok-wide in
    let apart = c.split-visible in
    let hidden = c.hides_earlier-hidden.ensures in
    let names = c.args.scope.now.names.now in
    let named : apart.result.0 ≡ columns ++ earlier_names (has_aggregate es || hides_earlier columns p where_) names =
    apart.ensures.names ∙ wide.ensures.names ∙ ap (λ b. columns ++ earlier_names (has_aggregate es || b) names) hidden in
    let stand : List (List Value) → List Projected = map (stands columns (earlier_names (has_aggregate es || hides_earlier columns p where_) names)) in
    let made : item_rows s graph (hides_earlier columns p where_) (columns_of columns es) rows ≡ Ok (stand (table apart.result.1)) =
    subst (λ b. item_rows s graph b (columns_of columns es) rows ≡ Ok (map (stands columns (earlier_names (has_aggregate es || b) names)) (seen wide.wide).rows)) hidden (wide.ensures.gives s given).ok
    ∙ ap (λ rs. Ok (stand rs)) (sym apart.ensures.rows) in
    ended_gives s graph ps given all p where_ rows columns names es c.in_ok-items.ensures.trees same (cut_view c.in_ok-cut.cut) c.in_ok-cut.ensures.ok
    apart.result.0 apart.result.1 (apart.ensures.width ∙ sym (ap length apart.ensures.names)) (length items) long named made
    c.ended_rows-2.result c.ended_rows-2.ensures.ok c.ended_rows-2.ensures.err

pub returns-then-passes_through-clause-gives : goal.returns-then-passes_through-clause-gives
returns-then-passes_through-clause-gives g c = λ s given.
    let ps = parameters_view c.args.scope.now.query.now.parameters.now in
    let columns = c.args.columns.now.names in
    let names = c.args.scope.now.names.now in
    let items = c.in_ok-items.items.items in
    let es = expressions_view items in
    let long : length es ≡ length items = length-map items (λ e. expression_view e.now) in
    let passes = c.passes_through.ensures in
    let whole : length items ≡ length names = passes.len c.if-passes_through.true in
    passed_gives s c.args.graph.now ps given (columns_view c.args.columns.now) (projection_view c.args.clause.now.projection.now) (option_map expression_view c.args.clause.now.condition.now)
    columns names es c.in_ok-items.ensures.trees (cut_view c.in_ok-cut.cut) c.in_ok-cut.ensures.ok
    c.args.rows (length items) c.requires (sym c.in_ok-items.ensures.len ∙ sym long) (long ∙ whole) whole (passes.variables c.if-passes_through.true) (passes.names c.if-passes_through.true)
    c.ended_rows.result c.ended_rows.ensures.ok c.ended_rows.ensures.err

pub returns-then-passes_through-clause-width : goal.returns-then-passes_through-clause-width
returns-then-passes_through-clause-width g c = IfOk-weaker c.ended_rows.result _ _ (λ found wide. wide ∙ c.in_ok-items.ensures.len) c.ended_rows.ensures.width

pub returns-in_err-items-clause-gives : goal.returns-in_err-items-clause-gives
returns-in_err-items-clause-gives g c = λ s given. record {
  ok = IfOk-from_err c.from_residual.result _ c.from_residual.ensures.0;
  err = memory_passed _ c.from_residual.result c.from_residual.ensures.1;
}

pub returns-in_err-items-clause-width : goal.returns-in_err-items-clause-width
returns-in_err-items-clause-width g c = IfOk-from_err c.from_residual.result _ c.from_residual.ensures.0

pub returns-in_err-cut-clause-gives : goal.returns-in_err-cut-clause-gives
returns-in_err-cut-clause-gives g c = λ s given.
    let f = c.in_err-cut.field-0.0 in
    let all = columns_view c.args.columns.now in
    let where_ = option_map expression_view c.args.clause.now.condition.now in
    record {
      ok = IfOk-from_err c.from_residual-in_err-cut.result _ c.from_residual-in_err-cut.ensures.0;
      err = fault_passed _ f c.from_residual-in_err-cut.result c.from_residual-in_err-cut.ensures.1
          (λ other. cut_fails s c.args.graph.now (parameters_view c.args.scope.now.query.now.parameters.now) given all (projection_view c.args.clause.now.projection.now) where_ (rows_named c.args.scope.now.names.now (table c.args.rows)) f (c.in_err-cut.ensures.err other));
    }

pub returns-in_err-cut-clause-width : goal.returns-in_err-cut-clause-width
returns-in_err-cut-clause-width g c = IfOk-from_err c.from_residual-in_err-cut.result _ c.from_residual-in_err-cut.ensures.0

pub returns-in_err-wide-clause-width : goal.returns-in_err-wide-clause-width
returns-in_err-wide-clause-width g c = IfOk-from_err c.from_residual-in_err-wide.result _ c.from_residual-in_err-wide.ensures.0

pub item_rows-requires-clause-items : goal.item_rows-requires-clause-items
item_rows-requires-clause-items g c = c.in_ok-items.ensures.len

pub ended_rows-requires : goal.ended_rows-requires
ended_rows-requires g c =
    let whole = c.passes_through.ensures.len c.if-passes_through.true ∙ sym c.requires in
    let items = c.in_ok-items.items.items in
    let all : length items ≤ c.args.rows.width = omega (arith, whole) in
    all

pub ended_rows-requires-2 : goal.ended_rows-requires-2
ended_rows-requires-2 g c =
    let columns = c.args.columns.now.names in
    let items = c.in_ok-items.items.items in
    let earlier = earlier_names (has_aggregate (expressions_view items) || c.hides_earlier-hidden.result) c.args.scope.now.names.now in
    subst (λ n. length items ≤ n) (sym c.split-visible.ensures.width) (first_of items columns earlier (seen c.in_ok-wide.wide).names c.in_ok-items.ensures.len c.in_ok-wide.ensures.names)

pub returns-clause-width : goal.returns-clause-width
returns-clause-width g c = IfOk-weaker c.ended_rows-2.result _ _ (λ found wide. wide ∙ c.in_ok-items.ensures.len) c.ended_rows-2.ensures.width
