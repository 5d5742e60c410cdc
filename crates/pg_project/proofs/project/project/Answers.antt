use Rattle.std.proofs.Common.{◌≡◌, Ok, Err, length, option_map, sym, ap, ◌∙◌}
use Rattle.std.proofs.lemmas.Result.{IfOk-from_err}
use Rattle.pg_meaning.specs.Meters.{spend}
use Rattle.pg_meaning.specs.Projections.{project_clause}
use Rattle.pg_meaning.specs.Scopes.{column_names}
use Rattle.pg_meaning.specs.declared.fault.Fault.{Fault}
use Rattle.pg_project.proofs.ColumnViews.{view_names}
use Rattle.pg_expr.proofs.ExitLemmas.{fault_passed}
use Rattle.pg_project.proofs.LoneStar.{star_names_are}
use Rattle.pg_project.proofs.Projecting.{steps_fail, rows_fail, all_projected}
use Rattle.pg_project.specs.Columns.{columns_view, naming_columns}
use Rattle.pg_project.specs.Parts.{rows_projected}
use Rattle.pg_rows.specs.Named.{rows_named}
use Rattle.pg_rows.specs.States.{seen, named_rows, state_of}
use Rattle.pg_rows.specs.Tables.{table}
use Rattle.pg_syntax_tree.specs.View.{expression_view, projection_view}
use Rattle.pg_project.proofs.ExitLemmas.{memory_passed}
use Rattle.pg_project.proofs.project.project.Goals as goal

pub returns-in_err-found-clause-gives : goal.returns-in_err-found-clause-gives
returns-in_err-found-clause-gives g c = λ s suits.
    let graph = c.args.graph.now in
    let p = projection_view c.args.clause.now.projection.now in
    let where_ = option_map expression_view c.args.clause.now.condition.now in
    let t = seen c.args.table in
    let used = c.args.meter.now.used in
    let wanted = naming_columns c.args.clause.now.naming s.scope p in
    let made = columns_view c.in_ok-columns.columns in
    let names = c.split-names.result.0 in
    let rows = c.split-names.result.1 in
    let are : made ≡ wanted = c.in_ok-columns.ensures ∙ ap (λ ns. naming_columns c.args.clause.now.naming ns p) (c.split-names.ensures.names ∙ sym suits.scope_is) in
    let spent : spend s used (length t.rows) ≡ Ok c.spend.new.self.used =
    ap (spend s used) (sym (c.len.ensures ∙ ap length c.split-names.ensures.rows)) ∙ c.in_ok-spend.ensures.spends s suits.steps_are in
    let refused : (f : Fault) → rows_projected s graph made p where_ (rows_named names (table rows)) ≡ Err f → project_clause s wanted p where_ (state_of graph t used) ≡ Err f =
    λ f h. rows_fail s graph wanted p where_ t used c.spend.new.self.used spent f
    ((λ i. rows_projected s graph (sym are i) p where_ (rows_named (sym c.split-names.ensures.names i) (sym c.split-names.ensures.rows i))) ∙ h) in
    let said = c.in_err-found.ensures.gives s suits.parameters_are in
    record {
      ok = IfOk-from_err c.from_residual-in_err-found.result _ c.from_residual-in_err-found.ensures.0;
      err = fault_passed _ c.in_err-found.field-0.0 c.from_residual-in_err-found.result c.from_residual-in_err-found.ensures.1 (λ other. refused c.in_err-found.field-0.0 (said.err other));
    }

pub returns-clause-gives : goal.returns-clause-gives
returns-clause-gives g c = λ s suits.
    let graph = c.args.graph.now in
    let p = projection_view c.args.clause.now.projection.now in
    let where_ = option_map expression_view c.args.clause.now.condition.now in
    let t = seen c.args.table in
    let used = c.args.meter.now.used in
    let wanted = naming_columns c.args.clause.now.naming s.scope p in
    let are : columns_view c.in_ok-columns.columns ≡ wanted = c.in_ok-columns.ensures ∙ ap (λ ns. naming_columns c.args.clause.now.naming ns p) (c.split-names.ensures.names ∙ sym suits.scope_is) in
    let spent : spend s used (length t.rows) ≡ Ok c.spend.new.self.used =
    ap (spend s used) (sym (c.len.ensures ∙ ap length c.split-names.ensures.rows)) ∙ c.in_ok-spend.ensures.spends s suits.steps_are in
    let made : named_rows (seen c.new-2.result) ≡ rows_named c.in_ok-columns.columns.names (table c.in_ok-found.found) = ap named_rows c.new-2.ensures in
    record {
      ok =
          all_projected s graph wanted p where_ t used c.spend.new.self.used spent (seen c.new-2.result)
          ((λ i. rows_projected s graph (sym are i) p where_ (rows_named (sym c.split-names.ensures.names i) (sym c.split-names.ensures.rows i)))
          ∙ (c.in_ok-found.ensures.gives s suits.parameters_are).ok
          ∙ ap Ok (sym made));
      err = tt;
    }

pub returns-clause-names : goal.returns-clause-names
returns-clause-names g c =
    let p = projection_view c.args.clause.now.projection.now in
    ap (λ t. t.names) c.new-2.ensures
    ∙ sym (view_names c.in_ok-columns.columns)
    ∙ ap column_names (c.in_ok-columns.ensures ∙ ap (λ ns. naming_columns c.args.clause.now.naming ns p) c.split-names.ensures.names)

pub returns-in_err-spend-clause-gives : goal.returns-in_err-spend-clause-gives
returns-in_err-spend-clause-gives g c = λ s suits.
    let used = c.args.meter.now.used in
    let f = c.in_err-spend.field-0.0 in
    let spent : spend s used (length (seen c.args.table).rows) ≡ Err f =
    ap (spend s used) (sym (c.len.ensures ∙ ap length c.split-names.ensures.rows)) ∙ c.in_err-spend.ensures.spends s suits.steps_are in
    let p = projection_view c.args.clause.now.projection.now in
    record {
      ok = IfOk-from_err c.from_residual.result _ c.from_residual.ensures.0;
      err = fault_passed _ f c.from_residual.result c.from_residual.ensures.1 (λ other. steps_fail s c.args.graph.now (naming_columns c.args.clause.now.naming s.scope p) p (option_map expression_view c.args.clause.now.condition.now) (seen c.args.table) used f spent);
    }

pub returns-in_err-spend-clause-names : goal.returns-in_err-spend-clause-names
returns-in_err-spend-clause-names g c = IfOk-from_err c.from_residual.result _ c.from_residual.ensures.0

pub returns-in_err-columns-clause-gives : goal.returns-in_err-columns-clause-gives
returns-in_err-columns-clause-gives g c = λ s suits. record {
  ok = IfOk-from_err c.from_residual-in_err-columns.result _ c.from_residual-in_err-columns.ensures.0;
  err = memory_passed _ c.from_residual-in_err-columns.result c.from_residual-in_err-columns.ensures.1;
}

pub returns-in_err-columns-clause-names : goal.returns-in_err-columns-clause-names
returns-in_err-columns-clause-names g c = IfOk-from_err c.from_residual-in_err-columns.result _ c.from_residual-in_err-columns.ensures.0

pub returns-in_err-found-clause-names : goal.returns-in_err-found-clause-names
returns-in_err-found-clause-names g c = IfOk-from_err c.from_residual-in_err-found.result _ c.from_residual-in_err-found.ensures.0

pub returns-in_err-spend-clause-limit : goal.returns-in_err-spend-clause-limit
returns-in_err-spend-clause-limit g c = c.spend.ensures.limit

pub returns-in_err-columns-clause-limit : goal.returns-in_err-columns-clause-limit
returns-in_err-columns-clause-limit g c = c.spend.ensures.limit

pub returns-in_err-found-clause-limit : goal.returns-in_err-found-clause-limit
returns-in_err-found-clause-limit g c = c.spend.ensures.limit

pub returns-clause-limit : goal.returns-clause-limit
returns-clause-limit g c = c.spend.ensures.limit

pub returns-in_err-kept-clause-gives : goal.returns-in_err-kept-clause-gives
returns-in_err-kept-clause-gives g c = λ s suits.
    let graph = c.args.graph.now in
    let p = projection_view c.args.clause.now.projection.now in
    let where_ = option_map expression_view c.args.clause.now.condition.now in
    let t = seen c.args.table in
    let used = c.args.meter.now.used in
    let wanted = naming_columns c.args.clause.now.naming s.scope p in
    let names = c.split-names.result.0 in
    let rows = c.split-names.result.1 in
    let own = naming_columns c.args.clause.now.naming names p in
    let are : own ≡ wanted = ap (λ ns. naming_columns c.args.clause.now.naming ns p) (c.split-names.ensures.names ∙ sym suits.scope_is) in
    let spent : spend s used (length t.rows) ≡ Ok c.spend.new.self.used =
    ap (spend s used) (sym (c.len.ensures ∙ ap length c.split-names.ensures.rows)) ∙ c.in_ok-spend.ensures.spends s suits.steps_are in
    let refused : (f : Fault) → rows_projected s graph own p where_ (rows_named names (table rows)) ≡ Err f → project_clause s wanted p where_ (state_of graph t used) ≡ Err f =
    λ f h. rows_fail s graph wanted p where_ t used c.spend.new.self.used spent f
    ((λ i. rows_projected s graph (sym are i) p where_ (rows_named (sym c.split-names.ensures.names i) (sym c.split-names.ensures.rows i))) ∙ h) in
    let said = c.in_err-kept.ensures.gives s suits.parameters_are in
    record {
      ok = IfOk-from_err c.from_residual-in_err-kept.result _ c.from_residual-in_err-kept.ensures.0;
      err = fault_passed _ c.in_err-kept.field-0.0 c.from_residual-in_err-kept.result c.from_residual-in_err-kept.ensures.1 (λ other. refused c.in_err-kept.field-0.0 (said.err other));
    }

pub returns-then-rises-clause-gives : goal.returns-then-rises-clause-gives
returns-then-rises-clause-gives g c = λ s suits.
    let graph = c.args.graph.now in
    let p = projection_view c.args.clause.now.projection.now in
    let where_ = option_map expression_view c.args.clause.now.condition.now in
    let t = seen c.args.table in
    let used = c.args.meter.now.used in
    let wanted = naming_columns c.args.clause.now.naming s.scope p in
    let names = c.split-names.result.0 in
    let own = naming_columns c.args.clause.now.naming names p in
    let are : own ≡ wanted = ap (λ ns. naming_columns c.args.clause.now.naming ns p) (c.split-names.ensures.names ∙ sym suits.scope_is) in
    let spent : spend s used (length t.rows) ≡ Ok c.spend.new.self.used =
    ap (spend s used) (sym (c.len.ensures ∙ ap length c.split-names.ensures.rows)) ∙ c.in_ok-spend.ensures.spends s suits.steps_are in
    let made : named_rows (seen c.new.result) ≡ rows_named names (table c.in_ok-kept.kept) = ap named_rows c.new.ensures in
    record {
      ok =
          all_projected s graph wanted p where_ t used c.spend.new.self.used spent (seen c.new.result)
          ((λ i. rows_projected s graph (sym are i) p where_ (rows_named (sym c.split-names.ensures.names i) (sym c.split-names.ensures.rows i)))
          ∙ (c.in_ok-kept.ensures.gives s suits.parameters_are).ok
          ∙ ap Ok (sym made));
      err = tt;
    }

pub returns-then-rises-clause-names : goal.returns-then-rises-clause-names
returns-then-rises-clause-names g c =
    let p = projection_view c.args.clause.now.projection.now in
    let names = c.split-names.result.0 in
    ap (λ t. t.names) c.new.ensures
    ∙ sym (star_names_are c.args.clause.now.naming names p (c.is_lone_star.ensures.0 c.if-is_lone_star.true) (c.rises.ensures.0 c.if-rises.true))
    ∙ ap (λ ns. column_names (naming_columns c.args.clause.now.naming ns p)) c.split-names.ensures.names
