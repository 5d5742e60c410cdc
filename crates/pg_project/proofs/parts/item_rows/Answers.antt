use Rattle.std.proofs.Common.{◌≡◌, ◌++◌, ◌||◌, [], Ok, length, map, not, sym, ap, ◌∙◌}
use Rattle.std.proofs.lemmas.List.{append-nil, length-map}
use Rattle.std.proofs.lemmas.Result.{IfOk-from_err}
use Rattle.pg_expr.proofs.ExitLemmas.{fault_passed}
use Rattle.pg_project.proofs.ExitLemmas.{fault_given, memory_given}
use Rattle.pg_project.proofs.Grouping.{gives, fails}
use Rattle.pg_project.proofs.Projecting.{groups_give, of_columns_stand, rows_give}
use Rattle.pg_project.proofs.WideRows.{columns_wide}
use Rattle.pg_project.specs.Given.{earlier_names, wide_rows_given}
use Rattle.pg_project.specs.Items.{expressions_view}
use Rattle.pg_project.specs.Parts.{stands}
use Rattle.pg_rows.specs.States.{seen}
use Rattle.pg_rows.specs.Tables.{table}
use Rattle.pg_syntax_tree.specs.View.{expression_view}
use Rattle.pg_value_core.specs.Given.{parameters_view}
use Rattle.pg_project.proofs.parts.item_rows.Goals as goal

pub returns-in_err-visible-clause-gives : goal.returns-in_err-visible-clause-gives
returns-in_err-visible-clause-gives g c = λ s suits. memory_given _ _ c.from_residual.result c.from_residual.ensures.1

pub returns-in_err-visible-clause-names : goal.returns-in_err-visible-clause-names
returns-in_err-visible-clause-names g c = IfOk-from_err c.from_residual.result _ c.from_residual.ensures.0

pub returns-in_err-found-clause-gives : goal.returns-in_err-found-clause-gives
returns-in_err-found-clause-gives g c = λ s suits.
    let graph = c.args.graph.now in
    let names = c.args.scope.now.names.now in
    let columns = c.args.columns.now in
    let es = expressions_view c.args.items.now.items in
    let rows = table c.args.rows in
    let same : length columns ≡ length es = sym c.requires.items ∙ sym (length-map c.args.items.now.items (λ e. expression_view e.now)) in
    let result = c.from_residual-in_err-found.result in
    let f = c.in_err-found.field-0.0 in
    groups_give s graph columns names es c.args.hidden rows same result (sym c.have_aggregate-groups.ensures ∙ c.if-groups.true)
    (fault_given _ (λ t. map (stands columns []) (seen t).rows) f result c.from_residual-in_err-found.ensures.1
    (λ other. fails s graph names columns es same (parameters_view c.args.scope.now.query.now.parameters.now) suits rows f (c.in_err-found.ensures.rows.err other)))

pub returns-in_err-found-clause-names : goal.returns-in_err-found-clause-names
returns-in_err-found-clause-names g c = IfOk-from_err c.from_residual-in_err-found.result _ c.from_residual-in_err-found.ensures.0

pub new-requires : goal.new-requires
new-requires g c =
    let columns = c.args.columns.now in
    let alone : c.in_ok-visible.visible ≡ columns =
    c.in_ok-visible.ensures ∙ ap (λ b. columns ++ earlier_names (b || c.args.hidden) c.args.scope.now.names.now) c.if-groups.true ∙ append-nil columns in
    c.in_ok-found.ensures.width ∙ c.requires.items ∙ sym (ap length alone)

pub returns-then-groups-clause-gives : goal.returns-then-groups-clause-gives
returns-then-groups-clause-gives g c = λ s suits.
    let graph = c.args.graph.now in
    let names = c.args.scope.now.names.now in
    let columns = c.args.columns.now in
    let es = expressions_view c.args.items.now.items in
    let rows = table c.args.rows in
    let found = table c.in_ok-found.found in
    let same : length columns ≡ length es = sym c.requires.items ∙ sym (length-map c.args.items.now.items (λ e. expression_view e.now)) in
    groups_give s graph columns names es c.args.hidden rows same (Ok c.new.result) (sym c.have_aggregate-groups.ensures ∙ c.if-groups.true) (record {
      ok = gives s graph names columns es same (parameters_view c.args.scope.now.query.now.parameters.now) suits rows found c.in_ok-found.ensures.rows.ok
          ∙ ap Ok (of_columns_stand columns found ∙ ap (map (stands columns [])) (sym (ap (λ t. t.rows) c.new.ensures)));
      err = tt;
    })

pub returns-then-groups-clause-names : goal.returns-then-groups-clause-names
returns-then-groups-clause-names g c =
    ap (λ t. t.names) c.new.ensures
    ∙ c.in_ok-visible.ensures
    ∙ ap (λ b. c.args.columns.now ++ earlier_names (b || c.args.hidden) c.args.scope.now.names.now) c.have_aggregate-groups.ensures

pub returns-in_err-ready-clause-gives : goal.returns-in_err-ready-clause-gives
returns-in_err-ready-clause-gives g c = λ s suits. memory_given _ _ c.from_residual-in_err-ready.result c.from_residual-in_err-ready.ensures.1

pub returns-in_err-ready-clause-names : goal.returns-in_err-ready-clause-names
returns-in_err-ready-clause-names g c = IfOk-from_err c.from_residual-in_err-ready.result _ c.from_residual-in_err-ready.ensures.0

pub wide_rows-requires : goal.wide_rows-requires
wide_rows-requires g c =
    let columns = c.args.columns.now in
    let names = c.args.scope.now.names.now in
    c.len.ensures
    ∙ columns_wide c.in_ok-visible.visible columns names c.args.hidden _ c.args.rows.width
    (c.in_ok-visible.ensures ∙ ap (λ b. columns ++ earlier_names (b || c.args.hidden) names) c.if-groups.false) (c.in_ok-ready.ensures.len ∙ c.requires.items) c.requires.rows

pub returns-in_err-wide-clause-gives : goal.returns-in_err-wide-clause-gives
returns-in_err-wide-clause-gives g c = λ s suits.
    let graph = c.args.graph.now in
    let names = c.args.scope.now.names.now in
    let columns = c.args.columns.now in
    let es = expressions_view c.args.items.now.items in
    let rows = table c.args.rows in
    let parameters = parameters_view c.args.scope.now.query.now.parameters.now in
    let same : length columns ≡ length es = sym c.requires.items ∙ sym (length-map c.args.items.now.items (λ e. expression_view e.now)) in
    let result = c.from_residual-in_err-wide.result in
    rows_give s graph columns names es c.args.hidden rows same parameters suits result (sym c.have_aggregate-groups.ensures ∙ c.if-groups.false) (IfOk-from_err result _ c.from_residual-in_err-wide.ensures.0)
    (fault_passed _ c.in_err-wide.field-0.0 result c.from_residual-in_err-wide.ensures.1
    (λ other. ap (λ xs. wide_rows_given parameters graph names xs (not c.args.hidden) rows) (sym c.in_ok-ready.ensures.trees) ∙ c.in_err-wide.ensures.err other))

pub returns-in_err-wide-clause-names : goal.returns-in_err-wide-clause-names
returns-in_err-wide-clause-names g c = IfOk-from_err c.from_residual-in_err-wide.result _ c.from_residual-in_err-wide.ensures.0

pub new-requires-2 : goal.new-requires-2
new-requires-2 g c = c.in_ok-wide.ensures.width ∙ c.len.ensures

pub returns-clause-gives : goal.returns-clause-gives
returns-clause-gives g c = λ s suits.
    let graph = c.args.graph.now in
    let names = c.args.scope.now.names.now in
    let columns = c.args.columns.now in
    let es = expressions_view c.args.items.now.items in
    let rows = table c.args.rows in
    let parameters = parameters_view c.args.scope.now.query.now.parameters.now in
    let same : length columns ≡ length es = sym c.requires.items ∙ sym (length-map c.args.items.now.items (λ e. expression_view e.now)) in
    rows_give s graph columns names es c.args.hidden rows same parameters suits (Ok c.new-2.result) (sym c.have_aggregate-groups.ensures ∙ c.if-groups.false)
    (ap (λ xs. wide_rows_given parameters graph names xs (not c.args.hidden) rows) (sym c.in_ok-ready.ensures.trees) ∙ c.in_ok-wide.ensures.ok ∙ ap Ok (sym (ap (λ t. t.rows) c.new-2.ensures)))
    tt

pub returns-clause-names : goal.returns-clause-names
returns-clause-names g c =
    ap (λ t. t.names) c.new-2.ensures
    ∙ c.in_ok-visible.ensures
    ∙ ap (λ b. c.args.columns.now ++ earlier_names (b || c.args.hidden) c.args.scope.now.names.now) c.have_aggregate-groups.ensures
