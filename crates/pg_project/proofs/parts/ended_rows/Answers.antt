use Rattle.std.proofs.Common.{◌≡◌, ◌≤◌, length, option_map, Ok, Err, refl, sym, subst, ◌∙◌}
use Rattle.std.proofs.lemmas.Result.{IfOk-from_err, IfOk-weaker, IfErr-weaker}
use Rattle.std.specs.List.{AllByRecursion}
use Rattle.pg_project.proofs.Conditions.{prepared_passing, whole_passes}
use Rattle.pg_expr.proofs.ExitLemmas.{fault_passed}
use Rattle.pg_project.proofs.ExitLemmas.{memory_passed}
use Rattle.pg_project.proofs.TailLemmas.{sorts_fail, passed_on}
use Rattle.pg_project.proofs.Wide.{table_wide}
use Rattle.pg_project.specs.Cuts.{cut_view}
use Rattle.pg_project.specs.Items.{expressions_view}
use Rattle.pg_project.specs.Given.{cut_of}
use Rattle.pg_rows.specs.Tables.{table}
use Rattle.pg_syntax_tree.specs.View.{expression_view, projection_view}
use Rattle.pg_value_core.specs.Given.{parameters_view}
use Rattle.pg_project.proofs.parts.ended_rows.Goals as goal

pub returns-then-width-len-clause-ok : goal.returns-then-width-len-clause-ok
returns-then-width-len-clause-ok g c =
    let ps = parameters_view c.args.scope.now.query.now.parameters.now in
    let graph = c.args.graph.now in
    let names = c.args.scope.now.names.now in
    let es = expressions_view c.args.items.now.items in
    let p = projection_view c.args.clause.now.projection.now in
    let where_ = option_map expression_view c.args.clause.now.condition.now in
    let width = length c.args.items.now.items in
    let cut = cut_view c.args.cut in
    let sorted = c.in_ok-sorted.sorted in
    let same : sorted.width ≡ width = sym c.width.ensures ∙ c.if-width-len.true ∙ c.len.ensures ∙ c.args.items.now.ok.0 in
    let wide : AllByRecursion (λ r. length r ≡ width) (table sorted) = subst (λ n. AllByRecursion (λ r. length r ≡ n) (table sorted)) same (table_wide sorted) in
    let all = c.lets_all_pass.ensures c.if-lets_all_pass.true in
    passed_on ps graph names es p.distinct p.order cut where_ width (table c.args.rows) (table c.in_ok-first.first) c.in_ok-first.ensures.rows
    (cut_of cut (table sorted)) where_ width c.in_ok-sorted.ensures.ok refl refl (Ok (table sorted)) (whole_passes ps graph names where_ width cut (table sorted) all.0 all.1 wide)

pub returns-in_err-first-clause-ok : goal.returns-in_err-first-clause-ok
returns-in_err-first-clause-ok g c = IfOk-from_err c.from_residual.result _ c.from_residual.ensures.0

pub returns-in_err-first-clause-width : goal.returns-in_err-first-clause-width
returns-in_err-first-clause-width g c = IfOk-from_err c.from_residual.result _ c.from_residual.ensures.0

pub returns-in_err-first-clause-err : goal.returns-in_err-first-clause-err
returns-in_err-first-clause-err g c = memory_passed _ c.from_residual.result c.from_residual.ensures.1

pub returns-in_err-sorted-clause-ok : goal.returns-in_err-sorted-clause-ok
returns-in_err-sorted-clause-ok g c = IfOk-from_err c.from_residual-in_err-sorted.result _ c.from_residual-in_err-sorted.ensures.0

pub returns-in_err-sorted-clause-width : goal.returns-in_err-sorted-clause-width
returns-in_err-sorted-clause-width g c = IfOk-from_err c.from_residual-in_err-sorted.result _ c.from_residual-in_err-sorted.ensures.0

pub returns-in_err-sorted-clause-err : goal.returns-in_err-sorted-clause-err
returns-in_err-sorted-clause-err g c =
    let p = projection_view c.args.clause.now.projection.now in
    fault_passed _ c.in_err-sorted.field-0.0 c.from_residual-in_err-sorted.result c.from_residual-in_err-sorted.ensures.1
    (λ other. sorts_fail (parameters_view c.args.scope.now.query.now.parameters.now) c.args.graph.now c.args.scope.now.names.now (expressions_view c.args.items.now.items) p.distinct p.order
    (cut_view c.args.cut) (option_map expression_view c.args.clause.now.condition.now) (length c.args.items.now.items) (table c.args.rows) (table c.in_ok-first.first) c.in_ok-first.ensures.rows
    c.in_err-sorted.field-0.0 (c.in_err-sorted.ensures.err other))

pub returns-then-width-len-clause-width : goal.returns-then-width-len-clause-width
returns-then-width-len-clause-width g c = sym c.width.ensures ∙ c.if-width-len.true ∙ c.len.ensures ∙ c.args.items.now.ok.0

pub returns-then-width-len-clause-err : goal.returns-then-width-len-clause-err
returns-then-width-len-clause-err g c = tt

pub returns-in_err-wanted-clause-ok : goal.returns-in_err-wanted-clause-ok
returns-in_err-wanted-clause-ok g c = IfOk-from_err c.from_residual-in_err-wanted.result _ c.from_residual-in_err-wanted.ensures.0

pub returns-in_err-wanted-clause-width : goal.returns-in_err-wanted-clause-width
returns-in_err-wanted-clause-width g c = IfOk-from_err c.from_residual-in_err-wanted.result _ c.from_residual-in_err-wanted.ensures.0

pub returns-in_err-wanted-clause-err : goal.returns-in_err-wanted-clause-err
returns-in_err-wanted-clause-err g c = memory_passed _ c.from_residual-in_err-wanted.result c.from_residual-in_err-wanted.ensures.1

pub passing_rows-requires : goal.passing_rows-requires
passing_rows-requires g c =
    let width = length c.args.items.now.items in
    let wide = c.in_ok-sorted.sorted.width in
    let same : c.args.rows.width ≡ wide = sym (c.in_ok-sorted.ensures.width ∙ c.in_ok-first.ensures.width) in
    subst (λ n. n ≤ wide) (sym (c.len-2.ensures ∙ c.args.items.now.ok.0)) (subst (λ n. width ≤ n) same c.requires)

pub returns-clause-ok : goal.returns-clause-ok
returns-clause-ok g c =
    let names = c.args.scope.now.names.now in
    let p = projection_view c.args.clause.now.projection.now in
    let ready = c.in_ok-wanted.ensures in
    let same = sym (prepared_passing c.in_ok-wanted.wanted (parameters_view c.args.scope.now.query.now.parameters.now) c.args.graph.now names (option_map expression_view c.args.clause.now.condition.now)
    c.len-2.result (cut_of (cut_view c.args.cut) (table c.in_ok-sorted.sorted)) ready.tree ready.names ready.parameters) in
    IfOk-weaker c.passing_rows.result _ _
    (λ found passes. passed_on (parameters_view c.args.scope.now.query.now.parameters.now) c.args.graph.now names (expressions_view c.args.items.now.items) p.distinct p.order
    (cut_view c.args.cut) (option_map expression_view c.args.clause.now.condition.now) (length c.args.items.now.items) (table c.args.rows) (table c.in_ok-first.first) c.in_ok-first.ensures.rows
    (cut_of (cut_view c.args.cut) (table c.in_ok-sorted.sorted))
    (option_map expression_view c.args.clause.now.condition.now) c.len-2.result c.in_ok-sorted.ensures.ok refl (c.len-2.ensures ∙ c.args.items.now.ok.0) (Ok (table found)) (same ∙ passes))
    c.passing_rows.ensures.ok

pub returns-clause-width : goal.returns-clause-width
returns-clause-width g c = IfOk-weaker c.passing_rows.result _ _ (λ found wide. wide ∙ c.len-2.ensures ∙ c.args.items.now.ok.0) c.passing_rows.ensures.width

pub returns-clause-err : goal.returns-clause-err
returns-clause-err g c =
    let names = c.args.scope.now.names.now in
    let p = projection_view c.args.clause.now.projection.now in
    let ready = c.in_ok-wanted.ensures in
    let same = sym (prepared_passing c.in_ok-wanted.wanted (parameters_view c.args.scope.now.query.now.parameters.now) c.args.graph.now names (option_map expression_view c.args.clause.now.condition.now)
    c.len-2.result (cut_of (cut_view c.args.cut) (table c.in_ok-sorted.sorted)) ready.tree ready.names ready.parameters) in
    IfErr-weaker c.passing_rows.result _ _
    (λ e fails other. passed_on (parameters_view c.args.scope.now.query.now.parameters.now) c.args.graph.now names (expressions_view c.args.items.now.items) p.distinct p.order
    (cut_view c.args.cut) (option_map expression_view c.args.clause.now.condition.now) (length c.args.items.now.items) (table c.args.rows) (table c.in_ok-first.first) c.in_ok-first.ensures.rows
    (cut_of (cut_view c.args.cut) (table c.in_ok-sorted.sorted))
    (option_map expression_view c.args.clause.now.condition.now) c.len-2.result c.in_ok-sorted.ensures.ok refl (c.len-2.ensures ∙ c.args.items.now.ok.0) (Err e) (same ∙ fails other))
    c.passing_rows.ensures.err
