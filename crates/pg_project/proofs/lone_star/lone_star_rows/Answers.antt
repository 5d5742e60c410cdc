use Rattle.std.proofs.Common.{◌≡◌, ◌≢◌, List, length, option_map, Ok, Err, IfOk, IfErr, sym, ap, subst, ◌∙◌}
use Rattle.std.proofs.lemmas.Result.{IfOk-weaker, IfErr-weaker}
use Rattle.std.specs.List.{AllByRecursion}
use Rattle.pg_meaning.specs.Value.{Value}
use Rattle.pg_meaning.specs.declared.fault.Fault.TheVariants.{OutOfMemory}
use Rattle.pg_project.proofs.Conditions.{prepared_passing, whole_passes}
use Rattle.pg_project.proofs.LoneStar.{star_gives}
use Rattle.pg_project.proofs.Wide.{table_wide}
use Rattle.pg_project.specs.Cuts.{cut_view}
use Rattle.pg_project.specs.Given.{cut_of, passing_given}
use Rattle.pg_rows.specs.Tables.{table}
use Rattle.pg_syntax_tree.specs.View.{expression_view, projection_view}
use Rattle.pg_value_core.specs.Given.{parameters_view}
use Rattle.pg_project.proofs.lone_star.lone_star_rows.Goals as goal

pub returns-then-lets_all_pass-clause-gives : goal.returns-then-lets_all_pass-clause-gives
returns-then-lets_all_pass-clause-gives g c = λ s given.
    let ps = parameters_view c.args.scope.now.query.now.parameters.now in
    let graph = c.args.graph.now in
    let names = c.args.scope.now.names.now in
    let p = projection_view c.args.clause.now.projection.now in
    let where_ = option_map expression_view c.args.clause.now.condition.now in
    let rows = c.args.rows in
    let cut = cut_view c.in_ok-cut.cut in
    let all = c.lets_all_pass.ensures c.if-lets_all_pass.true in
    let wide : AllByRecursion (λ r. length r ≡ length names) (table rows) = subst (λ n. AllByRecursion (λ r. length r ≡ n) (table rows)) c.requires.width (table_wide rows) in
    star_gives s graph ps given c.args.clause.now.naming p where_ names c.requires.star c.requires.rising cut c.in_ok-cut.ensures.ok rows c.requires.width
    (Ok rows) (whole_passes ps graph names where_ (length names) cut (table rows) all.0 all.1 wide) tt

pub returns-clause-gives : goal.returns-clause-gives
returns-clause-gives g c = λ s given.
    let ps = parameters_view c.args.scope.now.query.now.parameters.now in
    let graph = c.args.graph.now in
    let names = c.args.scope.now.names.now in
    let p = projection_view c.args.clause.now.projection.now in
    let where_ = option_map expression_view c.args.clause.now.condition.now in
    let cut = cut_view c.in_ok-cut.cut in
    let rows : List (List Value) = cut_of cut (table c.args.rows) in
    let result = c.passing_rows.result in
    let ready = c.in_ok-wanted.ensures in
    let same = sym (prepared_passing c.in_ok-wanted.wanted ps graph names where_ c.len.result rows ready.tree ready.names ready.parameters ∙ ap (λ n. passing_given ps graph names where_ n rows) c.len.ensures) in
    let ok : IfOk result (λ found. passing_given ps graph names where_ (length names) rows ≡ Ok (table found)) = IfOk-weaker result _ _ (λ found passes. same ∙ passes) c.passing_rows.ensures.ok in
    let err : IfErr result (λ e. e ≢ OutOfMemory → passing_given ps graph names where_ (length names) rows ≡ Err e) = IfErr-weaker result _ _ (λ e fails other. same ∙ fails other) c.passing_rows.ensures.err in
    star_gives s graph ps given c.args.clause.now.naming p where_ names c.requires.star c.requires.rising cut c.in_ok-cut.ensures.ok c.args.rows c.requires.width result ok err
