use Rattle.std.proofs.Common.{◌≤◌, drop, sym, ap, subst, ◌∙◌}
use Rattle.std.proofs.lemmas.Result.{IfOk-weaker, IfErr-weaker}
use Rattle.pg_expr.specs.Prepared.{condition_of, names_of, parameters_of}
use Rattle.pg_project.proofs.Conditions.{cut_taken}
use Rattle.pg_project.specs.Cuts.{cut_view}
use Rattle.pg_project.specs.Given.{passing_given}
use Rattle.pg_rows.specs.Left.{rows_left}
use Rattle.pg_rows.specs.Tables.{table}
use Rattle.pg_project.proofs.passing.passing_rows.Goals as goal

pub first_rows-requires : goal.first_rows-requires
first_rows-requires g c = subst (λ n. c.args.width ≤ n) (sym (c.skip.ensures.width ∙ c.into_left-left.ensures.width)) c.requires

pub returns-clause-ok : goal.returns-clause-ok
returns-clause-ok g c =
    let cut = cut_view c.args.cut in
    let taken = cut_taken cut (table c.args.rows) (rows_left c.skip.new.self) c.unwrap_or-most.result c.len.result c.unwrap_or-most.ensures c.len.ensures (c.skip.ensures.rows ∙ (λ i. drop cut.skip (c.into_left-left.ensures.rows i))) in
    IfOk-weaker c.first_rows.result _ _
    (λ found passes. ap (λ rows. passing_given (parameters_of c.args.wanted.now) c.args.graph.now (names_of c.args.wanted.now) (condition_of c.args.wanted.now) c.args.width rows) (sym taken) ∙ passes)
    c.first_rows.ensures.ok

pub returns-clause-width : goal.returns-clause-width
returns-clause-width g c = c.first_rows.ensures.width

pub returns-clause-err : goal.returns-clause-err
returns-clause-err g c =
    let cut = cut_view c.args.cut in
    let taken = cut_taken cut (table c.args.rows) (rows_left c.skip.new.self) c.unwrap_or-most.result c.len.result c.unwrap_or-most.ensures c.len.ensures (c.skip.ensures.rows ∙ (λ i. drop cut.skip (c.into_left-left.ensures.rows i))) in
    IfErr-weaker c.first_rows.result _ _
    (λ e fails other. ap (λ rows. passing_given (parameters_of c.args.wanted.now) c.args.graph.now (names_of c.args.wanted.now) (condition_of c.args.wanted.now) c.args.width rows) (sym taken) ∙ fails other)
    c.first_rows.ensures.err
