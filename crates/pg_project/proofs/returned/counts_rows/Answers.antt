use Rattle.std.proofs.Common.{◌==◌, sym, ap, subst, ◌∙◌}
use Rattle.pg_meaning.specs.Aggregates.{aggregate_named}
use Rattle.pg_project.proofs.Counting.{taken_alone}
use Rattle.pg_project.specs.Returned.{CountsRows}
use Rattle.pg_scope.specs.Calls.{summary_view}
use Rattle.pg_syntax_tree.proofs.Views.{call_is}
use Rattle.pg_syntax_tree.specs.View.{expression_view, name_view}
use Rattle.pg_project.proofs.returned.counts_rows.Goals as goal

pub returns-then-is_empty : goal.returns-then-is_empty
returns-then-is_empty c = λ some.
    let name = c.in-Call.name in
    let arguments = c.in-Call.arguments in
    subst CountsRows (sym (ap expression_view c.in-Call.is ∙ call_is name c.in-Call.field-1 c.in-Call.field-2 arguments))
    (taken_alone summary_view c.summary_named.result expression_view (name_view name) c.in-Call.field-1 c.in-Call.field-2 arguments.items (c.summary_named.ensures ∙ ap aggregate_named c.as_str.ensures.value) (sym c.is_some.ensures ∙ some) (sym (ap (λ n. n == 0) arguments.ok.0) ∙ sym c.is_empty.ensures ∙ c.if-is_empty.true))
