use Rattle.std.proofs.Common.{is_none, length, sym, ap, ◌∙◌}
use Rattle.std.proofs.lemmas.Result.{IfOk-from_err}
use Rattle.pg_project.proofs.UnwoundLemmas.{one_wider, told_none}
use Rattle.pg_project.specs.Unwound.{lists_view, rows_unwound, with_column}
use Rattle.pg_rows.specs.Tables.{table}
use Rattle.pg_project.proofs.unwind.unwound_table.Goals as goal

pub returns-in_err-add-clause-names : goal.returns-in_err-add-clause-names
returns-in_err-add-clause-names c = IfOk-from_err c.from_residual.result _ c.from_residual.ensures.0

pub returns-in_err-add-clause-rows : goal.returns-in_err-add-clause-rows
returns-in_err-add-clause-rows c = IfOk-from_err c.from_residual.result _ c.from_residual.ensures.0

pub returns-in_err-found-clause-names : goal.returns-in_err-found-clause-names
returns-in_err-found-clause-names c = IfOk-from_err c.from_residual-in_err-found.result _ c.from_residual-in_err-found.ensures.0

pub returns-in_err-found-clause-rows : goal.returns-in_err-found-clause-rows
returns-in_err-found-clause-rows c = IfOk-from_err c.from_residual-in_err-found.result _ c.from_residual-in_err-found.ensures.0

pub returns-clause-names : goal.returns-clause-names
returns-clause-names c = ap (λ t. t.names) c.new.ensures ∙ c.in_ok-add.ensures.added

pub new-requires : goal.new-requires
new-requires c = c.in_ok-found.ensures.width ∙ c.len.ensures

pub returns-clause-rows : goal.returns-clause-rows
returns-clause-rows c =
    ap (λ t. t.rows) c.new.ensures ∙ c.in_ok-found.ensures.rows ∙ ap (λ b. rows_unwound b (table c.args.rows) (lists_view c.args.lists.items)) (told_none c.find.result c.is_none-has_column.result c.is_none-has_column.ensures ∙ ap is_none c.find.ensures)

pub unwound-requires : goal.unwound-requires
unwound-requires c =
    c.len.ensures
    ∙ ap length c.in_ok-add.ensures.added
    ∙ one_wider c.args.name.now c.args.names
    ∙ (λ i. with_column (sym (told_none c.find.result c.is_none-has_column.result c.is_none-has_column.ensures ∙ ap is_none c.find.ensures) i) (sym c.requires i))
