use Rattle.std.proofs.Common.{◌++◌, ◌∷◌, [], map, sym, ap, ◌∙◌}
use Rattle.std.proofs.lemmas.List.{map-append}
use Rattle.std.proofs.lemmas.Result.{IfOk-from_err, on_ok_weaker}
use Rattle.pg_project.proofs.Unwinding.{items_more}
use Rattle.pg_project.specs.Unwound.{with_item, with_items}
use Rattle.pg_rows.specs.Tables.{table}
use Rattle.pg_value_core.specs.View.{view}
use Rattle.pg_project.proofs.lists.push_items.Goals as goal

pub returns-in_err-push_copies-clause-rows : goal.returns-in_err-push_copies-clause-rows
returns-in_err-push_copies-clause-rows c = IfOk-from_err c.from_residual.result _ c.from_residual.ensures.0

pub returns-clause-rows : goal.returns-clause-rows
returns-clause-rows c =
    let row = map view c.args.row.items in
    let before = table c.args.found.now in
    let has_column = c.args.has_column in
    let others = c.pop.new.self.items in
    let last = c.in-Some.last in
    on_ok_weaker c.push_item.result
    (λ pushed.
    pushed
    ∙ ap (λ rows. rows ++ with_item has_column row (view last) ∷ []) (c.in_ok-push_copies.ensures.rows ∙ ap (λ vs. before ++ with_items has_column (map view vs) (map view others)) c.deref.ensures.value)
    ∙ items_more before has_column row (map view others) (view last)
    ∙ ap (λ vs. before ++ with_items has_column row vs) (sym (ap (map view) c.in-Some.ensures.items ∙ map-append view others (last ∷ []))))
    c.push_item.ensures.rows
