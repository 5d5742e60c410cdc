use Rattle.std.proofs.Common.{length, map, sym, subst, ◌∙◌}
use Rattle.std.proofs.lemmas.List.{length-map}
use Rattle.std.proofs.lemmas.Result.{IfOk-from_err, IfOk-weaker}
use Rattle.pg_project.proofs.SortedRows.{let_in}
use Rattle.pg_project.specs.Cuts.{cut_view}
use Rattle.pg_rows.specs.Sorts.{directions_of, picked}
use Rattle.pg_rows.specs.Tables.{EachBelow, table}
use Rattle.pg_project.proofs.sorting.sorted_rows.Goals as goal

pub returns-in_err-places-clause-rows : goal.returns-in_err-places-clause-rows
returns-in_err-places-clause-rows c = IfOk-from_err c.from_residual.result _ c.from_residual.ensures.0

pub returns-in_err-places-clause-width : goal.returns-in_err-places-clause-width
returns-in_err-places-clause-width c = IfOk-from_err c.from_residual.result _ c.from_residual.ensures.0

pub pick-requires : goal.pick-requires
pick-requires c = subst (EachBelow (length (table c.args.rows))) (sym c.deref.ensures.value) c.in_ok-places.ensures.below

pub returns-clause-rows : goal.returns-clause-rows
returns-clause-rows c =
    let rows = table c.args.rows in
    let keys = map (picked c.args.sorts.now) rows in
    IfOk-weaker c.pick.result _ _
    (λ found moved. let_in (cut_view c.args.cut) c.args.rows.width c.len.result c.reach-most.result rows keys (table found) (directions_of c.args.sorts.now) c.deref.result.now
    c.reach-most.ensures (c.len.ensures ∙ sym (length-map rows (picked c.args.sorts.now))) (c.deref.ensures.value ∙ c.in_ok-places.ensures.places) (subst (EachBelow (length rows)) (sym c.deref.ensures.value) c.in_ok-places.ensures.below) moved)
    c.pick.ensures.rows
