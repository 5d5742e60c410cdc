use Rattle.std.proofs.Common.{◌≡◌, length, map, sym, subst, ◌∙◌}
use Rattle.std.proofs.lemmas.Result.{IfOk-from_err, IfOk-weaker}
use Rattle.std.specs.List.{AllByRecursion}
use Rattle.pg_project.proofs.SortColumns.{keys_picked}
use Rattle.pg_project.proofs.SortedRows.{let_in}
use Rattle.pg_project.proofs.Wide.{table_wide}
use Rattle.pg_project.specs.Cuts.{cut_view}
use Rattle.pg_project.specs.Sources.{source_directions}
use Rattle.pg_rows.specs.Sorts.{directions_of, least_places, picked}
use Rattle.pg_rows.specs.Tables.{EachBelow, table}
use Rattle.pg_project.proofs.sorting.rows_by_keys.Goals as goal

pub returns-in_err-sorts-clause-rows : goal.returns-in_err-sorts-clause-rows
returns-in_err-sorts-clause-rows c = IfOk-from_err c.from_residual.result _ c.from_residual.ensures.0

pub returns-in_err-sorts-clause-width : goal.returns-in_err-sorts-clause-width
returns-in_err-sorts-clause-width c = IfOk-from_err c.from_residual.result _ c.from_residual.ensures.0

pub returns-in_err-places-clause-rows : goal.returns-in_err-places-clause-rows
returns-in_err-places-clause-rows c = IfOk-from_err c.from_residual-in_err-places.result _ c.from_residual-in_err-places.ensures.0

pub returns-in_err-places-clause-width : goal.returns-in_err-places-clause-width
returns-in_err-places-clause-width c = IfOk-from_err c.from_residual-in_err-places.result _ c.from_residual-in_err-places.ensures.0

pub pick-requires : goal.pick-requires
pick-requires c =
    subst (λ n. EachBelow n c.deref.result.now) c.requires.len (subst (EachBelow (length (table c.args.keys.now))) (sym c.deref.ensures.value) c.in_ok-places.ensures.below)

pub returns-clause-rows : goal.returns-clause-rows
returns-clause-rows c =
    let keys = table c.args.keys.now in
    let most = c.reach-most.result in
    let sorts = c.in_ok-sorts.sorts.items in
    let ds = source_directions c.args.sources.now.items in
    let wide : AllByRecursion (λ k. length k ≡ length c.args.sources.now.items) keys = subst (λ n. AllByRecursion (λ k. length k ≡ n) keys) c.requires.width (table_wide c.args.keys.now) in
    let same : map (picked sorts) keys ≡ keys = keys_picked sorts (length c.args.sources.now.items) c.in_ok-sorts.ensures.keys keys wide in
    let named = c.as_slice.ensures.value in
    let least : c.in_ok-places.places.items ≡ least_places most ds keys =
    c.in_ok-places.ensures.places
    ∙ (λ i. least_places most (directions_of (named i)) (map (picked (named i)) keys))
    ∙ (λ i. least_places most (c.in_ok-sorts.ensures.directions i) (same i)) in
    IfOk-weaker c.pick.result _ _
    (λ found moved. let_in (cut_view c.args.cut) c.args.rows.width c.len.result most (table c.args.rows) keys (table found) ds c.deref.result.now
    c.reach-most.ensures c.len.ensures (c.deref.ensures.value ∙ least) (subst (λ n. EachBelow n c.deref.result.now) c.requires.len (subst (EachBelow (length keys)) (sym c.deref.ensures.value) c.in_ok-places.ensures.below)) moved)
    c.pick.ensures.rows
