use Rattle.std.proofs.Common.{◌≡◌, ◌++◌, ◌∷◌, [], append_assoc, drop, length, map, sym, ap, ◌∙◌}
use Rattle.std.proofs.lemmas.List.{append-nil, drop-map}
use Rattle.std.proofs.lemmas.Result.{IfOk-from_err}
use Rattle.std.specs.Vec.Iter.{into_iter_items}
use Rattle.pg_project.proofs.Merging.{told_of_all}
use Rattle.pg_project.specs.Kept.{Kept, merged, told_each}
use Rattle.pg_project.specs.KeptGroups.{aggregates_among, groups_of, parted}
use Rattle.pg_project.specs.Views.{taken_view, takens_view}
use Rattle.pg_rows.specs.Groups.{keys_view}
use Rattle.pg_rows.specs.Tables.{table}
use Rattle.pg_value_core.specs.View.{view}
use Rattle.pg_project.proofs.told.told_rows.Goals as goal

pub loop-key-init : goal.loop-key-init
loop-key-init c =
    let kinds = c.args.are_aggregates.now.items in
    let row_of = λ (k : Kept). merged kinds k.key (told_each k.taken) in (
      (λ i. c.new-found.ensures.rows i ++ map row_of (groups_of (keys_view (c.into_iter-key-iterator.ensures.into_iter_gives.0 i)) (parted (length (c.into_iter-key-iterator.ensures.into_iter_gives.0 i)) (aggregates_among kinds) (takens_view (c.into_iter-left.ensures.rest i))))),
      c.new-found.ensures.width ∙ c.len.ensures ∙ c.args.are_aggregates.now.ok.0,
      c.new-row.ensures.items,
    )

pub tell_row-requires : goal.tell_row-requires
tell_row-requires c = c.loop-key.invariant.2

pub returns-in_err-tell_row-clause-rows : goal.returns-in_err-tell_row-clause-rows
returns-in_err-tell_row-clause-rows c = IfOk-from_err c.from_residual.result _ c.from_residual.ensures.0

pub returns-in_err-tell_row-clause-width : goal.returns-in_err-tell_row-clause-width
returns-in_err-tell_row-clause-width c = IfOk-from_err c.from_residual.result _ c.from_residual.ensures.0

pub loop-key-preserved : goal.loop-key-preserved
loop-key-preserved c =
    let l = c.loop-key in
    let kinds = c.args.are_aggregates.now.items in
    let each = aggregates_among kinds in
    let row_of = λ (k : Kept). merged kinds k.key (told_each k.taken) in
    let keys = c.next.new.self in
    let before = takens_view (into_iter_items l.left) in
    let rest = map row_of (groups_of (keys_view keys) (parted (length keys) each (takens_view (into_iter_items c.tell_row.new.left)))) in
    let row = map view c.tell_row.new.row.items in
    let left : takens_view (into_iter_items c.tell_row.new.left) ≡ drop each before =
    ap takens_view c.in_ok-tell_row.ensures.left ∙ sym (drop-map taken_view each (into_iter_items l.left)) in (
      ap (λ rows. rows ++ rest) c.in_ok-push_from.ensures.rows
          ∙ append_assoc (table l.found) (row ∷ []) rest
          ∙ (λ i. table l.found ++ (c.in_ok-tell_row.ensures.values ∙ sym (told_of_all kinds (map view c.in-Some.key.items) before)) i ∷ map row_of (groups_of (keys_view keys) (parted (length keys) each (left i))))
          ∙ sym (λ i. table l.found ++ map row_of (groups_of (keys_view (c.in-Some.ensures.steps i)) (parted (length (c.in-Some.ensures.steps i)) each before)))
          ∙ l.invariant.0,
      c.in_ok-push_from.ensures.width ∙ l.invariant.1,
      c.in_ok-push_from.ensures.emptied,
    )

pub returns-in_err-push_from-clause-rows : goal.returns-in_err-push_from-clause-rows
returns-in_err-push_from-clause-rows c = IfOk-from_err c.from_residual-in_err-push_from.result _ c.from_residual-in_err-push_from.ensures.0

pub returns-in_err-push_from-clause-width : goal.returns-in_err-push_from-clause-width
returns-in_err-push_from-clause-width c = IfOk-from_err c.from_residual-in_err-push_from.result _ c.from_residual-in_err-push_from.ensures.0

pub returns-clause-rows : goal.returns-clause-rows
returns-clause-rows c =
    let l = c.loop-key in
    let kinds = c.args.are_aggregates.now.items in
    let found = table l.found in
    let row_of = λ (k : Kept). merged kinds k.key (told_each k.taken) in
    sym (append-nil found)
    ∙ ap (λ ks. found ++ map row_of (groups_of (keys_view ks) (parted (length ks) (aggregates_among kinds) (takens_view (into_iter_items l.left))))) (sym c.in-None.ensures.steps.0)
    ∙ l.invariant.0

pub returns-clause-width : goal.returns-clause-width
returns-clause-width c = c.loop-key.invariant.1
