use Rattle.std.proofs.Common.{◌+◌, ◌≤◌, List, ◌++◌, drop, false, length, map, option_map, option_to_list, refl, sym, ap, subst, ◌∙◌}
use Rattle.std.proofs.lemmas.List.{append-nil, length_push}
use Rattle.std.proofs.lemmas.Result.{IfOk-from_err}
use Rattle.std.specs.Vec.Iter.{into_iter_items}
use Rattle.pg_project.proofs.Merging.{left_grouped, left_told, next_value, one_fewer, one_grouped, one_told, values_left}
use Rattle.pg_project.proofs.Turns.{map_behind, none_left}
use Rattle.pg_project.specs.Kept.{merged, told_each}
use Rattle.pg_project.specs.KeptGroups.{aggregates_among}
use Rattle.pg_project.specs.Summaries as summaries
use Rattle.pg_project.specs.Views.{taken_view, takens_view}
use Rattle.pg_project.specs.declared.taken.Taken.{Taken}
use Rattle.pg_meaning.specs.Projections.{first_or_null}
use Rattle.pg_value_core.specs.View.{view}
use Rattle.pg_project.proofs.told.tell_row.Goals as goal
use Rattle.pg_project.proofs.told.tell_row.Goals.{then-is_aggregate+in_ok-value, else-is_aggregate}

pub loop-is_aggregate-init : goal.loop-is_aggregate-init
loop-is_aggregate-init c = (
  (λ i. map view (c.requires i) ++ merged c.args.are_aggregates.now.items (map view (c.into_iter-keys.ensures.rest i)) (told_each (takens_view (into_iter_items c.args.left.now)))),
  ap length c.requires,
  refl,
)

pub returns-in_err-push-clause-values : goal.returns-in_err-push-clause-values
returns-in_err-push-clause-values c = IfOk-from_err c.from_residual-in_err-push.result _ c.from_residual-in_err-push.ensures.0

pub returns-in_err-push-clause-left : goal.returns-in_err-push-clause-left
returns-in_err-push-clause-left c = IfOk-from_err c.from_residual-in_err-push.result _ c.from_residual-in_err-push.ensures.0

pub returns-in_err-push-clause-len : goal.returns-in_err-push-clause-len
returns-in_err-push-clause-len c = IfOk-from_err c.from_residual-in_err-push.result _ c.from_residual-in_err-push.ensures.0

pub returns-clause-values : goal.returns-clause-values
returns-clause-values c =
    let l = c.loop-is_aggregate in
    let found = map view l.row.items in
    let none = none_left c.args.are_aggregates.now.items l.is_aggregate-index (subst (λ bs. length bs ≤ l.is_aggregate-index) c.deref-is_aggregate-items.ensures.value c.loop-is_aggregate-test.false) in
    sym (append-nil found) ∙ ap (λ bs. found ++ merged bs (map view (into_iter_items l.keys)) (told_each (takens_view (into_iter_items l.left)))) (sym none) ∙ l.invariant.0

pub returns-clause-left : goal.returns-clause-left
returns-clause-left c =
    let l = c.loop-is_aggregate in
    let none = none_left c.args.are_aggregates.now.items l.is_aggregate-index (subst (λ bs. length bs ≤ l.is_aggregate-index) c.deref-is_aggregate-items.ensures.value c.loop-is_aggregate-test.false) in
    ap (λ bs. drop (aggregates_among bs) (into_iter_items l.left)) (sym none) ∙ l.invariant.2

pub loop-is_aggregate-preserved : goal.loop-is_aggregate-preserved
loop-is_aggregate-preserved c =
    let l = c.loop-is_aggregate in
    let joined = c.if-is_aggregate in
    let kinds = c.args.are_aggregates.now.items in
    let told = λ (ts : List Taken). told_each (takens_view ts) in
    let last = λ (t : Taken). summaries.told (taken_view t).held in
    let key = map view (into_iter_items l.keys) in
    let pushed = ap (map view) c.in_ok-push.ensures.items ∙ map_behind view l.row.items joined.value in (
      elim joined.branch [
        | then-is_aggregate+in_ok-value w ↦ one_told c.deref-is_aggregate-items.result.now kinds c.deref-is_aggregate-items.ensures.value l.is_aggregate-index false c.loop-is_aggregate-test.true key (told (into_iter_items l.left)) (map view l.row.items) (map view c.push.new.self.items) (merged kinds (map view c.args.key.items) (told (into_iter_items c.args.left.now))) (view joined.value) pushed l.invariant.0 w.if-is_aggregate.true
            (map view (into_iter_items joined.keys)) (told (into_iter_items joined.left))
            (ap view w.value-is ∙ w.in_ok-value.ensures ∙ next_value told last refl (λ t ts. refl) l.left w.next.new.self (λ o. first_or_null (told_each (option_to_list (option_map taken_view o)))) refl (λ t. refl) w.next.result w.next.ensures.cases)
            (ap (λ ks. map view (into_iter_items ks)) w.keys-is)
            (values_left told last refl (λ t ts. refl) l.left w.next.new.self w.next.result w.next.ensures.cases ∙ sym (ap (λ ts. told (into_iter_items ts)) w.left-is))
        | else-is_aggregate w ↦ one_grouped c.deref-is_aggregate-items.result.now kinds c.deref-is_aggregate-items.ensures.value l.is_aggregate-index false c.loop-is_aggregate-test.true key (told (into_iter_items l.left)) (map view l.row.items) (map view c.push.new.self.items) (merged kinds (map view c.args.key.items) (told (into_iter_items c.args.left.now))) (view joined.value) pushed l.invariant.0 w.if-is_aggregate.false
            (map view (into_iter_items joined.keys)) (told (into_iter_items joined.left))
            (ap view w.value-is ∙ w.or_null-value.ensures ∙ next_value (map view) view refl (λ v vs. refl) l.keys w.next-else-is_aggregate.new.self (λ o. first_or_null (option_to_list (option_map view o))) refl (λ v. refl) w.next-else-is_aggregate.result w.next-else-is_aggregate.ensures.cases)
            (values_left (map view) view refl (λ v vs. refl) l.keys w.next-else-is_aggregate.new.self w.next-else-is_aggregate.result w.next-else-is_aggregate.ensures.cases ∙ sym (ap (λ ks. map view (into_iter_items ks)) w.keys-is))
            (ap (λ ts. told (into_iter_items ts)) w.left-is)
      ],
      ap length c.in_ok-push.ensures.items ∙ length_push l.row.items joined.value ∙ ap (λ n. n + 1) l.invariant.1,
      elim joined.branch [
        | then-is_aggregate+in_ok-value w ↦ left_told c.deref-is_aggregate-items.result.now kinds c.deref-is_aggregate-items.ensures.value l.is_aggregate-index false c.loop-is_aggregate-test.true (into_iter_items l.left) (into_iter_items joined.left) (drop (aggregates_among kinds) (into_iter_items c.args.left.now)) l.invariant.2 w.if-is_aggregate.true
            (one_fewer l.left w.next.new.self w.next.result w.next.ensures.cases ∙ sym (ap into_iter_items w.left-is))
        | else-is_aggregate w ↦ left_grouped c.deref-is_aggregate-items.result.now kinds c.deref-is_aggregate-items.ensures.value l.is_aggregate-index false c.loop-is_aggregate-test.true (into_iter_items l.left) (into_iter_items joined.left) (drop (aggregates_among kinds) (into_iter_items c.args.left.now)) l.invariant.2 w.if-is_aggregate.false
            (sym (ap into_iter_items w.left-is))
      ],
    )
