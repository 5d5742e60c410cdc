use Rattle.std.proofs.Common.{◌+◌, drop, sym, ap, ◌∙◌}
use Rattle.pg_meaning.specs.Equality.{is_in3}
use Rattle.pg_meaning.specs.Logic.{or3}
use Rattle.pg_value_core.specs.View.{view, values_view}
use Rattle.pg_value.proofs.Steps.{is_in_step, is_in_done}
use Rattle.pg_value.proofs.Tables.{or_true}
use Rattle.pg_value.proofs.membership.is_in_items.Goals as goal

pub loop-item-preserved : goal.loop-item-preserved
loop-item-preserved c =
    let l = c.loop-item in
    is_in_step l.any c.or-any.result c.args.value.now c.deref-item-items.result.now l.item-index c.item-item.result c.loop-item-test.true c.item-item.is (c.or-any.ensures ∙ ap (or3 l.any) c.equals.ensures)
    ∙ l.invariant

pub returns-in-True : goal.returns-in-True
returns-in-True c =
    let l = c.loop-item in
    let items = c.deref-item-items.result.now in
    let left = is_in3 (view c.args.value.now) (values_view (drop (l.item-index + 1) items)) in
    sym (or_true left) ∙ ap (λ any. or3 any left) (sym c.in-True.is)
    ∙ is_in_step l.any c.or-any.result c.args.value.now items l.item-index c.item-item.result c.loop-item-test.true c.item-item.is (c.or-any.ensures ∙ ap (or3 l.any) c.equals.ensures)
    ∙ l.invariant ∙ ap (λ vs. is_in3 (view c.args.value.now) (values_view vs)) c.deref-item-items.ensures.value

pub returns : goal.returns
returns c =
    let l = c.loop-item in
    is_in_done l.any c.args.value.now c.deref-item-items.result.now l.item-index c.loop-item-test.false ∙ l.invariant ∙ ap (λ vs. is_in3 (view c.args.value.now) (values_view vs)) c.deref-item-items.ensures.value
