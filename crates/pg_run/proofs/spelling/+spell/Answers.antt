use Rattle.std.proofs.Common.{rules, ◌-◌, length, string_bytes, Ok, refl, ap, subst, sym, ◌∙◌}
use Rattle.std.proofs.lemmas.List.{drop_all}
use Rattle.std.proofs.lemmas.Result.{err_from_is_err_and}
use Rattle.pg_json.specs.Room.{least}
use Rattle.pg_meaning.specs.Queries.{test_items}
use Rattle.pg_run.proofs.Items.{all_items_within, one_item_within}
use Rattle.pg_run.proofs.Members.{all_members_within, no_member_within, one_member_within}
use Rattle.pg_run.proofs.Spelts.{entries_spelt, refused}
use Rattle.pg_run.proofs.ValueLemmas.{entry_refused, item_refused}
use Rattle.pg_run.specs.Printed.{printed}
use Rattle.pg_run.specs.Spelt.{ListSpelt}
use Rattle.pg_scope.proofs.FirstLemmas.{item_here}
use Rattle.pg_value_core.specs.View.{entries_view, values_view, view}
use Rattle.pg_run.proofs.spelling.+spell.Goals as goal

pub spell_entries-loop-key-init : goal.spell_entries-loop-key-init
spell_entries-loop-key-init g t c = rw (c.into_iter-key-iterator.ensures.into_iter_gives, c.iter-key-items.ensures.rest, c.in_ok-found.ensures.items) (no_member_within c.args.graph.now c.args.room.now (entries_view c.args.entries.now.entries))

pub spell_entries-returns-in_err-out : goal.spell_entries-returns-in_err-out
spell_entries-returns-in_err-out g t c =
    let p = err_from_is_err_and c.from_residual-in_err-out.result c.from_residual-in_err-out.ensures.1 in
    rw (p.1, p.2) (refused (λ other. entry_refused c.args.graph.now _ _ _ _ _ _ (c.in-Some.key.now, c.in-Some.value.now) _ c.loop-key.invariant c.in-Some.ensures.steps (c.in_err-out.ensures.err other)))

pub spell_entries-loop-key-preserved : goal.spell_entries-loop-key-preserved
spell_entries-loop-key-preserved g t c =
    rw c.in_ok-push.ensures.items
    (one_member_within c.args.graph.now _ _ _ _ _ _ _ (string_bytes c.in-Some.key.now) (view c.in-Some.value.now) c.in_ok-name.name c.in_ok-out.out
    c.loop-key.invariant (ap entries_view c.in-Some.ensures.steps) (c.in_ok-name.ensures.ok ∙ c.as_str.ensures.value) c.in_ok-out.ensures.live
    (search (rules, c.in_ok-out.ensures.room)) c.in_ok-out.ensures.shown)

pub spell_entries-returns : goal.spell_entries-returns
spell_entries-returns g t c = all_members_within c.args.graph.now _ _ _ _ c.loop-key.found c.loop-key.invariant (ap entries_view c.in-None.ensures.steps.0)

pub spell_items-loop-item-init : goal.spell_items-loop-item-init
spell_items-loop-item-init g t c = rw c.in_ok-found.ensures.items (record { tests = refl; counted = refl; shown = λ some. refl })

pub spell_items-returns-in_err-spell : goal.spell_items-returns-in_err-spell
spell_items-returns-in_err-spell g t c =
    let p = err_from_is_err_and c.from_residual-in_err-spell.result c.from_residual-in_err-spell.ensures.1 in
    let graph = c.args.graph.now in
    rw (p.1, p.2) (refused (λ other. ap (λ vs. test_items graph (values_view vs)) (sym c.deref-item-items.ensures.value)
    ∙ item_refused graph _ _ _ _ _ _ c.item-item.result _ c.loop-item.invariant (item_here c.loop-item-test.true c.item-item.is refl) (c.in_err-spell.ensures.err other)))

pub spell_items-loop-item-preserved : goal.spell_items-loop-item-preserved
spell_items-loop-item-preserved g t c =
    rw c.in_ok-push.ensures.items
    (one_item_within c.args.graph.now _ _ _ _ _ _ _ c.item-item.result c.in_ok-spell.field-0 c.loop-item.invariant (item_here c.loop-item-test.true c.item-item.is refl) c.in_ok-spell.ensures.live
    (c.in_ok-spell.ensures.room ∙ ap (λ r. r - least (printed c.args.graph.now (view c.item-item.result))) c.saturating_sub.ensures) c.in_ok-spell.ensures.shown)

pub spell_items-returns : goal.spell_items-returns
spell_items-returns g t c =
    subst (λ vs. ListSpelt c.args.graph.now (values_view vs) (Ok c.loop-item.found) c.args.room.now c.loop-item.room) c.deref-item-items.ensures.value
    (all_items_within c.args.graph.now _ _ _ _ c.loop-item.found c.loop-item.invariant (ap length (drop_all c.loop-item.item-index c.deref-item-items.result.now c.loop-item-test.false)))

pub spell-returns-in-Map : goal.spell-returns-in-Map
spell-returns-in-Map g t c =
    entries_spelt c.args.graph.now c.args.value.now c.args.room.now c.spell_map.new.room c.in-Map.entries c.as_ref-in-Map.result.now c.spell_map.result c.in-Map.is c.as_ref-in-Map.ensures c.spell_map.ensures
