use Rattle.std.proofs.Common.{refl, ap, sym, ◌∙◌, length, string_bytes}
use Rattle.std.proofs.lemmas.List.{drop_all}
use Rattle.serde_json.specs.Data as json
use Rattle.pg_json.proofs.Elements.{data_map}
use Rattle.pg_run.proofs.Items.{one_item_stored, all_items_stored}
use Rattle.pg_run.proofs.Members.{one_member_stored, all_members_stored}
use Rattle.pg_run.proofs.ValueLemmas.{map_seen}
use Rattle.pg_run.specs.Printed.{stored_data, stored_members}
use Rattle.pg_scope.proofs.FirstLemmas.{item_here}
use Rattle.pg_value_core.specs.View.{view, entries_view}
use Rattle.pg_run.proofs.stored.+stored.Goals as goal

pub spell_stored_items-loop-item-init : goal.spell_stored_items-loop-item-init
spell_stored_items-loop-item-init t c = rw c.in_ok-found.ensures.items refl

pub spell_stored_items-loop-item-preserved : goal.spell_stored_items-loop-item-preserved
spell_stored_items-loop-item-preserved t c =
    rw c.in_ok-push.ensures.items
    (one_item_stored _ _ _ _ c.item-item.result c.in_ok-spell_stored.field-0 c.loop-item.invariant (item_here c.loop-item-test.true c.item-item.is refl) c.in_ok-spell_stored.ensures)

pub spell_stored_items-returns : goal.spell_stored_items-returns
spell_stored_items-returns t c = all_items_stored _ _ _ c.loop-item.invariant (ap length (drop_all c.loop-item.item-index c.args.items.now c.loop-item-test.false))

pub spell_stored_entries-loop-key-init : goal.spell_stored_entries-loop-key-init
spell_stored_entries-loop-key-init t c = rw (c.into_iter-key-iterator.ensures.into_iter_gives, c.iter-key-items.ensures.rest, c.in_ok-found.ensures.items) refl

pub spell_stored_entries-loop-key-preserved : goal.spell_stored_entries-loop-key-preserved
spell_stored_entries-loop-key-preserved t c =
    rw c.in_ok-push.ensures.items
    (one_member_stored _ _ _ _ (string_bytes c.in-Some.key.now) (view c.in-Some.value.now) c.in_ok-name.name c.in_ok-spell_stored.field-0 c.loop-key.invariant
    (ap entries_view c.in-Some.ensures.steps) (c.in_ok-name.ensures.ok ∙ c.as_str.ensures.value) c.in_ok-spell_stored.ensures)

pub spell_stored_entries-returns : goal.spell_stored_entries-returns
spell_stored_entries-returns t c = all_members_stored _ _ c.loop-key.found.items c.loop-key.invariant (ap entries_view c.in-None.ensures.steps.0)

pub spell_stored-returns-in_ok-spell_stored_entries-in-Map : goal.spell_stored-returns-in_ok-spell_stored_entries-in-Map
spell_stored-returns-in_ok-spell_stored_entries-in-Map t c =
    let told = c.in_ok-spell_stored_entries-in-Map in
    data_map told.field-0
    ∙ ap json.object told.ensures
    ∙ ap (λ m. json.object (stored_members (entries_view m.entries))) c.as_ref-in-Map.ensures
    ∙ ap stored_data (sym (map_seen c.args.value.now c.in-Map.entries c.in-Map.is))
