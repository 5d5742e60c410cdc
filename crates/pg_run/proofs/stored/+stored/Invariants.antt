use Rattle.std.proofs.Common.{drop}
use Rattle.pg_run.proofs.Items.{ItemsStored}
use Rattle.pg_run.proofs.Members.{MembersStored}
use Rattle.pg_value_core.specs.View.{entries_view}
use Rattle.pg_run.proofs.stored.+stored.Given as goal

abbrev pub invariant-spell_stored_items-loop-item : goal.invariant-spell_stored_items-loop-item
invariant-spell_stored_items-loop-item l = ItemsStored l.items (drop l.item-index l.items) l.found.items

abbrev pub invariant-spell_stored_entries-loop-key : goal.invariant-spell_stored_entries-loop-key
invariant-spell_stored_entries-loop-key l = MembersStored (entries_view l.fn.entries.entries) (entries_view l.key-iterator) l.found.items
