use Rattle.std.proofs.Common.{drop}
use Rattle.pg_run.proofs.Items.{ItemsWithin}
use Rattle.pg_run.proofs.Members.{MembersWithin}
use Rattle.pg_value_core.specs.View.{entries_view}
use Rattle.pg_run.proofs.spelling.+spell.Given as goal

abbrev pub invariant-spell_items-loop-item : goal.invariant-spell_items-loop-item
invariant-spell_items-loop-item g l = ItemsWithin l.graph l.initial.room l.room l.item-items (drop l.item-index l.item-items) l.found.items

abbrev pub invariant-spell_entries-loop-key : goal.invariant-spell_entries-loop-key
invariant-spell_entries-loop-key g l = MembersWithin l.graph l.initial.room l.room (entries_view l.fn.entries.entries) (entries_view l.key-iterator) l.found.items
