use Rattle.std.proofs.Common.{◌≡◌, ℕ, ◌+◌, ◌*◌, ◌≤◌, length}
use Rattle.json.specs.Json.{items, members, value, parse_map}
use Rattle.serde_json.specs.Data.{no_members}
use Rattle.serde_json.specs.Read.{of_items, of_members, converted}
use Rattle.pg_json.specs.Given.{AreGiven, EntriesAreGiven, members_giving}
use Rattle.pg_json.proofs.Reading.{items_before}
use Rattle.pg_value_core.specs.View.{values_view, entries_view}
use Rattle.pg_json.proofs.parameters.+read.Given as goal

abbrev pub decreases-other_value : goal.decreases-other_value
decreases-other_value l = 4 * l.room

abbrev pub decreases-read_list : goal.decreases-read_list
decreases-read_list l = 4 * l.room + 2

abbrev pub decreases-add_item : goal.decreases-add_item
decreases-add_item l = 4 * l.room + 1

abbrev pub decreases-read_map : goal.decreases-read_map
decreases-read_map l = 4 * l.room + 3

abbrev pub decreases-read_members : goal.decreases-read_members
decreases-read_members l = 4 * l.room + 2

abbrev pub decreases-add_entry : goal.decreases-add_entry
decreases-add_entry l = 4 * l.room + 1

abbrev pub invariant-read_list-items : goal.invariant-read_list-items
invariant-read_list-items l =
    (n : ℕ) × (length l.reader ≤ n)
    × (converted of_items (items (value (l.room + 61)) (length l.initial.reader) l.initial.reader) ≡ parse_map (items_before l.found.items) (converted of_items (items (value (l.room + 61)) n l.reader)))
    × (length l.reader ≤ length l.initial.reader)
    × AreGiven l.room (values_view l.found.items)

abbrev pub decreases-read_list-items : goal.decreases-read_list-items
decreases-read_list-items l = length l.reader

abbrev pub invariant-read_members-members : goal.invariant-read_members-members
invariant-read_members-members l =
    (n : ℕ) × (length l.reader ≤ n)
    × (converted (λ ms. of_members ms no_members) (members (value (l.room + 61)) (length l.initial.reader) l.initial.reader)
    ≡ converted (λ ms. of_members ms (members_giving (entries_view l.found.entries))) (members (value (l.room + 61)) n l.reader))
    × (length l.reader ≤ length l.initial.reader)
    × EntriesAreGiven l.room (entries_view l.found.entries)

abbrev pub decreases-read_members-members : goal.decreases-read_members-members
decreases-read_members-members l = length l.reader
