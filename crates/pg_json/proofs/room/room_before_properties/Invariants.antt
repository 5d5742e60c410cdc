use Rattle.std.proofs.Common.{◌≡◌, ◌-◌, drop}
use Rattle.pg_json.specs.Replies.{text_items}
use Rattle.pg_json.specs.Room.{items_least}
use Rattle.pg_json.proofs.room.room_before_properties.Given as goal

abbrev pub invariant-loop-label : goal.invariant-loop-label
invariant-loop-label l = l.initial.left - items_least (text_items l.labels) ≡ l.left - items_least (text_items (drop l.label-index l.labels))
