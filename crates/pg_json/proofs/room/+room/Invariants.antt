use Rattle.std.proofs.Common.{◌≡◌, ◌-◌, drop}
use Rattle.pg_json.specs.Replies.{outs, named_outs}
use Rattle.pg_json.specs.Room.{items_least, members_least}
use Rattle.pg_json.proofs.room.+room.Given as goal

-- what is left takes of the room what all takes of the whole
abbrev pub invariant-room_behind_items-loop-item : goal.invariant-room_behind_items-loop-item
invariant-room_behind_items-loop-item l = l.initial.room - items_least (outs l.items) ≡ l.room - items_least (outs (drop l.item-index l.items))

abbrev pub invariant-room_behind_members-loop-key : goal.invariant-room_behind_members-loop-key
invariant-room_behind_members-loop-key l = l.initial.room - members_least (named_outs l.members) ≡ l.room - members_least (named_outs (drop l.key-index l.members))
