use Rattle.std.proofs.Common.{◌-◌, ◌+◌, refl, length, decimal, string_bytes, sym, ap, ◌∙◌}
use Rattle.pg_json.specs.Replies.{data_of, named_outs, outs, text_items}
use Rattle.pg_json.specs.Room.{items_least, members_least}
use Rattle.pg_json.proofs.Rooms.{behind_both, behind_item, behind_items, members_behind, all_behind, nothing_behind, text_least, list_least, map_least, node_least, rel_least, path_least}
use Rattle.pg_json.proofs.room.+room.Goals as goal

pub room_behind-returns-in-Text : goal.room_behind-returns-in-Text
room_behind-returns-in-Text t c =
    let text = c.in-Text.text in
    rw c.in-Text.is (c.room_behind_text.ensures ∙ ap (λ s. c.args.room - (length s + 2)) c.deref.ensures ∙ ap (λ n. c.args.room - n) (text_least text))

pub room_behind-returns-in-List : goal.room_behind-returns-in-List
room_behind-returns-in-List t c =
    let parts = ap (λ es. 1 + items_least (outs es)) c.deref-in-List.ensures.value ∙ list_least c.in-List.items in
    rw c.in-List.is (behind_both c.args.room c.saturating_sub.result c.room_behind_items.result 1 _ _ parts c.saturating_sub.ensures c.room_behind_items.ensures)

pub room_behind-returns-in-Map : goal.room_behind-returns-in-Map
room_behind-returns-in-Map t c =
    let parts = ap (λ ms. 1 + members_least (named_outs ms)) c.deref-in-Map.ensures.value ∙ map_least c.in-Map.members in
    rw c.in-Map.is (behind_both c.args.room c.saturating_sub-in-Map.result c.room_behind_members.result 1 _ _ parts c.saturating_sub-in-Map.ensures c.room_behind_members.ensures)

pub room_behind-returns-in-Path : goal.room_behind-returns-in-Path
room_behind-returns-in-Path t c =
    let parts = ap (λ es. 11 + items_least (outs es)) c.deref-in-Path.ensures.value ∙ path_least c.in-Path.elements in
    rw c.in-Path.is (behind_both c.args.room c.saturating_sub-in-Path.result c.room_behind_items-in-Path.result 11 _ _ parts c.saturating_sub-in-Path.ensures c.room_behind_items-in-Path.ensures)

pub room_behind-returns-in-Node : goal.room_behind-returns-in-Node
room_behind-returns-in-Node t c =
    let n = c.in-Node in
    let parts =
    ap (λ ls. 36 + length (decimal n.id.0) + items_least (text_items ls) + members_least (named_outs c.deref-in-Node-2.result.now)) c.deref-in-Node.ensures.value
    ∙ ap (λ ms. 36 + length (decimal n.id.0) + items_least (text_items n.labels.items) + members_least (named_outs ms)) c.deref-in-Node-2.ensures.value
    ∙ node_least n.id n.labels n.properties in
    rw n.is (behind_both c.args.room c.room_before_properties-room.result c.room_behind_members-in-Node.result _ _ _ parts c.room_before_properties-room.ensures c.room_behind_members-in-Node.ensures)

pub room_behind-returns-in-Rel : goal.room_behind-returns-in-Rel
room_behind-returns-in-Rel t c =
    let r = c.in-Rel in
    let inside = members_least (named_outs r.properties.items) in
    let kind = c.room_behind_text-in-Rel.ensures ∙ ap (λ s. c.room_behind_ids-room.result - (length s + 2)) c.deref-in-Rel.ensures in
    let after = c.room_behind_members-in-Rel.ensures ∙ ap (λ ms. c.room_behind_text-in-Rel.result - members_least (named_outs ms)) c.deref-in-Rel-2.ensures.value in
    rw r.is (behind_both c.args.room c.room_behind_ids-room.result c.room_behind_members-in-Rel.result _ _ _ (rel_least r.id r.kind r.start r.end r.properties) c.room_behind_ids-room.ensures
    (behind_both c.room_behind_ids-room.result c.room_behind_text-in-Rel.result c.room_behind_members-in-Rel.result (length (string_bytes r.kind) + 2) inside _ refl kind after))

pub room_behind_items-loop-item-init : goal.room_behind_items-loop-item-init
room_behind_items-loop-item-init t c = refl

pub room_behind_items-loop-item-preserved : goal.room_behind_items-loop-item-preserved
room_behind_items-loop-item-preserved t c =
    let l = c.loop-item in
    l.invariant ∙ behind_item data_of l.room c.room_behind-room.result c.args.items.now l.item-index c.item-item.result c.loop-item-test.true c.item-item.is c.room_behind-room.ensures

pub room_behind_items-returns-then-room-eq0 : goal.room_behind_items-returns-then-room-eq0
room_behind_items-returns-then-room-eq0 t c = sym (c.loop-item.invariant ∙ nothing_behind c.loop-item.room _ c.if-room-eq0.true)

pub room_behind_items-returns : goal.room_behind_items-returns
room_behind_items-returns t c =
    let l = c.loop-item in
    sym (l.invariant ∙ behind_items data_of l.room c.args.items.now l.item-index c.loop-item-test.false)

pub room_behind_members-loop-key-preserved : goal.room_behind_members-loop-key-preserved
room_behind_members-loop-key-preserved t c =
    let l = c.loop-key in
    let first = c.room_behind_key.ensures ∙ ap (λ s. l.room - (length s + 4)) c.deref.ensures in
    l.invariant ∙ members_behind l.room c.room_behind-room.result c.room_behind_key.result c.args.members.now l.key-index c.loop-key-item.result c.loop-key-test.true c.loop-key-item.is first c.room_behind-room.ensures

pub room_behind_members-returns-then-room-eq0 : goal.room_behind_members-returns-then-room-eq0
room_behind_members-returns-then-room-eq0 t c = sym (c.loop-key.invariant ∙ nothing_behind c.loop-key.room _ c.if-room-eq0.true)

pub room_behind_members-returns : goal.room_behind_members-returns
room_behind_members-returns t c =
    let l = c.loop-key in
    sym (l.invariant ∙ all_behind l.room c.args.members.now l.key-index c.loop-key-test.false)
