use Rattle.std.proofs.Common.{◌-◌, ◌+◌, length, string_bytes, sym, ap, ◌∙◌, refl}
use Rattle.serde_json.specs.Data.{string}
use Rattle.pg_json.specs.Replies.{text_items}
use Rattle.pg_json.specs.Room.{items_least}
use Rattle.pg_json.proofs.Rooms.{behind_both, behind_item, behind_items}
use Rattle.pg_json.proofs.room.room_before_properties.Goals as goal

pub loop-label-init : goal.loop-label-init
loop-label-init c = refl

pub loop-label-preserved : goal.loop-label-preserved
loop-label-preserved c =
    let l = c.loop-label in
    let label = c.label-item.result in
    l.invariant ∙ behind_item (λ t. string (string_bytes t)) l.left c.room_behind_text-left.result c.args.labels.now l.label-index label c.loop-label-test.true c.label-item.is
    (c.room_behind_text-left.ensures ∙ ap (λ s. c.saturating_sub.result - (length s + 2)) c.deref.ensures ∙ ap (λ r. r - (length (string_bytes label) + 2)) c.saturating_sub.ensures)

pub returns : goal.returns
returns c =
    let l = c.loop-label in
    let named = items_least (text_items c.args.labels.now) in
    behind_both c.args.room c.saturating_sub-left.result l.left (36 + c.digits.result) named _ (ap (λ n. 36 + n + named) c.digits.ensures.count) c.saturating_sub-left.ensures
    (sym (l.invariant ∙ behind_items (λ t. string (string_bytes t)) l.left c.args.labels.now l.label-index c.loop-label-test.false))
