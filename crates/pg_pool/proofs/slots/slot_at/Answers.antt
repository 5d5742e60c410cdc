use Rattle.pg_pool.proofs.PageSlots.{slot_below}
use Rattle.pg_pool.proofs.slots.slot_at.Goals as goal

pub returns : goal.returns
returns c = slot_below _ c.if-place-eq0.false
