use Rattle.std.proofs.Common.{rules}
use Rattle.pg_server.proofs.FrameLemmas.{too_long, whole_frame, cut_frame, failed_frame}
use Rattle.pg_server.proofs.wire.read_frame.Goals as goal

pub returns-then-length-gt-MAX_BODY : goal.returns-then-length-gt-MAX_BODY
returns-then-length-gt-MAX_BODY g c = too_long _ _ _ _ _ _ c.in-Whole.ensures.fills c.fill.auto.buf c.in-Whole.ensures.bytes c.from_be_bytes-length.ensures _ c.if-length-gt-MAX_BODY.true c.from_be_bytes-length.type_inv

pub returns-in-Whole-fill : goal.returns-in-Whole-fill
returns-in-Whole-fill g c = whole_frame _ _ _ _ _ _ c.in-Whole.ensures.fills c.fill.auto.buf c.in-Whole.ensures.bytes c.from_be_bytes-length.ensures _ _ _ _ (search rules) c.if-length-gt-MAX_BODY.false c.in-Whole-fill.ensures.fills

pub returns-in-Ended-fill : goal.returns-in-Ended-fill
returns-in-Ended-fill g c = cut_frame _ _ _ _ _ _ c.in-Whole.ensures.fills c.fill.auto.buf c.in-Whole.ensures.bytes c.from_be_bytes-length.ensures _ _ _ _ (search rules) c.if-length-gt-MAX_BODY.false _ c.in-Ended-fill.ensures.fills

pub returns-in-Failed-fill : goal.returns-in-Failed-fill
returns-in-Failed-fill g c = failed_frame _ _ _ _ _ _ c.in-Whole.ensures.fills c.fill.auto.buf c.in-Whole.ensures.bytes c.from_be_bytes-length.ensures _ _ _ _ (search rules) c.if-length-gt-MAX_BODY.false c.in-Failed-fill.ensures.fills
