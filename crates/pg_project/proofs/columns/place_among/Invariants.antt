use Rattle.std.proofs.Common.{◌≡◌}
use Rattle.std.specs.BTreeSet.{insert_key}
use Rattle.pg_meaning.specs.Order.{text_order}
use Rattle.pg_project.proofs.ByteOrder.{put_later}
use Rattle.pg_project.specs.Columns.{texts_of}
use Rattle.pg_project.proofs.columns.place_among.Given as goal

abbrev pub invariant-loop-at : goal.invariant-loop-at
invariant-loop-at l = insert_key text_order (texts_of l.texts) l.text ≡ put_later l.texts l.text l.at
