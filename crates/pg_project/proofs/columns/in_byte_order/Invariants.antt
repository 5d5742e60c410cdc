use Rattle.std.proofs.Common.{◌≡◌, drop}
use Rattle.std.specs.List.Sorted.{IsStrictlySortedBy}
use Rattle.pg_meaning.specs.Names.{in_byte_order, put_texts}
use Rattle.pg_meaning.specs.Order.{text_order}
use Rattle.pg_project.specs.Columns.{texts_of}
use Rattle.pg_project.proofs.columns.in_byte_order.Given as goal

abbrev pub invariant-loop-at : goal.invariant-loop-at
invariant-loop-at l = (put_texts (drop l.at l.scope) (texts_of l.texts.items) ≡ in_byte_order l.scope) × IsStrictlySortedBy text_order (texts_of l.texts.items)
