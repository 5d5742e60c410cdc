use Rattle.std.proofs.Common.{sym, ap, ◌∙◌}
use Rattle.pg_project.proofs.RowCounts.{alone}
use Rattle.pg_project.specs.ReadyItems.{keys_of}
use Rattle.pg_project.proofs.rows.take_row.Goals as goal

pub take_by_one-requires-clause-key : goal.take_by_one-requires-clause-key
take_by_one-requires-clause-key g c =
    ap (keys_of c.args.context.now.names.now) (sym (alone c.as_slice.result.now c.args.items.now.keys.items c.one-item.result c.as_slice.ensures.value c.in-len1.len_at_least c.in-len1.len_below c.one-item.is))
    ∙ c.requires.ready.keys
