use Rattle.std.proofs.Common.{take, ap, ◌∙◌}
use Rattle.pg_rows.proofs.Leasts.{map_take}
use Rattle.pg_rows.specs.Sorts.{entries_view, entry_of}
use Rattle.pg_rows.proofs.least_keys.cut.Goals as goal

pub returns-clause-least : goal.returns-clause-least
returns-clause-least c =
    let by = c.args.sorts.now in
    ap (entries_view by) c.truncate.ensures.items ∙ map_take (entry_of by) c.args.most c.sort_entries.new.entries.items ∙ ap (take c.args.most) c.in_ok-sort_entries.ensures.sorted
