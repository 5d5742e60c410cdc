use Rattle.std.proofs.Common.{rules}
use Rattle.pg_rows.proofs.Taken.{row_taken}
use Rattle.pg_rows.proofs.table.Rows.take_row.Goals as goal

pub returns-clause-row : goal.returns-clause-row
returns-clause-row c =
    let r = c.args.self.now in
    row_taken r.width r.count c.args.at r.values.items _ _ _ c.requires r.sized c.in_ok-move_row.ensures.moved c.in_ok-move_row.ensures.left (search rules)
