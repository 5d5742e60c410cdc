use Rattle.std.proofs.Common.{rules}
use Rattle.pg_rows.proofs.Taken.{row_behind, others_left}
use Rattle.pg_rows.proofs.table.Rows.take_into.Goals as goal

pub returns-clause-values : goal.returns-clause-values
returns-clause-values c =
    let behind = row_behind c.args.self.now c.args.at c.move_row.new.moved.items c.args.values.now.items c.requires in
    let moved = c.move_row.ensures.moved in
    search (rules, behind, moved)

pub returns-clause-rows : goal.returns-clause-rows
returns-clause-rows c =
    let left = others_left c.args.self.now c.args.at c.move_row.new.values.items c.requires in
    let kept = c.move_row.ensures.left in
    search (rules, left, kept)
