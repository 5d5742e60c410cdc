use Rattle.std.proofs.Common.{arith}
use Rattle.pg_rows.proofs.Taken.{none_left}
use Rattle.pg_rows.proofs.left.RowsLeft.next_row.Goals as goal

pub returns-then-self-clause-none : goal.returns-then-self-clause-none
returns-then-self-clause-none c =
    let l = c.args.self.now in
    none_left l.rows l.at (omega arith)
