use Rattle.std.proofs.Common.{rules}
use Rattle.pg_rows.proofs.Taken.{more_left}
use Rattle.pg_rows.proofs.left.RowsLeft.next_into.Goals as goal

pub overflow_add-self : goal.overflow_add-self
overflow_add-self c =
    let below = more_left c.args.self.now c.requires in
    search (rules, below)
