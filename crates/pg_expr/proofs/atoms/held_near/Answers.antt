use Rattle.std.proofs.Common.{sym, arith}
use Rattle.pg_expr.proofs.RowReads.{past_row}
use Rattle.pg_expr.proofs.atoms.held_near.Goals as goal

pub returns-else-at-context : goal.returns-else-at-context
returns-else-at-context c =
    let s = c.args.context.now in
    sym (past_row c.args.name.now s.names.now s.row.now c.in-Some.at (sym c.in-Some.ensures) (omega arith))
