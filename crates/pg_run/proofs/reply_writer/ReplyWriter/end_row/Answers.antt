use Rattle.std.proofs.Common.{map, refl}
use Rattle.pg_run.proofs.Tells.{row_ended}
use Rattle.pg_run.specs.Printed.{printed}
use Rattle.pg_run.specs.Told.{printed_rows}
use Rattle.pg_run.proofs.reply_writer.ReplyWriter.end_row.Goals as goal

pub returns-in_ok-end_row-clause-telling : goal.returns-in_ok-end_row-clause-telling
returns-in_ok-end_row-clause-telling c = λ notes graph columns rows values h.
    row_ended graph notes columns rows values c.args.self.now _ h refl c.saturating_sub-self.ensures (λ none some was. c.in_ok-end_row.ensures notes columns (printed_rows graph rows) (map (printed graph) values) was)

pub returns-else-may_fit-clause-telling : goal.returns-else-may_fit-clause-telling
returns-else-may_fit-clause-telling c = λ notes graph columns rows values h.
    row_ended graph notes columns rows values c.args.self.now _ h refl c.saturating_sub-self.ensures (λ none some was. absurd (some (c.may_fit.ensures.not c.if-may_fit.false none)))
