use Rattle.std.proofs.Common.{refl}
use Rattle.pg_run.proofs.Tells.{row_begun}
use Rattle.pg_run.specs.Told.{printed_rows}
use Rattle.pg_run.proofs.reply_writer.ReplyWriter.begin_row.Goals as goal

pub returns-in_ok-begin_row-clause-telling : goal.returns-in_ok-begin_row-clause-telling
returns-in_ok-begin_row-clause-telling c = λ notes graph columns rows h.
    row_begun graph notes columns rows c.args.self.now _ h refl refl (λ none some was. c.in_ok-begin_row.ensures notes columns (printed_rows graph rows) was)

pub returns-else-may_fit-clause-telling : goal.returns-else-may_fit-clause-telling
returns-else-may_fit-clause-telling c = λ notes graph columns rows h.
    row_begun graph notes columns rows c.args.self.now _ h refl refl (λ none some was. absurd (some (c.may_fit.ensures.not c.if-may_fit.false none)))
