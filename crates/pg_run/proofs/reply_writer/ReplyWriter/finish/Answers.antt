use Rattle.std.proofs.Common.{rules}
use Rattle.pg_run.proofs.Tells.{ends_in_fault, ends_too_long, ends_written}
use Rattle.pg_run.specs.Told.{printed_rows}
use Rattle.pg_run.proofs.reply_writer.ReplyWriter.finish.Goals as goal

pub returns-in-Some : goal.returns-in-Some
returns-in-Some c = λ notes graph columns rows h. record { ok = tt; err = λ other. ends_in_fault graph notes columns rows c.args.steps c.args.self h c.in-Some.fault c.in-Some.is other }

pub returns-then-self-eq0 : goal.returns-then-self-eq0
returns-then-self-eq0 c = λ notes graph columns rows h. record { ok = tt; err = λ other. ends_too_long graph notes columns rows c.args.steps c.args.self h (search rules) (search rules) }

pub returns : goal.returns
returns c = λ notes graph columns rows h.
    ends_written graph notes columns rows c.args.steps c.args.self h c.finish.result (search rules) (search rules)
    (c.finish.ensures.ok notes columns (printed_rows graph rows)) c.finish.ensures.within c.finish.ensures.kind (c.finish.ensures.long notes columns (printed_rows graph rows))
