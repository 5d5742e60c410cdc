use Rattle.std.proofs.Common.{refl}
use Rattle.pg_run.proofs.Tells.{begun}
use Rattle.pg_run.proofs.reply_writer.ReplyWriter.behind.Goals as goal

pub returns : goal.returns
returns c = λ names named. λ graph. begun graph c.args.notes _ _ refl refl (c.in_ok-end.ensures names named)
