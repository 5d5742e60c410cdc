use Rattle.std.proofs.Common.{take}
use Rattle.pg_json.specs.Telling.{HasNamed}
use Rattle.pg_run.proofs.reply_writer.ReplyWriter.begin.Given as goal

abbrev pub invariant-loop-at : goal.invariant-loop-at
invariant-loop-at l = HasNamed l.head (take l.at l.columns)
