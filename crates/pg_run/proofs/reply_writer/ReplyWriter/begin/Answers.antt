use Rattle.std.proofs.Common.{sym, subst, take, arith}
use Rattle.pg_json.specs.Telling.{HasNamed}
use Rattle.pg_rows.proofs.Tabled.{all_taken}
use Rattle.pg_run.proofs.Tells.{take_here}
use Rattle.pg_run.proofs.reply_writer.ReplyWriter.begin.Goals as goal

pub loop-at-preserved : goal.loop-at-preserved
loop-at-preserved c =
    subst (HasNamed _) (sym (take_here c.args.columns.now c.loop-at.at c.name.result.now c.name.ensures)) (c.in_ok-name.ensures (take c.loop-at.at c.args.columns.now) c.loop-at.invariant)

pub returns : goal.returns
returns c =
    let names = c.args.columns.now in
    let all = all_taken c.loop-at.at names (omega (arith, c.len-at-end.ensures, c.loop-at-test.false)) in
    c.behind.ensures names (subst (HasNamed _) (sym all) c.loop-at.invariant)
