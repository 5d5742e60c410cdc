use Rattle.std.proofs.Common.{rules, ne_eqb}
use Rattle.pg_lex.proofs.Contents.{string_more, string_ends}
use Rattle.pg_lex.proofs.strings.content.Goals as goal

pub returns-in_default-meant : goal.returns-in_default-meant
returns-in_default-meant c = string_ends c.args.quote _ _ _ c.in-Some.first _ c.loop-first.invariant.1 c.in-Some.ensures.parts (ne_eqb _ _ c.if-first-quote.false) c.in_default-meant.ensures.front

pub loop-first-preserved : goal.loop-first-preserved
loop-first-preserved c = (search rules, string_more c.args.quote _ _ _ _ _ c.in-Some.first c.in-Some-meant.meant _ c.loop-first.invariant.1 c.in-Some.ensures.parts (ne_eqb _ _ c.if-first-quote.false) c.in-Some-meant.ensures.front c.in_ok-push.ensures.bytes)
