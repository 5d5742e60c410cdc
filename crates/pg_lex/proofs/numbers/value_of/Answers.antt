use Rattle.std.proofs.Common.{arith}
use Rattle.pg_lex.proofs.Values.{too_large}
use Rattle.pg_lex.proofs.numbers.value_of.Goals as goal

pub returns-then-value-digit : goal.returns-then-value-digit
returns-then-value-digit c = too_large _ c.loop-b.b-index c.loop-b.value c.loop-b-test.true c.loop-b.invariant.rest (omega arith)
