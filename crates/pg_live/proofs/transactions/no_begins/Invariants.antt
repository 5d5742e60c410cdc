use Rattle.std.proofs.Common.{◌≡◌, None, replicate}
use Rattle.pg_live.proofs.transactions.no_begins.Given as goal

abbrev pub invariant-loop : goal.invariant-loop
invariant-loop l = l.begins.items ≡ replicate l.counter None
