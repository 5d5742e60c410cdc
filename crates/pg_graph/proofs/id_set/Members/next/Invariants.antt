use Rattle.std.proofs.Common.{◌≡◌, ◌++◌, length}
use Rattle.pg_graph.specs.IdRuns.{flattened}
use Rattle.pg_graph.proofs.id_set.Members.next.Given as goal

abbrev pub invariant-loop-self : goal.invariant-loop-self
invariant-loop-self l = l.self-inside.ids.now ++ flattened l.self-inside.runs.now ≡ l.fn.self

abbrev pub decreases-loop-self : goal.decreases-loop-self
decreases-loop-self l = length l.self-inside.runs.now
